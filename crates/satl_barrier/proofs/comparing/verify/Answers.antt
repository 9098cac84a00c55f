use Rattle.std.proofs.lemmas.Result.{err_from_is_err_and}
use Rattle.satl_barrier.proofs.CommandsLemmas.{lost_first}
use Rattle.satl_barrier.proofs.comparing.verify.Goals as goal

pub returns-in_err-ended-clause-lost : goal.returns-in_err-ended-clause-lost
returns-in_err-ended-clause-lost g c =
    let p = err_from_is_err_and c.from_residual.result c.from_residual.ensures.1 in
    rw p.1 (lost_first _ _ _ _ tt c.in_err-ended.ensures.err)
