use Rattle.std.proofs.lemmas.Result.{err_from_is_err_and}
use Rattle.satl_barrier.proofs.CommandsLemmas.{lost_first}
use Rattle.satl_barrier.proofs.FlushingLemmas.{idled, left_lost, left_on, woken}
use Rattle.satl_barrier.proofs.flushing.start.Goals as goal

pub returns-in_err-run_bare-clause-lost : goal.returns-in_err-run_bare-clause-lost
returns-in_err-run_bare-clause-lost g c =
    let p = err_from_is_err_and c.from_residual.result c.from_residual.ensures.1 in
    rw p.1 (lost_first _ _ _ _ tt c.in_err-run_bare.ensures.err)

pub returns-in_err-run_bare-2-clause-lost : goal.returns-in_err-run_bare-2-clause-lost
returns-in_err-run_bare-2-clause-lost g c =
    let old = g.D.Drive.state c.args.drive.now in
    let mid = g.D.Drive.state c.run_bare.new.drive in
    let woke = woken old mid c.in_ok-run_bare.ensures.ok in
    let p = err_from_is_err_and c.from_residual-in_err-run_bare-2.result c.from_residual-in_err-run_bare-2.ensures.1 in
    rw p.1 (left_lost _ _ old mid _ woke.left.lost woke.left c.in_err-run_bare-2.ensures.err)

pub returns-clause-started : goal.returns-clause-started
returns-clause-started g c =
    let old = g.D.Drive.state c.args.drive.now in
    let mid = g.D.Drive.state c.run_bare.new.drive in
    left_on _ _ _ old mid _ (woken old mid c.in_ok-run_bare.ensures.ok).left (idled mid _ c.in_ok-run_bare-2.ensures.ok)
