use Rattle.std.proofs.Common.{◌≡◌, not, sym, subst}
use Rattle.std.specs.Prelude.{IfOk}
use Rattle.std.proofs.lemmas.Result.{IfOk-weaker, err_from_is_err_and}
use Rattle.satl_barrier.proofs.CommandsLemmas.{lost_first}
use Rattle.satl_core.specs.declared.alone.Alone.{Alone}
use Rattle.satl_core.specs.Turning.{modes_left}
use Rattle.satl_core.proofs.PassingLemmas.{pass_sets}
use Rattle.satl_core.proofs.turning.carry_out.Goals as goal

pub returns-in_err-flush-in-Flush-clause-lost : goal.returns-in_err-flush-in-Flush-clause-lost
returns-in_err-flush-in-Flush-clause-lost g c =
    let p = err_from_is_err_and c.from_residual.result c.from_residual.ensures.1 in
    rw p.1 (lost_first _ _ _ _ tt c.in_err-flush-in-Flush.ensures.lost)

pub returns-in-Through-clause-cache : goal.returns-in-Through-clause-cache
returns-in-Through-clause-cache g c =
    subst (λ (alone : Alone). IfOk c.run_through.result (λ ending. (g.D.Drive.state c.run_through.new.drive).cache ≡ (modes_left alone ending c.args.modes.now c.args.wanted.now).wce)) (sym c.in-Through.is)
    (IfOk-weaker c.run_through.result _ _ (λ ending x. (pass_sets c.in-Through.cdb c.args.modes.now c.args.wanted.now _ _ ending x c.requires.set).0) c.run_through.ensures.ends)

pub returns-in-Through-clause-look : goal.returns-in-Through-clause-look
returns-in-Through-clause-look g c =
    subst (λ (alone : Alone). IfOk c.run_through.result (λ ending. (g.D.Drive.state c.run_through.new.drive).look ≡ not (modes_left alone ending c.args.modes.now c.args.wanted.now).dra)) (sym c.in-Through.is)
    (IfOk-weaker c.run_through.result _ _ (λ ending x. (pass_sets c.in-Through.cdb c.args.modes.now c.args.wanted.now _ _ ending x c.requires.set).1) c.run_through.ensures.ends)
