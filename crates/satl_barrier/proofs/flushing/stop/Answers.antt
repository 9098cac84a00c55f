use Rattle.std.proofs.lemmas.Result.{err_from_is_err_and}
use Rattle.satl_base.proofs.LossesLemmas.{loses_on}
use Rattle.satl_barrier.proofs.CommandsLemmas.{lost_first}
use Rattle.satl_barrier.proofs.FlushingLemmas.{in_standby, left_lost, left_on, settled_if_loses}
use Rattle.satl_barrier.proofs.flushing.stop.Goals as goal

pub returns-in_err-flush_unless-clause-lost : goal.returns-in_err-flush_unless-clause-lost
returns-in_err-flush_unless-clause-lost g c =
    let p = err_from_is_err_and c.from_residual.result c.from_residual.ensures.1 in
    rw p.1 (lost_first _ _ _ _ tt c.in_err-flush_unless.ensures.lost)

pub returns-in_err-run_bare-clause-lost : goal.returns-in_err-run_bare-clause-lost
returns-in_err-run_bare-clause-lost g c =
    let old = g.D.Drive.state c.args.drive.now in
    let mid = g.D.Drive.state c.flush_unless.new.drive in
    let p = err_from_is_err_and c.from_residual-in_err-run_bare.result c.from_residual-in_err-run_bare.ensures.1 in
    rw p.1 (left_lost _ _ old mid _ (loses_on old.cells _ mid.cells (settled_if_loses _ old.cells c.requires.sound) c.in_ok-flush_unless.ensures.flushed.lost) c.in_ok-flush_unless.ensures.flushed c.in_err-run_bare.ensures.err)

pub returns-clause-stopped : goal.returns-clause-stopped
returns-clause-stopped g c = left_on _ _ _ _ (g.D.Drive.state c.flush_unless.new.drive) _ c.in_ok-flush_unless.ensures.flushed (in_standby _ _ c.in_ok-run_bare.ensures.ok)
