use Rattle.std.proofs.Common.{sym, subst}
use Rattle.std.proofs.lemmas.Result.{err_from_is_err_and}
use Rattle.satl_drive.specs.State.{medium_of}
use Rattle.satl_barrier.specs.Finishing.{FinishesAs, trimming_ranges}
use Rattle.satl_barrier.proofs.CommandsLemmas.{among, lost_first}
use Rattle.satl_barrier.proofs.TrimmingLemmas.{trim_finishes, trim_pairs}
use Rattle.satl_barrier.proofs.trimming.trim.Goals as goal

pub returns-in_err-ended-clause-lost : goal.returns-in_err-ended-clause-lost
returns-in_err-ended-clause-lost g c =
    let p = err_from_is_err_and c.from_residual.result c.from_residual.ensures.1 in
    let pairs = trim_pairs c.args.ranges.now c.trim_bytes.result c.args.scratch.now c.set_block.new.self (medium_of (g.D.Drive.state c.args.drive.now)) c.trim_bytes.ensures.again c.trim_bytes.ensures.same c.requires.room c.set_block.ensures c.requires.within c.requires.has c.requires.takes in
    rw p.1 (lost_first _ _ _ _ (among _ _ pairs) c.in_err-ended.ensures.err)

pub returns-clause-finishes : goal.returns-clause-finishes
returns-clause-finishes g c =
    let old = g.D.Drive.state c.args.drive.now in
    let new = g.D.Drive.state c.run.new.drive in
    subst (λ it. FinishesAs (trimming_ranges c.args.ranges.now old) 0 it old new) (sym c.from.ensures)
    (trim_finishes c.args.ranges.now c.trim_bytes.result c.args.scratch.now _ old new c.trim_bytes.ensures.again c.trim_bytes.ensures.same c.requires.room c.set_block.ensures c.requires.within c.requires.has c.requires.takes c.in_ok-ended.ensures.ok)
