use Rattle.std.proofs.Common.{sym, subst, take}
use Rattle.std.proofs.lemmas.Result.{err_from_is_err_and}
use Rattle.satl_barrier.specs.Commands.{IsCutShort}
use Rattle.satl_barrier.specs.Finishing.{FinishesAs, writing_range}
use Rattle.satl_barrier.proofs.FinishingLemmas.{write_keeps, write_pairs, written}
use Rattle.satl_barrier.proofs.writing_same.write_piece.Goals as goal

pub returns-in_err-ended-clause-lost : goal.returns-in_err-ended-clause-lost
returns-in_err-ended-clause-lost g c =
    let p = err_from_is_err_and c.from_residual.result c.from_residual.ensures.1 in
    let old = g.D.Drive.state c.args.drive.now in
    rw p.1 (subst (λ pairs. IsCutShort pairs old (g.D.Drive.state c.run.new.drive)) (write_pairs c.args.range old c.args.pages.now c.requires.reached) c.in_err-ended.ensures.err)

pub returns-clause-finishes : goal.returns-clause-finishes
returns-clause-finishes g c =
    let old = g.D.Drive.state c.args.drive.now in
    let new = g.D.Drive.state c.run.new.drive in
    subst (λ it. FinishesAs (writing_range c.args.range (take c.args.range.count c.args.pages.now) old) c.args.range.count it old new) (sym c.from.ensures)
    (written c.args.range _ old new c.requires.reached c.in_ok-ended.ensures.ok)

pub returns-clause-same : goal.returns-clause-same
returns-clause-same g c = write_keeps c.args.range _ _ _ c.requires.reached c.in_ok-ended.ensures.ok
