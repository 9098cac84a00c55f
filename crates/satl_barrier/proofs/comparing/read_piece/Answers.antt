use Rattle.std.proofs.Common.{sym, subst, ◌∙◌}
use Rattle.satl_barrier.specs.Finishing.{FinishesAs, verifying_range}
use Rattle.satl_barrier.proofs.ComparingLemmas.{first_read}
use Rattle.satl_barrier.proofs.FinishingLemmas.{blocks_read, read_in}
use Rattle.satl_barrier.proofs.comparing.read_piece.Goals as goal

pub returns-clause-finishes : goal.returns-clause-finishes
returns-clause-finishes g c =
    let old = g.D.Drive.state c.args.drive.now in
    let new = g.D.Drive.state c.run.new.drive in
    subst (λ it. FinishesAs (verifying_range c.args.range) c.args.range.count it old new) (sym c.from.ensures)
    (read_in c.args.range _ old new c.requires.reached c.in_ok-ended.ensures.ok)

pub returns-clause-blocks : goal.returns-clause-blocks
returns-clause-blocks g c = λ is.
    let old = g.D.Drive.state c.args.drive.now in
    let new = g.D.Drive.state c.run.new.drive in
    first_read old.cells c.args.range.lba c.args.range.count c.args.pages.now c.run.new.pages c.requires.reached.within
    (blocks_read c.args.range _ old new c.requires.reached c.in_ok-ended.ensures.ok (sym c.from.ensures ∙ is))
