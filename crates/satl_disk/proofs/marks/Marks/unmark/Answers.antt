use Rattle.std.proofs.Common.{ap, ◌∙◌, false}
use Rattle.std.specs.Prelude.{slice_set}
use Rattle.satl_disk.proofs.MarksLemmas.{marked-unmark}
use Rattle.satl_disk.proofs.marks.Marks.unmark.Goals as goal

pub returns : goal.returns
returns c =
    let i = c.self.inside in
    marked-unmark i.round i.rounds.items c.args.place c.self.invariant.0 ∙ ap (λ bs. slice_set bs c.args.place false) c.self.view_is
