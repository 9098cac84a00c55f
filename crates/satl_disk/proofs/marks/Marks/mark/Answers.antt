use Rattle.std.proofs.Common.{ap, ◌∙◌, true}
use Rattle.std.specs.Prelude.{slice_set}
use Rattle.satl_disk.proofs.MarksLemmas.{marked-mark}
use Rattle.satl_disk.proofs.marks.Marks.mark.Goals as goal

pub returns : goal.returns
returns c =
    let i = c.self.inside in
    marked-mark i.round i.rounds.items c.args.place ∙ ap (λ bs. slice_set bs c.args.place true) c.self.view_is
