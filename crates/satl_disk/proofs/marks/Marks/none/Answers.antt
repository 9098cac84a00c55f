use Rattle.std.proofs.Common.{ap, ◌∙◌}
use Rattle.satl_disk.specs.Layout.{marked_in}
use Rattle.satl_disk.proofs.MarksLemmas.{marked-none}
use Rattle.satl_disk.proofs.marks.Marks.none.Goals as goal

pub returns : goal.returns
returns c = ap (marked_in 1) (c.in_ok-vec.ensures.items_if_clones_equal (λ y same. same)) ∙ marked-none c.args.number
