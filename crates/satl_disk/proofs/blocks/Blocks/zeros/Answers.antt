use Rattle.std.proofs.Common.{ap, ◌∙◌}
use Rattle.satl_disk.specs.Layout.{front_blocks}
use Rattle.satl_disk.proofs.LayoutLemmas.{filled_none}
use Rattle.satl_disk.proofs.blocks.Blocks.zeros.Goals as goal

pub returns : goal.returns
returns c = ap (front_blocks c.args.number) c.in_ok-with_capacity.ensures.items ∙ filled_none c.args.number
