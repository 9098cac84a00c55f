use Rattle.std.proofs.Common.{ap, arith, length, reverse}
use Rattle.std.proofs.lemmas.List.{length-append, length-reverse}
use Rattle.satl_base.specs.Blocks.{blocks_from}
use Rattle.satl_base.specs.Chains.{blocks_of}
use Rattle.satl_base.proofs.BlocksLemmas.{length-blocks_from}
use Rattle.satl_base.proofs.pages.Pages.move_filled.Goals as goal

pub invariant_of-others : goal.invariant_of-others
invariant_of-others c =
    omega (
      arith,
      c.others.invariant,
      ap length c.shift_filled.ensures.filled,
      length-append (reverse (blocks_from c.args.n c.args.bytes.now)) (blocks_of c.others.inside.first),
      length-reverse (blocks_from c.args.n c.args.bytes.now),
      length-blocks_from c.args.n c.args.bytes.now,
    )
