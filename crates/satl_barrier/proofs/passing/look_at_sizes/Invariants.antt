use Rattle.satl_base.specs.Blocks.{AreWhole}
use Rattle.satl_barrier.proofs.passing.look_at_sizes.Given as goal

abbrev pub invariant-loop-block : goal.invariant-loop-block
invariant-loop-block l = AreWhole l.block-iterator → AreWhole l.pages
