use Rattle.std.proofs.Common.{◌≡◌, ◌+◌, ◌++◌, drop, length, reverse}
use Rattle.satl_base.specs.Blocks.{blocks_from}
use Rattle.satl_base.specs.Chains.{blocks_of}
use Rattle.satl_base.proofs.chain.shift_filled.Given as goal

abbrev pub invariant-loop-i : goal.invariant-loop-i
invariant-loop-i l = record {
  filled : blocks_of l.done ≡ reverse (blocks_from l.i l.bytes) ++ blocks_of l.initial.done;
  rest : blocks_of l.rest ≡ drop l.i (blocks_of l.initial.rest);
  left : length (blocks_of l.rest) + l.i ≡ length (blocks_of l.initial.rest);
}
