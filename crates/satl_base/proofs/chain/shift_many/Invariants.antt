use Rattle.std.proofs.Common.{◌≡◌, ◌+◌, ◌++◌, length, reverse}
use Rattle.satl_base.specs.Chains.{blocks_of}
use Rattle.satl_base.proofs.chain.shift_many.Given as goal

abbrev pub invariant-loop : goal.invariant-loop
invariant-loop l = record {
  same : reverse (blocks_of l.done) ++ blocks_of l.rest ≡ reverse (blocks_of l.initial.done) ++ blocks_of l.initial.rest;
  count : length (blocks_of l.done) ≡ length (blocks_of l.initial.done) + l.counter;
  left : length (blocks_of l.rest) + l.counter ≡ length (blocks_of l.initial.rest);
}
