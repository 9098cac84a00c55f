use Rattle.std.proofs.Common.{◌≡◌, drop}
use Rattle.satl_base.specs.Chains.{blocks_of}
use Rattle.satl_base.proofs.chain.Chain.block.Given as goal

abbrev pub invariant-loop : goal.invariant-loop
invariant-loop l = blocks_of l.rest ≡ drop l.counter (blocks_of l.initial.rest)
