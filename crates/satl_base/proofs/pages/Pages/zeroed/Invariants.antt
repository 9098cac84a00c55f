use Rattle.std.proofs.Common.{◌≡◌, replicate}
use Rattle.satl_base.specs.Blocks.{zero_block}
use Rattle.satl_base.proofs.pages.Pages.zeroed.Given as goal

abbrev pub invariant-loop : goal.invariant-loop
invariant-loop l = l.pages ≡ replicate l.counter zero_block
