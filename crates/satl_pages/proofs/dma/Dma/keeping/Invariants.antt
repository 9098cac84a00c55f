use Rattle.std.proofs.Common.{◌≡◌, replicate, None}
use Rattle.satl_pages.proofs.dma.Dma.keeping.Given as goal

abbrev pub invariant-loop : goal.invariant-loop
invariant-loop l = l.slots.items ≡ replicate l.counter None
