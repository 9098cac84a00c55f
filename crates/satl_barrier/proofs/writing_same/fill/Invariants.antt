use Rattle.std.proofs.Common.{◌≡◌, ◌+◌, length, replicate}
use Rattle.satl_barrier.proofs.writing_same.fill.Given as goal

abbrev pub invariant-loop : goal.invariant-loop
invariant-loop l = record {
  filled : l.filled ≡ replicate l.counter l.block;
  left : length l.pages + l.counter ≡ length l.initial.pages;
}
