use Rattle.std.proofs.Common.{◌≡◌, ◌+◌, length}
use Rattle.satl_frame.proofs.tests.put_before.Given as goal

abbrev pub invariant-loop : goal.invariant-loop
invariant-loop l = (length l.pages + l.counter ≡ length l.fn.pages) × (length l.others ≡ length l.fn.others + l.counter)
