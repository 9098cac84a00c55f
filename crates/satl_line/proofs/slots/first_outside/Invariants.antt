use Rattle.std.proofs.Common.{◌≡◌, drop}
use Rattle.std.specs.Prelude.{◌==◌}
use Rattle.std.specs.Int.{bit_at}
use Rattle.std.specs.List.{position_from}
use Rattle.satl_line.proofs.slots.first_outside.Given as goal

abbrev pub invariant-loop-place : goal.invariant-loop-place
invariant-loop-place l = position_from (λ slot. bit_at l.slots slot == 0) l.from (drop l.from l.order) ≡ position_from (λ slot. bit_at l.slots slot == 0) l.place (drop l.place l.order)
