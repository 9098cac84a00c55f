use Rattle.std.proofs.Common.{◌≡◌, ◌<◌, ℕ, Bool, List, length}
use Rattle.satl_audit.proofs.PendEffects.{left_pends}
use Rattle.satl_audit.proofs.effects.pend_blocks.Given as goal

abbrev pub invariant-loop-i : goal.invariant-loop-i
invariant-loop-i l = record {
  size : length l.sectors ≡ length l.fn.sectors;
  rest : (input : List ℕ) (cached : Bool) (x : ℕ) → x < length l.fn.sectors → left_pends input cached x l.range.lba l.at 0 l.range.count l.fn.sectors ≡ left_pends input cached x l.range.lba l.at l.i l.range.count l.sectors;
}
