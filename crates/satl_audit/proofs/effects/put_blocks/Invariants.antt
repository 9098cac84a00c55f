use Rattle.std.proofs.Common.{◌≡◌, ◌<◌, ℕ, List, length}
use Rattle.satl_audit.proofs.PutEffects.{left_puts}
use Rattle.satl_audit.proofs.effects.put_blocks.Given as goal

abbrev pub invariant-loop-i : goal.invariant-loop-i
invariant-loop-i l = record {
  size : length l.sectors ≡ length l.fn.sectors;
  rest : (input : List ℕ) (x : ℕ) → x < length l.fn.sectors → left_puts input l.put.cached x l.put.range.lba l.put.at 0 l.put.range.count l.fn.sectors ≡ left_puts input l.put.cached x l.put.range.lba l.put.at l.i l.put.range.count l.sectors;
}
