use Rattle.std.proofs.Common.{◌≡◌, ◌<◌, ℕ, length}
use Rattle.satl_audit.proofs.ShowEffects.{left_gives}
use Rattle.satl_audit.proofs.effects.show_blocks.Given as goal

abbrev pub invariant-loop-i : goal.invariant-loop-i
invariant-loop-i l = record {
  size : length l.sectors ≡ length l.fn.sectors;
  rest : (x : ℕ) → x < length l.fn.sectors → left_gives l.input x l.range.lba l.given 0 l.range.count l.fn.sectors ≡ left_gives l.input x l.range.lba l.given l.i l.range.count l.sectors;
}
