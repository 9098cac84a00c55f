use Rattle.std.proofs.Common.{◌≡◌, ◌+◌, ◌*◌, ◌-◌}
use Rattle.arrayvec.specs.ArrayVec.{array_vec_len}
use Rattle.satl_vpd.specs.Texts.{high_bytes_first}
use Rattle.satl_vpd.proofs.text.characters.Given as goal

abbrev pub invariant-loop-word : goal.invariant-loop-word
invariant-loop-word l = record {
  text : l.text.items ≡ high_bytes_first (l.word - l.first) l.first l.bytes;
  size : array_vec_len l.text + 2 * l.first ≡ 2 * l.word;
}
