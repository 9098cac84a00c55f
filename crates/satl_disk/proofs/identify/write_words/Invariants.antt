use Rattle.std.proofs.Common.{◌≡◌, drop}
use Rattle.satl_disk.specs.Data.{set_words}
use Rattle.satl_disk.proofs.identify.write_words.Given as goal

abbrev pub invariant-loop-word : goal.invariant-loop-word
invariant-loop-word l = set_words (drop l.word-index l.words) l.data_bytes ≡ set_words l.words l.initial.data_bytes
