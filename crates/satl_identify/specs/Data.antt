-- IDENTIFY DEVICE data with their settings and their integrity byte brought up to date (ACS-3 7.12.7, words 85 and 255).
use Rattle.std.specs.Prelude.{ℕ, ◌+◌, ◌*◌, ◌^◌, ◌==◌, Bool, List, slice_index, slice_set, if◌then◌else◌}
use Rattle.satl_base.specs.Fields.{bits_of}
use Rattle.satl_base.specs.Identify.{checksum_byte, word_bits}

-- the low byte of word 85 with its bit 5, the write cache, and its bit 6, read look-ahead, as given
abbrev pub settings_byte : ℕ → Bool → Bool → ℕ
settings_byte byte cache_on look_on =
    bits_of 7 7 byte * 2 ^ 7 + (if look_on then 2 ^ 6 else 0) + (if cache_on then 2 ^ 5 else 0) + bits_of 4 0 byte

abbrev pub with_settings : List ℕ → Bool → Bool → List ℕ
with_settings d cache_on look_on = slice_set d (2 * 85) (settings_byte (slice_index d (2 * 85)) cache_on look_on)

-- where bits 7:0 of word 255 are A5h, its high byte makes the sum of all bytes 0 modulo 256
abbrev pub with_integrity : List ℕ → List ℕ
with_integrity d = if word_bits 255 7 0 d == 0xA5 then slice_set d 511 (checksum_byte (slice_set d 511 0)) else d

-- the data with these settings
abbrev pub identity_data : List ℕ → Bool → Bool → List ℕ
identity_data d cache_on look_on = with_integrity (with_settings d cache_on look_on)
