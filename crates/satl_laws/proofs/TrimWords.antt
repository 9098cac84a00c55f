-- What a drive says of trims is the same whatever its settings.
use Rattle.std.proofs.Common.{arith, ◌≡◌, refl, ap, ◌∙◌, ℕ, ◌+◌, ◌*◌, Bool, true, false, List}
use Rattle.std.specs.Prelude.{◌==◌, ◌&&◌, ◌≢◌, if◌then◌else◌, slice_index, slice_set}
use Rattle.std.proofs.lemmas.List.{get_or-set_other}
use Rattle.satl_base.specs.Fields.{bit_of}
use Rattle.satl_base.specs.Identify.{checksum_byte, has_trim, trim_blocks, word, word_bit, word_bits}
use Rattle.satl_identify.specs.Data.{identity_data, with_settings, settings_byte}

-- a byte other than the one that was set
set_other : (d : List ℕ) (i j v : ℕ) → j ≢ i → slice_index (slice_set d i v) j ≡ slice_index d j
set_other d i j v apart = get_or-set_other d i j v 0 apart

-- settings change bytes 170 and 511 alone
index_kept : (d : List ℕ) (cache look : Bool) (j : ℕ) → j ≢ 170 → j ≢ 511 → slice_index (identity_data d cache look) j ≡ slice_index d j
index_kept d cache look j p q = sealed (word_bits 255 7 0 (with_settings d cache look) == 0xA5) ∙ set_other d 170 j (settings_byte (slice_index d 170) cache look) p
  where
    sealed : (b : Bool) → slice_index (if b then slice_set (with_settings d cache look) 511 (checksum_byte (slice_set (with_settings d cache look) 511 0)) else with_settings d cache look) j ≡ slice_index (with_settings d cache look) j
    sealed true = set_other (with_settings d cache look) 511 j (checksum_byte (slice_set (with_settings d cache look) 511 0)) q
    sealed false = refl

-- a word of its two bytes (ACS-3 7.12.7)
abbrev word_from : ℕ → ℕ → ℕ
word_from low high = low + 256 * high

-- a word of other bytes is as before
word_kept : (d : List ℕ) (cache look : Bool) (i j : ℕ) → i ≢ 170 → i ≢ 511 → j ≢ 170 → j ≢ 511
    → word_from (slice_index (identity_data d cache look) i) (slice_index (identity_data d cache look) j) ≡ word_from (slice_index d i) (slice_index d j)
word_kept d cache look i j p q r s = ap (λ n. word_from n (slice_index (identity_data d cache look) j)) (index_kept d cache look i p q) ∙ ap (word_from (slice_index d i)) (index_kept d cache look j r s)

module _ (d : List ℕ) (cache look : Bool) where
  -- the words that tell of trims are as before
  word_169 : word 169 (identity_data d cache look) ≡ word 169 d
  word_169 = word_kept d cache look 338 339 (λ h. omega (arith, h)) (λ h. omega (arith, h)) (λ h. omega (arith, h)) (λ h. omega (arith, h))

  word_69 : word 69 (identity_data d cache look) ≡ word 69 d
  word_69 = word_kept d cache look 138 139 (λ h. omega (arith, h)) (λ h. omega (arith, h)) (λ h. omega (arith, h)) (λ h. omega (arith, h))

  -- so is the longest trim
  pub blocks_kept : trim_blocks (identity_data d cache look) ≡ trim_blocks d
  blocks_kept = word_kept d cache look 210 211 (λ h. omega (arith, h)) (λ h. omega (arith, h)) (λ h. omega (arith, h)) (λ h. omega (arith, h))

  -- and whether there are trims
  pub trim_kept : has_trim (identity_data d cache look) ≡ has_trim d
  trim_kept =
      ap (λ (w : ℕ). bit_of 0 w && word_bit 69 14 (identity_data d cache look) && word_bit 69 5 (identity_data d cache look)) word_169
      ∙ ap (λ (w : ℕ). word_bit 169 0 d && bit_of 14 w && bit_of 5 w) word_69
