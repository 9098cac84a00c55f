-- New settings change the settings alone.
use Rattle.std.proofs.Common.{◌≡◌, ◌≢◌, ℕ, ◌+◌, ◌*◌, ◌/◌, ◌%◌, ◌^◌, Bool, true, false, cond, List, length, set, refl, sym, ap, ◌∙◌, arith, eqb, get_or-set_other, get_or-set_same}
use Rattle.std.specs.Prelude.{slice_index, Ok, ◌==◌, not}
use Rattle.std.proofs.lemmas.Bool.{eqb-false, eqb-true, and_right}
use Rattle.std.proofs.lemmas.List.{length-set}
use Rattle.satl_base.specs.Identify.{checksum, word_bits, is_not_ata, has_bad_sum, has_lba48, has_queue, has_capacity, is_other_block, capacity, exponent, has_trim, has_queued_trim, has_cache, has_look, cache_is_on, look_is_on, checksum_byte}
use Rattle.satl_identify.specs.declared.identity.Identity.{Identity}
use Rattle.satl_identify.specs.Data.{settings_byte, with_integrity}
use Rattle.satl_identify.specs.Refusals.{identity_rules, identity_in, identity_of, IsIdentity}
use Rattle.satl_identify.proofs.Sums.{checksum-integrity}
use Rattle.satl_identify.proofs.Judging.{Unbroken, judged_unbroken, unbroken}

pub length-integrity : (d : List ℕ) → length (with_integrity d) ≡ length d
length-integrity d = elim (word_bits 255 7 0 d == 0xA5) as (λ b. length (cond b (set d 511 (checksum_byte (set d 511 0))) d) ≡ length d) [ true ↦ length-set d 511 _ | false ↦ refl ]

integrity_other : (d : List ℕ) (j : ℕ) → j ≢ 511 → slice_index (with_integrity d) j ≡ slice_index d j
integrity_other d j ne = elim (word_bits 255 7 0 d == 0xA5) as (λ b. slice_index (cond b (set d 511 (checksum_byte (set d 511 0))) d) j ≡ slice_index d j) [ true ↦ get_or-set_other d 511 j _ 0 ne | false ↦ refl ]

-- data with another byte 170, and their integrity byte
module _ (d new : List ℕ) (byte : ℕ) (len : length new ≡ 512) (made : new ≡ with_integrity (set d 170 byte)) where
  long : length (set d 170 byte) ≡ 512
  long = sym (length-integrity (set d 170 byte)) ∙ ap length (sym made) ∙ len

  same : (j : ℕ) → eqb j 170 ≡ false → eqb j 511 ≡ false → slice_index new j ≡ slice_index d j
  same j a b = ap (λ (l : List ℕ). slice_index l j) made ∙ integrity_other (set d 170 byte) j (eqb-false j 511 b) ∙ get_or-set_other d 170 j byte 0 (eqb-false j 170 a)

  setting : slice_index new 170 ≡ byte
  setting = ap (λ (l : List ℕ). slice_index l 170) made ∙ integrity_other (set d 170 byte) 170 (eqb-false 170 511 refl) ∙ get_or-set_same d 170 byte 0 (omega (arith, length-set d 170 byte, long))

  is_not_ata_same : is_not_ata new ≡ is_not_ata d
  is_not_ata_same = rw (same 0 refl refl, same 1 refl refl) refl

  has_lba48_same : has_lba48 new ≡ has_lba48 d
  has_lba48_same = rw (same 98 refl refl, same 99 refl refl, same 166 refl refl, same 167 refl refl) refl

  has_queue_same : has_queue new ≡ has_queue d
  has_queue_same = rw (same 150 refl refl, same 151 refl refl, same 152 refl refl, same 153 refl refl) refl

  capacity_same : capacity new ≡ capacity d
  capacity_same = rw (same 200 refl refl, same 201 refl refl, same 202 refl refl, same 203 refl refl, same 204 refl refl, same 205 refl refl, same 206 refl refl, same 207 refl refl) refl

  has_capacity_same : has_capacity new ≡ has_capacity d
  has_capacity_same = rw (same 200 refl refl, same 201 refl refl, same 202 refl refl, same 203 refl refl, same 204 refl refl, same 205 refl refl, same 206 refl refl, same 207 refl refl) refl

  is_other_block_same : is_other_block new ≡ is_other_block d
  is_other_block_same = rw (same 212 refl refl, same 213 refl refl) refl

  exponent_same : exponent new ≡ exponent d
  exponent_same = rw (same 212 refl refl, same 213 refl refl) refl

  has_trim_same : has_trim new ≡ has_trim d
  has_trim_same = rw (same 138 refl refl, same 139 refl refl, same 338 refl refl, same 339 refl refl) refl

  has_queued_trim_same : has_queued_trim new ≡ has_queued_trim d
  has_queued_trim_same = rw (same 138 refl refl, same 139 refl refl, same 154 refl refl, same 155 refl refl, same 338 refl refl, same 339 refl refl) refl

  has_cache_same : has_cache new ≡ has_cache d
  has_cache_same = rw (same 164 refl refl, same 165 refl refl) refl

  has_look_same : has_look new ≡ has_look d
  has_look_same = rw (same 164 refl refl, same 165 refl refl) refl

  mark_same : word_bits 255 7 0 new ≡ word_bits 255 7 0 d
  mark_same =
      let a : word_bits 255 7 0 new ≡ slice_index new 510 % 256 = omega arith in
      let b : word_bits 255 7 0 d ≡ slice_index d 510 % 256 = omega arith in
      a ∙ ap (λ (n : ℕ). n % 256) (same 510 refl refl) ∙ sym b

  mark_of_set : word_bits 255 7 0 (set d 170 byte) ≡ word_bits 255 7 0 d
  mark_of_set = rw (get_or-set_other d 170 510 byte 0 (eqb-false 510 170 refl), get_or-set_other d 170 511 byte 0 (eqb-false 511 170 refl)) refl

  sum_is_0 : word_bits 255 7 0 d ≡ 0xA5 → checksum new ≡ 0
  sum_is_0 is =
      let mark : word_bits 255 7 0 (set d 170 byte) ≡ 0xA5 = mark_of_set ∙ is in
      ap checksum made ∙ rw mark (checksum-integrity (set d 170 byte) long)

  good_sum : has_bad_sum d ≡ false → has_bad_sum new ≡ false
  good_sum e =
      (elim (eqb (word_bits 255 7 0 d) 0xA5) as (λ b. eqb (word_bits 255 7 0 d) 0xA5 ≡ b → has_bad_sum new ≡ false) [
        | true ↦ λ is. rw (sum_is_0 (eqb-true _ _ is)) (and_right (word_bits 255 7 0 new == 0xA5) false refl)
        | false ↦ λ is. rw (mark_same, is) refl
      ]) refl

  unbroken_same : Unbroken identity_rules d → Unbroken identity_rules new
  unbroken_same u = (
    is_not_ata_same ∙ u.0,
    (
      good_sum u.1.0,
      (
        ap not has_lba48_same ∙ u.1.1.0,
        (
          ap not has_queue_same ∙ u.1.1.1.0,
          (
            ap not has_capacity_same ∙ u.1.1.1.1.0,
            (is_other_block_same ∙ u.1.1.1.1.1.0, tt),
          ),
        ),
      ),
    ),
  )

-- the settings are those that were put
cache_put : (old other : ℕ) (c l : Bool) → eqb ((settings_byte old c l + 256 * other) / 2 ^ 5 % 2) 1 ≡ c
cache_put old other true true = let e : (settings_byte old true true + 256 * other) / 2 ^ 5 % 2 ≡ 1 = omega arith in rw e refl
cache_put old other true false = let e : (settings_byte old true false + 256 * other) / 2 ^ 5 % 2 ≡ 1 = omega arith in rw e refl
cache_put old other false true = let e : (settings_byte old false true + 256 * other) / 2 ^ 5 % 2 ≡ 0 = omega arith in rw e refl
cache_put old other false false = let e : (settings_byte old false false + 256 * other) / 2 ^ 5 % 2 ≡ 0 = omega arith in rw e refl

look_put : (old other : ℕ) (c l : Bool) → eqb ((settings_byte old c l + 256 * other) / 2 ^ 6 % 2) 1 ≡ l
look_put old other true true = let e : (settings_byte old true true + 256 * other) / 2 ^ 6 % 2 ≡ 1 = omega arith in rw e refl
look_put old other true false = let e : (settings_byte old true false + 256 * other) / 2 ^ 6 % 2 ≡ 0 = omega arith in rw e refl
look_put old other false true = let e : (settings_byte old false true + 256 * other) / 2 ^ 6 % 2 ≡ 1 = omega arith in rw e refl
look_put old other false false = let e : (settings_byte old false false + 256 * other) / 2 ^ 6 % 2 ≡ 0 = omega arith in rw e refl

-- an identity of the same fields but for the data and the settings
fields_same : (i j : Identity) (new : List ℕ) (c l : Bool) → j.bytes ≡ new → j.cache_on ≡ c → j.look_on ≡ l
    → j.capacity ≡ i.capacity → j.exponent ≡ i.exponent → j.trim ≡ i.trim → j.queued_trim ≡ i.queued_trim → j.cache ≡ i.cache → j.look ≡ i.look
    → j ≡ record i { bytes = new; cache_on = c; look_on = l }
fields_same i j new c l e0 e1 e2 e3 e4 e5 e6 e7 e8 = rw (← e0, ← e1, ← e2, ← e3, ← e4, ← e5, ← e6, ← e7, ← e8) refl

pub passes_again : (i : Identity) (new : List ℕ) (byte : ℕ) (c l : Bool) → length new ≡ 512 → byte ≡ settings_byte (slice_index i.bytes 170) c l → new ≡ with_integrity (set i.bytes 170 byte) → IsIdentity i
    → identity_of new ≡ Ok (record i { bytes = new; cache_on = c; look_on = l })
unfolding identity_of
passes_again i new byte c l len put made is =
    let given = unbroken i.bytes i is in
    let from : identity_in i.bytes ≡ i = given.1 in
    let cache_now : cache_is_on new ≡ c = rw (setting i.bytes new byte len made, put) (cache_put (slice_index i.bytes 170) (slice_index new 171) c l) in
    let look_now : look_is_on new ≡ l = rw (setting i.bytes new byte len made, put) (look_put (slice_index i.bytes 170) (slice_index new 171) c l) in
    let rest = fields_same i (identity_in new) new c l refl cache_now look_now
    (capacity_same i.bytes new byte len made ∙ ap (λ (j : Identity). j.capacity) from)
    (exponent_same i.bytes new byte len made ∙ ap (λ (j : Identity). j.exponent) from)
    (has_trim_same i.bytes new byte len made ∙ ap (λ (j : Identity). j.trim) from)
    (has_queued_trim_same i.bytes new byte len made ∙ ap (λ (j : Identity). j.queued_trim) from)
    (has_cache_same i.bytes new byte len made ∙ ap (λ (j : Identity). j.cache) from)
    (has_look_same i.bytes new byte len made ∙ ap (λ (j : Identity). j.look) from) in
    judged_unbroken identity_rules new (identity_in new) (unbroken_same i.bytes new byte len made given.0) ∙ ap Ok rest

pub sum_again : (d new : List ℕ) (byte : ℕ) → length new ≡ 512 → new ≡ with_integrity (set d 170 byte) → eqb (word_bits 255 7 0 d) 0xA5 ≡ true → checksum new ≡ 0
sum_again d new byte len made is = sum_is_0 d new byte len made (eqb-true _ _ is)
