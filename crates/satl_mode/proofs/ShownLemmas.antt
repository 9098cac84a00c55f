-- A MODE SELECT of what MODE SENSE showed.
use Rattle.std.proofs.Common.{◌≡◌, ℕ, ◌/◌, ◌%◌, ◌-◌, ◌^◌, ◌<◌, Bool, true, false, List, length, Ok, refl, arith}
use Rattle.std.specs.Prelude.{◌==◌, ◌&&◌, bit_and, nat_lt, not, if◌then◌else◌}
use Rattle.std.proofs.lemmas.Bool.{eq-eqb, ltb-false, and_right}
use Rattle.byteorder.specs.Endian.{big_bytes, big_from}
use Rattle.satl_base.specs.declared.block.Block.{Block}
use Rattle.satl_base.specs.declared.modes.Modes.{Modes}
use Rattle.satl_base.proofs.FieldsLemmas.{back_4, back_8}
use Rattle.satl_identify.specs.declared.identity.Identity.{Identity}
use Rattle.satl_mode.specs.Changes.{AreModesOf, change_from}
use Rattle.satl_mode.specs.Descriptors.{short_capacity}
use Rattle.satl_mode.specs.ModeData.{mode_data}
use Rattle.satl_mode.specs.SelectList.{bit_rules, pages_rules, select_says}
use Rattle.satl_mode.specs.Shown.{GivesWhatWasShown, beginning, shown}

-- a bit that a drive can have or not agrees with the current page
wce_agrees : (cache wce now : Bool) → (cache ≡ false → wce ≡ false) → (cache ≡ false → now ≡ false)
    → (bit_and (if wce then 0x04 else 0) (255 - (if cache then 0x04 else 0)) == bit_and (if now then 0x04 else 0) (255 - (if cache then 0x04 else 0))) ≡ true
wce_agrees true true true f g = refl
wce_agrees true true false f g = refl
wce_agrees true false true f g = refl
wce_agrees true false false f g = refl
wce_agrees false false false f g = refl
wce_agrees false true now f g = let no : true ≡ false = f refl in absurd cc
wce_agrees false false true f g = let no : true ≡ false = g refl in absurd cc

dra_agrees : (look dra now : Bool) → (look ≡ false → dra ≡ true) → (look ≡ false → now ≡ true)
    → (bit_and (if dra then 0x20 else 0) (255 - (if look then 0x20 else 0)) == bit_and (if now then 0x20 else 0) (255 - (if look then 0x20 else 0))) ≡ true
dra_agrees true true true f g = refl
dra_agrees true true false f g = refl
dra_agrees true false true f g = refl
dra_agrees true false false f g = refl
dra_agrees false true true f g = refl
dra_agrees false false now f g = let no : false ≡ true = f refl in absurd cc
dra_agrees false true false f g = let no : false ≡ true = g refl in absurd cc

d_sense_agrees : (d_sense now : Bool) → (bit_and (if d_sense then 0x04 else 0) 251 == bit_and (if now then 0x04 else 0) 251) ≡ true
d_sense_agrees true true = refl
d_sense_agrees true false = refl
d_sense_agrees false true = refl
d_sense_agrees false false = refl

-- and is read back
bit_2 : (b : Bool) → ((if b then 0x04 else 0) / 2 ^ 2 % 2 == 1) ≡ b
bit_2 true = refl
bit_2 false = refl

bit_5 : (b : Bool) → ((if b then 0x20 else 0) / 2 ^ 5 % 2 == 1) ≡ b
bit_5 true = refl
bit_5 false = refl

-- a field that is what MODE SENSE shows is no fault
same_field : (x value : ℕ) → x ≡ value → (not (x == 0) && not (x == value)) ≡ false
same_field x value is = rw (is, eq-eqb value value refl) (and_right (not (value == 0)) false refl)

short_fits : (capacity : ℕ) → short_capacity capacity < 2 ^ 32
short_fits capacity = (elim (nat_lt 0xFFFFFFFF capacity) as (λ b. nat_lt 0xFFFFFFFF capacity ≡ b → (if b then 0xFFFFFFFF else capacity) < 2 ^ 32) [
  | true ↦ λ e. omega arith
  | false ↦ λ e. let le = ltb-false 0xFFFFFFFF capacity e in omega (arith, le)
]) refl

short_field : (capacity : ℕ) → (not (big_from 0 4 (big_bytes 4 (short_capacity capacity)) == 0) && not (big_from 0 4 (big_bytes 4 (short_capacity capacity)) == short_capacity capacity)) ≡ false
short_field capacity = same_field (big_from 0 4 (big_bytes 4 (short_capacity capacity))) (short_capacity capacity) (back_4 (short_capacity capacity) (short_fits capacity))

long_field : (capacity : ℕ) → capacity < 2 ^ 64 → (not (big_from 0 8 (big_bytes 8 capacity) == 0) && not (big_from 0 8 (big_bytes 8 capacity) == capacity)) ≡ false
long_field capacity fits = same_field (big_from 0 8 (big_bytes 8 capacity)) capacity (back_8 capacity fits)

module _ (i : Identity) (m now : Modes) (more : List ℕ) (rest : List Block) (was : AreModesOf i m) (is : AreModesOf i now) where
  abbrev Gives : Bool → Bool → Bool → Type 0
  Gives ten long_lba no_descriptor =
      select_says i now (beginning (shown i m ten long_lba no_descriptor) more rest) (length (shown i m ten long_lba no_descriptor)) ten ≡ Ok m

  absent : (ten long_lba : Bool) → Gives ten long_lba true
  unfolding select_says pages_rules bit_rules change_from mode_data
  absent true long_lba =
      rw (wce_agrees i.cache m.wce now.wce was.cache is.cache, dra_agrees i.look m.dra now.dra was.look is.look, d_sense_agrees m.d_sense now.d_sense, bit_2 m.wce, bit_5 m.dra, bit_2 m.d_sense) refl
  absent false long_lba =
      rw (wce_agrees i.cache m.wce now.wce was.cache is.cache, dra_agrees i.look m.dra now.dra was.look is.look, d_sense_agrees m.d_sense now.d_sense, bit_2 m.wce, bit_5 m.dra, bit_2 m.d_sense) refl

  short_of_6 : (long_lba : Bool) → Gives false long_lba false
  unfolding select_says pages_rules bit_rules change_from mode_data
  short_of_6 long_lba =
      rw (short_field i.capacity, wce_agrees i.cache m.wce now.wce was.cache is.cache, dra_agrees i.look m.dra now.dra was.look is.look, d_sense_agrees m.d_sense now.d_sense, bit_2 m.wce, bit_5 m.dra, bit_2 m.d_sense) refl

  short_of_10 : Gives true false false
  unfolding select_says pages_rules bit_rules change_from mode_data
  short_of_10 =
      rw (short_field i.capacity, wce_agrees i.cache m.wce now.wce was.cache is.cache, dra_agrees i.look m.dra now.dra was.look is.look, d_sense_agrees m.d_sense now.d_sense, bit_2 m.wce, bit_5 m.dra, bit_2 m.d_sense) refl

  long : i.capacity < 2 ^ 64 → Gives true true false
  unfolding select_says pages_rules bit_rules change_from mode_data
  long fits =
      rw (long_field i.capacity fits, wce_agrees i.cache m.wce now.wce was.cache is.cache, dra_agrees i.look m.dra now.dra was.look is.look, d_sense_agrees m.d_sense now.d_sense, bit_2 m.wce, bit_5 m.dra, bit_2 m.d_sense) refl

pub gives_what_was_shown : GivesWhatWasShown
gives_what_was_shown i m now ten long_lba true more rest fits was is = absent i m now more rest was is ten long_lba
gives_what_was_shown i m now true true false more rest fits was is = long i m now more rest was is fits
gives_what_was_shown i m now true false false more rest fits was is = short_of_10 i m now more rest was is
gives_what_was_shown i m now false long_lba false more rest fits was is = short_of_6 i m now more rest was is long_lba
