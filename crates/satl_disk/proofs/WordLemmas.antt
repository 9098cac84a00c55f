-- IDENTIFY DEVICE data with another word still fit the drive.
use Rattle.std.proofs.Common.{◌≡◌, refl, sym, ◌∙◌, ap, subst, ℕ, ◌+◌, ◌*◌, ◌/◌, ◌%◌, ◌^◌, ◌<◌, Bool, true, false, List, arith, length, eqb-true, eq-eqb}
use Rattle.std.specs.List.{AllByRecursion}
use Rattle.std.specs.Prelude.{if◌then◌else◌, ◌==◌, ◌&&◌, slice_index}
use Rattle.std.proofs.lemmas.List.{get_or-set_other}
use Rattle.satl_base.specs.Identify.{capacity, has_cache, has_look, has_trim, trim_blocks, word, word_bit}
use Rattle.satl_identify.specs.Data.{settings_byte, with_integrity, with_settings}
use Rattle.satl_drive.specs.State.{IsFit}
use Rattle.satl_disk.specs.Bench.{MayReword, with_word}
use Rattle.satl_disk.specs.Data.{integrity_kept, set_word, word_is}
use Rattle.satl_disk.specs.Disk.{Disk, state_of}
use Rattle.satl_disk.proofs.BytesLemmas.{IsByte, all_set, set_word_bytes, integrity_bytes}
use Rattle.satl_disk.proofs.IdentifyLemmas.{set_word-length, word-set_word, word-with_integrity}
use Rattle.satl_disk.proofs.SettingsLemmas.{byte_small, reworded_told}

-- ---- words that are not changed

pub word-set_word_other : (place value i : ℕ) (d : List ℕ) → length d ≡ 512 → place < 256 → (i ≡ place → ⊥) → word i (set_word (word_is place value) d) ≡ word i d
word-set_word_other place value i d long small other =
    word-set_word (word_is place value) d i long small ∙ ap (λ b. if b then value else word i d) (eqb-differs (i == place) refl)
  where
    eqb-differs : (b : Bool) → (i == place) ≡ b → (i == place) ≡ false
    eqb-differs true e = absurd (other (eqb-true i place e))
    eqb-differs false e = e

pub word-set_word_same : (place value : ℕ) (d : List ℕ) → length d ≡ 512 → place < 256 → word place (set_word (word_is place value) d) ≡ value
word-set_word_same place value d long small = word-set_word (word_is place value) d place long small ∙ ap (λ b. if b then value else word place d) (eq-eqb place place refl)

word-settings : (d : List ℕ) (c l : Bool) (i : ℕ) → (i ≡ 85 → ⊥) → word i (with_settings d c l) ≡ word i d
word-settings d c l i other =
    let byte = settings_byte (slice_index d 170) c l in
    let low : slice_index (with_settings d c l) (2 * i) ≡ slice_index d (2 * i) = get_or-set_other d 170 (2 * i) byte 0 (λ e. other (omega (arith, e))) in
    let high : slice_index (with_settings d c l) (2 * i + 1) ≡ slice_index d (2 * i + 1) = get_or-set_other d 170 (2 * i + 1) byte 0 (λ e. omega (arith, e)) in
    omega (arith, low, high)

word-kept : (place i : ℕ) (d : List ℕ) → i < 255 → word i (integrity_kept place d) ≡ word i d
word-kept place i d low = elim (place == 255) as (λ b. word i (if b then d else with_integrity d) ≡ word i d) [ true ↦ refl | false ↦ word-with_integrity d i low ]

-- ---- bytes stay bytes

kept_bytes : (place : ℕ) (d : List ℕ) → AllByRecursion IsByte d → AllByRecursion IsByte (integrity_kept place d)
kept_bytes place d all = elim (place == 255) as (λ b. AllByRecursion IsByte (if b then d else with_integrity d)) [ true ↦ all | false ↦ integrity_bytes d all ]

-- ---- the data fit

module _ (place value : ℕ) (d : Disk) where
  abbrev set_so : List ℕ
  set_so = set_word (word_is place value) d.identify

  abbrev cache_on : Bool
  cache_on = d.cache && has_cache set_so

  abbrev look_on : Bool
  look_on = d.look && has_look set_so

  abbrev new : List ℕ
  new = integrity_kept place (with_settings set_so cache_on look_on)

  same : (i : ℕ) → (i ≡ 85 → ⊥) → i < 255 → word i new ≡ word i set_so
  same i not_85 low = word-kept place i (with_settings set_so cache_on look_on) low ∙ word-settings set_so cache_on look_on i not_85

  same_capacity : capacity new ≡ capacity set_so
  same_capacity = rw (same 100 (λ e. omega arith) (omega arith), same 101 (λ e. omega arith) (omega arith), same 102 (λ e. omega arith) (omega arith), same 103 (λ e. omega arith) (omega arith)) refl

  same_trim : has_trim new ≡ has_trim set_so
  same_trim = rw (same 169 (λ e. omega arith) (omega arith), same 69 (λ e. omega arith) (omega arith)) refl

  same_blocks : trim_blocks new ≡ trim_blocks set_so
  same_blocks = same 105 (λ e. omega arith) (omega arith)

  same_queued : word_bit 77 6 new ≡ word_bit 77 6 set_so
  same_queued = ap (λ n. n / 2 ^ 6 % 2 == 1) (same 77 (λ e. omega arith) (omega arith))

  fits_if : value < 2 ^ 16 → MayReword place value d → IsFit (state_of d) → IsFit (state_of (with_word place value d))
  fits_if wide may f =
      let told = reworded_told place d.cache d.look set_so (set_word-length (word_is place value) d.identify ∙ f.size) in
      record {
        sectors = f.sectors;
        told = same_capacity ∙ may.told;
        cache = told.cache;
        look = told.look;
        cache_told = told.cache_told;
        look_told = told.look_told;
        trim = λ has. let blocks = may.trim (sym same_trim ∙ has) in omega (arith, same_blocks, blocks);
        queued_trim = λ set. same_trim ∙ may.queued_trim (sym same_queued ∙ set);
        size = told.size;
        bytes = kept_bytes place (with_settings set_so cache_on look_on) (all_set set_so 170 (settings_byte (slice_index set_so 170) cache_on look_on) (byte_small (slice_index set_so 170) cache_on look_on) (set_word_bytes (word_is place value) d.identify wide f.bytes));
      }

  fits_only_if : IsFit (state_of (with_word place value d)) → MayReword place value d
  fits_only_if f = record {
    told = sym same_capacity ∙ f.told;
    trim = λ has. let blocks = f.trim (same_trim ∙ has) in omega (arith, same_blocks, blocks);
    queued_trim = λ set. sym same_trim ∙ f.queued_trim (same_queued ∙ set);
  }

  pub reworded_fits : (e : Disk) → e ≡ with_word place value d → value < 2 ^ 16 → MayReword place value d → IsFit (state_of d) → IsFit (state_of e)
  reworded_fits e is wide may f = subst (λ (x : Disk). IsFit (state_of x)) (sym is) (fits_if wide may f)

  pub may_reworded : (e : Disk) → e ≡ with_word place value d → IsFit (state_of e) → MayReword place value d
  may_reworded e is f = fits_only_if (subst (λ (x : Disk). IsFit (state_of x)) is f)

  -- the words as they stand then
  pub word_now : (e : Disk) → e ≡ with_word place value d → (i : ℕ) → (i ≡ 85 → ⊥) → i < 255 → word i e.identify ≡ word i set_so
  word_now e is i not_85 low = ap (λ (x : Disk). word i x.identify) is ∙ same i not_85 low
