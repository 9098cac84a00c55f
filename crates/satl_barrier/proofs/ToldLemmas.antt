-- The drive's data tell its settings, and are those of the identity.
use Rattle.std.proofs.Common.{◌≡◌, refl, sym, ◌∙◌, ap, subst, ℕ, zero, suc, ◌+◌, ◌*◌, ◌/◌, ◌%◌, ◌^◌, ◌<◌, Bool, true, false, List, [], ◌∷◌, length, set, arith, get_or-set_other, get_or-set_same, eqb-true, ⊎_elim}
use Rattle.std.proofs.lemmas.Bool.{cases_eq, not-false}
use Rattle.std.proofs.lemmas.List.{length-set, set-get_or}
use Rattle.std.specs.List.{AllByRecursion}
use Rattle.std.specs.Prelude.{◌==◌, ◌&&◌, not, MatchBool, slice_index, slice_set, if◌then◌else◌}
use Rattle.std.proofs.lemmas.List.Sums.{sum_by-set}
use Rattle.satl_base.specs.Identify.{cache_is_on, checksum, checksum_byte, has_bad_sum, has_queued_trim, has_trim, look_is_on, word, word_bits}
use Rattle.satl_base.specs.Fields.{IsBytes}
use Rattle.satl_base.specs.Places.{places}
use Rattle.satl_base.proofs.PlacesLemmas.{by_places, places_ext}
use Rattle.satl_regs.specs.Effects.{IsTelling}
use Rattle.satl_identify.proofs.Settings.{sum_again}
use Rattle.satl_barrier.specs.Leaving.{SaysSo}
use Rattle.satl_identify.specs.Data.{identity_data, settings_byte}

-- each of these is a byte, place by place
pub all_bytes : (d : List ℕ) → AllByRecursion (λ byte. byte < 256) d → IsBytes d
all_bytes [] all i = omega arith
all_bytes (x ∷ xs) all zero = all.0
all_bytes (x ∷ xs) all (suc i) = all_bytes xs all.1 i

-- lists of one length with the same bytes are the same
pub same_bytes : (a b : List ℕ) → length a ≡ length b → ((i : ℕ) → slice_index a i ≡ slice_index b i) → a ≡ b
same_bytes a b long each = by_places a ∙ ap (λ n. places 0 n (slice_index a)) long ∙ places_ext (length b) 0 (slice_index a) (slice_index b) each ∙ sym (by_places b)

bit_as_number : (x : ℕ) (c : Bool) → x < 2 → (x == 1) ≡ c → x ≡ (if c then 1 else 0)
bit_as_number x true small h = eqb-true x 1 h
bit_as_number zero false small h = refl
bit_as_number (suc zero) false small h = absurd cc
bit_as_number (suc (suc x)) false small h = absurd (omega (arith, small))

-- byte 170 by its bits, as the word tells them
setting_bits : (n m k j : ℕ) (c l : Bool) → n < 256 → (n + 256 * k) / 2 ^ 7 % 2 ^ 1 ≡ (m + 256 * j) / 2 ^ 7 % 2 ^ 1 → (n + 256 * k) / 2 ^ 0 % 2 ^ 5 ≡ (m + 256 * j) / 2 ^ 0 % 2 ^ 5
    → ((n + 256 * k) / 2 ^ 5 % 2 == 1) ≡ c → ((n + 256 * k) / 2 ^ 6 % 2 == 1) ≡ l → n ≡ settings_byte m c l
setting_bits n m k j c l fits high low cache look = go c l (bit_as_number ((n + 256 * k) / 2 ^ 5 % 2) c (omega arith) cache) (bit_as_number ((n + 256 * k) / 2 ^ 6 % 2) l (omega arith) look)
  where
    go : (c l : Bool) → (n + 256 * k) / 2 ^ 5 % 2 ≡ (if c then 1 else 0) → (n + 256 * k) / 2 ^ 6 % 2 ≡ (if l then 1 else 0) → n ≡ settings_byte m c l
    go true true a b = omega (arith, a, b, high, low, fits)
    go true false a b = omega (arith, a, b, high, low, fits)
    go false true a b = omega (arith, a, b, high, low, fits)
    go false false a b = omega (arith, a, b, high, low, fits)

-- byte 511 by the sum
integrity_is : (d : List ℕ) → length d ≡ 512 → slice_index d 511 < 256 → checksum d ≡ 0 → slice_index d 511 ≡ checksum_byte (slice_set d 511 0)
unfolding checksum
integrity_is d long fits sums =
    let s = sum_by-set (λ (x : ℕ). x) d 511 0 0 (omega (arith, long)) in
    omega (arith, s, fits, sums)

-- the bits of byte 170 that are no settings stay
kept_high : (m j : ℕ) (c l : Bool) → (settings_byte m c l + 256 * j) / 2 ^ 7 % 2 ^ 1 ≡ (m + 256 * j) / 2 ^ 7 % 2 ^ 1
kept_high m j true true = omega arith
kept_high m j true false = omega arith
kept_high m j false true = omega arith
kept_high m j false false = omega arith

kept_low : (m j : ℕ) (c l : Bool) → (settings_byte m c l + 256 * j) / 2 ^ 0 % 2 ^ 5 ≡ (m + 256 * j) / 2 ^ 0 % 2 ^ 5
kept_low m j true true = omega arith
kept_low m j true false = omega arith
kept_low m j false true = omega arith
kept_low m j false false = omega arith

-- ---- the data with settings, place by place

abbrev is_checked : List ℕ → Bool
is_checked d = word_bits 255 7 0 d == 0xA5

-- settings change no length
pub length-data : (b : List ℕ) (c l : Bool) → length (identity_data b c l) ≡ length b
length-data b c l =
    let set_so = set b 170 (settings_byte (slice_index b 170) c l) in
    elim (is_checked set_so) as (λ t. length (if t then set set_so 511 (checksum_byte (set set_so 511 0)) else set_so) ≡ length b) [
      | true ↦ length-set set_so 511 (checksum_byte (set set_so 511 0)) ∙ length-set b 170 (settings_byte (slice_index b 170) c l)
      | false ↦ length-set b 170 (settings_byte (slice_index b 170) c l)
    ]

module _ (b : List ℕ) (long : length b ≡ 512) (c l : Bool) where
  abbrev set_so : List ℕ
  set_so = set b 170 (settings_byte (slice_index b 170) c l)

  checked_same : is_checked set_so ≡ is_checked b
  checked_same = rw (get_or-set_other b 170 510 (settings_byte (slice_index b 170) c l) 0 (λ e. omega (arith, e)), get_or-set_other b 170 511 (settings_byte (slice_index b 170) c l) 0 (λ e. omega (arith, e))) refl

  data-not_511 : (i : ℕ) → (i ≡ 511 → ⊥) → slice_index (identity_data b c l) i ≡ slice_index set_so i
  data-not_511 i other = elim (is_checked set_so) as (λ t. slice_index (if t then set set_so 511 (checksum_byte (set set_so 511 0)) else set_so) i ≡ slice_index set_so i)
      [ true ↦ get_or-set_other set_so 511 i (checksum_byte (set set_so 511 0)) 0 other | false ↦ refl ]

  data-other : (i : ℕ) → (i ≡ 170 → ⊥) → (i ≡ 511 → ⊥) → slice_index (identity_data b c l) i ≡ slice_index b i
  data-other i not_170 not_511 = data-not_511 i not_511 ∙ get_or-set_other b 170 i (settings_byte (slice_index b 170) c l) 0 not_170

  data-170 : slice_index (identity_data b c l) 170 ≡ settings_byte (slice_index b 170) c l
  data-170 = data-not_511 170 (λ e. omega (arith, e)) ∙ get_or-set_same b 170 (settings_byte (slice_index b 170) c l) 0 (omega (arith, long))

  data-511_checked : is_checked b ≡ true → slice_index (identity_data b c l) 511 ≡ checksum_byte (set set_so 511 0)
  data-511_checked is = ap (λ t. slice_index (if t then set set_so 511 (checksum_byte (set set_so 511 0)) else set_so) 511) (checked_same ∙ is) ∙ get_or-set_same set_so 511 (checksum_byte (set set_so 511 0)) 0 (omega (arith, long, length-set b 170 (settings_byte (slice_index b 170) c l)))

  data-511_plain : is_checked b ≡ false → slice_index (identity_data b c l) 511 ≡ slice_index b 511
  data-511_plain is = ap (λ t. slice_index (if t then set set_so 511 (checksum_byte (set set_so 511 0)) else set_so) 511) (checked_same ∙ is) ∙ get_or-set_other b 170 511 (settings_byte (slice_index b 170) c l) 0 (λ e. omega (arith, e))

  checked_data : is_checked (identity_data b c l) ≡ is_checked b
  checked_data = low (slice_index (identity_data b c l) 511) (slice_index b 511) (data-other 510 (λ e. omega (arith, e)) (λ e. omega (arith, e)))
    where
      low : (x y : ℕ) → slice_index (identity_data b c l) 510 ≡ slice_index b 510 → ((slice_index (identity_data b c l) 510 + 256 * x) / 2 ^ 0 % 2 ^ 8 == 0xA5) ≡ ((slice_index b 510 + 256 * y) / 2 ^ 0 % 2 ^ 8 == 0xA5)
      low x y same = ap (λ n. n == 0xA5) (omega (arith, same))

-- where the drive's data were those of the identity, they are so with other settings
pub retold : (b old new : List ℕ) (c0 l0 c l : Bool) → length b ≡ 512 → IsBytes new → old ≡ identity_data b c0 l0 → IsTelling c l old new → new ≡ identity_data b c l
retold b old new c0 l0 c l long new_bytes was tells = same_bytes new (identity_data b c l) (tells.size ∙ old_long ∙ sym (length-data b c l ∙ long)) at
  where
    old_long : length old ≡ 512
    old_long = ap length was ∙ length-data b c0 l0 ∙ long

    others : (i : ℕ) → (i ≡ 170 → ⊥) → (i ≡ 511 → ⊥) → slice_index new i ≡ slice_index b i
    others i not_170 not_511 = tells.others i not_170 not_511 ∙ ap (λ d. slice_index d i) was ∙ data-other b long c0 l0 i not_170 not_511

    old_170 : slice_index old 170 ≡ settings_byte (slice_index b 170) c0 l0
    old_170 = ap (λ d. slice_index d 170) was ∙ data-170 b long c0 l0

    old_171 : slice_index old 171 ≡ slice_index b 171
    old_171 = ap (λ d. slice_index d 171) was ∙ data-other b long c0 l0 171 (λ e. omega (arith, e)) (λ e. omega (arith, e))

    old_high : word_bits 85 7 7 old ≡ (slice_index b 170 + 256 * slice_index b 171) / 2 ^ 7 % 2 ^ 1
    old_high = ap (λ n. (n + 256 * slice_index old 171) / 2 ^ 7 % 2 ^ 1) old_170 ∙ ap (λ n. (settings_byte (slice_index b 170) c0 l0 + 256 * n) / 2 ^ 7 % 2 ^ 1) old_171 ∙ kept_high (slice_index b 170) (slice_index b 171) c0 l0

    old_low : word_bits 85 4 0 old ≡ (slice_index b 170 + 256 * slice_index b 171) / 2 ^ 0 % 2 ^ 5
    old_low = ap (λ n. (n + 256 * slice_index old 171) / 2 ^ 0 % 2 ^ 5) old_170 ∙ ap (λ n. (settings_byte (slice_index b 170) c0 l0 + 256 * n) / 2 ^ 0 % 2 ^ 5) old_171 ∙ kept_low (slice_index b 170) (slice_index b 171) c0 l0

    new_170 : slice_index new 170 ≡ settings_byte (slice_index b 170) c l
    new_170 = setting_bits (slice_index new 170) (slice_index b 170) (slice_index new 171) (slice_index b 171) c l (new_bytes 170) (tells.high_bit ∙ old_high) (tells.low_bits ∙ old_low) tells.cache_is tells.look_is

    checked : is_checked old ≡ is_checked b
    checked = ap is_checked was ∙ checked_data b long c0 l0

    -- but for byte 511 the data are those with the settings
    before : set new 511 0 ≡ set (set b 170 (settings_byte (slice_index b 170) c l)) 511 0
    before = same_bytes (set new 511 0) (set (set b 170 (settings_byte (slice_index b 170) c l)) 511 0)
        (length-set new 511 0 ∙ tells.size ∙ old_long ∙ sym (length-set (set b 170 (settings_byte (slice_index b 170) c l)) 511 0 ∙ length-set b 170 (settings_byte (slice_index b 170) c l) ∙ long))
        (λ i. ⊎_elim (λ e. last i e) (λ not_511. get_or-set_other new 511 i 0 0 not_511 ∙ ⊎_elim (λ e. here i e) (λ not_170. others i not_170 not_511 ∙ sym (get_or-set_other b 170 i (settings_byte (slice_index b 170) c l) 0 not_170)) (cases_eq i 170) ∙ sym (get_or-set_other (set b 170 (settings_byte (slice_index b 170) c l)) 511 i 0 0 not_511)) (cases_eq i 511))
      where
        last : (i : ℕ) → i ≡ 511 → slice_index (set new 511 0) i ≡ slice_index (set (set b 170 (settings_byte (slice_index b 170) c l)) 511 0) i
        last i e = subst (λ k. slice_index (set new 511 0) k ≡ slice_index (set (set b 170 (settings_byte (slice_index b 170) c l)) 511 0) k) (sym e)
            (get_or-set_same new 511 0 0 (omega (arith, tells.size, old_long)) ∙ sym (get_or-set_same (set b 170 (settings_byte (slice_index b 170) c l)) 511 0 0 (omega (arith, long, length-set b 170 (settings_byte (slice_index b 170) c l)))))

        here : (i : ℕ) → i ≡ 170 → slice_index new i ≡ slice_index (set b 170 (settings_byte (slice_index b 170) c l)) i
        here i e = subst (λ k. slice_index new k ≡ slice_index (set b 170 (settings_byte (slice_index b 170) c l)) k) (sym e) (new_170 ∙ sym (get_or-set_same b 170 (settings_byte (slice_index b 170) c l) 0 (omega (arith, long))))

    new_511 : (t : Bool) → is_checked b ≡ t → slice_index new 511 ≡ slice_index (identity_data b c l) 511
    new_511 true is =
        let kept : checksum new ≡ checksum old = subst (λ t. MatchBool t (checksum new ≡ checksum old) (slice_index new 511 ≡ slice_index old 511)) (checked ∙ is) tells.integrity in
        let sums = sum_again b old (settings_byte (slice_index b 170) c0 l0) old_long was is in
        integrity_is new (tells.size ∙ old_long) (new_bytes 511) (kept ∙ sums) ∙ ap checksum_byte before ∙ sym (data-511_checked b long c l is)
    new_511 false is =
        let kept : slice_index new 511 ≡ slice_index old 511 = subst (λ t. MatchBool t (checksum new ≡ checksum old) (slice_index new 511 ≡ slice_index old 511)) (checked ∙ is) tells.integrity in
        kept ∙ ap (λ d. slice_index d 511) was ∙ data-511_plain b long c0 l0 is ∙ sym (data-511_plain b long c l is)

    at : (i : ℕ) → slice_index new i ≡ slice_index (identity_data b c l) i
    at i =
        ⊎_elim
        (λ e. subst (λ k. slice_index new k ≡ slice_index (identity_data b c l) k) (sym e) (new_511 (is_checked b) refl))
        (λ not_511. ⊎_elim
        (λ e. subst (λ k. slice_index new k ≡ slice_index (identity_data b c l) k) (sym e) (new_170 ∙ sym (data-170 b long c l)))
        (λ not_170. others i not_170 not_511 ∙ sym (data-other b long c l i not_170 not_511))
        (cases_eq i 170))
        (cases_eq i 511)

-- data with a right sum and with their own settings in them are as they are
pub own_data : (b : List ℕ) → length b ≡ 512 → IsBytes b → (is_checked b ≡ true → checksum b ≡ 0) → b ≡ identity_data b (cache_is_on b) (look_is_on b)
own_data b long bytes sums = same_bytes b (identity_data b c l) (sym (length-data b c l)) at
  where
    c : Bool
    c = cache_is_on b

    l : Bool
    l = look_is_on b

    at_170 : slice_index b 170 ≡ settings_byte (slice_index b 170) c l
    at_170 = setting_bits (slice_index b 170) (slice_index b 170) (slice_index b 171) (slice_index b 171) c l (bytes 170) refl refl refl refl

    set_same : set b 170 (settings_byte (slice_index b 170) c l) ≡ b
    set_same = ap (set b 170) (sym at_170) ∙ set-get_or b 170 0

    at_511 : (t : Bool) → is_checked b ≡ t → slice_index b 511 ≡ slice_index (identity_data b c l) 511
    at_511 true is = integrity_is b long (bytes 511) (sums is) ∙ ap (λ d. checksum_byte (set d 511 0)) (sym set_same) ∙ sym (data-511_checked b long c l is)
    at_511 false is = sym (data-511_plain b long c l is)

    at : (i : ℕ) → slice_index b i ≡ slice_index (identity_data b c l) i
    at i =
        ⊎_elim
        (λ e. subst (λ k. slice_index b k ≡ slice_index (identity_data b c l) k) (sym e) (at_511 (is_checked b) refl))
        (λ not_511. ⊎_elim
        (λ e. subst (λ k. slice_index b k ≡ slice_index (identity_data b c l) k) (sym e) (at_170 ∙ sym (data-170 b long c l)))
        (λ not_170. sym (data-other b long c l i not_170 not_511))
        (cases_eq i 170))
        (cases_eq i 511)

-- settings leave what the data say of a write cache and of look-ahead
pub data_says : (b : List ℕ) (c l : Bool) → length b ≡ 512 → SaysSo b (identity_data b c l)
data_says b c l long = record { cache = ap (λ w. w / 2 ^ 5 % 2 == 1) word_82; look = ap (λ w. w / 2 ^ 6 % 2 == 1) word_82 }
  where
    low : slice_index (identity_data b c l) 164 ≡ slice_index b 164
    low = data-other b long c l 164 (λ e. absurd (omega (arith, e))) (λ e. absurd (omega (arith, e)))

    high : slice_index (identity_data b c l) 165 ≡ slice_index b 165
    high = data-other b long c l 165 (λ e. absurd (omega (arith, e))) (λ e. absurd (omega (arith, e)))

    word_82 : word 82 (identity_data b c l) ≡ word 82 b
    word_82 = ap (λ n. n + 256 * slice_index (identity_data b c l) 165) low ∙ ap (λ n. slice_index b 164 + 256 * n) high

-- settings leave what the data say of trims, and of trims in the queue: they change bytes 170 and 511 alone
module _ (b : List ℕ) (c l : Bool) (long : length b ≡ 512) where
  byte_same : (i : ℕ) → (i ≡ 170 → ⊥) → (i ≡ 511 → ⊥) → slice_index (identity_data b c l) i ≡ slice_index b i
  byte_same i not_170 not_511 = data-other b long c l i not_170 not_511

  pub data_trims : has_trim (identity_data b c l) ≡ has_trim b
  data_trims = rw (byte_same 338 (omega arith) (omega arith), byte_same 339 (omega arith) (omega arith), byte_same 138 (omega arith) (omega arith), byte_same 139 (omega arith) (omega arith)) refl

  pub data_queued_trims : has_queued_trim (identity_data b c l) ≡ has_queued_trim b
  data_queued_trims = rw (data_trims, byte_same 154 (omega arith) (omega arith), byte_same 155 (omega arith) (omega arith)) refl

-- a bad sum is one of data that have a sum
pub right_sum : (b : List ℕ) → has_bad_sum b ≡ false → (word_bits 255 7 0 b == 0xA5) ≡ true → checksum b ≡ 0
right_sum b good is = eqb-true (checksum b) 0 (not-false (checksum b == 0) (ap (λ t. t && not (checksum b == 0)) (sym is) ∙ good))
