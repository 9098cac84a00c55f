-- Which words of a drive's IDENTIFY DEVICE data may be changed, as those who change them show it.
use Rattle.std.proofs.Common.{◌≡◌, refl, sym, ◌∙◌, ap, ℕ, ◌/◌, ◌%◌, ◌^◌, ◌<◌, ◌≤◌, true, false, List, [], ◌∷◌, arith, length, eq-eqb}
use Rattle.std.specs.Prelude.{◌==◌}
use Rattle.std.proofs.lemmas.Bool.{or_parts}
use Rattle.satl_base.specs.Identify.{capacity, has_trim, trim_blocks, word, word_bit}
use Rattle.satl_base.specs.Lists.{is_in}
use Rattle.satl_drive.specs.State.{IsFit}
use Rattle.satl_disk.specs.Bench.{MayReword, fitting_words, unqueued_words, with_word}
use Rattle.satl_disk.specs.Data.{drive_data, set_word, word_is}
use Rattle.satl_disk.specs.Disk.{Disk, fresh, state_of}
use Rattle.satl_disk.proofs.IdentifyLemmas.{word-identify_data}
use Rattle.satl_disk.proofs.WordLemmas.{word_now, word-set_word_other, word-set_word_same}

-- a number that is none of these
not_in : (place x : ℕ) (xs : List ℕ) → is_in place (x ∷ xs) ≡ false → (x ≡ place → ⊥) × (is_in place xs ≡ false)
not_in place x xs none =
    let both = or_parts (place == x) (is_in place xs) none in
    (λ same. let no : true ≡ false = sym (eq-eqb place x (sym same)) ∙ both.0 in absurd cc, both.1)

module _ (place value : ℕ) (d : Disk) (small : place < 256) (f : IsFit (state_of d)) where
  abbrev set_so : List ℕ
  set_so = set_word (word_is place value) d.identify

  kept : (i : ℕ) → (i ≡ place → ⊥) → word i set_so ≡ word i d.identify
  kept i other = word-set_word_other place value i d.identify f.size small other

  told_so : (100 ≡ place → ⊥) → (101 ≡ place → ⊥) → (102 ≡ place → ⊥) → (103 ≡ place → ⊥) → capacity set_so ≡ length d.sectors
  told_so a b c e = rw (kept 100 a, kept 101 b, kept 102 c, kept 103 e) f.told

  trims_so : (69 ≡ place → ⊥) → (169 ≡ place → ⊥) → has_trim set_so ≡ has_trim d.identify
  trims_so a b = rw (kept 69 a, kept 169 b) refl

  -- of a drive that trims
  pub may_trimming : has_trim d.identify ≡ true → is_in place fitting_words ≡ false → MayReword place value d
  may_trimming trims none =
      let a = not_in place 69 (100 ∷ 101 ∷ 102 ∷ 103 ∷ 105 ∷ 169 ∷ []) none in
      let b = not_in place 100 (101 ∷ 102 ∷ 103 ∷ 105 ∷ 169 ∷ []) a.1 in
      let c = not_in place 101 (102 ∷ 103 ∷ 105 ∷ 169 ∷ []) b.1 in
      let e = not_in place 102 (103 ∷ 105 ∷ 169 ∷ []) c.1 in
      let g = not_in place 103 (105 ∷ 169 ∷ []) e.1 in
      let h = not_in place 105 (169 ∷ []) g.1 in
      let i = not_in place 169 [] h.1 in
      let blocks = f.trim trims in
      let same = kept 105 h.0 in
      record {
        told = told_so b.0 c.0 e.0 g.0;
        trim = λ _. omega (arith, same, blocks);
        queued_trim = λ _. trims_so a.0 i.0 ∙ trims;
      }

  -- of a drive that queues no trims
  pub may_unqueued : word_bit 77 6 d.identify ≡ false → 1 ≤ trim_blocks d.identify → is_in place unqueued_words ≡ false → MayReword place value d
  may_unqueued off blocks none =
      let a = not_in place 77 (100 ∷ 101 ∷ 102 ∷ 103 ∷ 105 ∷ []) none in
      let b = not_in place 100 (101 ∷ 102 ∷ 103 ∷ 105 ∷ []) a.1 in
      let c = not_in place 101 (102 ∷ 103 ∷ 105 ∷ []) b.1 in
      let e = not_in place 102 (103 ∷ 105 ∷ []) c.1 in
      let g = not_in place 103 (105 ∷ []) e.1 in
      let h = not_in place 105 [] g.1 in
      let same = kept 105 h.0 in
      record {
        told = told_so b.0 c.0 e.0 g.0;
        trim = λ _. omega (arith, same, blocks);
        queued_trim = λ set. let no : true ≡ false = sym set ∙ (ap (λ n. n / 2 ^ 6 % 2 == 1) (kept 77 a.0) ∙ off) in absurd cc;
      }

-- ---- a new drive, which trims

new_trims : (n : ℕ) (d : Disk) → d ≡ fresh n → has_trim d.identify ≡ true
new_trims n d new =
    let here : has_trim (drive_data n) ≡ true = rw (word-identify_data n 169 (omega arith), word-identify_data n 69 (omega arith)) refl in
    ap (λ (x : Disk). has_trim x.identify) new ∙ here

pub new_may_reword : (place value n : ℕ) (d : Disk) → place < 256 → d ≡ fresh n → IsFit (state_of d) → is_in place fitting_words ≡ false → MayReword place value d
new_may_reword place value n d small new f none = may_trimming place value d small f (new_trims n d new) none

-- after word 77 tells no more that its trims are queued
module _ (n : ℕ) (d e : Disk) (new : d ≡ fresh n) (f : IsFit (state_of d)) (is : e ≡ with_word 77 0 d) where
  unqueued_now : word_bit 77 6 e.identify ≡ false
  unqueued_now = ap (λ m. m / 2 ^ 6 % 2 == 1) (word_now 77 0 d e is 77 (λ q. omega (arith, q)) (omega arith) ∙ word-set_word_same 77 0 d.identify f.size (omega arith))

  blocks_now : 1 ≤ trim_blocks e.identify
  blocks_now =
      let same = word_now 77 0 d e is 105 (λ q. omega (arith, q)) (omega arith) in
      let before = word-set_word_other 77 0 105 d.identify f.size (omega arith) (λ q. omega (arith, q)) in
      let blocks = f.trim (new_trims n d new) in
      omega (arith, same, before, blocks)

  pub unqueued_may_reword : (place value : ℕ) → place < 256 → IsFit (state_of e) → is_in place unqueued_words ≡ false → MayReword place value e
  unqueued_may_reword place value small g none = may_unqueued place value e small g unqueued_now blocks_now none
