-- Which tasks stay eligible, and which do not conflict.
use Rattle.std.proofs.Common.{◌≡◌, ◌⊎◌, ◌<◌, refl, sym, ◌∙◌, ap, subst, ⊎_elim, inl, inr, ℕ, zero, suc, Bool, true, false, cond, List, [], ◌∷◌, ◌++◌, Option, Some, None, map, take, min, max, ◌+◌, arith}
use Rattle.std.specs.Prelude.{not, ◌||◌, ◌&&◌, nat_lt, slice_get, unwrap_or, ◌↔◌}
use Rattle.std.specs.Option.{option_map}
use Rattle.std.specs.List.{filter, list_any, remove}
use Rattle.std.proofs.Math.Bool.{or_comm}
use Rattle.std.proofs.Math.Nat.{max_comm, min_comm}
use Rattle.std.proofs.lemmas.Bool.{not-true, or_from, or_parts}
use Rattle.satl_base.specs.declared.block.Range.{Range}
use Rattle.satl_line.specs.declared.entry.Entry.{Entry}
use Rattle.satl_line.specs.Conflict.{Access, access_of, accesses_conflict, any_meet, conflicts, ranges_meet}
use Rattle.satl_line.specs.Eligible.{IsEligibleBy, eligible_by, is_clear_by, IsEligible}

-- no element before a place passes, taken one by one
none_before : {X : Type 0} (p : X → Bool) (xs : List X) (place k : ℕ) (x : X) → list_any p (take place xs) ≡ false → k < place → slice_get xs k ≡ Some x → p x ≡ false
none_before p [] place k x none lt is = absurd cc
none_before p (y ∷ ys) zero k x none lt is = absurd (omega arith)
none_before p (y ∷ ys) (suc place) zero x none lt is = let same : y ≡ x = cc in ap p (sym same) ∙ (or_parts (p y) (list_any p (take place ys)) none).0
none_before p (y ∷ ys) (suc place) (suc k) x none lt is = none_before p ys place k x (or_parts (p y) (list_any p (take place ys)) none).1 (omega arith) is

none_of_each : {X : Type 0} (p : X → Bool) (xs : List X) (place : ℕ) → ((k : ℕ) (x : X) → k < place → slice_get xs k ≡ Some x → p x ≡ false) → list_any p (take place xs) ≡ false
none_of_each p [] zero each = refl
none_of_each p [] (suc place) each = refl
none_of_each p (y ∷ ys) zero each = refl
none_of_each p (y ∷ ys) (suc place) each = or_from (p y) (list_any p (take place ys)) (each 0 y (omega arith) refl) (none_of_each p ys place (λ k x lt is. each (suc k) x (omega arith) is))

module _ {X : Type 0} (conflict : X → X → Bool) where
  -- a task stays eligible as others come
  pub eligible_come : (tasks more : List X) (t : X) → IsEligibleBy conflict tasks t → IsEligibleBy conflict (tasks ++ more) t
  eligible_come [] more t e = elim e [ ]
  eligible_come (u ∷ us) more t e = ⊎_elim inl (λ later. inr (later.0, eligible_come us more t later.1)) e

  -- and as another leaves
  pub eligible_left : (tasks : List X) (place : ℕ) (left t : X) → slice_get tasks place ≡ Some left → (left ≡ t → ⊥) → IsEligibleBy conflict tasks t → IsEligibleBy conflict (remove tasks place) t
  eligible_left [] place left t is other e = elim e [ ]
  eligible_left (u ∷ us) zero left t is other e = let same : u ≡ left = cc in ⊎_elim (λ here. absurd (other (sym same ∙ here))) (λ later. later.1) e
  eligible_left (u ∷ us) (suc place) left t is other e = ⊎_elim inl (λ later. inr (later.0, eligible_left us place left t is other later.1)) e

  -- and as many leave at once
  pub eligible_kept : (keeps : X → Bool) (tasks : List X) (t : X) → keeps t ≡ true → IsEligibleBy conflict tasks t → IsEligibleBy conflict (filter keeps tasks) t
  eligible_kept keeps [] t stays e = e
  eligible_kept keeps (u ∷ us) t stays e =
      (elim (keeps u) as (λ b. keeps u ≡ b → IsEligibleBy conflict (cond b (u ∷ filter keeps us) (filter keeps us)) t) [
        | true ↦ λ h. ⊎_elim inl (λ later. inr (later.0, eligible_kept keeps us t stays later.1)) e
        | false ↦ λ h. ⊎_elim (λ same. let clash : true ≡ false = sym stays ∙ ap keeps (sym same) ∙ h in absurd cc) (λ later. eligible_kept keeps us t stays later.1) e
      ]) refl

  -- two eligible tasks are one, or the earlier does not conflict with the later
  pub eligible_apart : (tasks : List X) (t u : X) → IsEligibleBy conflict tasks t → IsEligibleBy conflict tasks u → (t ≡ u) ⊎ ((conflict t u ≡ false) ⊎ (conflict u t ≡ false))
  eligible_apart [] t u e f = elim e [ ]
  eligible_apart (x ∷ xs) t u e f =
      ⊎_elim
      (λ xt. ⊎_elim (λ xu. inl (sym xt ∙ xu)) (λ later. inr (inl (subst (λ y. conflict y u ≡ false) xt later.0))) f)
      (λ et. ⊎_elim (λ xu. inr (inr (subst (λ y. conflict y t ≡ false) xu et.0))) (λ eu. eligible_apart xs t u et.1 eu.1) f)
      e

  eligible_here : (tasks : List X) (place : ℕ) (t : X) → slice_get tasks place ≡ Some t → list_any (λ u. conflict u t) (take place tasks) ≡ false → IsEligibleBy conflict tasks t
  eligible_here [] place t is clear = absurd cc
  eligible_here (u ∷ us) zero t is clear = inl cc
  eligible_here (u ∷ us) (suc place) t is clear = inr ((or_parts (conflict u t) (list_any (λ v. conflict v t) (take place us)) clear).0, eligible_here us place t is (or_parts (conflict u t) (list_any (λ v. conflict v t) (take place us)) clear).1)

  test_at : (tasks : List X) (place : ℕ) (t : X) → slice_get tasks place ≡ Some t → eligible_by conflict tasks place ≡ is_clear_by conflict (take place tasks) t
  test_at tasks place t is = ap (λ o. unwrap_or (option_map (is_clear_by conflict (take place tasks)) o) false) is

  -- where the test passes at a place, the task there is eligible
  pub eligible_passes : (tasks : List X) (place : ℕ) (t : X) → slice_get tasks place ≡ Some t → eligible_by conflict tasks place ≡ true → IsEligibleBy conflict tasks t
  eligible_passes tasks place t is passes = eligible_here tasks place t is (not-true _ (sym (test_at tasks place t is) ∙ passes))

  -- and an eligible task stands at a place where it passes
  pub eligible_stands : (tasks : List X) (t : X) → IsEligibleBy conflict tasks t → (place : ℕ) × (slice_get tasks place ≡ Some t) × (eligible_by conflict tasks place ≡ true)
  eligible_stands tasks t e =
      let r = stands tasks t e in
      (r.0, r.1, test_at tasks r.0 t r.1 ∙ ap not r.2)
    where
      stands : (tasks : List X) (t : X) → IsEligibleBy conflict tasks t → (place : ℕ) × (slice_get tasks place ≡ Some t) × (list_any (λ u. conflict u t) (take place tasks) ≡ false)
      stands [] t e = elim e [ ]
      stands (u ∷ us) t e =
          ⊎_elim
          (λ same. (0, ap Some same, refl))
          (λ later. let r = stands us t later.1 in (suc r.0, r.1, or_from (conflict u t) (list_any (λ v. conflict v t) (take r.0 us)) later.0 r.2))
          e

  -- the test at a place, as a statement on pairs
  pub eligible_pairs : (tasks : List X) (place : ℕ) (t : X) → slice_get tasks place ≡ Some t →
      (eligible_by conflict tasks place ≡ true) ↔ ((k : ℕ) (earlier : X) → k < place → slice_get tasks k ≡ Some earlier → conflict earlier t ≡ false)
  eligible_pairs tasks place t is = (
    λ passes k earlier lt there. none_before (λ u. conflict u t) tasks place k earlier (not-true _ (sym (test_at tasks place t is) ∙ passes)) lt there,
    λ each. test_at tasks place t is ∙ ap not (none_of_each (λ u. conflict u t) tasks place each),
  )

-- ---- the same tasks in another form

module _ {X Y : Type 0} (conflict : X → X → Bool) (conflict' : Y → Y → Bool) (form : X → Y) (same : (a b : X) → conflict' (form a) (form b) ≡ conflict a b) where
  -- a change that leaves conflicts as they are leaves tasks eligible
  pub eligible_formed : (tasks : List X) (t : X) → IsEligibleBy conflict tasks t → IsEligibleBy conflict' (map form tasks) (form t)
  eligible_formed [] t e = elim e [ ]
  eligible_formed (u ∷ us) t e = ⊎_elim (λ here. inl (ap form here)) (λ later. inr (same u t ∙ later.0, eligible_formed us t later.1)) e

  any_formed : (tasks : List X) (place : ℕ) (t : X) → list_any (λ u. conflict' u (form t)) (take place (map form tasks)) ≡ list_any (λ u. conflict u t) (take place tasks)
  any_formed [] zero t = refl
  any_formed [] (suc place) t = refl
  any_formed (u ∷ us) zero t = refl
  any_formed (u ∷ us) (suc place) t = ap (λ b. b || list_any (λ v. conflict' v (form t)) (take place (map form us))) (same u t) ∙ ap (λ b. conflict u t || b) (any_formed us place t)

  slice_get-formed : (tasks : List X) (place : ℕ) → slice_get (map form tasks) place ≡ option_map form (slice_get tasks place)
  slice_get-formed [] place = refl
  slice_get-formed (u ∷ us) zero = refl
  slice_get-formed (u ∷ us) (suc place) = slice_get-formed us place

  -- and the test as it was
  pub eligible_by-formed : (tasks : List X) (place : ℕ) → eligible_by conflict' (map form tasks) place ≡ eligible_by conflict tasks place
  eligible_by-formed tasks place =
      ap (λ o. unwrap_or (option_map (is_clear_by conflict' (take place (map form tasks))) o) false) (slice_get-formed tasks place)
      ∙ of_option (slice_get tasks place)
    where
      of_option : (o : Option X) → unwrap_or (option_map (is_clear_by conflict' (take place (map form tasks))) (option_map form o)) false ≡ unwrap_or (option_map (is_clear_by conflict (take place tasks)) o) false
      of_option None = refl
      of_option (Some t) = ap not (any_formed tasks place t)

-- ---- conflicts both ways

any_same : {X : Type 0} (p q : X → Bool) (xs : List X) → ((x : X) → p x ≡ q x) → list_any p xs ≡ list_any q xs
any_same p q [] same = refl
any_same p q (x ∷ xs) same = ap (λ b. b || list_any p xs) (same x) ∙ ap (λ b. q x || b) (any_same p q xs same)

any_none : {X : Type 0} (xs : List X) → list_any (λ x. false) xs ≡ false
any_none [] = refl
any_none (x ∷ xs) = any_none xs

any_either : {X : Type 0} (p q : X → Bool) (xs : List X) → list_any (λ x. p x || q x) xs ≡ (list_any p xs || list_any q xs)
any_either p q [] = refl
any_either p q (x ∷ xs) = ap (λ b. (p x || q x) || b) (any_either p q xs) ∙ mixed (p x) (q x) (list_any p xs) (list_any q xs)
  where
    mixed : (a b c d : Bool) → ((a || b) || (c || d)) ≡ ((a || c) || (b || d))
    mixed true b c d = refl
    mixed false true true d = refl
    mixed false true false d = refl
    mixed false false c d = refl

any_swap : {X Y : Type 0} (m : X → Y → Bool) (xs : List X) (ys : List Y) → list_any (λ y. list_any (λ x. m x y) xs) ys ≡ list_any (λ x. list_any (λ y. m x y) ys) xs
any_swap m xs [] = sym (any_none xs)
any_swap m xs (y ∷ ys) = ap (λ b. list_any (λ x. m x y) xs || b) (any_swap m xs ys) ∙ sym (any_either (λ x. m x y) (λ x. list_any (λ z. m x z) ys) xs)

ranges_meet-comm : (a b : Range) → ranges_meet a b ≡ ranges_meet b a
ranges_meet-comm a b = ap (λ n. nat_lt n (min (a.lba + a.count) (b.lba + b.count))) (max_comm a.lba b.lba) ∙ ap (nat_lt (max b.lba a.lba)) (min_comm (a.lba + a.count) (b.lba + b.count))

any_meet-comm : (ranges others : List Range) → any_meet ranges others ≡ any_meet others ranges
any_meet-comm ranges others =
    any_swap ranges_meet ranges others
    ∙ any_same (λ r. list_any (λ q. ranges_meet r q) others) (λ r. list_any (λ q. ranges_meet q r) others) ranges
    (λ r. any_same (λ q. ranges_meet r q) (λ q. ranges_meet q r) others (λ q. ranges_meet-comm r q))

accesses_conflict-comm : (a b : Access) → accesses_conflict a b ≡ accesses_conflict b a
unfolding accesses_conflict
accesses_conflict-comm a b =
    ap (λ v. v || ((a.write || b.write) && any_meet a.ranges b.ranges)) (or_comm a.alone b.alone)
    ∙ ap (λ v. (b.alone || a.alone) || (v && any_meet a.ranges b.ranges)) (or_comm a.write b.write)
    ∙ ap (λ v. (b.alone || a.alone) || ((b.write || a.write) && v)) (any_meet-comm a.ranges b.ranges)

pub conflicts-comm : (a b : Entry) → conflicts a b ≡ conflicts b a
conflicts-comm a b = accesses_conflict-comm (access_of a) (access_of b)

-- two eligible tasks are one, or do not conflict
pub eligible_do_not_conflict : (tasks : List Entry) (t u : Entry) → IsEligible tasks t → IsEligible tasks u → (t ≡ u) ⊎ (conflicts t u ≡ false)
eligible_do_not_conflict tasks t u e f = ⊎_elim inl (λ apart. inr (⊎_elim (λ here. here) (λ there. conflicts-comm t u ∙ there) apart)) (eligible_apart conflicts tasks t u e f)
