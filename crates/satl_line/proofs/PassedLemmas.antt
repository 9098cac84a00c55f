-- How far a search over slots has come.
use Rattle.std.proofs.Common.{◌≡◌, ◌⊎◌, inl, inr, subst, suc, zero, cond, None, Some, Option, ◌^◌, ◌∙◌, ap, sym, arith, ℕ, ◌+◌, ◌≤◌, ◌<◌, Bool, true, false, List, [], ◌∷◌, ◌++◌, length, take, drop, get_or, refl}
use Rattle.std.specs.Prelude.{◌==◌, bit_and, remove}
use Rattle.std.specs.Int.{bit_at, bit_not, w64}
use Rattle.std.specs.Option.{unwrap_or}
use Rattle.std.specs.List.{AllByRecursion, position_from}
use Rattle.std.proofs.lemmas.Bool.{eqb-false, ne_eqb}
use Rattle.std.proofs.lemmas.List.{length-append, take-append-le}
use Rattle.std.proofs.lemmas.Nat.Bits.{bit_at-lt, bit_at-zero, bit_at_and, bit_at_not, bit_at_clear_other}
use Rattle.std.proofs.lemmas.List.Edits.{length-remove}
use Rattle.satl_line.specs.declared.passed.Passed.{Passed}
use Rattle.satl_line.specs.Layout.{HasPassed, IsTakenMask, clear_bit}
use Rattle.satl_line.specs.Tasks.{count_of}
use Rattle.satl_line.proofs.AmongLemmas.{all_counted}
use Rattle.satl_line.proofs.SlotsLemmas.{All-at, count-append, count_one, head_out}

-- ---- searches

-- what fails need not be looked at
over_failing : {X : Type 0} (p : X → Bool) (xs : List X) (i n : ℕ) → n ≤ length xs → AllByRecursion (λ x. p x ≡ false) (take n xs) → position_from p (i + n) (drop n xs) ≡ position_from p i xs
over_failing p xs i zero short fail = ap (λ k. position_from p k xs) (omega arith)
over_failing p [] i (suc n) short fail = absurd (omega (arith, short))
over_failing p (x ∷ xs) i (suc n) short fail =
    rw fail.0 (ap (λ k. position_from p k (drop n xs)) (omega arith) ∙ over_failing p xs (i + 1) n (omega (arith, short)) fail.1)

-- nor from a place between
from_between : {X : Type 0} (p : X → Bool) (xs : List X) (i from n : ℕ) → from ≤ n → n ≤ length xs → AllByRecursion (λ x. p x ≡ false) (take n xs) → position_from p (i + n) (drop n xs) ≡ position_from p (i + from) (drop from xs)
from_between p xs i zero n le short fail = over_failing p xs i n short fail ∙ ap (λ k. position_from p k xs) (omega arith)
from_between p [] i (suc from) n le short fail = absurd (omega (arith, le, short))
from_between p (x ∷ xs) i (suc from) zero le short fail = absurd (omega (arith, le))
from_between p (x ∷ xs) i (suc from) (suc n) le short fail =
    ap (λ k. position_from p k (drop n xs)) (omega arith)
    ∙ from_between p xs (i + 1) from n (omega (arith, le)) (omega (arith, short)) fail.1
    ∙ ap (λ k. position_from p k (drop from xs)) (omega arith)

-- all before what is found fail
before_found : {X : Type 0} (p : X → Bool) (xs : List X) (i : ℕ) → (j : ℕ) × (unwrap_or (position_from p i xs) (i + length xs) ≡ i + j) × (j ≤ length xs) × AllByRecursion (λ x. p x ≡ false) (take j xs)
before_found p [] i = (0, refl, omega arith, tt)
before_found p (x ∷ xs) i =
    (elim (p x) as (λ b. p x ≡ b → (j : ℕ) × (unwrap_or (cond b (Some i) (position_from p (i + 1) xs)) (i + length (x ∷ xs)) ≡ i + j) × (j ≤ length (x ∷ xs)) × AllByRecursion (λ y. p y ≡ false) (take j (x ∷ xs))) [
      | true ↦ λ e. (0, omega arith, omega arith, tt)
      | false ↦ λ e. let rest = before_found p xs (i + 1) in
          (suc rest.0, ap (unwrap_or (position_from p (i + 1) xs)) (omega arith) ∙ rest.1 ∙ omega arith, omega (arith, rest.2), (e, rest.3))
    ]) refl

-- nothing is found where all fail
none_found : {X : Type 0} (p : X → Bool) (xs : List X) (i from : ℕ) → AllByRecursion (λ x. p x ≡ false) xs → position_from p i (drop from xs) ≡ None
none_found p [] i zero fail = refl
none_found p [] i (suc from) fail = refl
none_found p (x ∷ xs) i zero fail = rw fail.0 (none_found p xs (i + 1) 0 fail.1)
none_found p (x ∷ xs) i (suc from) fail = none_found p xs i from fail.1

-- ---- lists without a place

all_take : {X : Type 0} (P : X → Type 0) (n : ℕ) (xs : List X) → AllByRecursion P xs → AllByRecursion P (take n xs)
all_take P zero xs all = tt
all_take P (suc n) [] all = tt
all_take P (suc n) (x ∷ xs) all = (all.0, all_take P n xs all.1)

none_taken : (q n : ℕ) (xs : List ℕ) → count_of q xs ≡ 0 → count_of q (take n xs) ≡ 0
none_taken q zero xs none = refl
none_taken q (suc n) [] none = refl
none_taken q (suc n) (x ∷ xs) none =
    let out = head_out q x (count_of q xs) none in
    rw out.0 (omega (arith, none_taken q n xs out.1))

-- a place among the first goes
goes_among : {X : Type 0} (P : X → Type 0) (xs : List X) (place n : ℕ) → place ≤ n → suc n ≤ length xs → AllByRecursion P (take (suc n) xs) → AllByRecursion P (take n (remove xs place))
goes_among P [] place n le short all = absurd (omega (arith, short))
goes_among P (x ∷ xs) zero n le short all = all.1
goes_among P (x ∷ xs) (suc place) zero le short all = absurd (omega (arith, le))
goes_among P (x ∷ xs) (suc place) (suc n) le short all = (all.0, goes_among P xs place n (omega (arith, le)) (omega (arith, short)) all.1)

-- a place behind them goes
goes_behind : {X : Type 0} (P : X → Type 0) (xs : List X) (place n : ℕ) → n ≤ place → AllByRecursion P (take n xs) → AllByRecursion P (take n (remove xs place))
goes_behind P xs place zero le all = tt
goes_behind P xs zero (suc n) le all = absurd (omega (arith, le))
goes_behind P [] (suc place) (suc n) le all = tt
goes_behind P (x ∷ xs) (suc place) (suc n) le all = (all.0, goes_behind P xs place n (omega (arith, le)) all.1)

-- ---- slots

-- a number of which no bit is outside another
bit_in : (a b q : ℕ) → b < 2 ^ 64 → q < 64 → bit_and a (bit_not w64 b) ≡ 0 → (bit_at a q == 0) ≡ false → (bit_at b q == 0) ≡ false
bit_in a b q fits small none some =
    let both = bit_at_and a (bit_not w64 b) q in
    let other = bit_at_not w64 b q fits small in
    let zero_bit = ap (λ n. bit_at n q) none ∙ bit_at-zero q in
    grind (arith, both, other, zero_bit, some, bit_at-lt a q, bit_at-lt b q)

-- slots that are all among others
all_in : (a b : ℕ) (xs : List ℕ) → b < 2 ^ 64 → bit_and a (bit_not w64 b) ≡ 0 → AllByRecursion (λ q. q < 64) xs → AllByRecursion (λ q. (bit_at a q == 0) ≡ false) xs → AllByRecursion (λ q. (bit_at b q == 0) ≡ false) xs
all_in a b [] fits none small some = tt
all_in a b (x ∷ xs) fits none small some = (bit_in a b x fits small.0 none some.0, all_in a b xs fits none small.1 some.1)

-- where each slot that is taken is among some, none is outside these
pub none_outside : (order listed : List ℕ) (taken slots from : ℕ) → order ≡ listed → IsTakenMask order taken → AllByRecursion (λ q. q < 64) order → slots < 2 ^ 64 → bit_and taken (bit_not w64 slots) ≡ 0 → position_from (λ slot. bit_at slots slot == 0) from (drop from listed) ≡ None
none_outside order listed taken slots from is held small fits none =
    ap (λ xs. position_from (λ slot. bit_at slots slot == 0) from (drop from xs)) (sym is)
    ∙ none_found (λ slot. bit_at slots slot == 0) order from from (all_in taken slots order fits none small (are_taken order small (all_counted order)))
  where
    are_taken : (xs : List ℕ) → AllByRecursion (λ q. q < 64) xs → AllByRecursion (λ q. 0 < count_of q order) xs → AllByRecursion (λ q. (bit_at taken q == 0) ≡ false) xs
    are_taken [] small some = tt
    are_taken (x ∷ xs) small some = (ne_eqb (bit_at taken x) 0 (λ zero. omega (arith, zero, held x small.0, some.0)), are_taken xs small.1 some.1)

-- a slot that none of these is
not_cleared : (slot slots : ℕ) (xs : List ℕ) → slot < 64 → AllByRecursion (λ q. q < 64) xs → count_of slot xs ≡ 0 → AllByRecursion (λ q. (bit_at slots q == 0) ≡ false) xs → AllByRecursion (λ q. (bit_at (clear_bit slot slots) q == 0) ≡ false) xs
not_cleared slot slots [] small all none some = tt
not_cleared slot slots (x ∷ xs) small all none some =
    let out = head_out slot x (count_of slot xs) none in
    (ap (λ n. n == 0) (bit_at_clear_other w64 slots slot small x all.0 (eqb-false x slot out.0)) ∙ some.0, not_cleared slot slots xs small all.1 out.1 some.1)

-- ---- what is passed

pub begins_behind : (order : List ℕ) (passed : Passed) (from slots : ℕ) → HasPassed order passed → AllByRecursion (λ q. q < 64) order → slots < 2 ^ 64 → from ≤ passed.places → bit_and passed.slots (bit_not w64 slots) ≡ 0 →
    position_from (λ slot. bit_at slots slot == 0) passed.places (drop passed.places order) ≡ position_from (λ slot. bit_at slots slot == 0) from (drop from order)
begins_behind order passed from slots has small fits le none =
    let all = all_in passed.slots slots (take passed.places order) fits none (all_take (λ q. q < 64) passed.places order small) has.1 in
    ap (λ k. position_from (λ slot. bit_at slots slot == 0) k (drop passed.places order)) (omega arith)
    ∙ from_between (λ slot. bit_at slots slot == 0) order 0 from passed.places le has.0 all
    ∙ ap (λ k. position_from (λ slot. bit_at slots slot == 0) k (drop from order)) (omega arith)

pub passes_before : (order : List ℕ) (slots : ℕ) (found : Option ℕ) (passed : Passed) → found ≡ position_from (λ slot. bit_at slots slot == 0) 0 order → passed ≡ record { slots = slots; places = unwrap_or found (length order) } → HasPassed order passed
passes_before order slots found passed is made =
    let b = before_found (λ slot. bit_at slots slot == 0) order 0 in
    let places : unwrap_or found (length order) ≡ b.0 = ap (λ f. unwrap_or f (length order)) is ∙ ap (unwrap_or (position_from (λ slot. bit_at slots slot == 0) 0 order)) (omega arith) ∙ b.1 ∙ omega arith in
    subst (HasPassed order) (sym (made ∙ ap (λ n. record { slots = slots; places = n }) places)) (b.2, b.3)

pub without_place : (order : List ℕ) (old new : Passed) (place slot : ℕ) → slot < 64 → place < length order → AllByRecursion (λ q. q < 64) (remove order place) → count_of slot (remove order place) ≡ 0 → new.slots ≡ clear_bit slot old.slots →
    ((place < old.places) × (new.places + 1 ≡ old.places)) ⊎ ((old.places ≤ place) × (new.places ≡ old.places)) → HasPassed order old → HasPassed (remove order place) new
without_place order old new place slot small within all none slots_are (inl n) has =
    let gone = length-remove order place within in
    let before : old.places ≡ suc new.places = omega (arith, n.1) in
    let some : AllByRecursion (λ q. (bit_at old.slots q == 0) ≡ false) (take new.places (remove order place)) =
    goes_among (λ q. (bit_at old.slots q == 0) ≡ false) order place new.places (omega (arith, n.0, n.1)) (omega (arith, n.1, has.0)) (subst (λ k. AllByRecursion (λ q. (bit_at old.slots q == 0) ≡ false) (take k order)) before has.1) in (
      omega (arith, gone, n.1, has.0),
      subst (λ s. AllByRecursion (λ q. (bit_at s q == 0) ≡ false) (take new.places (remove order place))) (sym slots_are)
          (not_cleared slot old.slots (take new.places (remove order place)) small (all_take (λ q. q < 64) new.places (remove order place) all) (none_taken slot new.places (remove order place) none) some),
    )
without_place order old new place slot small within all none slots_are (inr n) has =
    let gone = length-remove order place within in
    let some : AllByRecursion (λ q. (bit_at old.slots q == 0) ≡ false) (take new.places (remove order place)) =
    goes_behind (λ q. (bit_at old.slots q == 0) ≡ false) order place new.places (omega (arith, n.0, n.1)) (subst (λ k. AllByRecursion (λ q. (bit_at old.slots q == 0) ≡ false) (take k order)) (sym n.1) has.1) in (
      omega (arith, gone, n.0, n.1, within),
      subst (λ s. AllByRecursion (λ q. (bit_at s q == 0) ≡ false) (take new.places (remove order place))) (sym slots_are)
          (not_cleared slot old.slots (take new.places (remove order place)) small (all_take (λ q. q < 64) new.places (remove order place) all) (none_taken slot new.places (remove order place) none) some),
    )

-- a place more at the end
pub with_place : (order order' : List ℕ) (slot : ℕ) (passed : Passed) → order' ≡ order ++ slot ∷ [] → HasPassed order passed → HasPassed order' passed
with_place order order' slot passed is has =
    subst (λ o. HasPassed o passed) (sym is) (omega (arith, has.0, length-append order (slot ∷ [])), subst (AllByRecursion (λ q. (bit_at passed.slots q == 0) ≡ false)) (sym (take-append-le passed.places order (slot ∷ []) has.0)) has.1)

-- what a search finds that begins later, where the order is read each time
pub found_from : (order seen again listed : List ℕ) (from start slots : ℕ) (found : Option ℕ) → found ≡ position_from (λ slot. bit_at slots slot == 0) start (drop start again) → seen ≡ order → again ≡ order → order ≡ listed →
    position_from (λ slot. bit_at slots slot == 0) start (drop start seen) ≡ position_from (λ slot. bit_at slots slot == 0) from (drop from seen) → found ≡ position_from (λ slot. bit_at slots slot == 0) from (drop from listed)
found_from order seen again listed from start slots found is seen_is again_is listed_is same =
    is ∙ ap (λ xs. position_from (λ slot. bit_at slots slot == 0) start (drop start xs)) (again_is ∙ sym seen_is) ∙ same
    ∙ ap (λ xs. position_from (λ slot. bit_at slots slot == 0) from (drop from xs)) (seen_is ∙ listed_is)

-- the slot of a place that goes is at no other
pub without_slot : (order order' free free' : List ℕ) (place slot : ℕ) (old new : Passed) → place < length order → slot ≡ get_or order place slot → AllByRecursion (λ q. q < 64) order → AllByRecursion (λ q. q < 64) order' → free' ≡ free ++ slot ∷ [] →
    ((q : ℕ) → q < 64 → count_of q order' + count_of q free' ≡ 1) → order' ≡ remove order place →
    ((o : List ℕ) → place < length o → AllByRecursion (λ q. q < 64) (remove o place) → count_of slot (remove o place) ≡ 0 → HasPassed o old → HasPassed (remove o place) new) → HasPassed order old → HasPassed order' new
without_slot order order' free free' place slot old new within at small small' freed once is goes has =
    let low : slot < 64 = subst (λ q. q < 64) (sym at) (All-at (λ q. q < 64) order place slot within small) in
    let none : count_of slot order' ≡ 0 = omega (arith, once slot low, ap (count_of slot) freed, count-append slot free (slot ∷ []), count_one slot) in
    subst (λ o. HasPassed o new) (sym is) (goes order within (subst (AllByRecursion (λ q. q < 64)) is small') (ap (count_of slot) (sym is) ∙ none) has)
