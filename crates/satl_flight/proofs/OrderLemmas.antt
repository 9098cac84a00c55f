-- The order in which tasks are issued.
use Rattle.std.proofs.Common.{◌≡◌, ◌⊎◌, ⊎_elim, refl, sym, ◌∙◌, ap, subst, inl, inr, ℕ, zero, suc, ◌+◌, ◌<◌, ◌≤◌, not, Bool, true, false, cond, List, [], ◌∷◌, ◌++◌, Some, arith, length, length-append, eqb-true, eq-eqb}
use Rattle.std.specs.Prelude.{◌==◌, ◌||◌, slice_get}
use Rattle.std.specs.List.{AllByRecursion, IsDistinct, before_first, list_any}
use Rattle.std.proofs.lemmas.List.Folds.{list_any-append}
use Rattle.std.proofs.lemmas.List.Sums.{take_while-cons}
use Rattle.std.proofs.lemmas.Option.{get_or_from_slice_get, slice_get_within}
use Rattle.satl_line.specs.Tasks.{AreOwnSlots, Held}
use Rattle.satl_line.proofs.SlotsLemmas.{All-at}
use Rattle.satl_flight.specs.declared.flight.Flying.{Flying}
use Rattle.satl_flight.specs.Flown.{is_of_slot, is_outstanding}
use Rattle.satl_flight.specs.Settled.{IsIssuedIfItMay, IssuesAtMost, IssuesInOrder, IssuesOne, Starts, issued_before}

-- what is added behind the first that passes changes nothing before it
before-append : {X : Type 0} (p : X → Bool) (xs more : List X) → list_any p xs ≡ true → before_first p (xs ++ more) ≡ before_first p xs
before-append p [] more any = absurd cc
before-append p (x ∷ xs) more any =
    take_while-cons (λ y. not (p y)) x (xs ++ more)
    ∙ (elim (p x) as (λ b. (b || list_any p xs) ≡ true → cond (not b) (x ∷ before_first p (xs ++ more)) [] ≡ cond (not b) (x ∷ before_first p xs) [])
    [ true ↦ λ e. refl | false ↦ λ e. ap (λ ys. x ∷ ys) (before-append p xs more e) ]) any
    ∙ sym (take_while-cons (λ y. not (p y)) x xs)

-- all stand before the last, where it is the first that passes
before-last : {X : Type 0} (p : X → Bool) (xs : List X) (x : X) → list_any p xs ≡ false → p x ≡ true → before_first p (xs ++ x ∷ []) ≡ xs
before-last p [] x none is = take_while-cons (λ y. not (p y)) x [] ∙ ap (λ b. cond (not b) (x ∷ []) []) is
before-last p (y ∷ ys) x none is =
    take_while-cons (λ z. not (p z)) y (ys ++ x ∷ [])
    ∙ (elim (p y) as (λ b. (b || list_any p ys) ≡ false → cond (not b) (y ∷ before_first p (ys ++ x ∷ [])) [] ≡ y ∷ ys)
    [ true ↦ λ e. absurd cc | false ↦ λ e. ap (λ zs. y ∷ zs) (before-last p ys x e is) ]) none

-- no other task lies in the slot of the first
in_other_slot : (t : Held) (ts : List Held) (place : ℕ) (h : Held) → AllByRecursion (λ (x : Held). (t.slot == x.slot) ≡ false) ts → slice_get ts place ≡ Some h → (t.slot == h.slot) ≡ false
in_other_slot t ts place h all at =
    subst (λ (x : Held). (t.slot == x.slot) ≡ false) (get_or_from_slice_get ts place h h at) (All-at (λ (x : Held). (t.slot == x.slot) ≡ false) ts place h (slice_get_within ts place h at) all)

-- two tasks in one slot stand at one place
one_place : (tasks : List Held) (a b : ℕ) (h k : Held) → AreOwnSlots tasks → slice_get tasks a ≡ Some h → slice_get tasks b ≡ Some k → h.slot ≡ k.slot → a ≡ b
unfolding IsDistinct
one_place [] a b h k own at_a at_b same = absurd cc
one_place (t ∷ ts) zero zero h k own at_a at_b same = refl
one_place (t ∷ ts) zero (suc b) h k own at_a at_b same =
    let one : t ≡ h = cc in
    let other : (t.slot == k.slot) ≡ false = in_other_slot t ts b k own.0 at_b in
    let equal : (t.slot == k.slot) ≡ true = eq-eqb t.slot k.slot (ap (λ (x : Held). x.slot) one ∙ same) in
    absurd cc
one_place (t ∷ ts) (suc a) zero h k own at_a at_b same =
    let one : t ≡ k = cc in
    let other : (t.slot == h.slot) ≡ false = in_other_slot t ts a h own.0 at_a in
    let equal : (t.slot == h.slot) ≡ true = eq-eqb t.slot h.slot (ap (λ (x : Held). x.slot) one ∙ sym same) in
    absurd cc
one_place (t ∷ ts) (suc a) (suc b) h k own at_a at_b same = ap suc (one_place ts a b h k own.1 at_a at_b same)

-- each task that became outstanding stands before this place
abbrev pub StartBefore : ℕ → List Flying → List Flying → List Held → Type 0
StartBefore from old new tasks = (q : ℕ) (task : Held) → Starts old new tasks q task → q < from

-- where nothing was issued, nothing became outstanding
never : (flying : List Flying) (tasks : List Held) (q : ℕ) (task : Held) → Starts flying flying tasks q task → true ≡ false
never flying tasks q task start = sym start.is ∙ start.was_not

pub in_order_none : (flying : List Flying) (tasks : List Held) → IssuesInOrder flying flying tasks
in_order_none flying tasks p q earlier later less may start = let no = never flying tasks q later start in absurd cc

pub before_none : (from : ℕ) (flying : List Flying) (tasks : List Held) → StartBefore from flying flying tasks
before_none from flying tasks q task start = let no = never flying tasks q task start in absurd cc

-- one more task is issued, behind all that were
module _ (old mid new : List Flying) (tasks : List Held) (from place : ℕ) (own : AreOwnSlots tasks) (behind : StartBefore from old mid tasks) (next : from ≤ place) (step : IssuesAtMost tasks place mid new) where
  -- what is outstanding was so before, or is the one that was issued
  was_or_is : (q : ℕ) (task : Held) → slice_get tasks q ≡ Some task → is_outstanding new task.slot ≡ true → (is_outstanding mid task.slot ≡ true) ⊎ (q ≡ place)
  was_or_is q task stands is = ⊎_elim (λ same. inl (ap (λ fs. is_outstanding fs task.slot) (sym same) ∙ is)) one step
    where
      one : IssuesOne tasks place mid new → (is_outstanding mid task.slot ≡ true) ⊎ (q ≡ place)
      one issued = go (is_outstanding mid task.slot) refl (issued.task.slot == task.slot) refl
        where
          all : (is_outstanding mid task.slot || ((issued.task.slot == task.slot) || false)) ≡ true
          all = sym (list_any-append (is_of_slot task.slot) mid (record { tag = issued.tag; slot = issued.task.slot } ∷ [])) ∙ ap (λ fs. is_outstanding fs task.slot) (sym issued.pushed) ∙ is

          go : (a : Bool) → is_outstanding mid task.slot ≡ a → (b : Bool) → (issued.task.slot == task.slot) ≡ b → (is_outstanding mid task.slot ≡ true) ⊎ (q ≡ place)
          go true was b here = inl was
          go false was true here = inr (one_place tasks q place task issued.task own stands issued.stands (sym (eqb-true issued.task.slot task.slot here)))
          go false was false here = let no : (false || (false || false)) ≡ true = ap (λ b. false || (b || false)) (sym here) ∙ ap (λ b. b || ((issued.task.slot == task.slot) || false)) (sym was) ∙ all in absurd cc

  pub before_next : StartBefore (place + 1) old new tasks
  before_next q task start =
      ⊎_elim (λ was. let before = behind q task (record { stands = start.stands; was_not = start.was_not; is = was }) in omega (arith, before, next)) (λ here. omega (arith, here)) (was_or_is q task start.stands start.is)

  pub in_order_next : IssuesInOrder old mid tasks → ((k : ℕ) → k < place → IsIssuedIfItMay mid tasks k) → length new ≤ 32 → IssuesInOrder old new tasks
  in_order_next so_far covered few p q earlier later less may start = ⊎_elim (λ same. subst (λ fs. is_outstanding (issued_before later.slot fs) earlier.slot ≡ true) (sym same) (still (ap (λ fs. is_outstanding fs later.slot) (sym same) ∙ start.is))) one step
    where
      still : is_outstanding mid later.slot ≡ true → is_outstanding (issued_before later.slot mid) earlier.slot ≡ true
      still was = so_far p q earlier later less may (record { stands = start.stands; was_not = start.was_not; is = was })

      one : IssuesOne tasks place mid new → is_outstanding (issued_before later.slot new) earlier.slot ≡ true
      one issued = subst (λ fs. is_outstanding (issued_before later.slot fs) earlier.slot ≡ true) (sym issued.pushed) (go (is_outstanding mid later.slot) refl)
        where
          f : Flying
          f = record { tag = issued.tag; slot = issued.task.slot }

          go : (b : Bool) → is_outstanding mid later.slot ≡ b → is_outstanding (issued_before later.slot (mid ++ f ∷ [])) earlier.slot ≡ true
          go true was = ap (λ fs. is_outstanding fs earlier.slot) (before-append (is_of_slot later.slot) mid (f ∷ []) was) ∙ still was
          go false was = ap (λ fs. is_outstanding fs earlier.slot) (before-last (is_of_slot later.slot) mid f was its_own) ∙ before_it
            where
              here : q ≡ place
              here = ⊎_elim (λ old_one. let no : true ≡ false = sym old_one ∙ was in absurd cc) (λ e. e) (was_or_is q later start.stands start.is)

              its_own : (issued.task.slot == later.slot) ≡ true
              its_own =
                  let at : slice_get tasks place ≡ Some later = ap (slice_get tasks) (sym here) ∙ start.stands in
                  let same : Some issued.task ≡ Some later = sym issued.stands ∙ at in
                  let task : issued.task ≡ later = cc in
                  eq-eqb issued.task.slot later.slot (ap (λ (h : Held). h.slot) task)

              before_it : is_outstanding mid earlier.slot ≡ true
              before_it =
                  ⊎_elim (λ full. absurd (omega (arith, full, few, ap length issued.pushed, length-append mid (f ∷ [])))) (λ each. each earlier may.ranged may.stands may.eligible may.ranged_is) (covered p (omega (arith, less, here)))
