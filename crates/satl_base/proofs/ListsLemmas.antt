-- The first element that passes, and the list without it.
use Rattle.std.proofs.Common.{◌≡◌, ◌⊎◌, ⊎_elim, refl, sym, ◌∙◌, ap, subst, inl, inr, ℕ, zero, suc, Bool, true, false, cond, List, [], ◌∷◌, ◌++◌, Option, Some, None, arith, ◌+◌, ◌<◌, length}
use Rattle.std.specs.Prelude.{map, if◌then◌else◌, slice_index_or, ◌||◌, filter, slice_get}
use Rattle.std.specs.Option.{option_map}
use Rattle.std.specs.List.{AllByRecursion, find, position_from, remove, list_any, sum_by}
use Rattle.std.proofs.lemmas.List.Folds.{fold-map}
use Rattle.satl_base.specs.Lists.{remove_first, IsIn, how_many, LeavesOut}

pub find-map : {X Y : Type 0} (f : X → Y) (p : Y → Bool) (xs : List X) → find p (map f xs) ≡ option_map f (find (λ x. p (f x)) xs)
find-map f p [] = refl
find-map f p (x ∷ xs) =
    elim (p (f x)) as (λ b. cond b (Some (f x)) (find p (map f xs)) ≡ option_map f (cond b (Some x) (find (λ y. p (f y)) xs)))
    [ true ↦ refl | false ↦ find-map f p xs ]

-- what holds of each holds of the one that is found
pub All-find : {X : Type 0} (P : X → Type 0) (p : X → Bool) (xs : List X) (y : X) → AllByRecursion P xs → find p xs ≡ Some y → P y
All-find P p [] y all h = cc
All-find P p (x ∷ xs) y all h =
    (elim (p x) as (λ b. cond b (Some x) (find p xs) ≡ Some y → P y)
    [ true ↦ λ e. let same : x ≡ y = cc in subst P same all.0 | false ↦ λ e. All-find P p xs y all.1 e ]) h

pub All-remove_first : {X : Type 0} (P : X → Type 0) (p : X → Bool) (xs : List X) → AllByRecursion P xs → AllByRecursion P (remove_first p xs)
All-remove_first P p [] all = all
All-remove_first P p (x ∷ xs) all =
    elim (p x) as (λ b. AllByRecursion P (if b then xs else x ∷ remove_first p xs))
    [ true ↦ all.1 | false ↦ (all.0, All-remove_first P p xs all.1) ]

pub All-weaken : {X : Type 0} (P Q : X → Type 0) → ((x : X) → P x → Q x) → (xs : List X) → AllByRecursion P xs → AllByRecursion Q xs
All-weaken P Q f [] all = all
All-weaken P Q f (x ∷ xs) all = (f x all.0, All-weaken P Q f xs all.1)

pub All-both : {X : Type 0} (P Q : X → Type 0) (xs : List X) → AllByRecursion P xs → AllByRecursion Q xs → AllByRecursion (λ x. P x × Q x) xs
All-both P Q [] a b = a
All-both P Q (x ∷ xs) a b = ((a.0, b.0), All-both P Q xs a.1 b.1)

pub All-in : {X : Type 0} (P : X → Type 0) (xs : List X) → ((x : X) → IsIn x xs → P x) → AllByRecursion P xs
All-in P [] f = tt
All-in P (x ∷ xs) f = (f x (inl refl), All-in P xs (λ y i. f y (inr i)))

pub All-push_end : {X : Type 0} (P : X → Type 0) (xs : List X) (y : X) → AllByRecursion P xs → P y → AllByRecursion P (xs ++ y ∷ [])
All-push_end P [] y all h = (h, tt)
All-push_end P (x ∷ xs) y all h = (all.0, All-push_end P xs y all.1 h)

-- to remove at the first place that passes is to remove the first that passes
pub position_removes : {X : Type 0} (p : X → Bool) (xs : List X) (i k : ℕ) → position_from p i xs ≡ Some k → (j : ℕ) × (k ≡ i + j) × (j < length xs) × (remove xs j ≡ remove_first p xs)
position_removes p [] i k h = absurd cc
position_removes p (x ∷ xs) i k h =
    (elim (p x) as (λ b. cond b (Some i) (position_from p (i + 1) xs) ≡ Some k → (j : ℕ) × (k ≡ i + j) × (j < length (x ∷ xs)) × (remove (x ∷ xs) j ≡ (if b then xs else x ∷ remove_first p xs))) [
      | true ↦ λ e. let same : i ≡ k = cc in (0, omega arith, omega arith, refl)
      | false ↦ λ e. let r = position_removes p xs (i + 1) k e in (suc r.0, omega (arith, r.1), omega (arith, r.2), ap (λ l. x ∷ l) r.3)
    ]) h

-- the first place that passes has the first that passes
pub position_finds : {X : Type 0} (p : X → Bool) (xs : List X) (i k : ℕ) → position_from p i xs ≡ Some k → (j : ℕ) × (k ≡ i + j) × (j < length xs) × ((d : X) → find p xs ≡ Some (slice_index_or xs j d))
position_finds p [] i k h = absurd cc
position_finds p (x ∷ xs) i k h =
    (elim (p x) as (λ b. cond b (Some i) (position_from p (i + 1) xs) ≡ Some k → (j : ℕ) × (k ≡ i + j) × (j < length (x ∷ xs)) × ((d : _) → cond b (Some x) (find p xs) ≡ Some (slice_index_or (x ∷ xs) j d))) [
      | true ↦ λ e. let same : i ≡ k = cc in (0, omega arith, omega arith, λ d. refl)
      | false ↦ λ e. let r = position_finds p xs (i + 1) k e in (suc r.0, omega (arith, r.1), omega (arith, r.2), r.3)
    ]) h

pub position_finds_none : {X : Type 0} (p : X → Bool) (xs : List X) (i : ℕ) → position_from p i xs ≡ None → find p xs ≡ None
position_finds_none p [] i h = refl
position_finds_none p (x ∷ xs) i h =
    (elim (p x) as (λ b. cond b (Some i) (position_from p (i + 1) xs) ≡ None → cond b (Some x) (find p xs) ≡ None)
    [ true ↦ λ e. absurd cc | false ↦ λ e. position_finds_none p xs (i + 1) e ]) h

pub find_passes : {X : Type 0} (p : X → Bool) (xs : List X) (y : X) → find p xs ≡ Some y → p y ≡ true
find_passes p [] y h = absurd cc
find_passes p (x ∷ xs) y h =
    (elim (p x) as (λ b. p x ≡ b → cond b (Some x) (find p xs) ≡ Some y → p y ≡ true)
    [ true ↦ λ t e. let same : x ≡ y = cc in ap p (sym same) ∙ t | false ↦ λ t e. find_passes p xs y e ]) refl h

-- what is counted without the one that is found, and that one
pub count_removed : {X : Type 0} (p q : X → Bool) (xs : List X) (y : X) → find p xs ≡ Some y → how_many q (remove_first p xs) + how_many q (y ∷ []) ≡ how_many q xs
count_removed p q [] y h = absurd cc
count_removed p q (x ∷ xs) y h =
    (elim (p x) as (λ b. cond b (Some x) (find p xs) ≡ Some y → how_many q (if b then xs else x ∷ remove_first p xs) + how_many q (y ∷ []) ≡ how_many q (x ∷ xs)) [
      | true ↦ λ e. let same : x ≡ y = cc in subst (λ z. how_many q xs + how_many q (z ∷ []) ≡ how_many q (x ∷ xs)) same (omega arith)
      | false ↦ λ e. let r = count_removed p q xs y e in step (if q x then 1 else 0) _ _ _ r
    ]) h
  where
    step : (a b c d : ℕ) → b + c ≡ d → (a + b) + c ≡ a + d
    step a b c d h = omega arith

-- none is counted where none passes
pub none_counted : {X : Type 0} (p : X → Bool) (xs : List X) → how_many p xs ≡ 0 → list_any p xs ≡ false
none_counted p [] h = refl
none_counted p (x ∷ xs) h =
    (elim (p x) as (λ b. (if b then 1 else 0) + how_many p xs ≡ 0 → (b || list_any p xs) ≡ false)
    [ true ↦ λ e. absurd (omega arith) | false ↦ λ e. none_counted p xs (omega arith) ]) h

pub length-remove_first : {X : Type 0} (p : X → Bool) (xs : List X) (y : X) → find p xs ≡ Some y → length (remove_first p xs) + 1 ≡ length xs
length-remove_first p [] y h = absurd cc
length-remove_first p (x ∷ xs) y h =
    (elim (p x) as (λ b. cond b (Some x) (find p xs) ≡ Some y → length (if b then xs else x ∷ remove_first p xs) + 1 ≡ length (x ∷ xs))
    [ true ↦ λ e. omega arith | false ↦ λ e. omega (arith, length-remove_first p xs y e) ]) h

pub how_many-push : {X : Type 0} (p : X → Bool) (xs : List X) (y : X) → how_many p (xs ++ y ∷ []) ≡ how_many p xs + how_many p (y ∷ [])
how_many-push p [] y = omega arith
how_many-push p (x ∷ xs) y = omega (arith, how_many-push p xs y)

pub sum_by-map : {X Y : Type 0} (f : X → Y) (g : Y → ℕ) (xs : List X) → sum_by g (map f xs) ≡ sum_by (λ x. g (f x)) xs
sum_by-map f g xs = fold-map (λ n y. n + g y) f 0 xs

-- the place that a search gave
module _ {X : Type 0} (p : X → Bool) (xs seen : List X) (o : Option ℕ) (place : ℕ) (same : seen ≡ xs) (is : o ≡ position_from p 0 seen) (some : o ≡ Some place) where
  there : position_from p 0 xs ≡ Some place
  there = ap (position_from p 0) (sym same) ∙ sym is ∙ some

  pub place_within : place < length xs
  place_within = let r = position_finds p xs 0 place there in omega (arith, r.1, r.2)

  pub place_finds : (y : X) → y ≡ slice_index_or xs place y → find p xs ≡ Some y
  place_finds y at = let r = position_finds p xs 0 place there in let here : place ≡ r.0 = omega (arith, r.1) in r.3 y ∙ ap Some (ap (λ k. slice_index_or xs k y) (sym here) ∙ sym at)

  pub place_removes : remove xs place ≡ remove_first p xs
  place_removes = let r = position_removes p xs 0 place there in let here : place ≡ r.0 = omega (arith, r.1) in ap (remove xs) here ∙ r.3

pub in_left : {X : Type 0} (v : X) (xs ys : List X) → IsIn v xs → IsIn v (xs ++ ys)
in_left v [] ys h = absurd h
in_left v (x ∷ xs) ys h = ⊎_elim (λ e. inl e) (λ r. inr (in_left v xs ys r)) h

pub in_right : {X : Type 0} (v : X) (xs ys : List X) → IsIn v ys → IsIn v (xs ++ ys)
in_right v [] ys h = h
in_right v (x ∷ xs) ys h = inr (in_right v xs ys h)

pub in_either : {X : Type 0} (v : X) (xs ys : List X) → IsIn v (xs ++ ys) → IsIn v xs ⊎ IsIn v ys
in_either v [] ys h = inr h
in_either v (x ∷ xs) ys h = ⊎_elim (λ e. inl (inl e)) (λ r. ⊎_elim (λ l. inl (inr l)) (λ q. inr q) (in_either v xs ys r)) h

-- none is left out
pub leaves_none : {X : Type 0} (xs : List X) → LeavesOut xs xs
leaves_none [] = tt
leaves_none (x ∷ xs) = inr (refl, leaves_none xs)

-- all are left out
pub leaves_all : {X : Type 0} (xs : List X) → LeavesOut xs []
leaves_all [] = tt
leaves_all (x ∷ xs) = tt

-- the first is left out too
pub leaves_first : {X : Type 0} (x : X) (xs ys : List X) → LeavesOut xs ys → LeavesOut (x ∷ xs) ys
leaves_first x xs [] h = tt
leaves_first x xs (y ∷ ys) h = inl h

pub leaves_on : {X : Type 0} (xs ys zs : List X) → LeavesOut xs ys → LeavesOut ys zs → LeavesOut xs zs
leaves_on [] [] zs p q = q
leaves_on [] (y ∷ ys) zs p q = absurd p
leaves_on (x ∷ xs) [] [] p q = tt
leaves_on (x ∷ xs) [] (z ∷ zs) p q = absurd q
leaves_on (x ∷ xs) (y ∷ ys) [] p q = tt
leaves_on (x ∷ xs) (y ∷ ys) (z ∷ zs) p q =
    ⊎_elim
    (λ a. inl (leaves_on xs (y ∷ ys) (z ∷ zs) a q))
    (λ a. ⊎_elim (λ b. inl (leaves_on xs ys (z ∷ zs) a.1 b)) (λ b. inr (a.0 ∙ b.0, leaves_on xs ys zs a.1 b.1)) q)
    p

-- one more at the end of both
pub leaves_push : {X : Type 0} (xs ys : List X) (v : X) → LeavesOut xs ys → LeavesOut (xs ++ v ∷ []) (ys ++ v ∷ [])
leaves_push [] [] v h = inr (refl, tt)
leaves_push [] (y ∷ ys) v h = absurd h
leaves_push (x ∷ xs) [] v h = inl (leaves_push xs [] v (leaves_all xs))
leaves_push (x ∷ xs) (y ∷ ys) v h =
    ⊎_elim (λ a. inl (leaves_push xs (y ∷ ys) v a)) (λ a. inr (a.0, leaves_push xs ys v a.1)) h

-- what is left was there before
pub leaves_in : {X : Type 0} (v : X) (xs ys : List X) → LeavesOut xs ys → IsIn v ys → IsIn v xs
leaves_in v xs [] h i = absurd i
leaves_in v [] (y ∷ ys) h i = absurd h
leaves_in v (x ∷ xs) (y ∷ ys) h i =
    ⊎_elim
    (λ a. inr (leaves_in v xs (y ∷ ys) a i))
    (λ a. ⊎_elim (λ e. inl (e ∙ sym a.0)) (λ r. inr (leaves_in v xs ys a.1 r)) i)
    h

-- one that was there may be left alone
pub leaves_only : {X : Type 0} (v : X) (xs : List X) → IsIn v xs → LeavesOut xs (v ∷ [])
leaves_only v [] i = absurd i
leaves_only v (x ∷ xs) i = ⊎_elim (λ e. inr (sym e, leaves_all xs)) (λ r. inl (leaves_only v xs r)) i

pub All-filter : {X : Type 0} (P : X → Type 0) (p : X → Bool) (xs : List X) → AllByRecursion P xs → AllByRecursion P (filter p xs)
All-filter P p [] all = all
All-filter P p (x ∷ xs) all =
    elim (p x) as (λ b. AllByRecursion P (cond b (x ∷ filter p xs) (filter p xs)))
    [ true ↦ (all.0, All-filter P p xs all.1) | false ↦ All-filter P p xs all.1 ]

pub get-map : {X Y : Type 0} (f : X → Y) (xs : List X) (k : ℕ) (x : X) → slice_get xs k ≡ Some x → slice_get (map f xs) k ≡ Some (f x)
get-map f [] k x h = absurd cc
get-map f (y ∷ ys) zero x h = let one : y ≡ x = cc in ap (λ z. Some (f z)) one
get-map f (y ∷ ys) (suc k) x h = get-map f ys k x h

pub push_not_empty : {X : Type 0} (xs : List X) (x : X) → xs ++ x ∷ [] ≡ [] → ⊥
push_not_empty [] x h = cc
push_not_empty (y ∷ ys) x h = cc

pub remove-map : {X Y : Type 0} (f : X → Y) (xs : List X) (i : ℕ) → map f (remove xs i) ≡ remove (map f xs) i
remove-map f [] zero = refl
remove-map f [] (suc i) = refl
remove-map f (x ∷ xs) zero = refl
remove-map f (x ∷ xs) (suc i) = ap (λ ys. f x ∷ ys) (remove-map f xs i)
