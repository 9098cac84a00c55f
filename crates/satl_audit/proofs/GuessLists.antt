-- Guesses as lists.
use Rattle.std.proofs.Common.{◌≡◌, sym, ⊎_elim, inl, inr, refl, ap, ◌∙◌, subst, ℕ, Bool, true, false, List, [], ◌∷◌, map}
use Rattle.std.specs.Prelude.{if◌then◌else◌, filter, nat_eq}
use Rattle.std.specs.Cmp.Lexicographic.{pointwise, same_text}
use Rattle.std.proofs.lemmas.Bool.{both_ways}
use Rattle.satl_base.specs.declared.block.Block.{Block}
use Rattle.satl_base.specs.Lists.{IsIn}
use Rattle.satl_base.proofs.ListsLemmas.{in_either, in_left, in_right}
use Rattle.satl_audit.specs.Guesses.{Guess, all_may, has_now}
use Rattle.satl_audit.proofs.Each.{is_same}

-- ---- lists

-- what a function gave
pub record Given {X Y : Type 0} (f : X → Y) (xs : List X) (y : Y) : Type 0 where
  pub of : X
  pub among : IsIn of xs
  pub same : y ≡ f of

pub in_map : {X Y : Type 0} (f : X → Y) (xs : List X) (y : Y) → IsIn y (map f xs) → Given f xs y
in_map f [] y h = absurd h
in_map f (x ∷ xs) y h =
    ⊎_elim (λ e. record { of = x; among = inl refl; same = e }) (λ r. let g = in_map f xs y r in record { of = g.of; among = inr g.among; same = g.same }) h

pub map_in : {X Y : Type 0} (f : X → Y) (xs : List X) (x : X) → IsIn x xs → IsIn (f x) (map f xs)
map_in f [] x h = absurd h
map_in f (y ∷ xs) x h = ⊎_elim (λ e. inl (ap f e)) (λ r. inr (map_in f xs x r)) h

pub in_filter : {X : Type 0} (p : X → Bool) (xs : List X) (x : X) → IsIn x (filter p xs) → IsIn x xs × (p x ≡ true)
in_filter p [] x h = absurd h
in_filter p (y ∷ xs) x h =
    (elim (p y) as (λ b. p y ≡ b → IsIn x (if b then y ∷ filter p xs else filter p xs) → IsIn x (y ∷ xs) × (p x ≡ true)) [
      | true ↦ λ t i. ⊎_elim (λ e. (inl e, ap p e ∙ t)) (λ r. let q = in_filter p xs x r in (inr q.0, q.1)) i
      | false ↦ λ t i. let q = in_filter p xs x i in (inr q.0, q.1)
    ]) refl h

pub filter_in : {X : Type 0} (p : X → Bool) (xs : List X) (x : X) → IsIn x xs → p x ≡ true → IsIn x (filter p xs)
filter_in p [] x h t = absurd h
filter_in p (y ∷ xs) x h t =
    (elim (p y) as (λ b. p y ≡ b → IsIn x (if b then y ∷ filter p xs else filter p xs)) [
      | true ↦ λ s. ⊎_elim (λ e. inl e) (λ r. inr (filter_in p xs x r t)) h
      | false ↦ λ s. ⊎_elim (λ e. absurd (both_ways _ (ap p e ∙ s) t)) (λ r. filter_in p xs x r t) h
    ]) refl

-- the same bytes
pub bytes_same : (a b : List ℕ) → pointwise nat_eq b a ≡ true → a ≡ b
bytes_same a b h = sym (same_text b a (sym h))

pub same_is : (a : List ℕ) → pointwise nat_eq a a ≡ true
same_is [] = refl
same_is (x ∷ a) = rw (is_same x) (same_is a)

pub now_same : (v : Block) (g : Guess) → has_now v g ≡ true → g.now ≡ v
now_same v g h = block_same g.now v (bytes_same g.now.bytes v.bytes h)
  where
    block_same : (a b : Block) → a.bytes ≡ b.bytes → a ≡ b
    block_same a b e = ap (λ (bytes : List ℕ). record { bytes = bytes }) e

pub same_now : (v : Block) (g : Guess) → g.now ≡ v → has_now v g ≡ true
same_now v g e = subst (λ w. pointwise nat_eq w.bytes g.now.bytes ≡ true) e (same_is g.now.bytes)

-- the union
pub record Told (gs : List Guess) (w : Block) : Type 0 where
  pub guess : Guess
  pub among : IsIn guess gs
  pub may : IsIn w guess.may

pub in_all : (gs : List Guess) (g : Guess) (w : Block) → IsIn g gs → IsIn w g.may → IsIn w (all_may gs)
in_all [] g w i h = absurd i
in_all (k ∷ gs) g w i h =
    ⊎_elim (λ e. in_left w k.may (all_may gs) (subst (λ x. IsIn w x.may) e h)) (λ r. in_right w k.may (all_may gs) (in_all gs g w r h)) i

pub of_all : (gs : List Guess) (w : Block) → IsIn w (all_may gs) → Told gs w
of_all [] w h = absurd h
of_all (g ∷ gs) w h =
    ⊎_elim (λ l. record { guess = g; among = inl refl; may = l }) (λ r. let t = of_all gs w r in record { guess = t.guess; among = inr t.among; may = t.may }) (in_either w g.may (all_may gs) h)
