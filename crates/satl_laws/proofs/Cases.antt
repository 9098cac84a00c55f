-- Facts that are given by cases, and what a list counts.
use Rattle.std.proofs.Common.{◌≡◌, ◌+◌, Bool, true, false, List, [], ◌∷◌, ◌++◌, Option, Some, None, arith, cond}
use Rattle.std.specs.Prelude.{MatchBool, MatchOption, if◌then◌else◌, not, filter}
use Rattle.satl_base.specs.Lists.{how_many}

-- from each of the two cases of a test
pub by_bool : {A B C : Type 0} (b : Bool) → (A → C) → (B → C) → MatchBool b A B → C
by_bool true f g h = f h
by_bool false f g h = g h

-- of two, one that a test chooses
pub chosen : {X : Type 0} {x y : X} (P : X → Type 0) (b : Bool) → P x → P y → P (if b then x else y)
chosen P true p q = p
chosen P false p q = q

-- from each of the two cases of an option
pub by_option : {X A C : Type 0} {B : X → Type 0} (o : Option X) → (A → C) → ((x : X) → B x → C) → MatchOption o A B → C
by_option None f g h = f h
by_option (Some x) f g h = g x h

-- what is counted in two lists
pub how_many-append : {X : Type 0} (p : X → Bool) (xs ys : List X) → how_many p (xs ++ ys) ≡ how_many p xs + how_many p ys
how_many-append p [] ys = omega arith
how_many-append p (x ∷ xs) ys = omega (arith, how_many-append p xs ys)

-- what passes a filter, and what does not
pub how_many-filter : {X : Type 0} (p q : X → Bool) (xs : List X) → how_many q (filter (λ x. not (p x)) xs) + how_many q (filter p xs) ≡ how_many q xs
how_many-filter p q [] = omega arith
how_many-filter p q (x ∷ xs) =
    elim (p x) as (λ b. how_many q (cond (not b) (x ∷ filter (λ y. not (p y)) xs) (filter (λ y. not (p y)) xs)) + how_many q (cond b (x ∷ filter p xs) (filter p xs)) ≡ how_many q (x ∷ xs))
    [ true ↦ omega (arith, how_many-filter p q xs) | false ↦ omega (arith, how_many-filter p q xs) ]
