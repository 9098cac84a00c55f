-- Words on lists.
use Rattle.std.specs.Prelude.{◌≡◌, ◌⊎◌, ℕ, zero, suc, ◌+◌, ◌==◌, Bool, if◌then◌else◌, List, [], ◌∷◌}
use Rattle.std.specs.List.{list_any}

-- the list but for the first element that passes (profile)
abbrev pub remove_first : {X : Type 0} → (X → Bool) → List X → List X
remove_first p [] = []
remove_first p (x ∷ xs) = if p x then xs else x ∷ remove_first p xs

-- one of these (profile)
abbrev pub IsIn : {X : Type 0} → X → List X → Type 0
IsIn x [] = ⊥
IsIn x (y ∷ ys) = (x ≡ y) ⊎ IsIn x ys

-- whether a number is one of these (profile)
abbrev pub is_in : ℕ → List ℕ → Bool
is_in n xs = list_any (λ x. n == x) xs

-- how many pass (profile)
abbrev pub how_many : {X : Type 0} → (X → Bool) → List X → ℕ
how_many p [] = 0
how_many p (x ∷ xs) = (if p x then 1 else 0) + how_many p xs

-- the second list is the first but for entries that were left out (profile)
abbrev pub LeavesOut : {X : Type 0} → List X → List X → Type 0
LeavesOut [] [] = Unit {0}
LeavesOut [] (y ∷ ys) = ⊥
LeavesOut (x ∷ xs) [] = Unit {0}
LeavesOut (x ∷ xs) (y ∷ ys) = LeavesOut xs (y ∷ ys) ⊎ ((x ≡ y) × LeavesOut xs ys)

-- the list with a change at one place; past its end nothing changes (profile)
abbrev pub change_at : {X : Type 0} → List X → ℕ → (X → X) → List X
change_at [] place f = []
change_at (x ∷ xs) zero f = f x ∷ xs
change_at (x ∷ xs) (suc place) f = x ∷ change_at xs place f

-- a value for each two at one place of two lists, as far as both have one (profile)
abbrev pub paired : {A B C : Type 0} → (A → B → C) → List A → List B → List C
paired f [] ys = []
paired f (x ∷ xs) [] = []
paired f (x ∷ xs) (y ∷ ys) = f x y ∷ paired f xs ys

-- two lists of one length: each element and the one at its place are so, by their number from this one on (profile)
abbrev pub EachAt : {X : Type 0} → (ℕ → X → X → Type 0) → ℕ → List X → List X → Type 0
EachAt R n [] [] = Unit {0}
EachAt R n [] (y ∷ ys) = ⊥
EachAt R n (x ∷ xs) [] = ⊥
EachAt R n (x ∷ xs) (y ∷ ys) = R n x y × EachAt R (suc n) xs ys
