-- What holds of all in a row, and of each part of it.
use Rattle.std.proofs.Common.{⊎_elim, sym, subst, List, [], ◌∷◌, ◌++◌}
use Rattle.std.specs.List.{AllByRecursion}
use Rattle.satl_base.specs.Lists.{IsIn}
use Rattle.satl_base.proofs.ListsLemmas.{All-both, All-weaken}

-- what holds of all holds of those in front, of the one, and of those behind
pub all_front : {X : Type 0} (P : X → Type 0) (front back : List X) (i : X) → AllByRecursion P (front ++ i ∷ back) → AllByRecursion P front
all_front P [] back i all = tt
all_front P (k ∷ front) back i all = (all.0, all_front P front back i all.1)

pub all_at : {X : Type 0} (P : X → Type 0) (front back : List X) (i : X) → AllByRecursion P (front ++ i ∷ back) → P i
all_at P [] back i all = all.0
all_at P (k ∷ front) back i all = all_at P front back i all.1

pub all_back : {X : Type 0} (P : X → Type 0) (front back : List X) (i : X) → AllByRecursion P (front ++ i ∷ back) → AllByRecursion P back
all_back P [] back i all = all.1
all_back P (k ∷ front) back i all = all_back P front back i all.1

pub all_joined : {X : Type 0} (P : X → Type 0) (front back : List X) (i : X) → AllByRecursion P front → P i → AllByRecursion P back → AllByRecursion P (front ++ i ∷ back)
all_joined P [] back i f p b = (p, b)
all_joined P (k ∷ front) back i f p b = (f.0, all_joined P front back i f.1 p b)

-- what holds of all holds of one of them
pub in_all : {X : Type 0} (P : X → Type 0) (xs : List X) (x : X) → AllByRecursion P xs → IsIn x xs → P x
in_all P [] x all i = elim i [ ]
in_all P (y ∷ ys) x all i = ⊎_elim (λ same. subst P (sym same) all.0) (λ later. in_all P ys x all.1 later) i

-- what follows from two facts, where both hold of all
pub all_from : {X : Type 0} (P Q R : X → Type 0) → ((x : X) → P x → Q x → R x) → (xs : List X) → AllByRecursion P xs → AllByRecursion Q xs → AllByRecursion R xs
all_from P Q R f xs p q = All-weaken (λ x. P x × Q x) R (λ x both. f x both.0 both.1) xs (All-both P Q xs p q)

-- and of one row, where another takes the place of one in it
pub all_replaced : {X : Type 0} (P Q R : X → Type 0) → ((x : X) → P x → Q x → R x) → (front back : List X) (i j : X) → AllByRecursion P front → AllByRecursion P back
    → AllByRecursion Q (front ++ i ∷ back) → R j → AllByRecursion R (front ++ j ∷ back)
all_replaced P Q R f front back i j fronts backs all new =
    all_joined R front back j (all_from P Q R f front fronts (all_front Q front back i all)) new (all_from P Q R f back backs (all_back Q front back i all))
