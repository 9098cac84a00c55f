-- What holds of each task behind one of a nexus and tag, and what keeps that.
use Rattle.std.proofs.Common.{◌≡◌, sym, ◌∙◌, cond, Bool, true, false, List, [], ◌∷◌, ◌++◌}
use Rattle.std.specs.Prelude.{filter, if◌then◌else◌}
use Rattle.std.specs.List.{AllByRecursion, list_any}
use Rattle.std.proofs.lemmas.Bool.{or_parts}
use Rattle.satl_base.specs.Lists.{remove_first}
use Rattle.satl_base.proofs.ListsLemmas.{All-filter, All-push_end, All-remove_first, All-weaken}

module _ {X : Type 0} (p : X → Bool) where
  -- each one behind one that passes is so
  abbrev pub Behind : (X → Type 0) → List X → Type 0
  Behind Q [] = Unit {0}
  Behind Q (x ∷ xs) = (p x ≡ true → AllByRecursion Q xs) × Behind Q xs

  pub behind_weaken : (P Q : X → Type 0) → ((x : X) → P x → Q x) → (xs : List X) → Behind P xs → Behind Q xs
  behind_weaken P Q f [] h = tt
  behind_weaken P Q f (x ∷ xs) h = ((λ it. All-weaken P Q f xs (h.0 it)), behind_weaken P Q f xs h.1)

  module _ (Q : X → Type 0) where
    pub behind_removed : (q : X → Bool) (xs : List X) → Behind Q xs → Behind Q (remove_first q xs)
    behind_removed q [] h = tt
    behind_removed q (x ∷ xs) h =
        elim (q x) as (λ b. Behind Q (if b then xs else x ∷ remove_first q xs))
        [ true ↦ h.1 | false ↦ ((λ it. All-remove_first Q q xs (h.0 it)), behind_removed q xs h.1) ]

    pub behind_filter : (q : X → Bool) (xs : List X) → Behind Q xs → Behind Q (filter q xs)
    behind_filter q [] h = tt
    behind_filter q (x ∷ xs) h =
        elim (q x) as (λ b. Behind Q (cond b (x ∷ filter q xs) (filter q xs)))
        [ true ↦ ((λ it. All-filter Q q xs (h.0 it)), behind_filter q xs h.1) | false ↦ behind_filter q xs h.1 ]

    -- one that is so comes
    pub behind_push : (xs : List X) (y : X) → Behind Q xs → Q y → Behind Q (xs ++ y ∷ [])
    behind_push [] y h new = ((λ it. tt), tt)
    behind_push (x ∷ xs) y h new = ((λ it. All-push_end Q xs y (h.0 it) new), behind_push xs y h.1 new)

    -- where none passes, all are so
    pub behind_none : (xs : List X) → list_any p xs ≡ false → Behind Q xs
    behind_none [] none = tt
    behind_none (x ∷ xs) none = let parts = or_parts (p x) (list_any p xs) none in ((λ it. absurd (let no : true ≡ false = sym it ∙ parts.0 in cc)), behind_none xs parts.1)

    -- and any may come
    pub behind_first : (xs : List X) (y : X) → list_any p xs ≡ false → Behind Q (xs ++ y ∷ [])
    behind_first [] y none = ((λ it. tt), tt)
    behind_first (x ∷ xs) y none = let parts = or_parts (p x) (list_any p xs) none in ((λ it. absurd (let no : true ≡ false = sym it ∙ parts.0 in cc)), behind_first xs y parts.1)
