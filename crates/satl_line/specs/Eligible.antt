-- Which tasks of a list may be carried out.
use Rattle.std.specs.Prelude.{◌≡◌, ◌⊎◌, ℕ, Bool, false, not, List, [], ◌∷◌, take, slice_get, unwrap_or}
use Rattle.std.specs.Option.{option_map}
use Rattle.std.specs.List.{list_any}
use Rattle.satl_line.specs.declared.entry.Entry.{Entry}
use Rattle.satl_line.specs.Conflict.{conflicts}

-- the task stands in the list, and no task before it conflicts with it, by this test of conflict (profile)
abbrev pub IsEligibleBy : {X : Type 0} → (X → X → Bool) → List X → X → Type 0
IsEligibleBy conflict [] task = ⊥
IsEligibleBy conflict (first ∷ rest) task = (first ≡ task) ⊎ ((conflict first task ≡ false) × IsEligibleBy conflict rest task)

-- whether none of these tasks conflicts with it (profile)
abbrev pub is_clear_by : {X : Type 0} → (X → X → Bool) → List X → X → Bool
is_clear_by conflict earlier task = not (list_any (λ other. conflict other task) earlier)

-- whether a task stands at a place, and no task before it conflicts with it (profile)
abbrev pub eligible_by : {X : Type 0} → (X → X → Bool) → List X → ℕ → Bool
eligible_by conflict tasks place =
    unwrap_or (option_map (is_clear_by conflict (take place tasks)) (slice_get tasks place)) false

-- the task stands in the list, and no earlier task conflicts with it (profile)
abbrev pub IsEligible : List Entry → Entry → Type 0
IsEligible tasks task = IsEligibleBy conflicts tasks task

-- whether a task stands at a place, and no earlier task conflicts with it (profile)
abbrev pub eligible_at : List Entry → ℕ → Bool
eligible_at tasks place = eligible_by conflicts tasks place
