-- Catching up: the first sweep that was missed, and whether the power was lost, tell all.
use Rattle.std.proofs.Common.{arith, ◌≡◌, refl, sym, ap, ◌∙◌, ℕ, zero, suc, ◌≤◌, Bool, true, false, List, [], ◌∷◌, length, drop}
use Rattle.std.specs.Prelude.{None, Option, Some, if◌then◌else◌, nat_lt, slice_get}
use Rattle.std.specs.List.{HoldsAt}
use Rattle.std.specs.Option.{MatchOption, option_copied}
use Rattle.std.proofs.lemmas.Option.{slice_get_past}
use Rattle.std.proofs.Common.{Bor, ◌<◌}
use Rattle.satl_audit.specs.Kept.{Keeping, kept_power, kept_settle}
use Rattle.satl_audit.specs.Sweeps.{after_first, caught_up, has_power}
use Rattle.satl_audit.specs.declared.content.Content.{Content}
use Rattle.satl_audit.specs.declared.sectors.Sweep.{Sweep}
use Rattle.satl_audit.specs.declared.sectors.Sweep.TheVariants.{Settled, Powered}

-- a sector whose block is not known stays as it is
idle : (es : List Sweep) (may : List Content) → caught_up es (record { now = None; may = may }) ≡ record { now = None; may = may }
idle [] may = refl
idle (Settled ∷ es) may = idle es may
idle (Powered ∷ es) may = idle es may

-- a block that alone is left
alone : (es : List Sweep) (v : Content) → caught_up es (record { now = Some v; may = v ∷ [] }) ≡ (if has_power es then record { now = None; may = v ∷ [] } else record { now = Some v; may = v ∷ [] })
alone [] v = refl
alone (Settled ∷ es) v = alone es v
alone (Powered ∷ es) v = idle es (v ∷ [])

-- the same in either case
same_case : (b : Bool) (k : Keeping) → k ≡ (if b then k else k)
same_case true k = refl
same_case false k = refl

-- a sector that has missed these is that behind the first of them, with the power lost or not
abbrev pub if_lost : Bool → Keeping → Keeping
if_lost lost k = if lost then kept_power k else k

from_first : (es : List Sweep) (k : Keeping) → caught_up es k ≡ if_lost (has_power es) (after_first (slice_get es 0) k)
from_first [] k = refl
from_first (Powered ∷ es) k = idle es k.may
from_first (Settled ∷ es) k = by_now k.now k.may
  where
    by_now : (now : Option Content) (may : List Content) → caught_up (Settled ∷ es) (record { now = now; may = may }) ≡ if_lost (has_power es) (kept_settle (record { now = now; may = may }))
    by_now None may = idle es may ∙ same_case (has_power es) (record { now = None; may = may })
    by_now (Some v) may = alone es v

first_of : (n : ℕ) (ss : List Sweep) → slice_get (drop n ss) 0 ≡ slice_get ss n
first_of zero ss = refl
first_of (suc n) [] = refl
first_of (suc n) (x ∷ ss) = first_of n ss

pub caught_is : (n at_loss : ℕ) (ss : List Sweep) (k : Keeping) → has_power (drop n ss) ≡ nat_lt n at_loss → caught_up (drop n ss) k ≡ if_lost (nat_lt n at_loss) (after_first (slice_get ss n) k)
caught_is n at_loss ss k lost =
    from_first (drop n ss) k
    ∙ ap (λ (b : Bool). if_lost b (after_first (slice_get (drop n ss) 0) k)) lost
    ∙ ap (λ (o : Option Sweep). if_lost (nat_lt n at_loss) (after_first o k)) (first_of n ss)

-- what a slice gives at an index
at_index : (ss : List Sweep) (n : ℕ) (y : Sweep) → n < length ss → HoldsAt (λ s. y ≡ s) ss n → Some y ≡ slice_get ss n
at_index [] n y less h = absurd (omega (arith, less))
at_index (s ∷ ss) zero y less h = ap Some (h s)
at_index (s ∷ ss) (suc n) y less h = at_index ss n y (omega (arith, less)) h

pub copied_at : (ss : List Sweep) (n : ℕ) (r : Option (Bor Sweep)) → MatchOption r (length ss ≤ n) (λ x. (n < length ss) × HoldsAt (λ y. x.now ≡ y) ss n) → option_copied r ≡ slice_get ss n
copied_at ss n None m = sym (slice_get_past ss n m)
copied_at ss n (Some x) m = at_index ss n x.now m.0 m.1
