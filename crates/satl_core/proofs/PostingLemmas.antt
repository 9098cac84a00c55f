-- Conditions that are posted.
use Rattle.std.proofs.Common.{◌≡◌, refl, ap, cond, ℕ, suc, ◌+◌, Bool, true, false, List, [], ◌∷◌, length, Option, Some, None}
use Rattle.std.specs.List.{AllByRecursion}
use Rattle.satl_unit.specs.declared.attention.Attention.{Attention}
use Rattle.satl_unit.specs.Conditions.{IsInReportOrder, posted}
use Rattle.satl_unit.proofs.ConditionsLemmas.{posted-order}
use Rattle.satl_line.specs.Tasks.{Held}
use Rattle.satl_direct.specs.Attentions.{posted_for}
use Rattle.satl_core.specs.declared.managing.Posting.{Posting}
use Rattle.satl_core.specs.Managing.{condition_of, is_told, once_posted}

-- there are conditions for as many nexuses as before, in the order of report
posted_length : (for : ℕ → Bool) (what : Attention) (nexus : ℕ) (lists : List (List Attention)) → length (posted_for for what nexus lists) ≡ length lists
posted_length for what nexus [] = refl
posted_length for what nexus (conditions ∷ lists) = ap suc (posted_length for what (nexus + 1) lists)

posted_kept : (for : ℕ → Bool) (what : Attention) (nexus : ℕ) (lists : List (List Attention)) → AllByRecursion IsInReportOrder lists → AllByRecursion IsInReportOrder (posted_for for what nexus lists)
posted_kept for what nexus [] all = tt
posted_kept for what nexus (conditions ∷ lists) all =
    ((elim (for nexus) as (λ b. IsInReportOrder (cond b (posted what conditions) conditions)) [ true ↦ posted-order what conditions | false ↦ all.0 ]), posted_kept for what (nexus + 1) lists all.1)

pub once_length : (posts : Option Posting) (tasks : List Held) (lists : List (List Attention)) → length (once_posted posts tasks lists) ≡ length lists
once_length None tasks lists = refl
once_length (Some posting) tasks lists = posted_length (is_told posting tasks) (condition_of posting) 0 lists

pub once_kept : (posts : Option Posting) (tasks : List Held) (lists : List (List Attention)) → AllByRecursion IsInReportOrder lists → AllByRecursion IsInReportOrder (once_posted posts tasks lists)
once_kept None tasks lists all = all
once_kept (Some posting) tasks lists all = posted_kept (is_told posting tasks) (condition_of posting) 0 lists all
