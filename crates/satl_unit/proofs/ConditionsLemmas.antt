-- Sets of conditions in the order of report.
use Rattle.std.proofs.Common.{◌≡◌, inr, Bool, true, false, cond, List, [], ◌∷◌, refl, ap, sym, ◌∙◌}
use Rattle.std.specs.Prelude.{◌||◌, ◌&&◌, filter}
use Rattle.std.proofs.lemmas.List.Elements.{filter_agree}
use Rattle.std.proofs.lemmas.Map.Views.{any-filter_same}
use Rattle.satl_base.specs.Lists.{LeavesOut}
use Rattle.satl_base.proofs.ListsLemmas.{leaves_first}
use Rattle.satl_base.proofs.Booleans.{and_true}
use Rattle.satl_unit.specs.declared.attention.Attention.{Attention}
use Rattle.satl_unit.specs.declared.attention.Attention.TheVariants.{PowerOn, UnitReset, NexusLoss, Cleared, ModeChanged}
use Rattle.satl_unit.specs.Conditions.{IsInReportOrder, is_posted, is_same, posted, report_order}

same_is : (a b : Attention) → is_same a b ≡ true → a ≡ b
same_is PowerOn PowerOn h = refl
same_is UnitReset UnitReset h = refl
same_is NexusLoss NexusLoss h = refl
same_is Cleared Cleared h = refl
same_is ModeChanged ModeChanged h = refl
same_is a b h = absurd cc

listed : (a : Attention) (b : Bool) → (b && is_posted a report_order) ≡ b
listed PowerOn b = and_true b
listed UnitReset b = and_true b
listed NexusLoss b = and_true b
listed Cleared b = and_true b
listed ModeChanged b = and_true b

-- a test picks a condition where it passes it
pub picked-posted : (p : Attention → Bool) (a : Attention) → is_posted a (filter p report_order) ≡ p a
picked-posted p a = any-filter_same (is_same a) p (p a) (λ b e. ap p (sym (same_is a b e))) report_order ∙ listed a (p a)

leaves_filter : (p : Attention → Bool) (some : List Attention) → LeavesOut some (filter p some)
leaves_filter p [] = tt
leaves_filter p (a ∷ some) =
    elim (p a) as (λ b. LeavesOut (a ∷ some) (cond b (a ∷ filter p some) (filter p some)))
    [ true ↦ inr (refl, leaves_filter p some) | false ↦ leaves_first a some (filter p some) (leaves_filter p some) ]

-- what a test picks stands in the order of report
pub picked-order : (p : Attention → Bool) → IsInReportOrder (filter p report_order)
picked-order p = leaves_filter p report_order

pub posted-members : (what a : Attention) (some : List Attention) → is_posted a (posted what some) ≡ (is_same a what || is_posted a some)
unfolding posted
posted-members what a some = picked-posted (λ b. is_same b what || is_posted b some) a

pub posted-order : (what : Attention) (some : List Attention) → IsInReportOrder (posted what some)
unfolding posted
posted-order what some = picked-order (λ a. is_same a what || is_posted a some)

-- the same members, one after another
pub posted-alike : (a b : Attention) (some more : List Attention) → ((x : Attention) → (is_same x a || is_posted x some) ≡ (is_same x b || is_posted x more)) → posted a some ≡ posted b more
unfolding posted
posted-alike a b some more h = filter_agree (λ x. is_same x a || is_posted x some) (λ x. is_same x b || is_posted x more) h report_order

or_swap : (p q r : Bool) → (p || (q || r)) ≡ (q || (p || r))
or_swap true true r = refl
or_swap true false r = refl
or_swap false true r = refl
or_swap false false r = refl

or_again : (p r : Bool) → (p || (p || r)) ≡ (p || r)
or_again true r = refl
or_again false r = refl

pub posted-either : (a b : Attention) (some : List Attention) → posted a (posted b some) ≡ posted b (posted a some)
posted-either a b some =
    posted-alike a b (posted b some) (posted a some)
    (λ x. rw (posted-members b x some, posted-members a x some) (or_swap (is_same x a) (is_same x b) (is_posted x some)))

pub posted-again : (a : Attention) (some : List Attention) → posted a (posted a some) ≡ posted a some
posted-again a some =
    posted-alike a a (posted a some) some (λ x. rw (posted-members a x some) (or_again (is_same x a) (is_posted x some)))
