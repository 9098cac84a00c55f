-- What goes to each unit.
use Rattle.std.proofs.Common.{◌≡◌, ◌∙◌, refl, sym, subst, ℕ}
use Rattle.satl_frame.specs.declared.frames.Frame.{Frame}
use Rattle.satl_frame.specs.Pulls.{cut_to}
use Rattle.satl_step.specs.Events.{CanTake, IsWholeOf}
use Rattle.satl_fleet.specs.declared.shared.Shared.{Shared}
use Rattle.satl_fleet.specs.declared.shared.Shared.TheVariants as shared
use Rattle.satl_fleet.specs.Shared.{frame_of}

-- a unit that has lent no page may take it
pub can_take_again : (event : Shared) (free out : ℕ) (frame : Frame) → frame ≡ frame_of event → out ≡ 0 → CanTake frame free out
can_take_again event free out frame again none = subst (λ f. CanTake f free out) (sym again) (by event)
  where
    by : (event : Shared) → CanTake (frame_of event) free out
    by (shared.Manage m) = none
    by (shared.Turn count) = none
    by (shared.Bench e) = none
    by shared.End = none

-- it is whole with no page at all
pub whole_again : (event : Shared) (frame : Frame) → frame ≡ frame_of event → IsWholeOf frame (frame_of event)
whole_again event frame again = record { room = 0; cut = again ∙ by event }
  where
    by : (event : Shared) → frame_of event ≡ cut_to 0 (frame_of event)
    by (shared.Manage m) = refl
    by (shared.Turn count) = refl
    by (shared.Bench e) = refl
    by shared.End = refl
