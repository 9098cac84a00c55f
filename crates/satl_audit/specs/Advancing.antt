-- An event of a record happens (profile).
use Rattle.std.specs.Prelude.{◌≡◌, ℕ, ◌+◌, ◌≤◌, Bool, true, false, List, ◌++◌, None}
use Rattle.satl_base.specs.declared.request.Request.{Request}
use Rattle.satl_frame.specs.declared.frames.Frame.{Frame}
use Rattle.satl_frame.specs.declared.frames.Frame.TheVariants as frames
use Rattle.satl_frame.specs.Output.{Answer, all_answered}
use Rattle.satl_direct.specs.Device.{Device}
use Rattle.satl_audit.specs.Arriving.{IsSent}
use Rattle.satl_audit.specs.Deciding.{AllWhole}
use Rattle.satl_audit.specs.Deeds.{Deed}
use Rattle.satl_audit.specs.Following.{Follows, SomeRefuses}
use Rattle.satl_audit.specs.Progress.{Progress, Recorded, device_in}
use Rattle.satl_audit.specs.Skeleton.{Stepped}
use Rattle.satl_audit.specs.Waiting.{Placed}

-- an event happens with the answers that come first in the output, and each sector goes along with it (SAM-5 5, 8; profile)
pub record GoesOn (r : Recorded) (event : Frame) (old new : Progress) : Type 0 where
  pub answers : List Answer
  pub deeds : List Deed
  pub stepped : Stepped event (device_in r old) answers deeds (device_in r new)
  pub whole : AllWhole deeds
  pub said : old.followed.output ≡ all_answered answers ++ new.followed.output
  pub follows : Follows r.input deeds old.sectors new.sectors

-- it cannot happen so: in each way that has the answers that come first in the output, some sector does not go along with it
-- (SAM-5 5, 8; profile)
abbrev pub CannotGoOn : Recorded → Frame → Progress → Type 0
CannotGoOn r event old = (answers : List Answer) (deeds : List Deed) (new : Device) (left : List ℕ) →
    Stepped event (device_in r old) answers deeds new → AllWhole deeds → old.followed.output ≡ all_answered answers ++ left →
    SomeRefuses r.input deeds old.sectors

-- it happens so, or it cannot (SAM-5 5, 8; profile)
abbrev pub Advances : Recorded → Frame → Progress → Progress → Bool → Type 0
Advances r event old new true = GoesOn r event old new
Advances r event old new false = CannotGoOn r event old

-- a request may arrive: its data-out stands at a place of the input (SAM-5 5; profile)
abbrev pub MayHappen : List ℕ → ℕ → List Placed → Frame → Type 0
MayHappen input at waiting (frames.Request r) = IsSent input at r waiting
MayHappen input at waiting _ = Unit {0}

-- a request is of one of the four nexuses and of version 1, and its data-out ends within so many bytes from a place on
-- (profile)
pub record IsGood (size at : ℕ) (r : Request) : Type 0 where
  pub nexus : r.nexus ≤ 3
  pub expected : r.expected ≡ None
  pub within : at + r.data_len ≤ size

abbrev pub IsGoodFrame : ℕ → ℕ → Frame → Type 0
IsGoodFrame size at (frames.Request r) = IsGood size at r
IsGoodFrame size at _ = Unit {0}
