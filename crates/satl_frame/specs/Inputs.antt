-- Whole inputs (profile).
use Rattle.std.specs.Prelude.{ℕ, ◌+◌, ◌≤◌, ◌≡◌, ◌⊎◌, List, [], ◌∷◌, ◌++◌, length, Some}
use Rattle.std.specs.List.{AllByRecursion, flat_map}
use Rattle.satl_base.specs.Fields.{IsBytes}
use Rattle.satl_frame.specs.Faults.{frame_fault}
use Rattle.satl_frame.specs.Frames.{spelled, IsFrame}
use Rattle.satl_frame.specs.Magic.{magic}
use Rattle.satl_frame.specs.declared.frames.Version.{Version}
use Rattle.satl_frame.specs.declared.frames.Reason.{Reason}
use Rattle.satl_frame.specs.declared.frames.Frame.{Frame}
use Rattle.satl_frame.specs.declared.frames.Frame.TheVariants as frames

-- the bytes of frames, one after another
abbrev pub all_spelled : List Frame → List ℕ
all_spelled frames = flat_map spelled frames

-- each is a frame of this version that ends within the limit, the first one begins at the offset, and END is the last one
abbrev pub AreFrames : Version → ℕ → ℕ → List Frame → Type 0
AreFrames version limit offset [] = Unit {0}
AreFrames version limit offset (f ∷ fs) =
    IsFrame version f × (offset + length (spelled f) ≤ limit) × (f ≡ frames.End → fs ≡ [])
    × AreFrames version limit (offset + length (spelled f)) fs

-- none of these is END
abbrev pub NoneEnds : List Frame → Type 0
NoneEnds fs = AllByRecursion (λ f. f ≡ frames.End → ⊥) fs

-- an input is the magic of a version, frames, and a rest
pub record Reads (limit : ℕ) (input : List ℕ) (version : Version) (fs : List Frame) (rest : List ℕ) : Type 0 where
  pub split : input ≡ magic version ++ (all_spelled fs ++ rest)
  pub each : AreFrames version limit 8 fs

-- a frame stands at the offset
pub record Stands (version : Version) (limit offset : ℕ) (input : List ℕ) : Type 0 where
  pub frame : Frame
  pub rest : List ℕ
  pub is_frame : IsFrame version frame
  pub split : input ≡ spelled frame ++ rest
  pub within : offset + length (spelled frame) ≤ limit

-- a reason refuses the bytes at the offset
abbrev pub IsRefused : Version → ℕ → ℕ → List ℕ → Type 0
IsRefused version limit offset input = (reason : Reason) × (frame_fault version limit offset input ≡ Some reason)

-- of any bytes from an offset on, a frame stands there or a reason refuses them
abbrev pub FrameOrRefusal : Type 0
FrameOrRefusal =
    (version : Version) (limit offset : ℕ) (input : List ℕ) → IsBytes input → Stands version limit offset input
    ⊎ IsRefused version limit offset input

-- and never both
abbrev pub NotBoth : Type 0
NotBoth =
    (version : Version) (limit offset : ℕ) (input : List ℕ) → Stands version limit offset input
    → IsRefused version limit offset input → ⊥

-- as many frames of one input are the same frames, of the same version, and the same bytes follow
abbrev pub OneWay : Type 0
OneWay = (limit : ℕ) (input : List ℕ) (version other : Version) (fs gs : List Frame) (rest behind : List ℕ) →
    Reads limit input version fs rest → Reads limit input other gs behind → length fs ≡ length gs → (version ≡ other)
    × (fs ≡ gs) × (rest ≡ behind)
