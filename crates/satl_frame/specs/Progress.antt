-- How far a reader has come in its input (profile).
use Rattle.std.specs.Prelude.{ℕ, ◌+◌, ◌≡◌, true, List, [], ◌∷◌, ◌++◌, length, Option, Some, None}
use Rattle.satl_io.specs.Known.{Took}
use Rattle.satl_frame.specs.Faults.{fault}
use Rattle.satl_frame.specs.Inputs.{all_spelled, AreFrames, NoneEnds}
use Rattle.satl_frame.specs.Magic.{magic, version_code, names_version}
use Rattle.satl_frame.specs.Reading.{Reading, Gave, Blames}
use Rattle.satl_frame.specs.declared.frames.Version.{Version}
use Rattle.satl_frame.specs.declared.frames.Frame.{Frame}
use Rattle.satl_frame.specs.declared.frames.Frame.TheVariants as frames
use Rattle.satl_frame.specs.declared.frames.FrameFault.TheVariants.{Bad}
use Rattle.satl_frame.specs.declared.frames.Place.{Place}
use Rattle.satl_frame.specs.declared.frames.Reason.{Reason}

-- the magic of an accepted version and these frames were taken, and the place is that behind them
pub record ReadTo (limit : ℕ) (newest : Version) (place : Place) (left left' : Option (List ℕ)) (fs : List Frame) : Type 0 where
  pub named : names_version newest (version_code place.version) ≡ true
  pub took : Took left left' (magic place.version ++ all_spelled fs)
  pub offset_is : place.offset ≡ 8 + length (all_spelled fs)
  pub each : AreFrames place.version limit 8 fs

-- the same, or nothing was read yet
abbrev pub ReadUpTo : ℕ → Version → Option Place → Option (List ℕ) → Option (List ℕ) → List Frame → Type 0
ReadUpTo limit newest None left left' fs = (fs ≡ []) × (left' ≡ left)
ReadUpTo limit newest (Some place) left left' fs = ReadTo limit newest place left left' fs

-- a reader has given these frames
abbrev pub HasRead : Reading → Option (List ℕ) → Option (List ℕ) → List Frame → Type 0
HasRead r left left' fs = ReadUpTo r.limit r.newest r.place left left' fs

-- an input can be read to END: the magic of an accepted version, these frames, END, and a rest
pub record ReadsToEnd (limit : ℕ) (newest : Version) (input : List ℕ) (fs : List Frame) (rest : List ℕ) : Type 0 where
  pub place : Place
  pub read : ReadTo limit newest place (Some input) (Some rest) (fs ++ frames.End ∷ [])

-- before END of an input that can be read to END a reader refuses nothing
abbrev pub NoneRefused : Type 0
NoneRefused =
    (r : Reading) (input : List ℕ) (fs given : List Frame) (rest : List ℕ) (mid left' : Option (List ℕ)) (reason : Reason)
    (offset : ℕ) →
    ReadsToEnd r.limit r.newest input fs rest → HasRead r (Some input) mid given → NoneEnds given
    → Blames r mid left' (Bad reason offset) → ⊥

-- and what it gives next is the next frame of that input
abbrev pub NextGiven : Type 0
NextGiven =
    (old new : Reading) (input : List ℕ) (fs given : List Frame) (rest : List ℕ) (mid left' : Option (List ℕ)) (room : ℕ)
    (frame : Frame) →
    ReadsToEnd old.limit old.newest input fs rest → HasRead old (Some input) mid given → NoneEnds given
    → (gave : Gave old room frame new mid left') →
    (later : List Frame) × (given ++ gave.whole ∷ later ≡ fs ++ frames.End ∷ [])

-- what a reader refuses, behind the frames that it gave, is refused in its input, at that offset and for that reason
abbrev pub RefusedThere : Type 0
RefusedThere =
    (r : Reading) (input : List ℕ) (given : List Frame) (mid left' : Option (List ℕ)) (reason : Reason) (offset : ℕ) →
    HasRead r (Some input) mid given → Blames r mid left' (Bad reason offset)
    → fault r.newest r.limit input offset ≡ Some reason

-- an input is read to END in one way: the frames and the rest are the same
abbrev pub OneEnd : Type 0
OneEnd = (limit : ℕ) (newest : Version) (input : List ℕ) (fs gs : List Frame) (rest behind : List ℕ) →
    ReadsToEnd limit newest input fs rest → ReadsToEnd limit newest input gs behind → (fs ≡ gs) × (rest ≡ behind)
