-- What a reader of frames gives, and what it takes from its source (profile).
use Rattle.std.specs.Prelude.{ℕ, ◌+◌, ◌≤◌, ◌≡◌, ◌⊎◌, Bool, true, false, if◌then◌else◌, is_some, List, [], ◌++◌, length, take, drop, IfSome, IsErrOf, Option, Some, None}
use Rattle.std.specs.declared.result.Result.{Result}
use Rattle.std.specs.Io.KnownBytes.{IsAtEnd}
use Rattle.std.specs.Option.{option_map, option_or}
use Rattle.satl_io.specs.Causes.{Rose}
use Rattle.satl_io.specs.Known.{Took}
use Rattle.satl_frame.specs.Frames.{spelled, IsFrame}
use Rattle.satl_frame.specs.Magic.{magic, version_code, names_version, magic_fault, version_of}
use Rattle.satl_frame.specs.Faults.{told_length, head_fault, frame_fault}
use Rattle.satl_frame.specs.Pulls.{cut_to, FewerThan}
use Rattle.satl_frame.specs.declared.frames.Version.{Version}
use Rattle.satl_frame.specs.declared.frames.Frame.{Frame}
use Rattle.satl_frame.specs.declared.frames.Place.{Place}
use Rattle.satl_frame.specs.declared.frames.Reason.{Reason}
use Rattle.satl_frame.specs.declared.frames.Reason.TheVariants.{BadMagic, BadKind, BadLength, BadField, Truncated, TooLong}
use Rattle.satl_frame.specs.declared.frames.FrameFault.{FrameFault}
use Rattle.satl_frame.specs.declared.frames.FrameFault.TheVariants.{Bad, ReadFault}

-- a reader: the limit of its input in bytes, the newest version that it accepts, where the next frame stands once the
-- magic was read, and the refusal that it repeats
pub record Reading : Type 0 where
  pub limit : ℕ
  pub newest : Version
  pub place : Option Place
  pub refused : Option FrameFault

-- what is taken before a frame: the magic, unless that was done
abbrev pub opening : Option Place → Version → List ℕ
opening None version = magic version
opening (Some place) version = []

-- the place of the next frame is this: behind the magic of an accepted version, or as it was
abbrev pub IsNext : Version → Option Place → Place → Type 0
IsNext newest None place = (names_version newest (version_code place.version) ≡ true) × (place.offset ≡ 8)
IsNext newest (Some old) place = place ≡ old

-- a whole frame stood next and was taken; this is the frame, with as many of its pages as were free
pub record Gave (old : Reading) (room : ℕ) (frame : Frame) (new : Reading) (left left' : Option (List ℕ)) : Type 0 where
  pub place : Place
  pub whole : Frame
  pub next : IsNext old.newest old.place place
  pub is_frame : IsFrame place.version whole
  pub cut : frame ≡ cut_to room whole
  pub took : Took left left' (opening old.place place.version ++ spelled whole)
  pub within : place.offset + length (spelled whole) ≤ old.limit
  pub new_is : new ≡ record old { place = Some (record place { offset = place.offset + length (spelled whole) }) }

-- a reason at an offset
abbrev pub at_offset : ℕ → Option Reason → Option (Reason × ℕ)
at_offset offset reason = option_map (λ x. (x, offset)) reason

-- why, and where, the bytes that are left are refused: the magic at 0, or the frame at the place
abbrev pub where_refused : ℕ → Version → Option Place → List ℕ → Option (Reason × ℕ)
where_refused limit newest None left =
    option_or (at_offset 0 (magic_fault newest (take 8 left)))
    (at_offset 8 (frame_fault (version_of left) limit 8 (drop 8 left)))
where_refused limit newest (Some place) left = at_offset place.offset (frame_fault place.version limit place.offset left)

-- how many bytes of a frame are asked for: the first five, and all of it where these are good
abbrev pub asked_of_frame : Version → ℕ → ℕ → List ℕ → ℕ
asked_of_frame version limit offset frame =
    if is_some (head_fault version limit offset (take 5 frame)) then 5 else 5 + told_length frame

-- how many bytes of what is left are asked for: eight of a magic, and the next frame behind a good one
abbrev pub asked : ℕ → Version → Option Place → List ℕ → ℕ
asked limit newest None left =
    if is_some (magic_fault newest (take 8 left)) then 8 else 8 + asked_of_frame (version_of left) limit 8 (drop 8 left)
asked limit newest (Some place) left = asked_of_frame place.version limit place.offset left

-- a refusal is that of the bytes that are left; of these as many were taken as are asked for, or all where there are fewer.
-- Where a read failed, fewer were taken than are asked for, so no whole frame
abbrev pub Blames : Reading → Option (List ℕ) → Option (List ℕ) → FrameFault → Type 0
Blames old left left' (Bad reason offset) =
    IfSome left (λ input. (where_refused old.limit old.newest old.place input ≡ Some (reason, offset))
    × Took left left' (take (asked old.limit old.newest old.place input) input))
Blames old left left' ReadFault = FewerThan left left' (asked old.limit old.newest old.place)

-- a read fault comes only where the source's count rose
pub record ReadCauses {T : Type 0} (before now : ℕ) (result : Result T FrameFault) : Type 0 where
  pub later : before ≤ now
  pub failed : IsErrOf result ReadFault → Rose before now

-- what a refusal has waited for: no byte behind those that were taken. Where the magic or a kind is bad fewer may have stood
-- there than are asked for, and then none is left. Where a frame is cut short, or a read failed, nothing is said (profile)
abbrev pub AwaitsNoMore : Bool → Option (List ℕ) → FrameFault → Type 0
AwaitsNoMore waited left (Bad BadMagic offset) = (waited ≡ false) ⊎ IsAtEnd left
AwaitsNoMore waited left (Bad BadKind offset) = (waited ≡ false) ⊎ IsAtEnd left
AwaitsNoMore waited left (Bad BadLength offset) = waited ≡ false
AwaitsNoMore waited left (Bad BadField offset) = waited ≡ false
AwaitsNoMore waited left (Bad TooLong offset) = waited ≡ false
AwaitsNoMore waited left (Bad Truncated offset) = Unit {0}
AwaitsNoMore waited left ReadFault = Unit {0}
