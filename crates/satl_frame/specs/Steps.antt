-- What the steps of a reader do, one after another (profile).
use Rattle.std.specs.Prelude.{ℕ, ◌+◌, ◌≤◌, ◌≡◌, true, List, length, take, slice_index, IfSome, Option, Some, None}
use Rattle.satl_io.specs.Known.{Took}
use Rattle.satl_frame.specs.Frames.{spelled, IsFrame}
use Rattle.satl_frame.specs.Magic.{magic, version_code, names_version, magic_fault}
use Rattle.satl_frame.specs.Faults.{told_length, frame_fault}
use Rattle.satl_frame.specs.Pulls.{cut_to, Head, Lacks, FewerThan, TookBadField}
use Rattle.satl_frame.specs.Reading.{asked_of_frame}
use Rattle.satl_frame.specs.declared.frames.Version.{Version}
use Rattle.satl_frame.specs.declared.frames.Frame.{Frame}
use Rattle.satl_frame.specs.declared.frames.Place.{Place}
use Rattle.satl_frame.specs.declared.frames.Reason.{Reason}
use Rattle.satl_frame.specs.declared.frames.Reason.TheVariants.{Truncated, BadField}
use Rattle.satl_frame.specs.declared.frames.FrameFault.{FrameFault}
use Rattle.satl_frame.specs.declared.frames.FrameFault.TheVariants.{Bad, ReadFault}

-- the magic was taken, unless that was done, and this is the place of the next frame
abbrev pub Began : Version → Option Place → Option (List ℕ) → Option (List ℕ) → Place → Type 0
Began newest None left left' place =
    Took left left' (magic place.version) × (names_version newest (version_code place.version) ≡ true) × (place.offset ≡ 8)
Began newest (Some old) left left' place = (left' ≡ left) × (place ≡ old)

-- the bytes that are left are not the magic, and eight of them were taken; or a read failed before that
abbrev pub BlamesMagic : Version → Option (List ℕ) → Option (List ℕ) → FrameFault → Type 0
BlamesMagic newest left left' (Bad reason offset) =
    (offset ≡ 0) × IfSome left (λ input. (magic_fault newest (take 8 input) ≡ Some reason) × Took left left' (take 8 input))
BlamesMagic newest left left' ReadFault = FewerThan left left' (λ _. 8)

-- how far an input was read: the place of the next frame, and the bytes that are left from there on
pub record Position : Type 0 where
  pub place : Place
  pub left : Option (List ℕ)

-- a whole frame stood at the old position and was taken, and behind it is the new one; no more pages are kept than were free
pub record StoodAt (limit : ℕ) (old new : Position) (room : ℕ) (frame : Frame) : Type 0 where
  pub whole : Frame
  pub is_frame : IsFrame old.place.version whole
  pub cut : frame ≡ cut_to room whole
  pub took : Took old.left new.left (spelled whole)
  pub version_is : new.place.version ≡ old.place.version
  pub offset_is : new.place.offset ≡ old.place.offset + length (spelled whole)
  pub within : new.place.offset ≤ limit

-- the bytes at the place are refused, or a read failed before they were taken
abbrev pub BlamesAt : ℕ → Place → Option (List ℕ) → Option (List ℕ) → FrameFault → Type 0
BlamesAt limit place left left' (Bad reason offset) =
    (offset ≡ place.offset) × IfSome left (λ input. (frame_fault place.version limit place.offset input ≡ Some reason)
    × Took left left' (take (asked_of_frame place.version limit place.offset input) input))
BlamesAt limit place left left' ReadFault = FewerThan left left' (asked_of_frame place.version limit place.offset)

-- what the five bytes of a good head tell
abbrev pub head_in : Version → List ℕ → Head
head_in version bytes = record { version = version; code = slice_index bytes 0; len = told_length bytes }

-- the payload behind a good head is cut short, or a field of it is bad
abbrev pub PayloadFault : Head → Option (List ℕ) → Option (List ℕ) → Reason → Type 0
PayloadFault head left left' Truncated = Lacks left left' head.len
PayloadFault head left left' BadField = TookBadField left left' head
PayloadFault head left left' _ = ⊥

-- a refusal, at this offset, of what stands behind a good head; or a read failed before all was taken
abbrev pub BlamesPayload : Head → ℕ → Option (List ℕ) → Option (List ℕ) → FrameFault → Type 0
BlamesPayload head offset left left' (Bad reason o) = (o ≡ offset) × PayloadFault head left left' reason
BlamesPayload head offset left left' ReadFault = FewerThan left left' (λ _. head.len)
