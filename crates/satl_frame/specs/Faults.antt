-- Why bytes are refused (profile). The rules stand in their order: of two that hold the first one counts.
use Rattle.std.specs.Prelude.{ℕ, zero, suc, ◌+◌, Bool, false, not, ◌||◌, ◌&&◌, ◌==◌, if◌then◌else◌, nat_lt, List, length, take, drop, slice_index, Option, Some, None}
use Rattle.std.specs.Option.{option_or}
use Rattle.satl_base.specs.Fields.{bytes}
use Rattle.satl_base.specs.Limits.{longest_data}
use Rattle.satl_frame.specs.Frames.{frame_rows, event_rows, has_code, allows}
use Rattle.satl_frame.specs.Magic.{magic_fault, version_of}
use Rattle.satl_frame.specs.declared.frames.Version.{Version}
use Rattle.satl_frame.specs.declared.frames.Version.TheVariants.{One, Two}
use Rattle.satl_frame.specs.declared.frames.Reason.{Reason}
use Rattle.satl_frame.specs.declared.frames.Reason.TheVariants.{BadMagic, BadKind, BadLength, BadField, Truncated, TooLong}

-- the number of a reason
abbrev pub reason_code : Reason → ℕ
reason_code BadMagic = 1
reason_code BadKind = 2
reason_code BadLength = 3
reason_code BadField = 4
reason_code Truncated = 5
reason_code TooLong = 6

-- the length of the payload, as a frame's first five bytes tell it
abbrev pub told_length : List ℕ → ℕ
told_length frame = bytes 1 4 frame

-- why the first five bytes at an offset, or as many as there are, begin no frame
abbrev pub head_fault : Version → ℕ → ℕ → List ℕ → Option Reason
head_fault version limit offset head =
    if length head == 0 then Some Truncated
    else if not (has_code (frame_rows version) (slice_index head 0)) then Some BadKind
    else if nat_lt (length head) 5 then Some Truncated
    else if not (allows (frame_rows version) (slice_index head 0) (told_length head)) then Some BadLength
    else if nat_lt limit (offset + 5 + told_length head) then Some TooLong
    else None

-- a nexus above 3, an attribute above 1, or in version 2 an `expected` above 2,097,152
abbrev pub has_bad_request : Version → List ℕ → Bool
has_bad_request One payload = nat_lt 3 (slice_index payload 0) || nat_lt 1 (slice_index payload 1)
has_bad_request Two payload =
    nat_lt 3 (slice_index payload 0) || nat_lt 1 (slice_index payload 1) || nat_lt longest_data (bytes 30 33 payload)

-- an event or a length that the table does not have, or a STRIKE of neither reads nor writes
abbrev pub has_bad_event : List ℕ → Bool
has_bad_event payload =
    not (allows event_rows (slice_index payload 0) (length payload))
    || ((slice_index payload 0 == 1) && not ((slice_index payload 1 == 1) || (slice_index payload 1 == 2)))

-- whether a whole payload has a field with a value that its kind does not allow
abbrev pub has_bad_field : Version → ℕ → List ℕ → Bool
has_bad_field version kind payload =
    if kind == 0x01 then has_bad_request version payload
    else if kind == 0x02 then nat_lt 3 (slice_index payload 0)
    else if kind == 0x04 then has_bad_event payload
    else false

-- why the bytes behind a good head are no frame's: fewer stand there, or a field is bad
abbrev pub payload_fault : Version → List ℕ → Option Reason
payload_fault version frame =
    if nat_lt (length frame) (5 + told_length frame) then Some Truncated
    else if has_bad_field version (slice_index frame 0) (take (told_length frame) (drop 5 frame)) then Some BadField
    else None

-- why the bytes from an offset on begin no frame
abbrev pub frame_fault : Version → ℕ → ℕ → List ℕ → Option Reason
frame_fault version limit offset frame =
    option_or (head_fault version limit offset (take 5 frame)) (payload_fault version frame)

-- why an input is refused at an offset: at 0 its magic, further on the frame there, in the version that the magic names
abbrev pub fault : Version → ℕ → List ℕ → ℕ → Option Reason
fault newest limit input zero = magic_fault newest (take 8 input)
fault newest limit input (suc n) = frame_fault (version_of input) limit (suc n) (drop (suc n) input)
