-- Frames of the input and their bytes (profile). A frame is its kind, the length of its payload in four bytes, and its
-- payload. Of a number the highest byte stands first.
use Rattle.std.specs.Prelude.{ℕ, ◌+◌, ◌≤◌, ◌<◌, ◌^◌, ◌≡◌, Bool, true, false, ◌&&◌, nat_le, ◌==◌, List, [], ◌∷◌, ◌++◌, length, Option, Some, None}
use Rattle.std.specs.List.{find, list_any}
use Rattle.std.specs.Option.{option_map_or}
use Rattle.byteorder.specs.Endian.{big_bytes}
use Rattle.satl_base.specs.Blocks.{first_bytes}
use Rattle.satl_base.specs.Limits.{longest_data}
use Rattle.satl_base.specs.Fields.{bytes}
use Rattle.satl_base.specs.declared.request.Request.{Request}
use Rattle.satl_base.specs.declared.request.Manage.{Manage}
use Rattle.satl_base.specs.declared.request.Attr.{Attr}
use Rattle.satl_base.specs.declared.request.Attr.TheVariants.{Simple, Ordered}
use Rattle.satl_base.specs.declared.bench.Which.{Which}
use Rattle.satl_base.specs.declared.bench.Which.TheVariants.{Read, Write}
use Rattle.satl_base.specs.declared.bench.BenchEvent.{BenchEvent}
use Rattle.satl_base.specs.declared.bench.BenchEvent.TheVariants.{Strike, Mend, Glitch, Order, Power, Unplug}
use Rattle.satl_frame.specs.DataPages.{pages_of}
use Rattle.satl_frame.specs.declared.frames.Version.{Version}
use Rattle.satl_frame.specs.declared.frames.Version.TheVariants.{One, Two}
use Rattle.satl_frame.specs.declared.frames.Frame.{Frame}
use Rattle.satl_frame.specs.declared.frames.Frame.TheVariants as frames

-- a kind of frame or of event by its code, with the shortest and the longest length
pub record FrameRow : Type 0 where
  pub code : ℕ
  pub shortest : ℕ
  pub longest : ℕ

abbrev pub frame_row : ℕ → ℕ → ℕ → FrameRow
frame_row code shortest longest = record { code = code; shortest = shortest; longest = longest }

-- the bytes of a request before its data-out
abbrev pub head_size : Version → ℕ
head_size One = 30
head_size Two = 34

-- REQUEST with at most 2,097,152 bytes of data-out, MANAGE, TURN, BENCH and END, with the lengths of their payloads
abbrev pub frame_rows : Version → List FrameRow
frame_rows version =
    frame_row 0x01 (head_size version) (head_size version + longest_data) ∷
    frame_row 0x02 14 14 ∷
    frame_row 0x03 2 2 ∷
    frame_row 0x04 1 257 ∷
    frame_row 0x05 0 0 ∷ []

-- the events of BENCH: STRIKE, MEND, GLITCH, ORDER, POWER and UNPLUG, with the lengths of the whole payload
abbrev pub event_rows : List FrameRow
event_rows = frame_row 1 10 10 ∷ frame_row 2 9 9 ∷ frame_row 3 3 3 ∷ frame_row 4 2 257 ∷ frame_row 5 1 1 ∷ frame_row 6 1 1 ∷ []

-- whether a code is in a table
abbrev pub has_code : List FrameRow → ℕ → Bool
has_code rows code = list_any (λ row. code == row.code) rows

-- whether a table allows a length for a code
abbrev pub allows : List FrameRow → ℕ → ℕ → Bool
allows rows code len =
    option_map_or (λ row. nat_le row.shortest len && nat_le len row.longest) (find (λ row. code == row.code) rows) false

abbrev pub attr_code : Attr → ℕ
attr_code Simple = 0
attr_code Ordered = 1

abbrev pub which_code : Which → ℕ
which_code Read = 1
which_code Write = 2

-- the number of data-in bytes that the host takes; only version 2 has it
abbrev pub expected_field : Option ℕ → List ℕ
expected_field None = []
expected_field (Some count) = big_bytes 4 count

-- the same, read from the bytes before the data-out
abbrev pub expected_in : Version → List ℕ → Option ℕ
expected_in One head = None
expected_in Two head = Some (bytes 30 33 head)

-- the host takes at most 2,097,152 bytes
abbrev pub is_expectable : Option ℕ → Bool
is_expectable None = true
is_expectable (Some count) = nat_le count longest_data

-- nexus 1, attribute 1, LUN 8, tag 4, CDB 16, expected 4
abbrev pub request_fields : Request → List ℕ
request_fields r = (r.nexus ∷ attr_code r.attr ∷ r.lun) ++ (big_bytes 4 (r.tag).0 ++ (r.cdb ++ expected_field r.expected))

-- the bytes of its data-out, in front of what else its pages hold
abbrev pub data_out : Request → List ℕ
data_out r = first_bytes r.data_len r.body

-- nexus 1, function 1, LUN 8, tag 4
abbrev pub manage_fields : Manage → List ℕ
manage_fields m = (m.nexus ∷ m.function ∷ m.lun) ++ big_bytes 4 (m.tag).0

-- event 1; STRIKE has which 1 and LBA 8, MEND has LBA 8, GLITCH has count 2, ORDER has its bytes
abbrev pub event_fields : BenchEvent → List ℕ
event_fields (Strike which lba) = 1 ∷ which_code which ∷ big_bytes 8 lba
event_fields (Mend lba) = 2 ∷ big_bytes 8 lba
event_fields (Glitch count) = 3 ∷ big_bytes 2 count
event_fields (Order order) = 4 ∷ order
event_fields Power = 5 ∷ []
event_fields Unplug = 6 ∷ []

-- the byte that a frame begins with
abbrev pub kind : Frame → ℕ
kind (frames.Request r) = 0x01
kind (frames.Manage m) = 0x02
kind (frames.Turn count) = 0x03
kind (frames.Bench event) = 0x04
kind frames.End = 0x05

-- what follows its kind and its length
abbrev pub payload_bytes : Frame → List ℕ
payload_bytes (frames.Request r) = request_fields r ++ data_out r
payload_bytes (frames.Manage m) = manage_fields m
payload_bytes (frames.Turn count) = big_bytes 2 count
payload_bytes (frames.Bench event) = event_fields event
payload_bytes frames.End = []

-- the code of a kind, the length of a payload in four bytes, and bytes of the payload
abbrev pub framed : ℕ → ℕ → List ℕ → List ℕ
framed code len payload = (code ∷ big_bytes 4 len) ++ payload

-- the bytes of a frame
abbrev pub spelled : Frame → List ℕ
spelled f = framed (kind f) (length (payload_bytes f)) (payload_bytes f)

-- a request has `expected` exactly in version 2, and it is at most 2,097,152
abbrev pub HasExpected : Version → Option ℕ → Type 0
HasExpected One expected = expected ≡ None
HasExpected Two None = ⊥
HasExpected Two (Some count) = count ≤ longest_data

-- the fields fit their places
pub record HasFields (version : Version) (r : Request) : Type 0 where
  pub nexus : r.nexus ≤ 3
  pub lun : length r.lun ≡ 8
  pub tag : (r.tag).0 < 2 ^ 32
  pub cdb : length r.cdb ≡ 16
  pub expected : HasExpected version r.expected

-- the pages are the fewest that hold the data-out, and what is left of the last is zero
pub record HasData (r : Request) : Type 0 where
  pub size : length (data_out r) ≡ r.data_len
  pub short : r.data_len ≤ longest_data
  pub pages : r.body ≡ pages_of (data_out r)

-- its fields fit a frame of this version, and its pages hold its data-out
pub record IsRequest (version : Version) (r : Request) : Type 0 where
  pub fields : HasFields version r
  pub sent : HasData r

-- its fields fit a frame
pub record IsManage (m : Manage) : Type 0 where
  pub nexus : m.nexus ≤ 3
  pub function : m.function < 2 ^ 8
  pub lun : length m.lun ≡ 8
  pub tag : (m.tag).0 < 2 ^ 32

-- its fields fit a frame
abbrev pub IsEvent : BenchEvent → Type 0
IsEvent (Strike which lba) = lba < 2 ^ 64
IsEvent (Mend lba) = lba < 2 ^ 64
IsEvent (Glitch count) = count < 2 ^ 16
IsEvent (Order order) = (1 ≤ length order) × (length order ≤ 256)
IsEvent Power = Unit {0}
IsEvent Unplug = Unit {0}

-- a whole frame of an input of this version
abbrev pub IsFrame : Version → Frame → Type 0
IsFrame version (frames.Request r) = IsRequest version r
IsFrame version (frames.Manage m) = IsManage m
IsFrame version (frames.Turn count) = count < 2 ^ 16
IsFrame version (frames.Bench event) = IsEvent event
IsFrame version frames.End = Unit {0}
