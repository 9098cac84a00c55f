-- The bytes of the output (profile). A frame is its kind, the length of its payload in four bytes, and its payload. Of a
-- number the highest byte stands first.
use Rattle.std.specs.Prelude.{ℕ, pos, ◌-ℤ◌, ◌+◌, ◌*◌, ◌≤◌, min, List, [], ◌∷◌, ◌++◌, length, Option, Some, None}
use Rattle.std.specs.Int.{w32, cast_unsigned}
use Rattle.std.specs.List.{flat_map}
use Rattle.byteorder.specs.Endian.{big_bytes}
use Rattle.satl_base.specs.Blocks.{first_bytes}
use Rattle.satl_base.specs.Limits.{IsExpectable, longest_data}
use Rattle.satl_base.specs.Codes.{scsi_code, response_code}
use Rattle.satl_base.specs.declared.reply.Reply.{Reply}
use Rattle.satl_base.specs.declared.reply.Response.{Response}
use Rattle.satl_base.specs.declared.request.Tag.{Tag}
use Rattle.satl_frame.specs.Faults.{reason_code}
use Rattle.satl_frame.specs.Frames.{framed}
use Rattle.satl_frame.specs.declared.frames.Reason.{Reason}
use Rattle.satl_frame.specs.declared.frames.OutFrame.{OutFrame}
use Rattle.satl_frame.specs.declared.frames.OutFrame.TheVariants as written

-- "SATLRSP1"
abbrev pub out_magic : List ℕ
out_magic = 0x53 ∷ 0x41 ∷ 0x54 ∷ 0x4C ∷ 0x52 ∷ 0x53 ∷ 0x50 ∷ 0x31 ∷ []

-- how much of the data the host takes: all of it, or at most as many bytes as it expects
abbrev pub sent_len : Option ℕ → ℕ → ℕ
sent_len None len = len
sent_len (Some expected) len = min expected len

abbrev pub sent_data : Reply → List ℕ
sent_data r = first_bytes (sent_len r.expected r.data_len) r.body

-- the number of bytes expected less that of the data, in two's complement
abbrev pub residual : ℕ → ℕ → ℕ
residual expected len = cast_unsigned w32 (pos expected -ℤ pos len)

-- four bytes of residual, where the host said what it expects
abbrev pub residual_field : Option ℕ → ℕ → List ℕ
residual_field None len = []
residual_field (Some expected) len = big_bytes 4 (residual expected len)

-- a reply of version 1, or one of version 2
abbrev pub reply_kind : Option ℕ → ℕ
reply_kind None = 0x81
reply_kind (Some expected) = 0x83

-- one byte of nexus, one of status, four of tag, four of residual where the host said what it expects, and one of sense length
abbrev pub reply_fields : Reply → List ℕ
reply_fields r =
    (r.nexus ∷ scsi_code r.status ∷ big_bytes 4 (r.tag).0)
    ++ (residual_field r.expected r.data_len ++ length r.sense.items ∷ [])

-- the length of these fields with sense and data
abbrev pub reply_len : Reply → ℕ
reply_len r = length (reply_fields r) + length r.sense.items + sent_len r.expected r.data_len

abbrev pub reply_bytes : Reply → List ℕ
reply_bytes r = framed (reply_kind r.expected) (reply_len r) (reply_fields r ++ (r.sense.items ++ sent_data r))

-- nexus 1, function 1, response 1, tag 4
abbrev pub managed_bytes : ℕ → ℕ → Response → Tag → List ℕ
managed_bytes nexus function response tag = framed 0x82 7 (nexus ∷ function ∷ response_code response ∷ big_bytes 4 tag.0)

abbrev pub end_bytes : List ℕ
end_bytes = framed 0x85 0 []

-- reason 1, offset 8
abbrev pub fault_bytes : Reason → ℕ → List ℕ
fault_bytes reason offset = framed 0x8F 9 (reason_code reason ∷ big_bytes 8 offset)

-- what a run answers: a reply, the response to a task management function with its nexus, function and tag, or the end
pub data Answer : Type 0 where
  replied : Reply → Answer
  managed : ℕ → ℕ → Response → Tag → Answer
  closed : Answer

abbrev pub answer_bytes : Answer → List ℕ
answer_bytes (replied r) = reply_bytes r
answer_bytes (managed nexus function response tag) = managed_bytes nexus function response tag
answer_bytes closed = end_bytes

abbrev pub all_answered : List Answer → List ℕ
all_answered answers = flat_map answer_bytes answers

-- the output of a run: the magic and its answers
abbrev pub out : List Answer → List ℕ
out answers = out_magic ++ all_answered answers

-- the bytes of a frame of the output
abbrev pub written_bytes : OutFrame → List ℕ
written_bytes written.Magic = out_magic
written_bytes (written.Reply r) = reply_bytes r.now
written_bytes (written.Managed nexus function response tag) = managed_bytes nexus function response tag
written_bytes written.End = end_bytes
written_bytes (written.Fault reason offset) = fault_bytes reason offset

-- the pages hold the data, and neither it nor what the host expects exceeds 2,097,152 bytes
pub record IsWritable (r : Reply) : Type 0 where
  pub holds : r.data_len ≤ 512 * length r.body
  pub short : r.data_len ≤ longest_data
  pub expected : IsExpectable r.expected

-- a reply can be written where that holds; all other frames always can
abbrev pub CanWrite : OutFrame → Type 0
CanWrite (written.Reply r) = IsWritable r.now
CanWrite _ = Unit {0}
