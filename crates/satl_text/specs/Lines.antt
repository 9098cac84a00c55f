-- The lines that are told of an output, and of a summary (profile).
use Rattle.std.specs.Prelude.{ℕ, pos, ◌-ℤ◌, List, [], ◌∷◌, ◌++◌, Option, Some, None, codes, decimal}
use Rattle.std.specs.Fmt.{signed_decimal}
use Rattle.std.specs.List.{flat_map, join_with_byte}
use Rattle.byteorder.specs.Endian.{big_bytes}
use Rattle.hex.specs.Hex.{encode_lower}
use Rattle.satl_base.specs.Codes.{scsi_code, response_code}
use Rattle.satl_base.specs.declared.reply.Reply.{Reply}
use Rattle.satl_base.specs.declared.reply.Response.{Response}
use Rattle.satl_base.specs.declared.request.Tag.{Tag}
use Rattle.satl_frame.specs.Faults.{reason_code}
use Rattle.satl_frame.specs.Output.{Answer, sent_data}
use Rattle.satl_frame.specs.Output.Answer.{replied, managed, closed}
use Rattle.satl_frame.specs.declared.frames.Reason.{Reason}
use Rattle.satl_frame.specs.declared.frames.OutFrame.{OutFrame}
use Rattle.satl_frame.specs.declared.frames.OutFrame.TheVariants as written
use Rattle.satl_text.specs.declared.summary.Summary.{Summary}

-- words with a space between them, and a line feed (profile)
abbrev pub line : List (List ℕ) → List ℕ
line words = join_with_byte 0x20 words ++ 0x0A ∷ []

-- a number of so many bytes in hexadecimal digits, two for each byte, in lower case (profile)
abbrev pub hex_number : ℕ → ℕ → List ℕ
hex_number size value = encode_lower (big_bytes size value)

-- bytes in hexadecimal digits, or `-` where there is none (profile)
abbrev pub hex_bytes : List ℕ → List ℕ
hex_bytes [] = codes "-"
hex_bytes (b ∷ bytes) = encode_lower (b ∷ bytes)

-- the number of bytes expected less that of the data, in decimal, where the host said what it expects (profile)
abbrev pub residual_words : Option ℕ → ℕ → List (List ℕ)
residual_words None len = []
residual_words (Some expected) len = signed_decimal (pos expected -ℤ pos len) ∷ []

-- reply, nexus, tag, status, sense, data as far as the host takes it, residual (profile)
abbrev pub reply_line : Reply → List ℕ
reply_line r =
    line (codes "reply" ∷ decimal r.nexus ∷ hex_number 4 (r.tag).0 ∷ hex_number 1 (scsi_code r.status) ∷
    hex_bytes r.sense.items ∷ hex_bytes (sent_data r) ∷ residual_words r.expected r.data_len)

-- managed, nexus, function, response, tag (profile)
abbrev pub managed_line : ℕ → ℕ → Response → Tag → List ℕ
managed_line nexus function response tag =
    line (codes "managed" ∷ decimal nexus ∷ hex_number 1 function ∷ hex_number 1 (response_code response) ∷ hex_number 4 tag.0
    ∷ [])

-- end (profile)
abbrev pub end_line : List ℕ
end_line = line (codes "end" ∷ [])

-- input fault, the number of the reason, at byte, the offset (profile)
abbrev pub fault_line : Reason → ℕ → List ℕ
fault_line reason offset = line (codes "input fault" ∷ decimal (reason_code reason) ∷ codes "at byte" ∷ decimal offset ∷ [])

-- the line of an answer (profile)
abbrev pub answer_line : Answer → List ℕ
answer_line (replied r) = reply_line r
answer_line (managed nexus function response tag) = managed_line nexus function response tag
answer_line closed = end_line

-- the lines of answers, one after another (profile)
abbrev pub lines : List Answer → List ℕ
lines answers = flat_map answer_line answers

-- the line of a frame of the output; the magic has none (profile)
abbrev pub frame_line : OutFrame → List ℕ
frame_line written.Magic = []
frame_line (written.Reply r) = reply_line r.now
frame_line (written.Managed nexus function response tag) = managed_line nexus function response tag
frame_line written.End = end_line
frame_line (written.Fault reason offset) = fault_line reason offset

-- a name and a number (profile)
abbrev pub number_line : List ℕ → ℕ → List ℕ
number_line name n = line (name ∷ decimal n ∷ [])

-- the seed and the totals of a run (profile)
abbrev pub summary_lines : ℕ → Summary → List ℕ
summary_lines seed s =
    number_line (codes "seed") seed ++ number_line (codes "requests") s.requests ++ number_line (codes "good") s.good ++
    number_line (codes "check") s.check ++ number_line (codes "full") s.full ++ number_line (codes "data") s.bytes
    ++ number_line (codes "sum") s.sum
