-- Parts of lines, which are gathered apart (profile).
use Rattle.std.specs.Prelude.{ℕ, List, [], ◌∷◌, Option, codes, decimal}
use Rattle.std.specs.List.{join_with_byte}
use Rattle.satl_base.specs.Codes.{scsi_code}
use Rattle.satl_base.specs.declared.reply.Reply.{Reply}
use Rattle.satl_text.specs.Lines.{line, hex_number, hex_bytes, residual_words}

-- the line of a reply up to its data (profile)
abbrev pub reply_front : Reply → List ℕ
reply_front r =
    join_with_byte 0x20 (codes "reply" ∷ decimal r.nexus ∷ hex_number 4 (r.tag).0 ∷ hex_number 1 (scsi_code r.status)
    ∷ hex_bytes r.sense.items ∷ [] ∷ [])

-- the line of a reply behind its data (profile)
abbrev pub reply_end : Option ℕ → ℕ → List ℕ
reply_end expected len = line ([] ∷ residual_words expected len)
