-- Lines that are gathered in parts.
use Rattle.std.proofs.Common.{◌≡◌, ℕ, List, [], ◌∷◌, ◌++◌, Option, Some, None, codes, decimal, refl, ◌∙◌, subst, append_assoc}
use Rattle.std.specs.List.{join_with_byte}
use Rattle.satl_base.specs.declared.reply.Reply.{Reply}
use Rattle.satl_base.specs.Codes.{scsi_code}
use Rattle.satl_io.specs.Known.{Wrote, WrotePart}
use Rattle.satl_frame.specs.Gathering.{Gathers}
use Rattle.satl_frame.specs.Output.{sent_data, sent_len}
use Rattle.satl_frame.proofs.GatheringLemmas.{Gathers-more, gathers_end, gathers_end_part, gathers_part, part_of_front}
use Rattle.satl_base.specs.Blocks.{first_bytes}
use Rattle.satl_text.specs.Lines.{line, hex_number, hex_bytes, residual_words, reply_line}
use Rattle.satl_text.specs.Parts.{reply_front, reply_end}

words_whole : (a b c d x : List ℕ) (expected : Option ℕ) (len : ℕ) →
    join_with_byte 0x20 (codes "reply" ∷ a ∷ b ∷ c ∷ d ∷ [] ∷ []) ++ (x ++ reply_end expected len) ≡ line (codes "reply" ∷ a ∷ b ∷ c ∷ d ∷ x ∷ residual_words expected len)
words_whole a b c d x None len = simp append_assoc
words_whole a b c d x (Some expected) len = simp append_assoc

-- front, data and end make the line
parts_whole : (front end : List ℕ) (r : Reply) (len : ℕ) → len ≡ sent_len r.expected r.data_len → front ≡ reply_front r → end ≡ reply_end r.expected r.data_len →
    front ++ (hex_bytes (first_bytes len r.body) ++ end) ≡ reply_line r
parts_whole front end r len size starts ends =
    rw (size, starts, ends) (words_whole (decimal r.nexus) (hex_number 4 (r.tag).0) (hex_number 1 (scsi_code r.status)) (hex_bytes r.sense.items) (hex_bytes (sent_data r)) r.expected r.data_len)

-- all was gathered, and then written
pub line_written : {a b c d : Option (List ℕ)} {front g g' end : List ℕ} (r : Reply) (len : ℕ) → len ≡ sent_len r.expected r.data_len → front ≡ reply_front r → end ≡ reply_end r.expected r.data_len →
    Gathers a b front g (hex_bytes (first_bytes len r.body)) → Gathers b c g g' end → Wrote c d g' → Wrote a d (reply_line r)
line_written {a} {b} {c} {d} {front} {g} {g'} {end} r len size starts ends p q wrote =
    subst (λ (xs : List ℕ). Wrote a d xs) (parts_whole front end r len size starts ends) (gathers_end (Gathers-more p q) wrote)

-- that failed
pub line_failed : {a b c d : Option (List ℕ)} {front g g' end : List ℕ} (r : Reply) (len : ℕ) → len ≡ sent_len r.expected r.data_len → front ≡ reply_front r → end ≡ reply_end r.expected r.data_len →
    Gathers a b front g (hex_bytes (first_bytes len r.body)) → Gathers b c g g' end → WrotePart c d g' → WrotePart a d (reply_line r)
line_failed {a} {b} {c} {d} {front} {g} {g'} {end} r len size starts ends p q part =
    subst (λ (xs : List ℕ). WrotePart a d xs) (parts_whole front end r len size starts ends) (gathers_end_part (Gathers-more p q) part)

-- the data could not be gathered
pub data_failed : {a b : Option (List ℕ)} {front : List ℕ} (r : Reply) (len : ℕ) → len ≡ sent_len r.expected r.data_len → front ≡ reply_front r →
    WrotePart a b (front ++ hex_bytes (first_bytes len r.body)) → WrotePart a b (reply_line r)
data_failed {a} {b} {front} r len size starts part =
    let end = reply_end r.expected r.data_len in
    part_of_front end (append_assoc front (hex_bytes (first_bytes len r.body)) end ∙ parts_whole front end r len size starts refl) part

-- the end could not be gathered
pub end_failed : {a b c : Option (List ℕ)} {front g end : List ℕ} (r : Reply) (len : ℕ) → len ≡ sent_len r.expected r.data_len → front ≡ reply_front r → end ≡ reply_end r.expected r.data_len →
    Gathers a b front g (hex_bytes (first_bytes len r.body)) → WrotePart b c (g ++ end) → WrotePart a c (reply_line r)
end_failed {a} {b} {c} {front} {g} {end} r len size starts ends p part =
    subst (λ (xs : List ℕ). WrotePart a c xs) (parts_whole front end r len size starts ends) (gathers_part end p part)
