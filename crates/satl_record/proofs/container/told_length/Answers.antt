use Rattle.std.proofs.Common.{arith, sym, ap, ◌∙◌, ◌≡◌, ◌-◌, ℕ, List, ◌++◌, drop, length, take}
use Rattle.std.specs.Cmp.Lexicographic.{same_text}
use Rattle.std.proofs.lemmas.List.{length-drop, take-append-drop, take_all}
use Rattle.byteorder.specs.Endian.{big_bytes, big_from}
use Rattle.satl_frame.proofs.FieldBytes.{eight_read}
use Rattle.satl_record.specs.Containers.{record_magic}
use Rattle.satl_record.proofs.container.told_length.Goals as goal

pub returns-clause-told : goal.returns-clause-told
returns-clause-told c =
    let head = c.args.head.now in
    let n = c.read_u64-length.result in
    let number : c.in_ok-number.number.now ≡ drop 8 head = c.in_ok-number.ensures.cases.1 in
    let size : length (drop 8 head) ≡ 8 = sym (ap (λ (l : List ℕ). length l) number) ∙ c.if-number-ne-LENGTH_BYTES.false in
    let all : take (length head - 8) (drop 8 head) ≡ drop 8 head = take_all (length head - 8) (drop 8 head) (omega (arith, length-drop 8 head)) in
    let read : n ≡ big_from 0 8 (take (length head - 8) (drop 8 head)) = c.read_u64-length.ensures ∙ ap (λ (l : List ℕ). big_from 0 8 l) (number ∙ sym all) in
    let spelled : big_bytes 8 n ≡ drop 8 head = eight_read 8 n head (omega (arith, size, length-drop 8 head)) (λ i. omega (arith, c.type_inv.head i)) read ∙ take_all 8 (drop 8 head) (omega (arith, size)) in
    sym (take-append-drop 8 head)
    ∙ ap (λ (l : List ℕ). l ++ drop 8 head) (same_text (take 8 head) record_magic (sym c.in_ok-number.ensures.cases.0))
    ∙ ap (λ (l : List ℕ). record_magic ++ l) (sym spelled)
