-- Bytes that are gathered, and then written.
use Rattle.std.proofs.Common.{◌≡◌, ℕ, ◌-◌, ◌<◌, ◌≤◌, List, [], ◌∷◌, ◌++◌, Option, length, take, refl, ◌∙◌, ap, sym, arith, append_assoc}
use Rattle.std.proofs.lemmas.List.{append-nil, take-append-le, take_all}
use Rattle.satl_base.specs.Blocks.{bytes_of, first_bytes}
use Rattle.satl_base.specs.declared.block.Block.{Block}
use Rattle.satl_base.proofs.BlocksLemmas.{block_gives_piece}
use Rattle.satl_io.specs.Known.{Wrote, WrotePart}
use Rattle.satl_io.proofs.Joined.{Wrote-more, Wrote-none, WrotePart-more, WrotePart-front}
use Rattle.byteorder.specs.Endian.{big_bytes}
use Rattle.satl_base.specs.declared.reply.Reply.{Reply}
use Rattle.satl_frame.specs.Gathering.{Gathers}
use Rattle.satl_frame.specs.Output.{sent_len, sent_data, reply_kind, reply_len, reply_fields, reply_bytes}
use Rattle.satl_frame.specs.Frames.{framed}

-- nothing came
pub gathers_nothing : (a : Option (List ℕ)) (g : List ℕ) → Gathers a a g g []
gathers_nothing a g = record { gone = []; wrote = Wrote-none a; split = sym (append-nil g) }

-- bytes after bytes
pub Gathers-more : {a b c : Option (List ℕ)} {g g' g'' xs ys : List ℕ} → Gathers a b g g' xs → Gathers b c g' g'' ys → Gathers a c g g'' (xs ++ ys)
Gathers-more {a} {b} {c} {g} {g'} {g''} {xs} {ys} p q = record {
  gone = p.gone ++ q.gone;
  wrote = Wrote-more p.wrote q.wrote;
  split = append_assoc p.gone q.gone g'' ∙ ap (λ r. p.gone ++ r) q.split ∙ sym (append_assoc p.gone g' ys) ∙ ap (λ r. r ++ ys) p.split ∙ append_assoc g xs ys;
}

-- a failure after that
pub gathers_part : {a b c : Option (List ℕ)} {g g' xs : List ℕ} (ys : List ℕ) → Gathers a b g g' xs → WrotePart b c (g' ++ ys) → WrotePart a c (g ++ (xs ++ ys))
gathers_part {a} {b} {c} {g} {g'} {xs} ys p part =
    let is : p.gone ++ (g' ++ ys) ≡ g ++ (xs ++ ys) = sym (append_assoc p.gone g' ys) ∙ ap (λ r. r ++ ys) p.split ∙ append_assoc g xs ys in
    rw (← is) (WrotePart-more p.wrote part)

-- a part of a front is a part of all
pub part_of_front : {a b : Option (List ℕ)} {front all : List ℕ} (rest : List ℕ) → front ++ rest ≡ all → WrotePart a b front → WrotePart a b all
part_of_front rest is part = rw (← is) (WrotePart-front rest part)

-- what is gathered at the end is written
pub gathers_end : {a b c : Option (List ℕ)} {g g' xs : List ℕ} → Gathers a b g g' xs → Wrote b c g' → Wrote a c (g ++ xs)
gathers_end p wrote = rw (← p.split) (Wrote-more p.wrote wrote)

pub gathers_end_part : {a b c : Option (List ℕ)} {g g' xs : List ℕ} → Gathers a b g g' xs → WrotePart b c g' → WrotePart a c (g ++ xs)
gathers_end_part p part = rw (← p.split) (WrotePart-more p.wrote part)

-- one piece more: what was gathered, and what is left
pub piece_gathered : {it : List ℕ} (front piece rest all : List ℕ) → it ≡ piece ++ rest → front ++ it ≡ all → (front ++ piece) ++ rest ≡ all
piece_gathered front piece rest all is whole = append_assoc front piece rest ∙ ap (λ (xs : List ℕ). front ++ xs) (sym is) ∙ whole

-- one block more
pub block_gathered : (front bytes : List ℕ) (left : ℕ) (b : Block) (bs it : List Block) (all : List ℕ) → bytes ≡ b.bytes → length b.bytes ≡ 512 → 512 ≤ left → it ≡ b ∷ bs →
    front ++ first_bytes left it ≡ all → (front ++ bytes) ++ first_bytes (left - length bytes) bs ≡ all
block_gathered front bytes left b bs it all same size more is whole =
    let count : length bytes ≡ 512 = ap length same ∙ size in
    let piece = (block_gives_piece left 512 (first_bytes left it) bytes b bs it refl is same size (omega (arith, more)) (omega (arith, more))).0 in
    let front_is : take 512 bytes ≡ bytes = take_all 512 bytes (omega (arith, count)) in
    piece_gathered front bytes (first_bytes (left - length bytes) bs) all (piece ∙ ap (λ (xs : List ℕ). xs ++ first_bytes (left - 512) bs) front_is
    ∙ ap (λ (n : ℕ). bytes ++ first_bytes (left - n) bs) (sym count)) whole

-- the last bytes stand in one block
pub last_gathered : (front bytes : List ℕ) (left : ℕ) (b : Block) (bs it : List Block) (all : List ℕ) → bytes ≡ b.bytes → left < length bytes → it ≡ b ∷ bs →
    front ++ first_bytes left it ≡ all → front ++ take left bytes ≡ all
last_gathered front bytes left b bs it all same fewer is whole =
    let piece : first_bytes left it ≡ take left bytes = ap (λ (l : List Block). first_bytes left l) is
    ∙ take-append-le left b.bytes (bytes_of bs) (omega (arith, fewer, ap length same)) ∙ ap (λ (xs : List ℕ). take left xs) (sym same) in
    ap (λ (xs : List ℕ). front ++ xs) (sym piece) ∙ whole

-- a failure at a piece is one of all
pub piece_failed : {a b c : Option (List ℕ)} {g g' front : List ℕ} (piece rest all : List ℕ) → Gathers a b g g' front → WrotePart b c (g' ++ piece) → (front ++ piece) ++ rest ≡ all →
    WrotePart a c (g ++ all)
piece_failed {a} {b} {c} {g} {g'} {front} piece rest all p part is =
    part_of_front rest (append_assoc g (front ++ piece) rest ∙ ap (λ (xs : List ℕ). g ++ xs) is) (gathers_part piece p part)

-- head, sense and data make the reply
pub reply_whole : (r : Reply) (items : List ℕ) (len : ℕ) → items ≡ framed (reply_kind r.expected) (reply_len r) (reply_fields r) ++ r.sense.items → len ≡ sent_len r.expected r.data_len →
    items ++ first_bytes len r.body ≡ reply_bytes r
reply_whole r items len is count =
    ap (λ (xs : List ℕ). xs ++ first_bytes len r.body) is ∙ ap (λ (n : ℕ). (framed (reply_kind r.expected) (reply_len r) (reply_fields r) ++ r.sense.items) ++ first_bytes n r.body) count
    ∙ append_assoc (framed (reply_kind r.expected) (reply_len r) (reply_fields r)) r.sense.items (sent_data r)
    ∙ append_assoc (reply_kind r.expected ∷ big_bytes 4 (reply_len r)) (reply_fields r) (r.sense.items ++ sent_data r)

-- head and sense make a reply of which no data is sent
pub bare_reply : (r : Reply) (items : List ℕ) (len : ℕ) → items ≡ framed (reply_kind r.expected) (reply_len r) (reply_fields r) ++ r.sense.items → len ≡ sent_len r.expected r.data_len → len ≡ 0 →
    items ≡ reply_bytes r
bare_reply r items len is count none = sym (append-nil items) ∙ reply_whole r items 0 is (sym none ∙ count)
