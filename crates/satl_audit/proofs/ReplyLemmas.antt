-- The bytes of answers, and of the blocks in them.
use Rattle.std.proofs.Common.{arith, ◌≡◌, refl, sym, ap, ◌∙◌, subst, ℕ, ◌*◌, List, [], ◌∷◌, ◌++◌, length, Option, None}
use Rattle.std.specs.Prelude.{take}
use Rattle.std.proofs.lemmas.List.{append-nil}
use Rattle.satl_base.specs.declared.block.Block.{Block}
use Rattle.satl_base.specs.declared.reply.Scsi.TheVariants.{Good}
use Rattle.satl_base.specs.Blocks.{bytes_of, first_bytes, AreWhole}
use Rattle.satl_frame.specs.Output.{reply_bytes}
use Rattle.satl_line.specs.declared.entry.Entry.{Entry}
use Rattle.satl_base.specs.declared.request.Request.{Request}
use Rattle.satl_base.specs.declared.reply.Scsi.{Scsi}
use Rattle.satl_direct.specs.Arrival.{reply_to}
use Rattle.satl_direct.specs.Ending.{task_reply}
use Rattle.satl_audit.specs.Finishing.{head_bytes}

pub answer_is : (r : Request) (status : Scsi) (sense rest : List ℕ) → r.expected ≡ None → reply_bytes (reply_to r status sense) ++ rest ≡ head_bytes r.nexus (r.tag).0 status (length sense) 0 ++ (sense ++ rest)
answer_is r status sense rest e =
    ap (λ (o : Option ℕ). reply_bytes (record (reply_to r status sense) { expected = o }) ++ rest) e
    ∙ ap (λ (l : List ℕ). head_bytes r.nexus (r.tag).0 status (length sense) 0 ++ (l ++ rest)) (append-nil sense)

pub good_is : (t : Entry) (blocks : List Block) (rest : List ℕ) → t.expected ≡ None → reply_bytes (task_reply t Good [] blocks) ++ rest ≡ head_bytes t.nexus (t.tag).0 Good 0 (512 * length blocks) ++ (first_bytes (512 * length blocks) blocks ++ rest)
good_is t blocks rest e = ap (λ (o : Option ℕ). reply_bytes (record (task_reply t Good [] blocks) { expected = o }) ++ rest) e

-- fronts of the same length
pub record BothSame {X : Type 0} (a b c d : List X) : Type 0 where
  pub front : a ≡ b
  pub rest : c ≡ d

pub fronts : {X : Type 0} (a b c d : List X) → length a ≡ length b → a ++ c ≡ b ++ d → BothSame a b c d
fronts [] [] c d l e = record { front = refl; rest = e }
fronts [] (y ∷ b) c d l e = absurd (omega (arith, l))
fronts (x ∷ a) [] c d l e = absurd (omega (arith, l))
fronts (x ∷ a) (y ∷ b) c d l e =
    let head : x ≡ y = cc in
    let tail : a ++ c ≡ b ++ d = cc in
    let r = fronts a b c d (omega (arith, l)) tail in
    record { front = ap (λ z. z ∷ a) head ∙ ap (λ t. y ∷ t) r.front; rest = r.rest }

pub take_own : {X : Type 0} (xs : List X) → take (length xs) xs ≡ xs
take_own [] = refl
take_own (x ∷ xs) = ap (λ l. x ∷ l) (take_own xs)

pub take_whole : {X : Type 0} (n : ℕ) (xs : List X) → n ≡ length xs → take n xs ≡ xs
take_whole n xs e = subst (λ k. take k xs ≡ xs) (sym e) (take_own xs)

pub whole_same : (us vs : List Block) → AreWhole us → AreWhole vs → length us ≡ length vs → bytes_of us ≡ bytes_of vs → us ≡ vs
whole_same [] [] p q l e = refl
whole_same [] (v ∷ vs) p q l e = absurd (omega (arith, l))
whole_same (u ∷ us) [] p q l e = absurd (omega (arith, l))
whole_same (u ∷ us) (v ∷ vs) p q l e =
    let r = fronts u.bytes v.bytes (bytes_of us) (bytes_of vs) (p.0 ∙ sym q.0) e in
    ap (λ (b : List ℕ). record { bytes = b } ∷ us) r.front ∙ ap (λ t. v ∷ t) (whole_same us vs p.1 q.1 (omega (arith, l)) r.rest)
