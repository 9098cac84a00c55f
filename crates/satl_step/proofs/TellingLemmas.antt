-- Answers that are told one after the other.
use Rattle.std.proofs.Common.{◌≡◌, append_assoc, refl, sym, ap, subst, ◌∙◌, ℕ, List, [], ◌∷◌, ◌++◌, map, length, Some}
use Rattle.std.specs.Prelude.{slice_get, unwrap_or}
use Rattle.std.specs.Option.{option_map}
use Rattle.std.proofs.lemmas.List.{append-nil}
use Rattle.satl_base.specs.declared.block.Block.{Block}
use Rattle.satl_base.specs.declared.reply.Reply.{Reply}
use Rattle.satl_io.specs.Known.{Wrote, WrotePart}
use Rattle.satl_io.proofs.Joined.{Wrote-more, Wrote-none, WrotePart-front, WrotePart-more}
use Rattle.satl_frame.specs.Output.{Answer}
use Rattle.satl_frame.specs.Output.Answer.{replied}
use Rattle.satl_step.specs.Telling.{IsTold, IsToldInPart, IsToldInto, Telling, all_behind, all_told}

module _ {T : Type 0} (told : T → Answer → List ℕ) (behind : T → Answer → T) where
  pub all_told-append : (t : T) (xs ys : List Answer) → all_told told behind t (xs ++ ys) ≡ all_told told behind t xs ++ all_told told behind (all_behind behind t xs) ys
  all_told-append t [] ys = refl
  all_told-append t (x ∷ xs) ys = ap (λ l. told t x ++ l) (all_told-append (behind t x) xs ys) ∙ sym (append_assoc (told t x) (all_told told behind (behind t x) xs) (all_told told behind (all_behind behind (behind t x) xs) ys))

  pub all_behind-append : (t : T) (xs ys : List Answer) → all_behind behind t (xs ++ ys) ≡ all_behind behind (all_behind behind t xs) ys
  all_behind-append t [] ys = refl
  all_behind-append t (x ∷ xs) ys = all_behind-append (behind t x) xs ys

  -- no answer
  pub told_none : (t : Telling T) → IsTold told behind t t []
  told_none t = record { wrote = Wrote-none t.written; teller = refl }

  -- one answer
  pub told_one : (a b : Telling T) (answer : Answer) → Wrote a.written b.written (told a.teller answer) → b.teller ≡ behind a.teller answer → IsTold told behind a b (answer ∷ [])
  told_one a b answer wrote next = record { wrote = subst (Wrote a.written b.written) (sym (append-nil (told a.teller answer))) wrote; teller = next }

  -- answers behind answers
  pub told_more : (a b c : Telling T) (xs ys : List Answer) → IsTold told behind a b xs → IsTold told behind b c ys → IsTold told behind a c (xs ++ ys)
  told_more a b c xs ys p q = record {
    wrote = subst (Wrote a.written c.written) (sym (all_told-append a.teller xs ys)) (Wrote-more p.wrote (subst (λ x. Wrote b.written c.written (all_told told behind x ys)) p.teller q.wrote));
    teller = q.teller ∙ (ap (λ x. all_behind behind x ys) p.teller ∙ sym (all_behind-append a.teller xs ys));
  }

  -- a front of the answers behind them
  pub told_part : (a b c : Telling T) (xs ys : List Answer) → IsTold told behind a b xs → IsToldInPart told behind b c ys → IsToldInPart told behind a c (xs ++ ys)
  told_part a b c xs ys p q = record { part = subst (WrotePart a.written c.written) (sym (all_told-append a.teller xs ys)) (WrotePart-more p.wrote (subst (λ x. WrotePart b.written c.written (all_told told behind x ys)) p.teller q.part)) }

  -- a front of the answers before others
  pub part_before : (a c : Telling T) (xs ys : List Answer) → IsToldInPart told behind a c xs → IsToldInPart told behind a c (xs ++ ys)
  part_before a c xs ys q = record { part = subst (WrotePart a.written c.written) (sym (all_told-append a.teller xs ys)) (WrotePart-front (all_told told behind (all_behind behind a.teller xs) ys) q.part) }

  -- a front of one answer
  pub part_one : (a c : Telling T) (answer : Answer) → WrotePart a.written c.written (told a.teller answer) → IsToldInPart told behind a c (answer ∷ [])
  part_one a c answer part = record { part = subst (WrotePart a.written c.written) (sym (append-nil (told a.teller answer))) part }

  -- a front of the answers, none of which stands before the last step
  pub into_first : (a c : Telling T) (last : List Answer) → IsToldInPart told behind a c last → IsToldInto told behind a c [] last
  into_first a c last front = record { mid = a; whole = told_none a; front = front }

  -- the same behind answers
  pub into_more : (a b c : Telling T) (xs last : List Answer) → IsTold told behind a b xs → IsToldInto told behind b c [] last → IsToldInto told behind a c xs last
  into_more a b c xs last p q = record { mid = q.mid; whole = subst (IsTold told behind a q.mid) (append-nil xs) (told_more a b q.mid xs [] p q.whole); front = q.front }

  -- all of them as one
  pub into_part : (a c : Telling T) (earlier last : List Answer) → IsToldInto told behind a c earlier last → IsToldInPart told behind a c (earlier ++ last)
  into_part a c earlier last p = told_part a p.mid c earlier last p.whole p.front

  -- ---- replies of a list

  -- replies were told, and these are left of all
  pub record IsToldBut (a b : Telling T) (left all : List Reply) : Type 0 where
    pub done : List Answer
    pub told_so : IsTold told behind a b done
    pub whole : done ++ map replied left ≡ map replied all

  pub so_far_none : (t : Telling T) (all : List Reply) → IsToldBut t t all all
  so_far_none t all = record { done = []; told_so = told_none t; whole = refl }

  pub so_far_more : (a b c : Telling T) (left left' all : List Reply) (reply : Reply) → IsToldBut a b left all → left ≡ reply ∷ left' → Wrote b.written c.written (told b.teller (replied reply)) → c.teller ≡ behind b.teller (replied reply) → IsToldBut a c left' all
  so_far_more a b c left left' all reply p is wrote next = record {
    done = p.done ++ replied reply ∷ [];
    told_so = told_more a b c p.done (replied reply ∷ []) p.told_so (told_one b c (replied reply) wrote next);
    whole = append_assoc p.done (replied reply ∷ []) (map replied left') ∙ (ap (λ l. p.done ++ map replied l) (sym is) ∙ p.whole);
  }

  pub so_far_stops : (a b c : Telling T) (left left' all : List Reply) (reply : Reply) → IsToldBut a b left all → left ≡ reply ∷ left' → WrotePart b.written c.written (told b.teller (replied reply)) → IsToldInPart told behind a c (map replied all)
  so_far_stops a b c left left' all reply p is part =
      subst (λ l. IsToldInPart told behind a c l) (ap (λ l. p.done ++ map replied l) (sym is) ∙ p.whole)
      (told_part a b c p.done (replied reply ∷ map replied left') p.told_so (part_before b c (replied reply ∷ []) (map replied left') (part_one b c (replied reply) part)))

  pub so_far_all : (a b : Telling T) (left all : List Reply) → IsToldBut a b left all → left ≡ [] → IsTold told behind a b (map replied all)
  so_far_all a b left all p is = subst (λ l. IsTold told behind a b l) (sym (append-nil p.done) ∙ (ap (λ l. p.done ++ map replied l) (sym is) ∙ p.whole)) p.told_so

-- the data-in of the first reply of a list
pub data_of_first : (replies rest : List Reply) (first : Reply) (body : List Block) → replies ≡ first ∷ rest → option_map (λ reply. reply.body) (slice_get replies 0) ≡ Some body → length body ≡ length first.body
data_of_first replies rest first body is here =
    ap (λ o. length (unwrap_or o [])) (sym here ∙ ap (λ l. option_map (λ reply. reply.body) (slice_get l 0)) is)
