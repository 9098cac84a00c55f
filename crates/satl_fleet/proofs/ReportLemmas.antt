-- The list of LUNs.
use Rattle.std.proofs.Common.{◌≡◌, append_assoc, sym, ap, subst, false, ◌∙◌, arith, ℕ, zero, suc, ◌+◌, List, [], ◌∷◌, ◌++◌}
use Rattle.std.proofs.lemmas.List.{append-nil}
use Rattle.std.specs.Prelude.{Option}
use Rattle.satl_base.specs.declared.reply.Reply.{Reply}
use Rattle.satl_base.specs.declared.request.Request.{Request}
use Rattle.satl_io.specs.Known.{Wrote}
use Rattle.satl_frame.specs.Output.{answer_bytes}
use Rattle.satl_frame.specs.Output.Answer.{replied}
use Rattle.satl_fleet.specs.Output.{named, told_one, unit_bytes}
use Rattle.satl_fleet.specs.Target.{lun_of, luns_from, target_reply}

-- one LUN more
pub luns_push : (k n : ℕ) → luns_from k (suc n) ≡ luns_from k n ++ lun_of (k + n)
luns_push k zero = append-nil (lun_of k) ∙ ap lun_of (omega arith)
luns_push k (suc n) =
    ap (λ l. lun_of k ++ l) (luns_push (suc k) n ∙ ap (λ m. luns_from (suc k) n ++ lun_of m) (omega arith))

-- the list behind its header, one LUN further
pub luns_more : (header : List ℕ) (k : ℕ) (luns new : List ℕ) → luns ≡ header ++ luns_from 0 k → new ≡ luns ++ lun_of k → new ≡ header ++ luns_from 0 (k + 1)
luns_more header k luns new was is =
    let next : suc k ≡ k + 1 = omega arith in
    let here : k ≡ 0 + k = omega arith in
    is ∙ (ap (λ l. l ++ lun_of k) was
    ∙ (append_assoc header (luns_from 0 k) (lun_of k)
    ∙ ap (λ l. header ++ l) (ap (λ m. luns_from 0 k ++ lun_of m) here ∙ (sym (luns_push 0 k) ∙ ap (luns_from 0) next))))

-- a reply of the target under unit 0
pub told_reply : (units : ℕ) (r : Request) (reply : Reply) (written written' : Option (List ℕ)) → reply ≡ target_reply units r → Wrote written written' (told_one 0 false (replied reply)) → Wrote written written' (named 0 (replied (target_reply units r) ∷ []))
told_reply units r reply written written' is wrote =
    subst (λ x. Wrote written written' (named 0 (replied x ∷ []))) is (subst (Wrote written written') (ap (λ l. unit_bytes 0 ++ l) (sym (append-nil (answer_bytes (replied reply))))) wrote)
