-- The first turns of some.
use Rattle.std.proofs.Common.{arith, ◌≡◌, refl, sym, ap, ◌∙◌, subst, ℕ, zero, suc, ◌+◌, List, [], ◌∷◌, ◌++◌, append_assoc}
use Rattle.std.proofs.lemmas.List.{append-nil}
use Rattle.satl_base.specs.declared.reply.Reply.{Reply}
use Rattle.satl_frame.specs.Output.{reply_bytes}
use Rattle.satl_direct.specs.Device.{Device}
use Rattle.satl_audit.specs.Deeds.{Deed}
use Rattle.satl_audit.specs.Deeds.Deed.{shows}
use Rattle.satl_audit.specs.Skeleton.{TurnsDone, pairs_shown}
use Rattle.satl_audit.proofs.FixingTurns.{said}

pub record FirstTurns (s : Device) (n : ℕ) (replies : List Reply) (deeds : List Deed) : Type 0 where
  pub some : List Reply
  pub others : List Reply
  pub early : List Deed
  pub late : List Deed
  pub mid : Device
  pub done : TurnsDone s n some early mid
  pub replies_are : replies ≡ some ++ others
  pub deeds_are : deeds ≡ early ++ late

peel_turn : (s : Device) (n k : ℕ) (replies : List Reply) (deeds : List Deed) (u : Device) → TurnsDone s (suc k) replies deeds u →
    ((some : List Reply) (early : List Deed) (m : Device) → TurnsDone s k some early m → FirstTurns s n some early) → FirstTurns s n replies deeds
peel_turn s n k replies deeds u (TurnsDone.idle {mid = mid} t e) rec = rec replies deeds mid t
peel_turn s n k _ _ u (TurnsDone.more {replies = some} {deeds = early} {mid = mid} reply deed t d) rec =
    let f = rec some early mid t in
    record {
      some = f.some;
      others = f.others ++ reply ∷ [];
      early = f.early;
      late = f.late ++ shows (pairs_shown mid) ∷ deed ∷ [];
      mid = f.mid;
      done = f.done;
      replies_are = ap (λ l. l ++ reply ∷ []) f.replies_are ∙ append_assoc f.some f.others (reply ∷ []);
      deeds_are = ap (λ l. l ++ shows (pairs_shown mid) ∷ deed ∷ []) f.deeds_are ∙ append_assoc f.early f.late (shows (pairs_shown mid) ∷ deed ∷ []);
    }

pub first_turns : (s : Device) (n j : ℕ) (replies : List Reply) (deeds : List Deed) (u : Device) → TurnsDone s (j + n) replies deeds u → FirstTurns s n replies deeds
first_turns s n zero replies deeds u t =
    let same : 0 + n ≡ n = omega arith in
    record { some = replies; others = []; early = deeds; late = []; mid = u; done = subst (λ m. TurnsDone s m replies deeds u) same t; replies_are = sym (append-nil replies); deeds_are = sym (append-nil deeds) }
first_turns s n (suc j) replies deeds u t =
    let same : suc j + n ≡ suc (j + n) = omega arith in
    peel_turn s n (j + n) replies deeds u (subst (λ m. TurnsDone s m replies deeds u) same t) (first_turns s n j)

pub said-append : (xs ys : List Reply) (rest : List ℕ) → said (xs ++ ys) ++ rest ≡ said xs ++ (said ys ++ rest)
said-append [] ys rest = refl
said-append (r ∷ xs) ys rest = append_assoc (reply_bytes r) (said (xs ++ ys)) rest ∙ ap (λ l. reply_bytes r ++ l) (said-append xs ys rest) ∙ sym (append_assoc (reply_bytes r) (said xs) (said ys ++ rest))
