-- The bytes of the answers fix which tasks end at turns.
use Rattle.std.proofs.Common.{arith, ◌≡◌, refl, sym, ap, ◌∙◌, subst, ℕ, zero, suc, ◌+◌, Bool, List, [], ◌∷◌, ◌++◌, map, append_assoc}
use Rattle.std.specs.List.{AllByRecursion}
use Rattle.satl_base.specs.declared.reply.Reply.{Reply}
use Rattle.satl_base.proofs.ListsLemmas.{All-remove_first}
use Rattle.satl_frame.specs.Output.{all_answered, reply_bytes}
use Rattle.satl_frame.specs.Output.Answer.{replied}
use Rattle.satl_line.specs.declared.entry.Entry.{Entry}
use Rattle.satl_line.specs.Eligible.{IsEligible}
use Rattle.satl_direct.specs.Device.{Device, is_called}
use Rattle.satl_direct.specs.Valid.{AreOwn}
use Rattle.satl_audit.specs.Deeds.{Deed}
use Rattle.satl_audit.specs.Deeds.Deed.{shows}
use Rattle.satl_audit.specs.Skeleton.{TaskDone, TurnsDone, pairs_shown}
use Rattle.satl_audit.proofs.Naming.{own_removed}
use Rattle.satl_audit.specs.Deciding.{AllWhole, GivesWhole}
use Rattle.satl_audit.proofs.Telling.{IsFine, ends_same}
use Rattle.satl_line.proofs.SlotsLemmas.{All-right, All-left}

abbrev pub said : List Reply → List ℕ
said replies = all_answered (map replied replies)

pub said-push : (replies : List Reply) (r : Reply) (rest : List ℕ) → said (replies ++ r ∷ []) ++ rest ≡ said replies ++ (reply_bytes r ++ rest)
said-push [] r rest = append_assoc (reply_bytes r) [] rest
said-push (q ∷ replies) r rest = append_assoc (reply_bytes q) (said (replies ++ r ∷ [])) rest ∙ ap (λ l. reply_bytes q ++ l) (said-push replies r rest) ∙ sym (append_assoc (reply_bytes q) (said replies) (reply_bytes r ++ rest))

-- tasks that turns leave
pub record Kept (s : Device) : Type 0 where
  pub own : AreOwn s.tasks
  pub fine : AllByRecursion IsFine s.tasks

pub turns_keep : (s : Device) → Kept s → {n : ℕ} {replies : List Reply} {deeds : List Deed} {u : Device} → TurnsDone s n replies deeds u → Kept u
turns_keep s k TurnsDone.none = k
turns_keep s k (TurnsDone.idle t e) = turns_keep s k t
turns_keep s k (TurnsDone.more {mid = mid} reply deed t d) =
    let r = turns_keep s k t in
    let p : Entry → Bool = is_called (d.task).nexus ((d.task).tag).0 in
    record {
      own = subst (λ (y : Device). AreOwn y.tasks) (sym d.stays) (own_removed p mid.tasks r.own);
      fine = subst (λ (y : Device). AllByRecursion IsFine y.tasks) (sym d.stays) (All-remove_first IsFine p mid.tasks r.fine);
    }

pub record SameTurns (ds es : List Deed) (u v : Device) (rest rest' : List ℕ) : Type 0 where
  pub deeds_same : ds ≡ es
  pub new_same : u ≡ v
  pub rest_same : rest ≡ rest'

-- no task ends where there is none
pub none_ends : (s u : Device) (r : Reply) (d : Deed) → s.tasks ≡ [] → TaskDone s r d u → ⊥
none_ends s u r d e t = subst (λ l. IsEligible l (t.task)) e t.eligible

-- one turn more on both sides
more_same : (s mid mid' u v : Device) (replies others : List Reply) (r q : Reply) (ds es : List Deed) (d e : Deed) (rest rest' : List ℕ) → Kept mid → GivesWhole d → GivesWhole e → TaskDone mid r d u → TaskDone mid' q e v →
    SameTurns ds es mid mid' (reply_bytes r ++ rest) (reply_bytes q ++ rest') → SameTurns (ds ++ shows (pairs_shown mid) ∷ d ∷ []) (es ++ shows (pairs_shown mid') ∷ e ∷ []) u v rest rest'
more_same s mid mid' u v replies others r q ds es d e rest rest' k w z a b same =
    let x = ends_same mid u v r q d e rest rest' k.own k.fine w z a (subst (λ y. TaskDone y q e v) (sym same.new_same) b) same.rest_same in
    record {
      deeds_same = ap (λ l. l ++ shows (pairs_shown mid) ∷ d ∷ []) same.deeds_same ∙ ap (λ y. es ++ shows (pairs_shown y) ∷ d ∷ []) same.new_same ∙ ap (λ y. es ++ shows (pairs_shown mid') ∷ y ∷ []) x.deed_same;
      new_same = x.new_same;
      rest_same = x.rest_same;
    }

-- as many turns with the same bytes are the same
pub turns_same : (s : Device) → Kept s → {n : ℕ} {replies : List Reply} {ds : List Deed} {u : Device} → TurnsDone s n replies ds u → {others : List Reply} {es : List Deed} {v : Device} → TurnsDone s n others es v → (rest rest' : List ℕ) →
    AllWhole ds → AllWhole es → said replies ++ rest ≡ said others ++ rest' → SameTurns ds es u v rest rest'
turns_same s k TurnsDone.none TurnsDone.none rest rest' w z h = record { deeds_same = refl; new_same = refl; rest_same = h }
turns_same s k (TurnsDone.idle t e) (TurnsDone.idle t' e') rest rest' w z h = turns_same s k t t' rest rest' w z h
turns_same s k {u = u} (TurnsDone.idle {mid = mid} t e) {others = _} {v = v} (TurnsDone.more {replies = others} {deeds = es} {mid = mid'} q d t' b) rest rest' w z h =
    let r = turns_same s k t t' rest (reply_bytes q ++ rest') w (All-left GivesWhole es (shows (pairs_shown mid') ∷ d ∷ []) z) (h ∙ said-push others q rest') in
    absurd (none_ends mid' v q d (ap (λ (y : Device). y.tasks) (sym r.new_same) ∙ e) b)
turns_same s k {u = u} (TurnsDone.more {replies = replies} {deeds = ds} {mid = mid} r d t a) {v = v} (TurnsDone.idle {mid = mid'} t' e) rest rest' w z h =
    let x = turns_same s k t t' (reply_bytes r ++ rest) rest' (All-left GivesWhole ds (shows (pairs_shown mid) ∷ d ∷ []) w) z (sym (said-push replies r rest) ∙ h) in
    absurd (none_ends mid u r d (ap (λ (y : Device). y.tasks) x.new_same ∙ e) a)
turns_same s k {u = u} (TurnsDone.more {replies = replies} {deeds = ds} {mid = mid} r d t a) {v = v} (TurnsDone.more {replies = others} {deeds = es} {mid = mid'} q e t' b) rest rest' w z h =
    let x = turns_same s k t t' (reply_bytes r ++ rest) (reply_bytes q ++ rest') (All-left GivesWhole ds (shows (pairs_shown mid) ∷ d ∷ []) w) (All-left GivesWhole es (shows (pairs_shown mid') ∷ e ∷ []) z) (sym (said-push replies r rest) ∙ h ∙ said-push others q rest') in
    more_same s mid mid' u v replies others r q ds es d e rest rest' (turns_keep s k t) ((All-right GivesWhole ds (shows (pairs_shown mid) ∷ d ∷ []) w).1).0 ((All-right GivesWhole es (shows (pairs_shown mid') ∷ e ∷ []) z).1).0 a b x

-- where no task is left more turns do nothing
pub idles : (s : Device) (j : ℕ) {n : ℕ} {replies : List Reply} {ds : List Deed} {u : Device} → TurnsDone s n replies ds u → u.tasks ≡ [] → TurnsDone s (j + n) replies ds u
idles s zero {n = n} {replies = replies} {ds = ds} {u = u} t e = subst (λ m. TurnsDone s m replies ds u) (omega arith) t
idles s (suc j) {n = n} {replies = replies} {ds = ds} {u = u} t e = subst (λ m. TurnsDone s m replies ds u) (omega arith) (TurnsDone.idle (idles s j t e) e)

-- turns to the end
pub drains_same : (s : Device) → Kept s → (n m : ℕ) (replies others : List Reply) (ds es : List Deed) (u v : Device) → TurnsDone s n replies ds u → u.tasks ≡ [] → TurnsDone s m others es v → v.tasks ≡ [] → (rest rest' : List ℕ) →
    AllWhole ds → AllWhole es → said replies ++ rest ≡ said others ++ rest' → SameTurns ds es u v rest rest'
drains_same s k n m replies others ds es u v t e t' e' rest rest' w z h =
    turns_same s k (idles s m t e) (subst (λ i. TurnsDone s i others es v) (omega arith) (idles s n t' e')) rest rest' w z h
