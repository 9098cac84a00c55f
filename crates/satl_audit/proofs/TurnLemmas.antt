-- Turns of a record.
use Rattle.std.proofs.Common.{arith, true, false, ◌≡◌, refl, sym, ap, ◌∙◌, subst, ℕ, zero, suc, ◌+◌, ◌-◌, List, [], ◌∷◌, ◌++◌, length}
use Rattle.std.specs.Prelude.{◌<◌, ◌≤◌, ◌^◌, ◌==◌, remove, Some, None, slice_get}
use Rattle.std.proofs.lemmas.Bool.{eqb-false, eqb-true}
use Rattle.std.specs.List.{AllByRecursion}
use Rattle.satl_base.specs.declared.reply.Reply.{Reply}
use Rattle.satl_base.proofs.ListsLemmas.{All-remove_first}
use Rattle.satl_identify.specs.declared.identity.Identity.{Identity}
use Rattle.satl_frame.specs.Output.{reply_bytes}
use Rattle.satl_line.specs.declared.entry.Entry.{Entry}
use Rattle.satl_direct.specs.Device.{Device, is_called}
use Rattle.satl_direct.specs.Valid.{AreOwn}
use Rattle.satl_audit.specs.Arriving.{device_at}
use Rattle.satl_audit.specs.Deciding.{AllWhole, GivesWhole}
use Rattle.satl_audit.specs.Deeds.{Deed}
use Rattle.satl_audit.specs.Deeds.Deed.{shows}
use Rattle.satl_audit.specs.Finishing.{AreTasks, CannotEnd, CannotTurn, EndsOn, TurnsOn}
use Rattle.satl_audit.specs.Following.{SomeRefuses}
use Rattle.satl_audit.specs.Kept.{Keeping}
use Rattle.satl_audit.specs.Skeleton.{TaskDone, TurnsDone, pairs_shown}
use Rattle.satl_audit.specs.Waiting.{Fits, Placed, device_tasks}
use Rattle.satl_audit.specs.declared.arriving.Followed.{Followed}
use Rattle.satl_audit.specs.Progress.{recorded, progress}
use Rattle.satl_audit.proofs.AlongLemmas.{follows_push, refuses_more, refuses_push}
use Rattle.satl_audit.proofs.FixingTurns.{Kept, idles, said, said-push, turns_same}
use Rattle.satl_audit.proofs.Naming.{own_removed}
use Rattle.satl_audit.proofs.NextLemmas.{removed_at}
use Rattle.satl_audit.proofs.Telling.{IsFine}
use Rattle.satl_audit.proofs.FirstTurns.{first_turns, said-append}
use Rattle.satl_line.proofs.SlotsLemmas.{All-append, All-right, All-left}

-- ---- tasks that are left

all_left : (P : Placed → Type 0) (ps : List Placed) (place : ℕ) → AllByRecursion P ps → AllByRecursion P (remove ps place)
all_left P [] zero all = tt
all_left P [] (suc place) all = tt
all_left P (p ∷ ps) zero all = all.1
all_left P (p ∷ ps) (suc place) all = (all.0, all_left P ps place all.1)

pub tasks_left : (identity : Identity) (input : List ℕ) (ps : List Placed) (place : ℕ) (p : Placed) → AreTasks identity input ps → slice_get ps place ≡ Some p → AreTasks identity input (remove ps place)
tasks_left identity input ps place p tasks at =
    let gone = is_called p.entry.nexus (p.entry.tag).0 in
    let same = removed_at input ps place p tasks.own at in
    record {
      own = subst AreOwn (sym same) (own_removed gone (device_tasks input ps) tasks.own);
      tags = subst (AllByRecursion (λ t. (t.tag).0 < 2 ^ 32)) (sym same) (All-remove_first (λ (t : Entry). (t.tag).0 < 2 ^ 32) gone (device_tasks input ps) tasks.tags);
      expected = subst (AllByRecursion (λ t. t.expected ≡ None)) (sym same) (All-remove_first (λ (t : Entry). t.expected ≡ None) gone (device_tasks input ps) tasks.expected);
      fit = all_left (Fits identity.capacity (length input)) ps place tasks.fit;
    }

-- ---- one turn more

module _ (identity : Identity) (input : List ℕ) (old mid new : Followed) (before between after : List Keeping) where
  pub one_more : (i : ℕ) → TurnsOn (recorded identity input) i (progress old before) (progress mid between) → EndsOn (recorded identity input) (progress mid between) (progress new after) → TurnsOn (recorded identity input) (i + 1) (progress old before) (progress new after)
  one_more i t e =
      let next : suc i ≡ i + 1 = omega arith in
      record {
        replies = t.replies ++ e.reply ∷ [];
        deeds = t.deeds ++ shows (pairs_shown (device_at identity input mid)) ∷ e.deed ∷ [];
        done = subst (λ n. TurnsDone (device_at identity input old) n (t.replies ++ e.reply ∷ []) (t.deeds ++ shows (pairs_shown (device_at identity input mid)) ∷ e.deed ∷ []) (device_at identity input new)) next
            (TurnsDone.more e.reply e.deed t.done e.done);
        whole = All-append GivesWhole t.deeds (shows (pairs_shown (device_at identity input mid)) ∷ e.deed ∷ []) t.whole (tt, (e.whole, tt));
        said = t.said ∙ ap (λ l. said t.replies ++ l) e.said ∙ sym (said-push t.replies e.reply new.output);
        follows = follows_push input t.deeds (pairs_shown (device_at identity input mid)) (e.deed ∷ []) before between after t.follows e.follows;
      }

-- where no task is left more turns do nothing
pub idle_turns : (identity : Identity) (input : List ℕ) (old new : Followed) (before after : List Keeping) (i count : ℕ) → i ≤ count → new.waiting ≡ [] → TurnsOn (recorded identity input) i (progress old before) (progress new after) → TurnsOn (recorded identity input) count (progress old before) (progress new after)
idle_turns identity input old new before after i count le none t =
    let all : (count - i) + i ≡ count = omega (arith, le) in
    record {
      replies = t.replies;
      deeds = t.deeds;
      done = subst (λ n. TurnsDone (device_at identity input old) n t.replies t.deeds (device_at identity input new)) all (idles (device_at identity input old) (count - i) t.done (ap (device_tasks input) none));
      whole = t.whole;
      said = t.said;
      follows = t.follows;
    }

all_zipped : (ts : List Entry) → AllByRecursion (λ (t : Entry). (t.tag).0 < 2 ^ 32) ts → AllByRecursion (λ (t : Entry). t.expected ≡ None) ts → AllByRecursion IsFine ts
all_zipped [] p q = tt
all_zipped (t ∷ ts) p q = ((p.0, q.0), all_zipped ts p.1 q.1)

pub kept_of : (identity : Identity) (input : List ℕ) (followed : Followed) → AreTasks identity input followed.waiting → Kept (device_at identity input followed)
kept_of identity input followed tasks = record { own = tasks.own; fine = all_zipped (device_tasks input followed.waiting) tasks.tags tasks.expected }

some_tasks : (input : List ℕ) (ps : List Placed) → device_tasks input ps ≡ [] → ps ≡ []
some_tasks input [] h = refl
some_tasks input (p ∷ ps) h = absurd cc

-- where no turn can follow, no more turns can be done
module _ (identity : Identity) (input : List ℕ) (old mid : Followed) (before between : List Keeping) (i : ℕ) (tasks : AreTasks identity input old.waiting) (t : TurnsOn (recorded identity input) i (progress old before) (progress mid between)) (cannot : CannotEnd (recorded identity input) (progress mid between)) where
  by_last : {replies : List Reply} {deeds : List Deed} {u : Device} → TurnsDone (device_at identity input old) (suc i) replies deeds u → (mid.waiting ≡ [] → ⊥) → (others : List Reply) (late : List Deed) (left : List ℕ) → AllWhole deeds → old.output ≡ said replies ++ (said others ++ left) → SomeRefuses input (deeds ++ late) before
  by_last {replies = replies} {deeds = deeds} (TurnsDone.idle t' e) some others late left whole h =
      let same = turns_same (device_at identity input old) (kept_of identity input old tasks) t.done t' mid.output (said others ++ left) t.whole whole (sym t.said ∙ h) in
      absurd (some (some_tasks input mid.waiting (ap (λ (d : Device). d.tasks) same.new_same ∙ e)))
  by_last (TurnsDone.more {replies = replies} {deeds = deeds} {mid = m} {new = u} reply deed t' d) some others late left whole h =
      let rest = reply_bytes reply ++ (said others ++ left) in
      let w = All-left GivesWhole deeds (shows (pairs_shown m) ∷ deed ∷ []) whole in
      let same = turns_same (device_at identity input old) (kept_of identity input old tasks) t.done t' mid.output rest t.whole w (sym t.said ∙ h ∙ said-push replies reply (said others ++ left)) in
      let r = cannot reply deed u (said others ++ left) (subst (λ x. TaskDone x reply deed u) (sym same.new_same) d) ((All-right GivesWhole deeds (shows (pairs_shown m) ∷ deed ∷ []) whole).1).0 same.rest_same in
      let p = refuses_push input t.deeds (pairs_shown (device_at identity input mid)) (deed ∷ []) before between t.follows r in
      refuses_more input (deeds ++ shows (pairs_shown m) ∷ deed ∷ []) late before
      (subst (λ l. SomeRefuses input l before) (ap (λ l. l ++ shows (pairs_shown (device_at identity input mid)) ∷ deed ∷ []) same.deeds_same ∙ ap (λ x. deeds ++ shows (pairs_shown x) ∷ deed ∷ []) same.new_same) p)

  pub stuck_turns : (count : ℕ) → i < count → (mid.waiting ≡ [] → ⊥) → CannotTurn (recorded identity input) count (progress old before)
  stuck_turns count less some replies deeds new left done whole h =
      let all : count ≡ (count - suc i) + suc i = omega (arith, less) in
      let f = first_turns (device_at identity input old) (suc i) (count - suc i) replies deeds new (subst (λ n. TurnsDone (device_at identity input old) n replies deeds new) all done) in
      let w : AllWhole f.early = All-left GivesWhole f.early f.late (subst AllWhole f.deeds_are whole) in
      subst (λ l. SomeRefuses input l before) (sym f.deeds_are)
      (by_last f.done some f.others f.late left w (h ∙ ap (λ l. said l ++ left) f.replies_are ∙ said-append f.some f.others left))

pub no_turns : (identity : Identity) (input : List ℕ) (followed : Followed) (sectors : List Keeping) → TurnsOn (recorded identity input) 0 (progress followed sectors) (progress followed sectors)
no_turns identity input followed sectors = record { replies = []; deeds = []; done = TurnsDone.none; whole = tt; said = refl; follows = (refl, λ x less. refl) }

pub none_waits : (ps : List Placed) → (length ps == 0) ≡ true → ps ≡ []
none_waits [] h = refl
none_waits (p ∷ ps) h = absurd (omega (arith, eqb-true (length (p ∷ ps)) 0 h))

pub some_waits : (ps : List Placed) → (length ps == 0) ≡ false → ps ≡ [] → ⊥
some_waits [] h e = eqb-false 0 0 h refl
some_waits (p ∷ ps) h e = absurd cc
