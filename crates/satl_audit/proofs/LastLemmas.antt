-- END of a record.
use Rattle.std.proofs.Common.{arith, ◌≡◌, ◌⊎◌, ⊎_elim, inl, inr, refl, sym, ap, ◌∙◌, subst, ℕ, suc, ◌+◌, Bool, true, false, List, [], ◌∷◌, ◌++◌, length, map}
use Rattle.std.specs.Prelude.{if◌then◌else◌}
use Rattle.std.proofs.lemmas.List.{length-map}
use Rattle.std.proofs.lemmas.Bool.{both_ways}
use Rattle.satl_base.specs.declared.reply.Reply.{Reply}
use Rattle.satl_base.specs.Lists.{IsIn, remove_first}
use Rattle.satl_identify.specs.declared.identity.Identity.{Identity}
use Rattle.satl_line.specs.declared.entry.Entry.{Entry}
use Rattle.satl_frame.specs.declared.frames.Frame.TheVariants as frames
use Rattle.satl_frame.specs.Output.{all_answered, end_bytes}
use Rattle.satl_frame.specs.Output.Answer.{replied, closed}
use Rattle.satl_direct.specs.Device.{Device, is_called}
use Rattle.satl_direct.proofs.Naming.{called_self}
use Rattle.satl_audit.specs.Advancing.{Advances, CannotGoOn, GoesOn}
use Rattle.satl_audit.specs.Arriving.{device_at}
use Rattle.satl_audit.specs.Deeds.{Deed}
use Rattle.satl_audit.specs.Finishing.{AreTasks, CannotTurn, TurnsOn}
use Rattle.satl_audit.specs.Kept.{Keeping}
use Rattle.satl_audit.specs.Skeleton.{TaskDone, TurnsDone}
use Rattle.satl_audit.specs.Waiting.{task_in}
use Rattle.satl_audit.specs.declared.arriving.Followed.{Followed}
use Rattle.satl_audit.specs.Progress.{recorded, progress}
use Rattle.satl_audit.proofs.FixingEvents.{ended_push}
use Rattle.satl_audit.proofs.FixingTurns.{drains_same, none_ends, said}
use Rattle.satl_audit.proofs.TurnLemmas.{kept_of}
use Rattle.satl_laws.proofs.Ends.{eligible_in as eligible_there}

-- a task fewer
removed : (p : Entry → Bool) (ts : List Entry) (t : Entry) → IsIn t ts → p t ≡ true → length ts ≡ suc (length (remove_first p ts))
removed p [] t there passes = absurd there
removed p (u ∷ ts) t there passes = by (p u) refl (λ rest. removed p ts t rest passes)
  where
    by : (b : Bool) → p u ≡ b → (IsIn t ts → length ts ≡ suc (length (remove_first p ts))) → suc (length ts) ≡ suc (length (if b then ts else u ∷ remove_first p ts))
    by true e rec = refl
    by false e rec = ap suc (⊎_elim (λ same. absurd (both_ways _ e (sym (ap p same) ∙ passes))) rec there)

pub done_fewer : (s u : Device) (reply : Reply) (deed : Deed) → TaskDone s reply deed u → length s.tasks ≡ suc (length u.tasks)
done_fewer s u reply deed d =
    removed (is_called (d.task).nexus ((d.task).tag).0) s.tasks d.task (eligible_there s.tasks d.task d.eligible) (called_self d.task)
    ∙ ap (λ (x : Device). suc (length x.tasks)) (sym d.stays)

-- turns without those that do nothing
pub record Busy (s u : Device) (replies : List Reply) (deeds : List Deed) : Type 0 where
  pub count : ℕ
  pub sum : count + length u.tasks ≡ length s.tasks
  pub done : TurnsDone s count replies deeds u

pub busy : (s : Device) {n : ℕ} {replies : List Reply} {deeds : List Deed} {u : Device} → TurnsDone s n replies deeds u → Busy s u replies deeds
busy s TurnsDone.none = record { count = 0; sum = omega arith; done = TurnsDone.none }
busy s (TurnsDone.idle t e) = busy s t
busy s {u = u} (TurnsDone.more {mid = mid} reply deed t d) =
    let r = busy s t in
    record { count = suc r.count; sum = omega (arith, r.sum, done_fewer mid u reply deed d); done = TurnsDone.more reply deed r.done d }

-- as many turns as there are tasks leave none
turns_left : (s : Device) {n : ℕ} {replies : List Reply} {deeds : List Deed} {u : Device} → TurnsDone s n replies deeds u → (n + length u.tasks ≡ length s.tasks) ⊎ (u.tasks ≡ [])
turns_left s TurnsDone.none = inl (omega arith)
turns_left s (TurnsDone.idle t e) = inr e
turns_left s {u = u} (TurnsDone.more {mid = mid} reply deed t d) =
    ⊎_elim (λ h. inl (omega (arith, h, done_fewer mid u reply deed d))) (λ e. absurd (none_ends mid u reply deed e d)) (turns_left s t)

no_task : (ts : List Entry) → length ts ≡ 0 → ts ≡ []
no_task [] e = refl
no_task (t ∷ ts) e = absurd (omega (arith, e))

pub all_done : (s : Device) {n : ℕ} {replies : List Reply} {deeds : List Deed} {u : Device} → n ≡ length s.tasks → TurnsDone s n replies deeds u → u.tasks ≡ []
all_done s {u = u} same t = ⊎_elim (λ h. no_task u.tasks (omega (arith, h, same))) (λ e. e) (turns_left s t)

-- ---- END

module _ (identity : Identity) (input : List ℕ) (old mid : Followed) (sectors after : List Keeping) (count : ℕ) (all : count ≡ length old.waiting) where
  as_many : count ≡ length (device_at identity input old).tasks
  as_many = all ∙ sym (length-map old.waiting (task_in input))

  pub end_goes : (new : Followed) → device_at identity input new ≡ device_at identity input mid → TurnsOn (recorded identity input) count (progress old sectors) (progress mid after) → mid.output ≡ end_bytes ++ new.output → GoesOn (recorded identity input) frames.End (progress old sectors) (progress new after)
  end_goes new same t passed = record {
    answers = map replied t.replies ++ closed ∷ [];
    deeds = t.deeds;
    stepped = (t.replies, refl, count, subst (TurnsDone (device_at identity input old) count t.replies t.deeds) (sym same) t.done, ap (λ (d : Device). d.tasks) same ∙ all_done (device_at identity input old) as_many t.done);
    whole = t.whole;
    said = t.said ∙ ap (λ l. said t.replies ++ l) passed ∙ sym (ended_push t.replies new.output);
    follows = t.follows;
  }

  pub end_stops : CannotTurn (recorded identity input) count (progress old sectors) → CannotGoOn (recorded identity input) frames.End (progress old sectors)
  end_stops cannot answers deeds new left e whole h =
      let b = busy (device_at identity input old) e.3 in
      let same : b.count ≡ count = omega (arith, b.sum, ap (λ (l : List Entry). length l) e.4, as_many) in
      cannot e.0 deeds new (end_bytes ++ left) (subst (λ n. TurnsDone (device_at identity input old) n e.0 deeds new) same b.done) whole (h ∙ ap (λ l. all_answered l ++ left) e.1 ∙ ended_push e.0 left)

  pub end_lacks : AreTasks identity input old.waiting → TurnsOn (recorded identity input) count (progress old sectors) (progress mid after) → ((rest : List ℕ) → mid.output ≡ end_bytes ++ rest → ⊥) → CannotGoOn (recorded identity input) frames.End (progress old sectors)
  end_lacks tasks t other answers deeds new left e whole h =
      let same = drains_same (device_at identity input old) (kept_of identity input old tasks) count e.2 t.replies e.0 t.deeds deeds (device_at identity input mid) new t.done (all_done (device_at identity input old) as_many t.done) e.3 e.4
      mid.output (end_bytes ++ left) t.whole whole (sym t.said ∙ h ∙ ap (λ l. all_answered l ++ left) e.1 ∙ ended_push e.0 left) in
      absurd (other left same.rest_same)

-- the output ends, or it does not
pub end_passes : (identity : Identity) (input : List ℕ) (old mid new : Followed) (sectors after : List Keeping) (count : ℕ) → count ≡ length old.waiting → AreTasks identity input old.waiting → TurnsOn (recorded identity input) count (progress old sectors) (progress mid after) → device_at identity input new ≡ device_at identity input mid →
    (passed : Bool) → (passed ≡ true → mid.output ≡ end_bytes ++ new.output) → (passed ≡ false → (rest : List ℕ) → mid.output ≡ end_bytes ++ rest → ⊥) → Advances (recorded identity input) frames.End (progress old sectors) (progress new after) passed
end_passes identity input old mid new sectors after count all tasks t same true passes lacks = end_goes identity input old mid sectors after count all new same t (passes refl)
end_passes identity input old mid new sectors after count all tasks t same false passes lacks = end_lacks identity input old mid sectors after count all tasks t (lacks refl)
