-- Quiet moves, turns and losses of the link with tags in place of others.
use Rattle.std.proofs.Common.{◌≡◌, ⊎_elim, inl, inr, refl, sym, ap, ◌∙◌, subst, ℕ, suc, max, Bool, true, false, List, [], ◌∷◌, ◌++◌, map, length}
use Rattle.std.specs.Prelude.{not, ◌||◌, min, filter, if◌then◌else◌}
use Rattle.std.proofs.lemmas.List.{map-append}
use Rattle.satl_base.specs.declared.reply.Reply.{Reply}
use Rattle.satl_base.specs.Cells.{Pair}
use Rattle.satl_base.specs.Lists.{IsIn}
use Rattle.satl_base.proofs.MovesLemmas.{moves_weaker}
use Rattle.satl_cdb.specs.declared.command.Command.{Command}
use Rattle.satl_cdb.specs.declared.command.Command.TheVariants as commands
use Rattle.satl_line.specs.declared.entry.Entry.{Entry}
use Rattle.satl_line.specs.Conflict.{conflicts}
use Rattle.satl_line.specs.Eligible.{IsEligible}
use Rattle.satl_line.specs.Kinds.{is_ranged}
use Rattle.satl_line.proofs.EligibleLemmas.{eligible_formed}
use Rattle.satl_direct.specs.Device.{Device}
use Rattle.satl_direct.specs.Ending.{task_check}
use Rattle.satl_direct.specs.Quiet.{Around, IsUnderWay, MayShow, MayWake, Quiet, StaysOrWakes, written_by}
use Rattle.satl_direct.specs.Senses.{link_lost}
use Rattle.satl_direct.specs.Turn.{IsFirst, IsLost, Loss, MayEnd, OneEnds, Turn, TurnLoss, device_lost_replies}
use Rattle.satl_direct.specs.Turn.Turn.{idle, ends, loses, ends_and_loses}
use Rattle.satl_direct.specs.Run.{Drains, MayLose, TurnsOf, depth, eligibles}
use Rattle.satl_direct.specs.Run.MayLose.{keeps, keeps_and_loses}
use Rattle.satl_direct.specs.Run.TurnsOf.{none, more}
use Rattle.satl_renaming.proofs.Names.{AreApart, Names}
use Rattle.satl_renaming.proofs.Renaming.{device_by, entries_by, entry_by, filter_alike, length_alike, replies_by, reply_by}
use Rattle.satl_renaming.proofs.RenamedEnds.{both_cases, ends_alike}

module _ (names : Names) where
  -- ---- quiet moves

  eligible_alike : (tasks : List Entry) (t : Entry) → IsEligible tasks t → IsEligible (entries_by names tasks) (entry_by names t)
  eligible_alike tasks t e = eligible_formed conflicts conflicts (entry_by names) (λ a b. refl) tasks t e

  written_alike : (c : Command) (s : Device) (t : Entry) → written_by c (device_by names s) (entry_by names t) ≡ written_by c s t
  written_alike (commands.WriteSame form lba count false) s t = refl
  written_alike (commands.WriteSame form lba count true) s t = refl
  written_alike _ s t = refl

  under_way_alike : (s : Device) (t : Entry) → IsUnderWay s t → IsUnderWay (device_by names s) (entry_by names t)
  under_way_alike s t u = record { up = u.up; eligible = eligible_alike s.tasks t u.eligible }

  show_alike : (s : Device) (pair : Pair) → MayShow s pair → MayShow (device_by names s) pair
  show_alike s pair m = record {
    task = entry_by names m.task;
    under_way = under_way_alike s m.task m.under_way;
    started = m.started;
    among = subst (IsIn pair) (sym (written_alike (m.task).command s m.task)) m.among;
  }

  wake_alike : (s : Device) → MayWake s → MayWake (device_by names s)
  wake_alike s m = record { task = entry_by names m.task; under_way = under_way_alike s m.task m.under_way; wakes_it = m.wakes_it }

  active_alike : (s : Device) (active : Bool) → StaysOrWakes s active → StaysOrWakes (device_by names s) active
  active_alike s active h = ⊎_elim (λ same. inl same) (λ woken. inr (woken.0, wake_alike s woken.1)) h

  pub quiet_alike : (old new : Device) → Quiet old new → Quiet (device_by names old) (device_by names new)
  quiet_alike old new q = record { cells = moves_weaker (show_alike old) q.cells; active = active_alike old new.active q.active; stays = ap (device_by names) q.stays }

  -- a step that goes over, with quiet moves around it
  pub around_alike : (Step Other : Device → List Reply → Device → Type 0) → ((s new : Device) (answers : List Reply) → Step s answers new → Other (device_by names s) (replies_by names answers) (device_by names new))
      → (s new : Device) (answers : List Reply) → Around Step s answers new → Around Other (device_by names s) (replies_by names answers) (device_by names new)
  around_alike Step Other over s new answers a = record {
    before = device_by names a.before;
    after = device_by names a.after;
    quiet_before = quiet_alike s a.before a.quiet_before;
    step = over a.before a.after answers a.step;
    quiet_after = quiet_alike a.after new a.quiet_after;
  }

  -- ---- losses of the link

  lost_alike : (s : Device) → replies_by names (device_lost_replies s) ≡ device_lost_replies (device_by names s)
  lost_alike s = each s.tasks
    where
      each : (tasks : List Entry) → replies_by names (map (λ t. task_check s t link_lost) tasks) ≡ map (λ t. task_check (device_by names s) t link_lost) (entries_by names tasks)
      each [] = refl
      each (t ∷ ts) = ap (λ l. reply_by names (task_check s t link_lost) ∷ l) (each ts)

  pub is_lost_alike : (old new : Device) (answers : List Reply) → IsLost old answers new → IsLost (device_by names old) (replies_by names answers) (device_by names new)
  is_lost_alike old new answers h = record { answer = ap (replies_by names) h.answer ∙ lost_alike old; stays = ap (device_by names) h.stays }

  loss_alike : (old new : Device) (answers : List Reply) → Loss old answers new → Loss (device_by names old) (replies_by names answers) (device_by names new)
  loss_alike old new answers h = record { was_up = h.was_up; answer = ap (replies_by names) h.answer ∙ lost_alike old; stays = ap (device_by names) h.stays }

  turn_loss_alike : (old new : Device) (answers : List Reply) → TurnLoss old answers new → TurnLoss (device_by names old) (replies_by names answers) (device_by names new)
  turn_loss_alike old new answers h = record { was_up = h.was_up; answer = ap (replies_by names) h.answer ∙ lost_alike old; glitches = h.glitches; stays = ap (device_by names) h.stays }

  -- a step that goes over, and then perhaps a loss
  pub may_lose_alike : (Step Other : Device → List Reply → Device → Type 0) → ((s new : Device) (answers : List Reply) → Step s answers new → Other (device_by names s) (replies_by names answers) (device_by names new))
      → (s new : Device) (answers : List Reply) → MayLose Step s answers new → MayLose Other (device_by names s) (replies_by names answers) (device_by names new)
  may_lose_alike Step Other over s new answers (keeps step) = keeps (over s new answers step)
  may_lose_alike Step Other over s new all (keeps_and_loses {answers = answers} {more = rest} {mid = mid} {after = after} step quiet loss) =
      subst (λ l. MayLose Other (device_by names s) l (device_by names new)) (sym (map-append (reply_by names) answers rest))
      (keeps_and_loses (over s mid answers step) (quiet_alike mid after quiet) (loss_alike after new rest loss))

  -- ---- how many commands the drive may hold

  eligibles_alike : (tasks : List Entry) → eligibles (entries_by names tasks) ≡ entries_by names (eligibles tasks)
  eligibles_alike [] = refl
  eligibles_alike (t ∷ ts) =
      ap (λ l. entry_by names t ∷ filter (λ u. not (conflicts (entry_by names t) u)) l) (eligibles_alike ts)
      ∙ ap (λ l. entry_by names t ∷ l) (filter_alike names (λ u. not (conflicts t u)) (λ u. not (conflicts (entry_by names t) u)) (λ u. refl) (eligibles ts))

  pub depth_alike : (s : Device) → depth (device_by names s) ≡ depth s
  depth_alike s =
      ap (λ n. if s.down || not s.started then 0 else min 32 n)
      (ap (λ l. length (filter is_ranged l)) (eligibles_alike s.tasks)
      ∙ ap length (filter_alike names is_ranged is_ranged (λ t. refl) (eligibles s.tasks))
      ∙ length_alike names (filter is_ranged (eligibles s.tasks)))

  module _ (apart : AreApart names) where
    -- ---- turns

    first_alike : (tasks : List Entry) (t : Entry) → IsFirst tasks t → IsFirst (entries_by names tasks) (entry_by names t)
    first_alike [] t h = h
    first_alike (u ∷ us) t h = ap (entry_by names) h

    may_end_alike : (s : Device) (t : Entry) → MayEnd s t → MayEnd (device_by names s) (entry_by names t)
    may_end_alike s t m = both_cases (s.down || not s.started) (first_alike s.tasks t) (eligible_alike s.tasks t) m

    one_ends_alike : (s new : Device) (reply : Reply) → OneEnds s reply new → OneEnds (device_by names s) (reply_by names reply) (device_by names new)
    one_ends_alike s new reply o = record { task = entry_by names o.task; may = may_end_alike s o.task o.may; ends = ends_alike names apart o.task reply new s o.ends }

    none_left : (tasks : List Entry) → entries_by names tasks ≡ [] → tasks ≡ []
    none_left [] h = refl
    none_left (t ∷ ts) h = absurd cc

    turn_alike : (s new : Device) (answers : List Reply) → Turn s answers new → Turn (device_by names s) (replies_by names answers) (device_by names new)
    turn_alike s new answers (idle empty) = idle (ap (entries_by names) empty)
    turn_alike s new answers (ends reply one) = ends (reply_by names reply) (one_ends_alike s new reply one)
    turn_alike s new answers (loses some loss) = loses (λ e. some (none_left s.tasks e)) (turn_loss_alike s new answers loss)
    turn_alike s new all (ends_and_loses {mid = mid} {after = after} {answers = answers} reply one quiet loss) =
        ends_and_loses (reply_by names reply) (one_ends_alike s mid reply one) (quiet_alike mid after quiet) (turn_loss_alike after new answers loss)

    pub turns_alike : {n deep : ℕ} {s new : Device} {answers : List Reply} → TurnsOf n s answers new deep → TurnsOf n (device_by names s) (replies_by names answers) (device_by names new) deep
    turns_alike none = none
    turns_alike {s = s} {new = new} (more {n = n} {deep = deep} {mid = mid} {earlier = earlier} {rest = rest} before turn) =
        subst (λ d. TurnsOf (suc n) (device_by names s) (replies_by names (earlier ++ rest)) (device_by names new) (max deep d)) (depth_alike new)
        (subst (λ l. TurnsOf (suc n) (device_by names s) l (device_by names new) (max deep (depth (device_by names new)))) (sym (map-append (reply_by names) earlier rest))
        (more (turns_alike before) (around_alike Turn Turn turn_alike mid new rest turn)))

    pub drains_alike : (s new : Device) (answers : List Reply) (deep : ℕ) → Drains s answers new deep → Drains (device_by names s) (replies_by names answers) (device_by names new) deep
    drains_alike s new answers deep d = record { count = d.count; turns = turns_alike d.turns; empty = ap (entries_by names) d.empty }
