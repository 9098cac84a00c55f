-- A turn, and a step that may lose the link, from their parts.
use Rattle.std.proofs.Common.{◌≡◌, append_assoc, refl, sym, ◌∙◌, ap, subst, inl, ⊎_elim, true, Bool, List, [], ◌∷◌, ◌++◌}
use Rattle.std.specs.Prelude.{not, filter}
use Rattle.std.proofs.lemmas.List.{append-nil}
use Rattle.satl_base.specs.declared.reply.Reply.{Reply}
use Rattle.satl_line.specs.declared.entry.Entry.{Entry}
use Rattle.satl_direct.specs.Device.{Device}
use Rattle.satl_direct.specs.Quiet.{Around, Quiet}
use Rattle.satl_direct.specs.Run.{MayLose}
use Rattle.satl_direct.specs.Run.MayLose.{keeps, keeps_and_loses}
use Rattle.satl_direct.specs.Turn.{Loss, Turn, TurnLoss}
use Rattle.satl_direct.specs.Turn.Turn.{ends as turn_ends, ends_and_loses as turn_ends_and_loses}
use Rattle.satl_direct.proofs.Quieting.{quiet_none}
use Rattle.satl_core.specs.Refilling.{Answers, EndsOne, EndsOrLoses, Refills, Removes}
use Rattle.satl_core.proofs.QuietLemmas.{quiet_on}

turn_loss : (a b : Device) (answers : List Reply) → Loss a answers b → TurnLoss a answers b
turn_loss a b answers l = record {
  was_up = l.was_up;
  answer = l.answer;
  glitches = inl (ap (λ (d : Device). d.glitches) l.stays);
  stays = l.stays ∙ ap (λ n. record a { tasks = []; down = true; glitches = n }) (sym (ap (λ (d : Device). d.glitches) l.stays)) ∙ ap (λ x. record a { tasks = []; down = true; glitches = b.glitches; active = x }) (sym (ap (λ (d : Device). d.active) l.stays));
}

-- one has ended, and then what may be issued was, or the link was lost
turn_on : (old mid new : Device) (reply : Reply) (answers : List Reply) → EndsOne old reply mid → Refills mid answers new → Around Turn old (reply ∷ answers) new
turn_on old mid new reply answers e refills =
    ⊎_elim
    (λ (quiet : (answers ≡ []) × Quiet mid new). subst (λ l. Around Turn old (reply ∷ l) new) (sym quiet.0)
    (record { before = e.before; after = e.after; quiet_before = e.quiet_before; step = turn_ends reply e.ends; quiet_after = quiet_on e.after mid new e.quiet_after quiet.1 }))
    (λ (lost : (m : Device) × Quiet mid m × Loss m answers new). record {
      before = e.before;
      after = new;
      quiet_before = e.quiet_before;
      step = turn_ends_and_loses reply e.ends (quiet_on e.after mid lost.0 e.quiet_after lost.1) (turn_loss lost.0 new answers lost.2);
      quiet_after = quiet_none new;
    })
    refills

-- a turn: one has ended or the link was lost, and then what may be issued was, where the link was not lost before
pub turn_of : (old mid new : Device) (first all : List Reply) → EndsOrLoses old first mid → Answers (λ more. Refills mid more new) first all → (mid.down ≡ true → (all ≡ first) × (new ≡ mid)) → Around Turn old all new
turn_of old mid new first all ends refills idle =
    ⊎_elim
    (λ (one : (reply : Reply) × (first ≡ reply ∷ []) × EndsOne old reply mid).
    subst (λ l. Around Turn old l new) (sym (refills.behind ∙ ap (λ l. l ++ refills.more) one.1)) (turn_on old mid new one.0 refills.more one.2 refills.step))
    (λ (lost : Around Turn old first mid × (mid.down ≡ true)).
    subst (λ l. Around Turn old l new) (sym (idle lost.1).0) (subst (Around Turn old first) (sym (idle lost.1).1) lost.0))
    ends

-- a step, and then what may be issued was, or the link was lost
pub step_on : (Step : Device → List Reply → Device → Type 0) (old mid new : Device) (answers more : List Reply) → Around Step old answers mid → Refills mid more new → Around (MayLose Step) old (answers ++ more) new
step_on Step old mid new answers more a refills =
    ⊎_elim
    (λ (quiet : (more ≡ []) × Quiet mid new). subst (λ l. Around (MayLose Step) old l new) (sym (ap (λ l. answers ++ l) quiet.0 ∙ append-nil answers))
    (record { before = a.before; after = a.after; quiet_before = a.quiet_before; step = keeps a.step; quiet_after = quiet_on a.after mid new a.quiet_after quiet.1 }))
    (λ (lost : (m : Device) × Quiet mid m × Loss m more new). record {
      before = a.before;
      after = new;
      quiet_before = a.quiet_before;
      step = keeps_and_loses a.step (quiet_on a.after mid lost.0 a.quiet_after lost.1) lost.2;
      quiet_after = quiet_none new;
    })
    refills

-- a step with more answers before those of another, from another device on
pub map_step : (S T : Device → List Reply → Device → Type 0) (first : List Reply) (s t : Device) → ((mid : Device) (answers : List Reply) → S s answers mid → T t (first ++ answers) mid)
    → (answers : List Reply) (new : Device) → MayLose S s answers new → MayLose T t (first ++ answers) new
map_step S T first s t each answers new (keeps step) = keeps (each new answers step)
map_step S T first s t each all new (keeps_and_loses {answers = answers} {more = more} {mid = mid} {after = after} step quiet loss) =
    subst (λ l. MayLose T t l new) (append_assoc first answers more) (keeps_and_loses (each mid answers step) quiet loss)

pub around_step : (S T : Device → List Reply → Device → Type 0) (first : List Reply) (old new : Device) (answers : List Reply) → ((s mid : Device) (given : List Reply) → Quiet old s → S s given mid → T s (first ++ given) mid)
    → Around (MayLose S) old answers new → Around (MayLose T) old (first ++ answers) new
around_step S T first old new answers each a = record {
  before = a.before;
  after = a.after;
  quiet_before = a.quiet_before;
  step = map_step S T first a.before a.before (λ mid given step. each a.before mid given a.quiet_before step) answers a.after a.step;
  quiet_after = a.quiet_after;
}

-- tasks go, with quiet moves before it
pub removes_quietly : (goes : Entry → Bool) (old before mid : Device) → Quiet old before → mid ≡ record before { tasks = filter (λ t. not (goes t)) before.tasks } → Around (Removes goes) old [] mid
removes_quietly goes old before mid quiet is = record {
  before = before;
  after = mid;
  quiet_before = quiet;
  step = record { none = refl; stays = is };
  quiet_after = quiet_none mid;
}

-- tasks go, and the link is lost
pub removes_and_loses : (goes : Entry → Bool) (old before mid new : Device) (answers : List Reply) → Quiet old before → mid ≡ record before { tasks = filter (λ t. not (goes t)) before.tasks } → Loss mid answers new
    → Around (MayLose (Removes goes)) old answers new
removes_and_loses goes old before mid new answers quiet is loss = record {
  before = before;
  after = new;
  quiet_before = quiet;
  step = keeps_and_loses {answers = []} (record { none = refl; stays = is }) (quiet_none mid) loss;
  quiet_after = quiet_none new;
}
