-- Steps of the device, made from what the layer and its drive do.
use Rattle.std.proofs.Common.{◌≡◌, inl, refl, sym, ap, subst, ◌∙◌, true, false, Bool, List, [], ◌∷◌, ◌++◌, map}
use Rattle.std.specs.Prelude.{MatchBool, not, ◌||◌, ◌&&◌}
use Rattle.std.proofs.lemmas.Bool.{eq-eqb}
use Rattle.satl_base.specs.declared.modes.Modes.{Modes}
use Rattle.satl_base.specs.declared.request.Request.{Request}
use Rattle.satl_base.specs.declared.reply.Reply.{Reply}
use Rattle.satl_sense.specs.declared.sense.Sense.{Sense}
use Rattle.satl_identify.specs.declared.identity.Identity.{Identity}
use Rattle.satl_line.specs.declared.entry.Entry.{Entry}
use Rattle.satl_line.specs.Eligible.{IsEligible}
use Rattle.satl_unit.specs.declared.attention.Attention.{Attention}
use Rattle.satl_line.specs.Tasks.{Held, entries_of}
use Rattle.satl_drive.specs.State.{DriveState}
use Rattle.satl_direct.specs.Arrival.{Arrives}
use Rattle.satl_direct.specs.Device.{Device, without}
use Rattle.satl_direct.specs.Tasks.{asks, task_of}
use Rattle.satl_direct.specs.Ending.{Ends, EndsBy, IsChecked, task_check}
use Rattle.satl_direct.specs.Quiet.{Around, Quiet}
use Rattle.satl_direct.specs.Run.{MayLose}
use Rattle.satl_direct.specs.Run.MayLose.{keeps}
use Rattle.satl_direct.specs.Senses.{link_lost, not_ready}
use Rattle.satl_direct.specs.Turn as turns
use Rattle.satl_direct.specs.Turn.{MayEnd, Turn}
use Rattle.satl_direct.specs.Turn.Turn.{idle}
use Rattle.satl_direct.proofs.Quieting.{quiet_none, around_alone}
use Rattle.satl_core.specs.declared.turning.Ending.{Ending}
use Rattle.satl_core.specs.declared.turning.Ending.TheVariants as endings
use Rattle.satl_core.specs.Refilling.{EndsOne}
use Rattle.satl_core.specs.Turning as core
use Rattle.satl_core.specs.Turning.{ended_reply}
use Rattle.satl_core.proofs.HeldLemmas.{IsFirst}

-- the device by its parts
abbrev pub seen : Identity → Modes → Bool → List (List Attention) → List Entry → DriveState → Device
seen identity modes started attentions tasks d = record { cells = d.cells; tasks = tasks; modes = modes; started = started; active = d.active; down = d.down; attentions = attentions; glitches = d.glitches; identity = identity }

-- ---- quiet moves

pub quiet_same : (s new : Device) → new ≡ s → Quiet s new
quiet_same s new same = subst (Quiet s) (sym same) (quiet_none s)

pub arrives_around : (r : Request) (s new : Device) (answers : List Reply) → Arrives r s answers new → Around (MayLose (Arrives r)) s answers new
arrives_around r s new answers a = around_alone (MayLose (Arrives r)) s new answers (keeps a)

-- ---- the first task

without_first : (t : Entry) (others : List Entry) → without t (t ∷ others) ≡ others
without_first t others = rw (eq-eqb t.nexus t.nexus refl, eq-eqb (t.tag).0 (t.tag).0 refl) refl

first_may_end : (t : Entry) (others : List Entry) (stuck : Bool) → MatchBool stuck (turns.IsFirst (t ∷ others) t) (IsEligible (t ∷ others) t)
first_may_end t others true = refl
first_may_end t others false = inl refl

pub first_tasks : (tasks rest : List Held) (entry : Entry) → IsFirst tasks entry rest → map task_of (entries_of tasks) ≡ task_of entry ∷ map task_of (entries_of rest)
first_tasks tasks rest entry first = ap (λ t. map task_of (entries_of t)) first.are ∙ ap (λ e. task_of e ∷ map task_of (entries_of rest)) first.entry_is

-- ---- turns

pub idle_around : (s new : Device) (answers : List Reply) → s.tasks ≡ [] → answers ≡ [] → new ≡ s → Around Turn s answers new
idle_around s new answers none silent same =
    subst (λ a. Around Turn s a new) (sym silent) (subst (Around Turn s []) (sym same) (around_alone Turn s s [] (idle none)))

-- the first task ends between quiet moves
pub ends_around : (old s mid new : Device) (t : Entry) (others : List Entry) (reply : Reply) → Quiet old s → s.tasks ≡ t ∷ others → Ends s t reply mid → Quiet mid new → EndsOne old reply new
ends_around old s mid new t others reply before first e quiet = record {
  before = s;
  after = mid;
  quiet_before = before;
  ends = record { task = t; may = may; ends = e };
  quiet_after = quiet;
}
  where
    may : MayEnd s t
    may = subst (λ ts. MatchBool (s.down || not s.started) (turns.IsFirst ts t) (IsEligible ts t)) (sym first) (first_may_end t others (s.down || not s.started))

-- how a task ends that a started unit alone carries out
abbrev EndsSo : Bool → Bool → Device → Entry → Reply → Device → Type 0
EndsSo down stops s t reply new = MatchBool down (IsChecked link_lost s t reply new) (MatchBool stops (IsChecked not_ready s t reply new) (EndsBy t.command s t reply new))

pub ends_down : (s : Device) (t : Entry) (reply : Reply) (new : Device) → s.down ≡ true → IsChecked link_lost s t reply new → Ends s t reply new
ends_down s t reply new down e = subst (λ b. EndsSo b (not s.started && (asks t.command).needs_started) s t reply new) (sym down) e

pub ends_stopped : (s : Device) (t : Entry) (reply : Reply) (new : Device) → s.down ≡ false → (not s.started && (asks t.command).needs_started) ≡ true → IsChecked not_ready s t reply new → Ends s t reply new
ends_stopped s t reply new up stopped e = subst (λ b. EndsSo b (not s.started && (asks t.command).needs_started) s t reply new) (sym up) (subst (λ b. EndsSo false b s t reply new) (sym stopped) e)

pub ends_by : (s : Device) (t : Entry) (reply : Reply) (new : Device) → s.down ≡ false → (not s.started && (asks t.command).needs_started) ≡ false → EndsBy t.command s t reply new → Ends s t reply new
ends_by s t reply new up ready e = subst (λ b. EndsSo b (not s.started && (asks t.command).needs_started) s t reply new) (sym up) (subst (λ b. EndsSo false b s t reply new) (sym ready) e)

-- the first task is gone, and nothing else has changed
pub first_gone : (identity : Identity) (modes : Modes) (started : Bool) (attentions : List (List Attention)) (t : Entry) (others : List Entry) (d : DriveState) → seen identity modes started attentions others d ≡ record (seen identity modes started attentions (t ∷ others) d) { tasks = without t (t ∷ others) }
first_gone identity modes started attentions t others d = ap (λ ts. seen identity modes started attentions ts d) (sym (without_first t others))

pub first_checked : (identity : Identity) (modes : Modes) (started : Bool) (attentions : List (List Attention)) (entry : Entry) (others : List Entry) (d : DriveState) (sense : Sense)
    → IsChecked sense (seen identity modes started attentions (task_of entry ∷ others) d) (task_of entry) (ended_reply entry (endings.Check sense) modes.d_sense) (seen identity modes started attentions others d)
first_checked identity modes started attentions entry others d sense = record { answer = refl; stays = first_gone identity modes started attentions (task_of entry) others d }

-- ---- a lost link

pub rest_lost : (s : Device) (rest : List Held) → core.lost_replies s.modes.d_sense rest ≡ map (λ t. task_check s t link_lost) (map task_of (entries_of rest))
rest_lost s [] = refl
rest_lost s (h ∷ rest) = ap (λ l. task_check s (task_of h.entry) link_lost ∷ l) (rest_lost s rest)

-- the answer to the first task and those to the others are those of the device
pub all_lost : (s : Device) (entry : Entry) (rest : List Held) (given pushed all : List Reply) (reply : Reply) (ending : Ending) → s.tasks ≡ task_of entry ∷ map task_of (entries_of rest) → given ≡ []
    → pushed ≡ given ++ reply ∷ [] → all ≡ pushed ++ core.lost_replies s.modes.d_sense rest → reply ≡ ended_reply entry ending s.modes.d_sense → ending ≡ endings.Check link_lost → all ≡ turns.device_lost_replies s
all_lost s entry rest given pushed all reply ending first none push is one lost =
    is
    ∙ ap (λ l. l ++ core.lost_replies s.modes.d_sense rest) (push ∙ ap (λ l. l ++ reply ∷ []) none)
    ∙ ap (λ r. r ∷ core.lost_replies s.modes.d_sense rest) (one ∙ ap (λ e. ended_reply entry e s.modes.d_sense) lost)
    ∙ ap (λ l. task_check s (task_of entry) link_lost ∷ l) (rest_lost s rest)
    ∙ sym (ap (map (λ t. task_check s t link_lost)) first)
