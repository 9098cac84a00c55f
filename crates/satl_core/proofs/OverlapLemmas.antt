-- A request that overlaps a task, and one that becomes a task and is issued.
use Rattle.std.proofs.Common.{◌≡◌, refl, sym, ap, subst, ◌∙◌, true, false, List, [], ◌∷◌, ◌++◌, Err}
use Rattle.std.specs.Prelude.{not, ◌&&◌, filter}
use Rattle.std.proofs.lemmas.Bool.{and_parts}
use Rattle.satl_base.specs.declared.reply.Reply.{Reply}
use Rattle.satl_base.specs.declared.request.Request.{Request}
use Rattle.satl_line.specs.Tasks.{Held}
use Rattle.satl_drive.specs.State.{DriveState}
use Rattle.satl_direct.specs.Arrival.{Arrives}
use Rattle.satl_direct.specs.Device.{Device, is_of}
use Rattle.satl_direct.specs.Quiet.{Around, Quiet}
use Rattle.satl_direct.specs.Run.{MayLose}
use Rattle.satl_direct.specs.Senses.{overlapped}
use Rattle.satl_direct.proofs.Quieting.{around_alone}
use Rattle.satl_core.specs.declared.leaving.Scope.TheVariants as scopes
use Rattle.satl_core.specs.declared.submitting.AtOnce.TheVariants as at_once
use Rattle.satl_core.specs.Layer.{Layer, view}
use Rattle.satl_core.specs.Leaving.{is_within, left_by}
use Rattle.satl_core.specs.Refilling.{Answers, Refills, Removes}
use Rattle.satl_asks.specs.Requests.{is_for_unit}
use Rattle.satl_core.specs.Submitting.{IsCutOf, is_overlapping, judged, once_judged, overlaps, reply_at_once}
use Rattle.satl_core.proofs.ArrivalLemmas.{answers_at_once}
use Rattle.satl_core.proofs.ComposeLemmas.{around_step, step_on}
use Rattle.satl_core.proofs.LeavingLemmas.{left_tasks}

-- the whole request overlaps, too
same_overlap : (tasks : List Held) (whole cut : Request) → IsCutOf whole cut → is_overlapping tasks cut ≡ true → is_overlapping tasks whole ≡ true
same_overlap tasks whole cut c is = ap (is_overlapping tasks) (sym c.cut_is) ∙ is

judged_overlapped : (l : Layer) (r : Request) → is_overlapping l.tasks r ≡ true → judged l r ≡ Err (at_once.Check overlapped)
judged_overlapped l r is = let b = and_parts (is_for_unit r) (overlaps l.tasks r) is in rw (b.0, b.1) refl

left_overlapped : (l : Layer) (r : Request) → is_overlapping l.tasks r ≡ true → once_judged l r ≡ record l { tasks = left_by (is_of r.nexus) l.tasks }
left_overlapped l r is = let b = and_parts (is_for_unit r) (overlaps l.tasks r) is in rw (b.0, b.1) refl

-- the tasks of its nexus go, and it is refused
overlap_step : (l : Layer) (d : DriveState) (r : Request) (s mid : Device) (given : List Reply) → l.down ≡ d.down → is_overlapping l.tasks r ≡ true → Quiet (view l d) s → Removes (is_within (scopes.OfNexus r.nexus)) s given mid
    → Arrives r s (reply_at_once l.identity l.modes r (at_once.Check overlapped) ∷ given) mid
overlap_step l d r s mid given mark is quiet r' =
    subst (λ a. Arrives r s (reply_at_once l.identity l.modes r (at_once.Check overlapped) ∷ a) mid) (sym r'.none)
    (subst (λ x. Arrives r x (reply_at_once l.identity l.modes r (at_once.Check overlapped) ∷ []) mid) (sym quiet.stays)
    (answers_at_once l mid there r (at_once.Check overlapped) (reply_at_once l.identity l.modes r (at_once.Check overlapped) ∷ []) mark (judged_overlapped l r is) refl
    (r'.stays ∙ (ap (λ (x : Device). record x { tasks = filter (λ t. not (is_of r.nexus t)) x.tasks }) quiet.stays
    ∙ (ap (λ ts. record (view l there) { tasks = ts }) (sym (left_tasks (is_of r.nexus) (is_of r.nexus) (λ t. refl) l.tasks))
    ∙ ap (λ x. view x there) (sym (left_overlapped l r is)))))))
  where
    there : DriveState
    there = record d { cells = s.cells; active = s.active }

pub overlap_around : (l : Layer) (d : DriveState) (whole cut : Request) (new : Device) (given replies : List Reply) → l.down ≡ d.down → IsCutOf whole cut → is_overlapping l.tasks cut ≡ true
    → given ≡ reply_at_once l.identity l.modes cut (at_once.Check overlapped) ∷ []
    → Answers (λ more. Around (MayLose (Removes (is_within (scopes.OfNexus cut.nexus)))) (view l d) more new) given replies → Around (MayLose (Arrives whole)) (view l d) replies new
overlap_around l d whole cut new given replies mark c is told a =
    subst (λ x. Around (MayLose (Arrives whole)) (view l d) x new) (sym (a.behind ∙ ap (λ g. g ++ a.more) (told ∙ ap (λ (x : Request). reply_at_once l.identity l.modes x (at_once.Check overlapped) ∷ []) c.cut_is)))
    (around_step (Removes (is_within (scopes.OfNexus whole.nexus))) (Arrives whole) (reply_at_once l.identity l.modes whole (at_once.Check overlapped) ∷ []) (view l d) new a.more
    (λ s mid given quiet r. overlap_step l d whole s mid given mark (same_overlap l.tasks whole cut c is) quiet r)
    (subst (λ (x : Request). Around (MayLose (Removes (is_within (scopes.OfNexus x.nexus)))) (view l d) a.more new) c.cut_is a.step))

-- a request arrives, and then what may be issued is
pub sent_around : (r : Request) (old mid new : Device) (given replies : List Reply) → Arrives r old given mid → Answers (λ more. Refills mid more new) given replies → Around (MayLose (Arrives r)) old replies new
sent_around r old mid new given replies arrives a =
    subst (λ x. Around (MayLose (Arrives r)) old x new) (sym a.behind) (step_on (Arrives r) old mid new given a.more (around_alone (Arrives r) old mid given arrives) a.step)

pub apart : (tasks : List Held) (r : Request) → is_overlapping tasks r ≡ false → is_for_unit r ≡ true → overlaps tasks r ≡ false
apart tasks r none unit = sym (ap (λ b. b && overlaps tasks r) unit) ∙ none
