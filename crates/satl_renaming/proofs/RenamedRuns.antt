-- A run in which no request finds its name taken is a run with a tag for each request.
use Rattle.std.proofs.Common.{◌≡◌, refl, sym, ap, ◌∙◌, subst, ℕ, suc, ◌+◌, max, Bool, true, false, List, [], ◌∷◌, ◌++◌, arith, length, eqb-true, eq-eqb}
use Rattle.std.specs.Prelude.{if◌then◌else◌, ◌==◌, ◌&&◌, ◌||◌, not}
use Rattle.std.specs.List.{list_any}
use Rattle.std.proofs.lemmas.Bool.{and_parts, or_parts}
use Rattle.satl_base.specs.declared.request.Request.{Request}
use Rattle.satl_base.specs.Names.{is_name}
use Rattle.satl_frame.specs.declared.frames.Frame.{Frame}
use Rattle.satl_frame.specs.declared.frames.Frame.TheVariants as frames
use Rattle.satl_frame.specs.Output.{Answer}
use Rattle.satl_line.specs.declared.entry.Entry.{Entry}
use Rattle.satl_direct.specs.Device.{Device, is_called}
use Rattle.satl_direct.specs.Arrival.{Arrival, arrival}
use Rattle.satl_direct.specs.Arrival.Arrival.{answered, attended, overlaps, waits}
use Rattle.satl_direct.specs.Quiet.{Quiet}
use Rattle.satl_direct.specs.Run.{Does, RunDeep, losses_in}
use Rattle.satl_direct.specs.Run.RunDeep.{start, next_event}
use Rattle.satl_laws.specs.OrderUnderErrors.{becomes_in, has_waited, waits_at}
use Rattle.satl_laws.proofs.Names.{swapped}
use Rattle.satl_laws.proofs.Seen.{by_test}
use Rattle.satl_renaming.specs.UsedAgain.{becomes_task, finds_its_name, names_are_free, waited_at}
use Rattle.satl_renaming.proofs.Names.{AreApart, AreNames, Names, at_first, named_after, named_from, named_on, names_after, names_after-push, names_at_first, next, own_named, own_tag}
use Rattle.satl_renaming.proofs.Renaming.{answers_by, arrival_by, device_by, entries_by, frame_by, request_by}
use Rattle.satl_renaming.proofs.RenamedArrivals.{arrival_alike}
use Rattle.satl_renaming.proofs.RenamedEvents.{does_alike, losses_alike}
use Rattle.satl_renaming.proofs.RenamedInputs.{frames_by, frames_by-append}
use Rattle.satl_renaming.proofs.RenamedTurns.{quiet_alike}

-- the groups of answers to the frames of which the first has this place
abbrev pub groups_by : ℕ → Names → List Frame → List (List Answer) → List (List Answer)
groups_by place names [] groups = []
groups_by place names (event ∷ events) [] = []
groups_by place names (event ∷ events) (group ∷ groups) =
    let now : Names = named_from place event names in
    answers_by now group ∷ groups_by (suc place) now events groups

groups_by-push : (place : ℕ) (names : Names) (events : List Frame) (event : Frame) (groups : List (List Answer)) (group : List Answer) → length groups ≡ length events
    → groups_by place names (events ++ event ∷ []) (groups ++ group ∷ []) ≡ groups_by place names events groups ++ answers_by (named_from (place + length events) event (names_after place names events)) group ∷ []
groups_by-push place names [] event [] group same = ap (λ p. answers_by (named_from p event names) group ∷ []) (omega arith)
groups_by-push place names [] event (g ∷ groups) group same = absurd (omega (arith, same))
groups_by-push place names (e ∷ events) event [] group same = absurd (omega (arith, same))
groups_by-push place names (e ∷ events) event (g ∷ groups) group same =
    let now : Names = named_from place e names in
    ap (λ l. answers_by now g ∷ l)
    (groups_by-push (suc place) now events event groups group (omega (arith, same))
    ∙ ap (λ p. groups_by (suc place) now events groups ++ answers_by (named_from p event (names_after (suc place) now events)) group ∷ []) (next place (length events)))

-- a run has a group of answers for each event
pub run_size : {first last : Device} {events : List Frame} {groups : List (List Answer)} {losses deep : ℕ} → RunDeep first events groups losses last deep → length groups ≡ length events
run_size (start quiet) = refl
run_size (next_event {events = events} {groups = groups} event now d so_far does) = longer groups now ∙ ap suc (run_size so_far) ∙ sym (longer events event)
  where
    longer : {X : Type 0} (l : List X) (x : X) → length (l ++ x ∷ []) ≡ suc (length l)
    longer [] x = refl
    longer (y ∷ l) x = ap suc (longer l x)

-- ---- tasks keep their tags

-- where the name of a request is free, the tasks have the tags that they had
free_tasks : (place : ℕ) (names : Names) (r : Request) (tasks : List Entry) → list_any (is_called r.nexus (r.tag).0) tasks ≡ false → entries_by (named_from place (frames.Request r) names) tasks ≡ entries_by names tasks
free_tasks place names r [] h = refl
free_tasks place names r (t ∷ ts) h =
    let parts = or_parts (is_called r.nexus (r.tag).0 t) (list_any (is_called r.nexus (r.tag).0) ts) h in
    ap (λ b. record t { tag = record { 0 = if b then own_tag place else names t.nexus (t.tag).0 } } ∷ entries_by (named_from place (frames.Request r) names) ts) (swapped t.nexus r.nexus (t.tag).0 (r.tag).0 parts.0)
    ∙ ap (λ l. record t { tag = record { 0 = names t.nexus (t.tag).0 } } ∷ l) (free_tasks place names r ts parts.1)

free_device : (place : ℕ) (names : Names) (event : Frame) (s : Device) → finds_its_name event s ≡ false → device_by (named_from place event names) s ≡ device_by names s
free_device place names (frames.Request r) s h = ap (λ ts. record s { tasks = ts }) (free_tasks place names r s.tasks h)
free_device place names (frames.Manage m) s h = refl
free_device place names (frames.Turn count) s h = refl
free_device place names (frames.Bench event) s h = refl
free_device place names frames.End s h = refl

-- ---- which requests become tasks

waits_alike : (names : Names) (a : Arrival) → waits_at (arrival_by names a) ≡ waits_at a
waits_alike names (answered reply) = refl
waits_alike names (attended reply) = refl
waits_alike names (overlaps reply) = refl
waits_alike names (waits task) = refl

-- an event that is not at the place, or makes no task, makes none of the tag of the place
no_task : (here place nexus : ℕ) (names : Names) (event : Frame) (s : Device) → AreNames here names → ((here == place) && becomes_task event s) ≡ false
    → becomes_in nexus (own_tag place) (frame_by (named_from here event names) event) (device_by (named_from here event names) s) ≡ false
no_task here place nexus names (frames.Request r) s old h =
    let now : Names = named_from here (frames.Request r) names in
    by_test (λ b. (b && waits_at (arrival (device_by now s) (request_by now r))) ≡ false) (is_name nexus (own_tag place) r.nexus (now r.nexus (r.tag).0))
    (λ named.
    let same : here ≡ place = halves here place (sym (own_named here r names) ∙ eqb-true (now r.nexus (r.tag).0) (own_tag place) (and_parts (r.nexus == nexus) (now r.nexus (r.tag).0 == own_tag place) named).1) in
    ap waits_at (arrival_alike now s r (named_on here (frames.Request r) names old).apart) ∙ waits_alike now (arrival s r)
    ∙ ap (λ b. b && waits_at (arrival s r)) (sym (eq-eqb here place same)) ∙ h)
    (λ other. refl)
  where
    halves : (a b : ℕ) → own_tag a ≡ own_tag b → a ≡ b
    halves a b e = omega (arith, e)
no_task here place nexus names _ s old h = refl

-- ---- the run

-- the run, each request with a tag of its own
pub record RenamedRun (first last : Device) (events : List Frame) (groups : List (List Answer)) (losses deep : ℕ) (run : RunDeep first events groups losses last deep) : Type 0 where
  pub inputs : List Frame
  pub answers : List (List Answer)
  pub lost : ℕ
  pub end : Device
  pub depth : ℕ
  pub renamed : RunDeep first inputs answers lost end depth
  pub inputs_are : inputs ≡ frames_by 0 at_first events
  pub answers_are : answers ≡ groups_by 0 at_first events groups
  pub lost_is : lost ≡ losses
  pub end_is : end ≡ device_by (names_after 0 at_first events) last
  pub waited : (nexus place : ℕ) → waited_at place run ≡ false → has_waited nexus (own_tag place) renamed ≡ false

zero_more : (n : ℕ) → 0 + n ≡ n
zero_more n = omega arith

-- the names behind some events
pub names_of : (events : List Frame) → AreNames (length events) (names_after 0 at_first events)
names_of events = subst (λ p. AreNames p (names_after 0 at_first events)) (zero_more (length events)) (named_after 0 at_first events names_at_first)

-- one event more
renamed_next : {first s last : Device} {events : List Frame} {groups : List (List Answer)} {losses deep : ℕ} (event : Frame) (now : List Answer) (d : ℕ) (so_far : RunDeep first events groups losses s deep) (does : Does event s now last d)
    → finds_its_name event s ≡ false → RenamedRun first s events groups losses deep so_far
    → RenamedRun first last (events ++ event ∷ []) (groups ++ now ∷ []) (losses + losses_in event s last) (max deep d) (next_event event now d so_far does)
renamed_next {first = first} {s = s} {last = last} {events = events} {groups = groups} {losses = losses} event now d so_far does free r = record {
  inputs = r.inputs ++ frame_by names event ∷ [];
  answers = r.answers ++ answers_by names now ∷ [];
  lost = r.lost + losses_in (frame_by names event) r.end (device_by names last);
  end = device_by names last;
  depth = max r.depth d;
  renamed = next_event (frame_by names event) (answers_by names now) d r.renamed (subst (λ u. Does (frame_by names event) u (answers_by names now) (device_by names last) d) (sym here) (does_alike names apart event s last now d does));
  inputs_are = ap (λ l. l ++ frame_by names event ∷ []) r.inputs_are ∙ ap (λ p. frames_by 0 at_first events ++ frame_by (named_from p event old) event ∷ []) (sym (zero_more place)) ∙ sym (frames_by-append 0 at_first events (event ∷ []));
  answers_are = ap (λ l. l ++ answers_by names now ∷ []) r.answers_are ∙ ap (λ p. groups_by 0 at_first events groups ++ answers_by (named_from p event old) now ∷ []) (sym (zero_more place)) ∙ sym (groups_by-push 0 at_first events event groups now (run_size so_far));
  lost_is = ap (λ n. n + losses_in (frame_by names event) r.end (device_by names last)) r.lost_is ∙ ap (λ u. losses + losses_in (frame_by names event) u (device_by names last)) here ∙ ap (λ n. losses + n) (losses_alike names apart event s last);
  end_is = ap (λ p. device_by (named_from p event old) last) (sym (zero_more place)) ∙ ap (λ n. device_by n last) (sym (names_after-push 0 at_first events event));
  waited = λ nexus p h.
      let k = or_parts (waited_at p so_far) ((place == p) && becomes_task event s) h in
      ap (λ b. b || becomes_in nexus (own_tag p) (frame_by names event) r.end) (r.waited nexus p k.0)
      ∙ ap (becomes_in nexus (own_tag p) (frame_by names event)) here
      ∙ no_task place p nexus old event s kept k.1;
}
  where
    place : ℕ
    place = length events

    old : Names
    old = names_after 0 at_first events

    kept : AreNames place old
    kept = names_of events

    names : Names
    names = named_from place event old

    apart : AreApart names
    apart = (named_on place event old kept).apart

    here : r.end ≡ device_by names s
    here = r.end_is ∙ sym (free_device place old event s free)

pub renamed_run : {first last : Device} {events : List Frame} {groups : List (List Answer)} {losses deep : ℕ} (run : RunDeep first events groups losses last deep)
    → first.tasks ≡ [] → names_are_free run ≡ true → RenamedRun first last events groups losses deep run
renamed_run {first = first} {last = last} (start quiet) empty free = record {
  inputs = [];
  answers = [];
  lost = 0;
  end = device_by at_first last;
  depth = 0;
  renamed = start (subst (λ s. Quiet s (device_by at_first last)) same (quiet_alike at_first first last quiet));
  inputs_are = refl;
  answers_are = refl;
  lost_is = refl;
  end_is = refl;
  waited = λ nexus place h. refl;
}
  where
    same : device_by at_first first ≡ first
    same = ap (λ ts. record first { tasks = ts }) (ap (entries_by at_first) empty ∙ sym empty)
renamed_run (next_event {s = s} event now d so_far does) empty free =
    let parts = and_parts (names_are_free so_far) (not (finds_its_name event s)) free in
    renamed_next event now d so_far does (not_true (finds_its_name event s) parts.1) (renamed_run so_far empty parts.0)
  where
    not_true : (b : Bool) → not b ≡ true → b ≡ false
    not_true true h = absurd cc
    not_true false h = refl
