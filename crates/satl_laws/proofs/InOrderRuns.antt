-- Runs keep the order of arrival: the two laws.
use Rattle.std.proofs.Common.{◌≡◌, inl, refl, sym, ap, ◌∙◌, subst, ℕ, ◌+◌, ◌<◌, Bool, true, false, List, [], ◌∷◌, ◌++◌, arith, length}
use Rattle.std.specs.Prelude.{◌&&◌, if◌then◌else◌, not, Ok, filter}
use Rattle.std.specs.List.{AllByRecursion}
use Rattle.std.proofs.lemmas.List.{append-nil}
use Rattle.std.proofs.lemmas.Bool.{and_parts, or_left, or_right}
use Rattle.satl_base.specs.declared.bench.BenchEvent.TheVariants as bench
use Rattle.satl_base.specs.declared.request.Request.{Request}
use Rattle.satl_base.specs.Lists.{how_many}
use Rattle.satl_base.proofs.ListsLemmas.{All-push_end, All-weaken}
use Rattle.satl_cdb.specs.Table.{says}
use Rattle.satl_frame.specs.declared.frames.Frame.{Frame}
use Rattle.satl_frame.specs.declared.frames.Frame.TheVariants as frames
use Rattle.satl_frame.specs.Output.{Answer}
use Rattle.satl_line.specs.declared.entry.Entry.{Entry}
use Rattle.satl_direct.specs.Device.{Device}
use Rattle.satl_laws.specs.ArrivalOrder.{is_plain, stops_or_starts, was_done, writes_plainly}
use Rattle.satl_laws.specs.OnceEach.{asks_by}
use Rattle.satl_laws.specs.OrderUnderErrors.{becomes_in, has_waited, is_mild}
use Rattle.satl_direct.specs.Run.{Does, RunDeep, joined, losses_in}
use Rattle.satl_direct.specs.Run.RunDeep.{start, next_event}
use Rattle.satl_direct.proofs.Quieting.{joined-push}
use Rattle.satl_laws.proofs.Cases.{how_many-append}
use Rattle.satl_laws.proofs.InOrder.{Begin, InOrder}
use Rattle.satl_laws.proofs.InOrderRequests.{MayStand}
use Rattle.satl_laws.proofs.InOrderTurns.{fewer}
use Rattle.satl_laws.proofs.InOrderSteps.{InOrderAt, quiet_at}
use Rattle.satl_laws.proofs.InOrderDrops.{filtered_in_order}
use Rattle.satl_laws.specs.ArrivalOrder.{ArrivalOrder, AskOnce, IsFresh}
use Rattle.satl_laws.specs.OrderUnderErrors.{OrderUnderErrors}
use Rattle.satl_laws.proofs.InOrderEnd.{act_as_done, act_as_items, acted_by, aside_stays, done_acts, in_order_as}
use Rattle.satl_laws.proofs.InOrderEvents.{does_at}
use Rattle.satl_laws.proofs.Requests.{requests-append, requests_of}
use Rattle.satl_laws.proofs.Rows.{all_at, all_front}
use Rattle.satl_laws.proofs.Runs.{split}

-- a device at rest
rest_at : (first : Begin) (exact : Bool) → first.device.tasks ≡ [] → (exact ≡ true → IsFresh first.device) → InOrderAt first exact [] [] first.device
rest_at first exact empty fresh = record {
  identity = refl;
  order = subst (λ ts. InOrder first [] [] first.device.cells ts (exact && not first.device.down)) (sym empty)
      (record { items = []; requests = refl; tasks_are = refl; size = refl; counts = λ nexus tag. omega arith; well = tt; sorted = λ x inside. tt; stands = λ x inside. inl refl; sure = tt; only = λ f. tt; aside = tt; right = tt });
  calm = λ x up. let k = fresh x in record { started = k.started; no_glitches = k.no_glitches; clean = k.no_flaws };
  steady = λ x. subst (AllByRecursion (λ t. stops_or_starts (Ok t.command) ≡ false)) (sym empty) tt;
}

-- all but the last, and the last
pushed : {X : Type 0} (P : X → Type 0) (xs : List X) (x : X) → AllByRecursion P (xs ++ x ∷ []) → AllByRecursion P xs × P x
pushed P xs x h = (all_front P xs [] x h, all_at P xs [] x h)

-- a run
run_at : (first : Begin) {last : Device} {events : List Frame} {groups : List (List Answer)} {losses deep : ℕ} (exact : Bool) (run : RunDeep first.device events groups losses last deep)
    → ((r : Request) → has_waited r.nexus (r.tag).0 run ≡ true → first.waits r ≡ true) → length first.device.cells ≡ first.device.identity.capacity → first.device.tasks ≡ [] → (exact ≡ true → IsFresh first.device)
    → AllByRecursion (MayStand first exact) events → ((nexus tag : ℕ) → how_many (asks_by nexus tag) events < 2) → InOrderAt first exact events (joined groups) last
run_at first {last = last} exact (start quiet) may size empty fresh fits once = quiet_at first exact [] [] first.device last quiet (rest_at first exact empty fresh)
run_at first {last = last} exact (next_event {events = events} {groups = groups} {s = s} event now d so_far does) may size empty fresh fits once =
    let parts = pushed (MayStand first exact) events event fits in
    subst (λ a. InOrderAt first exact (events ++ event ∷ []) a last) (sym (joined-push groups now))
    (does_at first exact event events (joined groups) now s last d size parts.1 (λ r w. may r (or_right (has_waited r.nexus (r.tag).0 so_far) (becomes_in r.nexus (r.tag).0 event s) w)) once does
    (run_at first exact so_far (λ r w. may r (or_left (has_waited r.nexus (r.tag).0 so_far) (becomes_in r.nexus (r.tag).0 event s) w)) size empty fresh parts.0 (fewer events event once)))

-- ---- a run without losses

-- how often the link was lost
abbrev lost : Bool → Bool → ℕ
lost a b = if a then 0 else (if b then 1 else 0)

still_up : (a b : Bool) → a ≡ false → lost a b ≡ 0 → b ≡ false
still_up true b h z = absurd cc
still_up false true h z = absurd (omega (arith, z))
still_up false false h z = refl

-- a plain event without a loss leaves the link up
event_up : (trims : Bool) (event : Frame) (old new : Device) (now : List Answer) (d : ℕ) → is_plain trims event ≡ true → Does event old now new d → losses_in event old new ≡ 0 → old.down ≡ false → new.down ≡ false
event_up trims (frames.Request r) old new now d plain h z up = still_up old.down new.down up z
event_up trims (frames.Turn count) old new now d plain h z up = still_up old.down new.down up z
event_up trims (frames.Bench (bench.Order order)) old new now d plain h z up =
    let a = h.2 in ap (λ k. k.down) (a.quiet_after).stays ∙ ap (λ k. k.down) (a.step).new_is ∙ ap (λ k. k.down) (a.quiet_before).stays ∙ up
event_up trims frames.End old new now d plain h z up = still_up old.down new.down up z
event_up trims _ old new now d plain h z up = absurd cc

run_up : {first last : Device} {events : List Frame} {groups : List (List Answer)} {losses deep : ℕ} (trims : Bool) → RunDeep first events groups losses last deep → losses ≡ 0 → first.down ≡ false
    → AllByRecursion (λ f. is_plain trims f ≡ true) events → last.down ≡ false
run_up trims (start quiet) z up plain = ap (λ k. k.down) quiet.stays ∙ up
run_up {last = last} trims (next_event {events = events} {losses = losses} {s = s} event now d so_far does) z up plain =
    let parts = pushed (λ f. is_plain trims f ≡ true) events event plain in
    event_up trims event s last now d parts.1 does (omega (arith, z)) (run_up trims so_far (omega (arith, z)) up parts.0)

-- ---- the laws

-- a plain event may stand in each run
plain_stands : (first : Begin) (event : Frame) → is_plain first.device.identity.trim event ≡ true → MayStand first true event
plain_stands first (frames.Request r) h = ((and_parts (writes_plainly (says r.cdb first.device.identity.trim)) (not (stops_or_starts (says r.cdb first.device.identity.trim))) h).0, λ x. h)
plain_stands first (frames.Turn count) h = (refl, λ x. h)
plain_stands first (frames.Bench (bench.Order order)) h = (refl, λ x. h)
plain_stands first frames.End h = (refl, λ x. h)
plain_stands first _ h = absurd cc

-- order under errors: the tasks that still wait have acted as far as they show
pub order_under_errors : OrderUnderErrors
order_under_errors first last all losses answers run valid empty mild once =
    let begin : Begin = record { device = first; waits = λ r. has_waited r.nexus (r.tag).0 run.run } in
    let at : InOrderAt begin false all (joined run.groups) last =
    run_at begin false run.run (λ r w. w) valid.cells empty (λ x. absurd cc) (All-weaken (λ f. is_mild first.identity.trim f ≡ true) (MayStand begin false) (λ f h. (h, λ x. absurd cc)) all mild) once in
    let o : InOrder begin all answers last.cells [] false =
    subst (λ ts. InOrder begin all answers last.cells ts false) (none_left last.tasks)
    (subst (λ a. InOrder begin all a last.cells (filter (λ t. not true) last.tasks) false) (sym run.answer) (filtered_in_order begin false all last.cells once (λ t. true) (joined run.groups) [] last.tasks false at.order)) in
    record {
      acted = acted_by o.items;
      done = done_acts begin last all answers false o once;
      refused = aside_stays begin last all answers false o once;
      in_order = in_order_as begin last all answers false o (acted_by o.items) (act_as_items begin last all answers false o once) all refl;
    }
  where
    none_left : (tasks : List Entry) → filter (λ t. not true) tasks ≡ []
    none_left [] = refl
    none_left (t ∷ ts) = none_left ts

-- a run to END leaves no task
run_empty : {first last : Device} {all : List Frame} {groups : List (List Answer)} {losses deep : ℕ} → RunDeep first all groups losses last deep → (before : List Frame) → all ≡ before ++ frames.End ∷ [] → last.tasks ≡ []
run_empty run before is = let s = split run before frames.End is in (s.does.2).empty

-- END asks nothing
asks_end : (all : List Frame) → AskOnce all → (nexus tag : ℕ) → how_many (asks_by nexus tag) (all ++ frames.End ∷ []) < 2
asks_end all once nexus tag = same _ _ (how_many-append (asks_by nexus tag) all (frames.End ∷ [])) (once nexus tag)
  where
    same : (a b : ℕ) → a ≡ b + 0 → b < 2 → a < 2
    same a b h k = omega (arith, h, k)

-- arrival order
pub arrival_order : ArrivalOrder
arrival_order first last all answers run valid fresh plain once =
    let begin : Begin = record { device = first; waits = λ r. true } in
    let plain_to_end : AllByRecursion (λ f. is_plain first.identity.trim f ≡ true) (all ++ frames.End ∷ []) = All-push_end (λ f. is_plain first.identity.trim f ≡ true) all frames.End plain refl in
    let once_to_end = asks_end all once in
    let up : last.down ≡ false = run_up first.identity.trim run.run refl fresh.up plain_to_end in
    let at : InOrderAt begin true (all ++ frames.End ∷ []) (joined run.groups) last =
    run_at begin true run.run (λ r w. refl) valid.cells fresh.no_tasks (λ x. fresh) (All-weaken (λ f. is_plain first.identity.trim f ≡ true) (MayStand begin true) (plain_stands begin) (all ++ frames.End ∷ []) plain_to_end) once_to_end in
    let o : InOrder begin (all ++ frames.End ∷ []) answers last.cells [] (not last.down) =
    subst (λ ts. InOrder begin (all ++ frames.End ∷ []) answers last.cells ts (not last.down)) (run_empty run.run all refl)
    (subst (λ a. InOrder begin (all ++ frames.End ∷ []) a last.cells last.tasks (not last.down)) (sym run.answer) at.order) in
    in_order_as begin last (all ++ frames.End ∷ []) answers (not last.down) o (λ x. was_done answers) (act_as_done begin last (all ++ frames.End ∷ []) answers (not last.down) o (ap not up)) all
    (sym (requests-append all (frames.End ∷ []) ∙ append-nil (requests_of all)))
