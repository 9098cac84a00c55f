-- A run that grows by one event.
use Rattle.std.proofs.Common.{◌≡◌, ◌∙◌, refl, sym, ap, subst, arith, ℕ, suc, ◌+◌, ◌*◌, ◌≤◌, max, inl, inr, Bool, true, false, List, [], ◌∷◌, ◌++◌, length}
use Rattle.std.specs.Prelude.{if◌then◌else◌}
use Rattle.satl_base.specs.declared.bench.BenchEvent.TheVariants as events
use Rattle.satl_base.specs.Lists.{how_many}
use Rattle.satl_base.proofs.ListsLemmas.{how_many-push}
use Rattle.satl_io.specs.Causes.{RoseBy, next_count}
use Rattle.satl_io.proofs.Counting.{RoseBy-more, RoseBy-none}
use Rattle.satl_frame.specs.declared.frames.Frame.{Frame}
use Rattle.satl_frame.specs.declared.frames.Frame.TheVariants as frames
use Rattle.satl_frame.specs.Output.{Answer}
use Rattle.satl_frame.specs.Pulls.{cut_to}
use Rattle.satl_drive.specs.State.{Orders}
use Rattle.satl_direct.specs.Device.{Device}
use Rattle.satl_direct.specs.Run.{CutTurns, Does, DoesInPart, DoesShort, IsLastStep, losses_in}
use Rattle.satl_direct.specs.Run.RunDeep.{start, next_event}
use Rattle.satl_direct.proofs.Quieting.{quiet_none}
use Rattle.satl_core.specs.Turning.{turn_calls}
use Rattle.satl_step.specs.Events.{Carried, CarriedInPart, IsTallied, IsWholeOf, unplugs_behind}
use Rattle.satl_step.specs.Runs.{AreCounted, KeepsDeepest, RunCutSoFar, RunSoFar, Stand, calls_allowed, calls_left, calls_of, is_lost_behind, is_lost_behind_all, is_unplug, orders_behind, orders_behind_all}
use Rattle.satl_step.proofs.LostLemmas.{lost_push, run_lost}
use Rattle.satl_direct.specs.Run.DoesInPart.{does_all, does_some}
use Rattle.satl_direct.specs.Run.RunInPart.{one_event_more}

-- ---- what an event counts of a whole one

pub tallied_whole : (room : ℕ) (a b : Stand) (event whole : Frame) → event ≡ cut_to room whole → IsTallied event a b → IsTallied whole a b
tallied_whole room a b event (frames.Request w) is tallied = let x = subst (λ f. IsTallied f a b) is tallied in record { faults = x.faults; unplugs = x.unplugs; orders = x.orders; calls = x.calls; uncalled = x.uncalled; queue = x.queue }
tallied_whole room a b event (frames.Manage m) is tallied = subst (λ f. IsTallied f a b) is tallied
tallied_whole room a b event (frames.Turn n) is tallied = subst (λ f. IsTallied f a b) is tallied
tallied_whole room a b event (frames.Bench e) is tallied = subst (λ f. IsTallied f a b) is tallied
tallied_whole room a b event frames.End is tallied = subst (λ f. IsTallied f a b) is tallied

pub asked_whole : (room count : ℕ) (event whole : Frame) → event ≡ cut_to room whole → CutTurns event count → CutTurns whole count
asked_whole room count event (frames.Request w) is asked = subst (λ f. CutTurns f count) is asked
asked_whole room count event (frames.Manage m) is asked = subst (λ f. CutTurns f count) is asked
asked_whole room count event (frames.Turn n) is asked = subst (λ f. CutTurns f count) is asked
asked_whole room count event (frames.Bench e) is asked = subst (λ f. CutTurns f count) is asked
asked_whole room count event frames.End is asked = tt

pub step_whole : (room : ℕ) (event whole : Frame) (earlier last : List Answer) → event ≡ cut_to room whole → IsLastStep event earlier last → IsLastStep whole earlier last
step_whole room event (frames.Request w) earlier last is step = subst (λ f. IsLastStep f earlier last) is step
step_whole room event (frames.Manage m) earlier last is step = subst (λ f. IsLastStep f earlier last) is step
step_whole room event (frames.Turn n) earlier last is step = subst (λ f. IsLastStep f earlier last) is step
step_whole room event (frames.Bench e) earlier last is step = subst (λ f. IsLastStep f earlier last) is step
step_whole room event frames.End earlier last is step = subst (λ f. IsLastStep f earlier last) is step

-- a count rose by the events of a kind, and by no more
pub record Counts (kind : Frame → Bool) (events : List Frame) (before now : ℕ) : Type 0 where
  pub rose : RoseBy (how_many kind events) before now
  pub few : now ≤ before + how_many kind events

-- events and one more
pub counts_more : (kind : Frame → Bool) (events : List Frame) (event : Frame) (before mid now : ℕ) → Counts kind events before mid → Counts kind (event ∷ []) mid now → Counts kind (events ++ event ∷ []) before now
counts_more kind events event before mid now first one =
    let pushed = how_many-push kind events event in
    record { rose = omega (arith, first.rose, one.rose, pushed); few = omega (arith, first.few, one.few, pushed) }

rose_once : (b : Bool) (before now : ℕ) → now ≡ (if b then next_count before else before) → RoseBy ((if b then 1 else 0) + 0) before now × (now ≤ before + ((if b then 1 else 0) + 0))
rose_once true before now is = (omega (arith, is), omega (arith, is))
rose_once false before now is = (omega (arith, is), omega (arith, is))

-- a count that rises at an event where that is of the kind
counts_one : (kind : Frame → Bool) (event : Frame) (before now : ℕ) → now ≡ (if kind event then next_count before else before) → Counts kind (event ∷ []) before now
counts_one kind event before now is = let x = rose_once (kind event) before now is in record { rose = x.0; few = x.1 }

-- an event unplugs the drive as often as it is counted to
pub unplugs_one : (event : Frame) (before : ℕ) → Counts is_unplug (event ∷ []) before (unplugs_behind event before)
unplugs_one event before = counts_one is_unplug event before (unplugs_behind event before) (is event)
  where
    is : (e : Frame) → unplugs_behind e before ≡ (if is_unplug e then next_count before else before)
    is (frames.Bench events.Unplug) = refl
    is _ = refl

orders_push : (events : List Frame) (event : Frame) (before : Orders) → orders_behind_all (events ++ event ∷ []) before ≡ orders_behind event (orders_behind_all events before)
orders_push [] event before = refl
orders_push (e ∷ events) event before = orders_push events event (orders_behind e before)

-- an account has the bytes of one event more
pub orders_more : (events : List Frame) (event : Frame) (before mid now : Orders) → mid ≡ orders_behind_all events before → now ≡ orders_behind event mid → now ≡ orders_behind_all (events ++ event ∷ []) before
orders_more events event before mid now first one = one ∙ (ap (orders_behind event) first ∙ sym (orders_push events event before))

-- what covered the queue before covers it
pub covers_same : (a : Stand) → KeepsDeepest a.tally a.tally
covers_same a = record { rises = omega arith; covers = λ deep. deep }

pub covers_more : (a b c : Stand) → KeepsDeepest a.tally b.tally → KeepsDeepest b.tally c.tally → KeepsDeepest a.tally c.tally
covers_more a b c p q = record { rises = omega (arith, p.rises, q.rises); covers = λ deep. q.covers (p.covers deep) }

-- events allow the calls of one more
pub allowed_push : (most : Frame → ℕ) (events : List Frame) (event : Frame) (lost : Bool) → calls_allowed most (events ++ event ∷ []) lost ≡ calls_allowed most events lost + (if is_lost_behind_all events lost then 0 else most event)
allowed_push most [] event lost = omega arith
allowed_push most (e ∷ events) event lost = omega (arith, allowed_push most events event (is_lost_behind e lost))

-- no call is left where no task is
idle_leaves_none : (lost : Bool) (s : Device) → s.tasks ≡ [] → calls_left lost s ≡ 0
idle_leaves_none true s idle = refl
idle_leaves_none false s idle = ap (λ l. turn_calls * length l) idle

abbrev power : Frame
power = frames.Bench events.Power

-- POWER leaves no task
pub powered_idle : (s new : Device) (answers : List Answer) (deep : ℕ) → Does power s answers new deep → new.tasks ≡ []
powered_idle s new answers deep d = ap (λ (x : Device). x.tasks) d.2.quiet_after.stays ∙ ap (λ (x : Device). x.tasks) d.2.step.stays

-- no task is left behind POWER, which nothing can cut short
no_task_left : (event : Frame) (a b : Stand) (earlier last : List Answer) → DoesInPart event a.device earlier last b.device → event ≡ power → b.device.tasks ≡ []
no_task_left event a b earlier last (does_all deep does step) is = powered_idle a.device b.device (earlier ++ last) deep (subst (λ e. Does e a.device (earlier ++ last) b.device deep) is does)
no_task_left event a b earlier last (does_some short) is = absurd (subst (λ e. CutTurns e (suc short.count)) is short.asked)

-- an event calls a drive whose link is lost at no time, and leaves no call to be taken where it is known to be lost
unasked : (event : Frame) (a b : Stand) → a.device.down ≡ true → IsTallied event a b → b.tally.calls ≡ a.tally.calls
unasked (frames.Bench what) a b down x = x.uncalled tt
unasked _ a b down x = x.uncalled down

lost_leaves_none : (event : Frame) (s : Device) → (event ≡ power → s.tasks ≡ []) → calls_left (is_lost_behind event true) s ≡ 0
lost_leaves_none (frames.Bench events.Power) s idle = idle_leaves_none false s (idle refl)
lost_leaves_none _ s idle = refl

few_left : (event : Frame) (s : Device) → calls_left (is_lost_behind event false) s ≤ turn_calls * length s.tasks
few_left (frames.Bench events.Unplug) s = omega arith
few_left _ s = omega arith

-- the calls of one more event, where the link is lost if it is known to be
calls_more : (lost : Bool) (event : Frame) (a b : Stand) (limit : ℕ) → (lost ≡ true → a.device.down ≡ true) → (event ≡ power → b.device.tasks ≡ []) → IsTallied event a b → a.tally.calls + calls_left lost a.device ≤ limit →
    b.tally.calls + calls_left (is_lost_behind event lost) b.device ≤ limit + (if lost then 0 else calls_of event)
calls_more false event a b limit known idle x few = omega (arith, few, x.calls, few_left event b.device)
calls_more true event a b limit known idle x few = omega (arith, few, unasked event a b (known refl) x, lost_leaves_none event b.device idle)

-- events and one more are counted
counted_more : (events : List Frame) (losses : ℕ) (before a b : Stand) (event whole : Frame) → (is_lost_behind_all events before.device.down ≡ true → a.device.down ≡ true) → AreCounted events losses before a → IsWholeOf event whole → (whole ≡ power → b.device.tasks ≡ []) → IsTallied event a b → AreCounted (events ++ whole ∷ []) (losses + losses_in whole a.device b.device) before b
counted_more events losses before a b event whole known counted is idle tallied =
    let x = tallied_whole is.room a b event whole is.cut tallied in
    let u = counts_more is_unplug events whole before.tally.unplugs a.tally.unplugs b.tally.unplugs (record { rose = counted.unplugged; few = counted.few_unplugs }) (subst (Counts is_unplug (whole ∷ []) a.tally.unplugs) (sym x.unplugs) (unplugs_one whole a.tally.unplugs)) in
    record {
      faults = RoseBy-more losses (losses_in whole a.device b.device) before.tally.faults a.tally.faults b.tally.faults counted.faults x.faults;
      unplugged = u.rose;
      few_unplugs = u.few;
      orders = orders_more events whole before.tally.orders a.tally.orders b.tally.orders counted.orders x.orders;
      few_calls =
          let one = calls_more (is_lost_behind_all events before.device.down) whole a b _ known idle x counted.few_calls in
          let left = ap (λ c. calls_left c b.device) (lost_push events whole before.device.down) in
          omega (arith, one, left, allowed_push calls_of events whole before.device.down);
      queue = covers_more before a b counted.queue x.queue;
    }

-- ---- the run so far

-- no event yet
pub run_start : (a : Stand) → a.device.tasks ≡ [] → RunSoFar a a [] []
run_start a idle = record {
  losses = 0;
  deep = 0;
  run = start (quiet_none a.device);
  counted = record {
    faults = RoseBy-none a.tally.faults;
    unplugged = RoseBy-none a.tally.unplugs;
    few_unplugs = omega arith;
    orders = refl;
    few_calls = omega (arith, idle_leaves_none a.device.down a.device idle);
    queue = covers_same a;
  };
  covered = λ deep. omega arith;
}

-- one event more, of which the one that was carried out has the pages that were free
pub run_more : (before a b : Stand) (events : List Frame) (groups : List (List Answer)) (event whole : Frame) (given : List Answer) → RunSoFar before a events groups → IsWholeOf event whole → Carried event a given b → IsTallied event a b → RunSoFar before b (events ++ whole ∷ []) (groups ++ given ∷ [])
run_more before a b events groups event whole given r is carried tallied = record {
  losses = r.losses + losses_in whole a.device b.device;
  deep = max r.deep carried.deep;
  run = next_event whole given carried.deep r.run (carried.does whole is);
  covered = λ deep. omega (arith, r.covered deep, tallied.queue.rises, carried.covered (r.counted.queue.covers deep));
  counted = counted_more events r.losses before a b event whole (run_lost before.device a.device events groups r.losses r.deep r.run) r.counted is (λ e. powered_idle a.device b.device given carried.deep (subst (λ f. Does f a.device given b.device carried.deep) e (carried.does whole is))) tallied;
}

short_whole : (room : ℕ) (event whole : Frame) (s new : Device) (earlier last : List Answer) → event ≡ cut_to room whole → DoesShort event s earlier last new → DoesShort whole s earlier last new
short_whole room event whole s new earlier last is short = record {
  count = short.count;
  asked = asked_whole room (suc short.count) event whole is short.asked;
  before = short.before;
  mid = short.mid;
  deep = short.deep;
  turns = short.turns;
  earlier_are = short.earlier_are;
  replies = short.replies;
  turn = short.turn;
  last_are = short.last_are;
}

pub in_part : (event whole : Frame) (a b : Stand) (earlier last : List Answer) → IsWholeOf event whole → CarriedInPart event a earlier last b → DoesInPart whole a.device earlier last b.device
in_part event whole a b earlier last is (inl done) = does_all done.0.deep (done.0.does whole is) (step_whole is.room event whole earlier last is.cut done.1)
in_part event whole a b earlier last is (inr short) = does_some (short_whole is.room event whole a.device b.device earlier last is.cut short)

-- one event more, the last, which may have been cut short
pub run_cut : (before a b : Stand) (events : List Frame) (groups : List (List Answer)) (event whole : Frame) (earlier last : List Answer) → RunSoFar before a events groups → IsWholeOf event whole → CarriedInPart event a earlier last b → IsTallied event a b → RunCutSoFar before b (events ++ whole ∷ []) groups earlier last
run_cut before a b events groups event whole earlier last r is done tallied =
    let does = in_part event whole a b earlier last is done in
    record {
      losses = r.losses + losses_in whole a.device b.device;
      run = one_event_more whole earlier last r.run does;
      counted = counted_more events r.losses before a b event whole (run_lost before.device a.device events groups r.losses r.deep r.run) r.counted is (no_task_left whole a b earlier last does) tallied;
    }
