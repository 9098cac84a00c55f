-- Runs by their last event, and runs in which no task writes a sector.
use Rattle.std.proofs.Common.{◌≡◌, refl, sym, ap, ◌∙◌, subst, ℕ, false, List, [], ◌∷◌, ◌++◌}
use Rattle.std.proofs.lemmas.List.{same_from_push}
use Rattle.std.specs.List.{AllByRecursion}
use Rattle.satl_base.specs.declared.bench.BenchEvent.TheVariants as bench
use Rattle.satl_base.specs.declared.request.Request.{Request}
use Rattle.satl_frame.specs.declared.frames.Frame.{Frame}
use Rattle.satl_frame.specs.declared.frames.Frame.TheVariants as frames
use Rattle.satl_frame.specs.Output.{Answer}
use Rattle.satl_direct.specs.Device.{Device}
use Rattle.satl_direct.specs.Arrival.{Arrival, arrival}
use Rattle.satl_direct.specs.Arrival.Arrival.{waits}
use Rattle.satl_direct.specs.Quiet.{Quiet, writes}
use Rattle.satl_direct.specs.Run.{Does, RunDeep, joined}
use Rattle.satl_direct.specs.Run.RunDeep.{start, next_event}
use Rattle.satl_direct.proofs.Quieting.{joined-push}
use Rattle.satl_laws.specs.Untouched.{SparedBy, SparedByNew, SparedIn, SparedThrough, Spares, WithoutPower, is_power}
use Rattle.satl_laws.proofs.Arrivals.{IsFor, arrival_for}
use Rattle.satl_laws.proofs.Coming.{WritesItsOwn}
use Rattle.satl_laws.proofs.PowerLoss.{power_keeps}
use Rattle.satl_laws.proofs.QuietArrivals.{arrival_quiet}
use Rattle.satl_laws.proofs.Rows.{all_at, all_front, all_from}
use Rattle.satl_laws.proofs.Singles.{IsSingle}
use Rattle.satl_laws.proofs.Sparing.{Keeps, NoneWrites, SparesAt, keeps_on, quiet_alike, quiet_keeps, spares_alike}
use Rattle.satl_laws.proofs.SparingEvents.{NoneComes, NoneComesBy, does_keep}

-- ---- the last event

-- a run up to its last event, and that event
pub record Split (first last : Device) (before : List Frame) (event : Frame) (groups : List (List Answer)) : Type 0 where
  pub mid : Device
  pub earlier : List (List Answer)
  pub losses : ℕ
  pub deep : ℕ
  pub run : RunDeep first before earlier losses mid deep
  pub now : List Answer
  pub depth : ℕ
  pub does : Does event mid now last depth
  pub answers : joined groups ≡ joined earlier ++ now

-- each run that is not empty has a last event
pub split : {first last : Device} {all : List Frame} {groups : List (List Answer)} {losses deep : ℕ} → RunDeep first all groups losses last deep
    → (before : List Frame) (event : Frame) → all ≡ before ++ event ∷ [] → Split first last before event groups
split (start quiet) [] event h = absurd cc
split (start quiet) (b ∷ before) event h = absurd cc
split {first = first} {last = last} (next_event {events = events} {groups = groups} {losses = losses} {deep = deep} {s = s} other now d so_far does) before event h =
    let r = same_from_push events before other event h in
    record {
      mid = s;
      earlier = groups;
      losses = losses;
      deep = deep;
      run = subst (λ e. RunDeep first e groups losses s deep) r.0 so_far;
      now = now;
      depth = d;
      does = subst (λ e. Does e s now last d) r.1 does;
      answers = joined-push groups now;
    }

-- no event
record Rests (first last : Device) (groups : List (List Answer)) : Type 0 where
  pub quiet : Quiet first last
  pub silent : joined groups ≡ []

-- a run of no event is quiet moves, and answers nothing
rests : {first last : Device} {all : List Frame} {groups : List (List Answer)} {losses deep : ℕ} → RunDeep first all groups losses last deep → all ≡ [] → Rests first last groups
rests (start quiet) h = record { quiet = quiet; silent = refl }
rests (next_event {events = []} event now d so_far does) h = absurd cc
rests (next_event {events = e ∷ events} event now d so_far does) h = absurd cc

-- a run of one event
pub record Once (first last : Device) (event : Frame) (groups : List (List Answer)) : Type 0 where
  pub begin : Device
  pub quiet : Quiet first begin
  pub now : List Answer
  pub depth : ℕ
  pub does : Does event begin now last depth
  pub answers : joined groups ≡ now

-- a run of one event is that event behind quiet moves
pub once : {first last : Device} {groups : List (List Answer)} {losses deep : ℕ} (event : Frame) → RunDeep first (event ∷ []) groups losses last deep → Once first last event groups
once event run =
    let s = split run [] event refl in
    let r = rests s.run refl in
    record { begin = s.mid; quiet = r.quiet; now = s.now; depth = s.depth; does = s.does; answers = s.answers ∙ ap (λ l. l ++ s.now) r.silent }

-- ---- no task writes a sector

module _ (x : ℕ) where
  -- a task that comes writes its own alone, and spares the sector
  none_comes : (a : Arrival) (r : Request) (s : Device) → IsFor r a → SparedByNew x s a → NoneComes x s a
  none_comes (waits task) r s to h = record { spares = h; own = to.own }
  none_comes _ r s to h = tt

  -- nor after quiet moves
  later_comes : (a : Arrival) (s u : Device) → Quiet s u → NoneComes x s a → NoneComes x u a
  later_comes (waits task) s u q h = spares_alike x s u (quiet_alike x s u q) task h
  later_comes _ s u q h = tt

  -- what an event brings spares the sector
  none_comes_by : (event : Frame) (s : Device) → SparedIn x event s → (before : Device) → Quiet s before → NoneComesBy x event before
  none_comes_by (frames.Request r) s h before q =
      let same : arrival before r ≡ arrival s r = ap (λ d. arrival d r) q.stays ∙ arrival_quiet s r before.cells before.active in
      subst (NoneComes x before) (sym same) (later_comes (arrival s r) s before q (none_comes (arrival s r) r s (arrival_for s r) h))
  none_comes_by _ s h before q = tt

  -- tasks that spare a sector, each of which writes its own alone
  pub none_writes : (s : Device) → SparedBy x s s.tasks → AllByRecursion (λ t. WritesItsOwn t.command) s.tasks → NoneWrites x s
  none_writes s spared own =
      record { each = all_from (λ t. Spares x (writes s t)) (λ t. WritesItsOwn t.command) (SparesAt x s) (λ t spares own. record { spares = spares; own = own }) s.tasks spared own }

  -- a sector that no task of a run writes is kept
  pub run_keeps : {first last : Device} {all : List Frame} {groups : List (List Answer)} {losses deep : ℕ} (run : RunDeep first all groups losses last deep)
      → WithoutPower all → SparedThrough x run → AllByRecursion (λ t. WritesItsOwn t.command) first.tasks → Keeps x first last
  run_keeps {first = first} {last = last} (start quiet) calm spared own = quiet_keeps x first last quiet (none_writes first spared own)
  run_keeps {first = first} {last = last} (next_event {events = events} {s = s} event now d so_far does) calm spared own =
      keeps_on x first s last (run_keeps so_far (all_front (λ f. is_power f ≡ false) events [] event calm) spared.0 own)
      (does_keep x event s last now d (all_at (λ f. is_power f ≡ false) events [] event calm) (none_comes_by event s spared.1) does)

  module _ (a : Device) (single : IsSingle x a.cells) where
    -- a sector that was single is kept in each event, be it a loss of power
    event_endures : (event : Frame) (s new : Device) (now : List Answer) (d : ℕ) → SparedIn x event s → Does event s now new d → Keeps x a s → Keeps x a new
    event_endures (frames.Bench bench.Power) s new now d comes does kept = power_keeps x a s new does.0 single kept does.2
    event_endures event s new now d comes does kept = keeps_on x a s new kept (does_keep x event s new now d refl (none_comes_by event s comes) does)

    -- and in a run, wherever power is lost in it
    pub run_endures : {first last : Device} {all : List Frame} {groups : List (List Answer)} {losses deep : ℕ} (run : RunDeep first all groups losses last deep)
        → SparedThrough x run → Keeps x a first → Keeps x a last
    run_endures {first = first} {last = last} (start quiet) spared kept = keeps_on x a first last kept (quiet_keeps x first last quiet)
    run_endures {last = last} (next_event {s = s} event now d so_far does) spared kept = event_endures event s last now d spared.1 does (run_endures so_far spared.0 kept)
