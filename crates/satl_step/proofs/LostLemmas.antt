-- A lost link stays lost until POWER.
use Rattle.std.proofs.Common.{◌≡◌, ◌≢◌, refl, sym, ap, ◌∙◌, arith, ℕ, Bool, true, false, List, [], ◌∷◌, ◌++◌}
use Rattle.std.proofs.lemmas.Bool.{MatchBool-at_true}
use Rattle.std.specs.List.{AllByRecursion}
use Rattle.satl_base.specs.declared.bench.BenchEvent.{BenchEvent}
use Rattle.satl_base.specs.declared.bench.BenchEvent.TheVariants as events
use Rattle.satl_base.specs.declared.reply.Reply.{Reply}
use Rattle.satl_base.specs.declared.request.Request.{Request}
use Rattle.satl_frame.specs.declared.frames.Frame.{Frame}
use Rattle.satl_frame.specs.declared.frames.Frame.TheVariants as frames
use Rattle.satl_frame.specs.Output.{Answer}
use Rattle.satl_direct.specs.Arrival.{Arrival, Arrives, ArrivesAs, arrival}
use Rattle.satl_direct.specs.Arrival.Arrival.{answered, attended, overlaps, waits}
use Rattle.satl_direct.specs.Bench.{Happens}
use Rattle.satl_direct.specs.Device.{Device}
use Rattle.satl_direct.specs.Ending.{IsChecked}
use Rattle.satl_direct.specs.Quiet.{Quiet}
use Rattle.satl_direct.specs.Run.{Does, MayLose, RunDeep, TurnsOf}
use Rattle.satl_direct.specs.Run.MayLose.{keeps, keeps_and_loses}
use Rattle.satl_direct.specs.Run.RunDeep.{start, next_event}
use Rattle.satl_direct.specs.Run.TurnsOf.{none, more}
use Rattle.satl_direct.specs.Senses.{link_lost}
use Rattle.satl_direct.specs.Turn.{OneEnds, Turn}
use Rattle.satl_direct.specs.Turn.Turn.{idle, ends, loses, ends_and_loses}
use Rattle.satl_step.specs.Laws.{AllowsNoneUnplugged}
use Rattle.satl_step.specs.Runs.{calls_allowed, calls_of, is_lost_behind, is_lost_behind_all}

-- ---- steps

one_lost : (s new : Device) (reply : Reply) → OneEnds s reply new → s.down ≡ true → new.down ≡ true
one_lost s new reply e lost = ap (λ (x : Device). x.down) (MatchBool-at_true (IsChecked link_lost s e.task reply new) _ lost e.ends).stays ∙ lost

turn_lost : (s : Device) (replies : List Reply) (new : Device) → Turn s replies new → s.down ≡ true → new.down ≡ true
turn_lost s _ _ (idle e) lost = lost
turn_lost s _ new (ends reply e) lost = one_lost s new reply e lost
turn_lost s _ new (loses some l) lost = ap (λ (x : Device). x.down) l.stays
turn_lost s _ new (ends_and_loses reply e q l) lost = ap (λ (x : Device). x.down) l.stays

quiet_lost : (s new : Device) → Quiet s new → s.down ≡ true → new.down ≡ true
quiet_lost s new q lost = ap (λ (x : Device). x.down) q.stays ∙ lost

-- turns leave the link lost
pub turns_lost : (n : ℕ) (s : Device) (replies : List Reply) (new : Device) (deep : ℕ) → TurnsOf n s replies new deep → s.down ≡ true → new.down ≡ true
turns_lost _ s _ _ _ none lost = lost
turns_lost _ s _ new _ (more {n = n} {deep = deep} {mid = mid} {earlier = earlier} {rest = rest} first last) lost =
    quiet_lost last.after new last.quiet_after (turn_lost last.before rest last.after last.step (quiet_lost mid last.before last.quiet_before (turns_lost n s earlier mid deep first lost)))

-- so does an arrival
arrival_lost : (how : Arrival) (r : Request) (s new : Device) (replies : List Reply) → ArrivesAs how r s replies new → s.down ≡ true → new.down ≡ true
arrival_lost (answered reply) r s new replies a lost = ap (λ (x : Device). x.down) a.1 ∙ lost
arrival_lost (attended reply) r s new replies a lost = ap (λ (x : Device). x.down) a.1 ∙ lost
arrival_lost (overlaps reply) r s new replies a lost = ap (λ (x : Device). x.down) a.1 ∙ lost
arrival_lost (waits task) r s new replies a lost = ap (λ (x : Device). x.down) a.1 ∙ lost

-- and so does a step behind which the link may get lost
may_lose_lost : (Step : Device → List Reply → Device → Type 0) (s new : Device) (replies : List Reply) → ((mid : Device) (given : List Reply) → Step s given mid → mid.down ≡ true) → MayLose Step s replies new → new.down ≡ true
may_lose_lost Step s new replies stays (keeps step) = stays new replies step
may_lose_lost Step s new _ stays (keeps_and_loses step q l) = ap (λ (x : Device). x.down) l.stays

-- a bench event leaves it lost where it is known to be so behind it
bench_lost : (event : BenchEvent) (s new : Device) (replies : List Reply) (before : Bool) → (before ≡ true → s.down ≡ true) → is_lost_behind (frames.Bench event) before ≡ true → Happens event s replies new → new.down ≡ true
bench_lost (events.Strike which lba) s new replies before known is h = ap (λ (x : Device). x.down) h.new_is ∙ known is
bench_lost (events.Mend lba) s new replies before known is h = ap (λ (x : Device). x.down) h.new_is ∙ known is
bench_lost (events.Glitch count) s new replies before known is h = ap (λ (x : Device). x.down) h.new_is ∙ known is
bench_lost (events.Order order) s new replies before known is h = ap (λ (x : Device). x.down) h.new_is ∙ known is
bench_lost events.Power s new replies before known is h = absurd cc
bench_lost events.Unplug s new replies before known is h = ap (λ (x : Device). x.down) h.stays

-- ---- events and runs

-- behind an event the link is lost where it is known to be
does_lost : (event : Frame) (s new : Device) (answers : List Answer) (deep : ℕ) (before : Bool) → (before ≡ true → s.down ≡ true) → is_lost_behind event before ≡ true → Does event s answers new deep → new.down ≡ true
does_lost (frames.Request r) s new answers deep before known is d =
    let around = d.2 in
    quiet_lost around.after new around.quiet_after
    (may_lose_lost (Arrives r) around.before around.after d.0 (λ mid given step. arrival_lost (arrival around.before r) r around.before mid given step (quiet_lost s around.before around.quiet_before (known is))) around.step)
does_lost (frames.Manage m) s new answers deep before known is d =
    let around = d.0.step in
    quiet_lost around.after new around.quiet_after
    (may_lose_lost _ around.before around.after d.0.replies (λ mid given step. ap (λ (x : Device). x.down) step.1.stays ∙ quiet_lost s around.before around.quiet_before (known is)) around.step)
does_lost (frames.Turn n) s new answers deep before known is d = turns_lost n s d.0 new d.1 d.3 (known is)
does_lost (frames.Bench event) s new answers deep before known is d =
    let around = d.2 in
    quiet_lost around.after new around.quiet_after
    (bench_lost event around.before around.after d.0 before (λ c. quiet_lost s around.before around.quiet_before (known c)) is around.step)
does_lost frames.End s new answers deep before known is d = turns_lost d.2.count s d.0 new deep d.2.turns (known is)

-- one event more
pub lost_push : (events : List Frame) (event : Frame) (before : Bool) → is_lost_behind_all (events ++ event ∷ []) before ≡ is_lost_behind event (is_lost_behind_all events before)
lost_push [] event before = refl
lost_push (e ∷ events) event before = lost_push events event (is_lost_behind e before)

-- and behind a run
pub run_lost : (first s : Device) (events : List Frame) (groups : List (List Answer)) (losses deep : ℕ) → RunDeep first events groups losses s deep → is_lost_behind_all events first.down ≡ true → s.down ≡ true
run_lost first s _ _ _ _ (start q) is = quiet_lost first s q is
run_lost first new _ _ _ _ (next_event {events = events} {groups = groups} {losses = losses} {deep = deep} {s = s} event now deep_now earlier does) is =
    does_lost event s new now deep_now (is_lost_behind_all events first.down) (run_lost first s events groups losses deep earlier) (sym (lost_push events event first.down) ∙ is) does

-- ---- what is allowed

stays_lost : (event : Frame) → event ≢ frames.Bench events.Power → is_lost_behind event true ≡ true
stays_lost (frames.Bench events.Power) other = absurd (other refl)
stays_lost _ other = refl

lost_allows_none : (behind : List Frame) → AllByRecursion (λ event. event ≢ frames.Bench events.Power) behind → calls_allowed calls_of behind true ≡ 0
lost_allows_none [] others = refl
lost_allows_none (event ∷ behind) others = let later = ap (calls_allowed calls_of behind) (stays_lost event others.0) in omega (arith, later, lost_allows_none behind others.1)

pub unplugged_allows_none : AllowsNoneUnplugged
unplugged_allows_none = λ behind lost others. by lost behind others
  where
    by : (lost : Bool) (behind : List Frame) → AllByRecursion (λ event. event ≢ frames.Bench events.Power) behind → calls_allowed calls_of (frames.Bench events.Unplug ∷ behind) lost ≡ 0
    by true behind others = omega (arith, lost_allows_none behind others)
    by false behind others = omega (arith, lost_allows_none behind others)
