-- The law of order under errors (SAM-5 8, command order; SBC-3 5).
use Rattle.std.specs.Prelude.{◌≡◌, ℕ, ◌&&◌, ◌||◌, Bool, true, false, List, []}
use Rattle.std.specs.List.{AllByRecursion}
use Rattle.satl_base.specs.declared.request.Request.{Request}
use Rattle.satl_base.specs.declared.bench.BenchEvent.TheVariants as events
use Rattle.satl_base.specs.Lists.{IsIn}
use Rattle.satl_base.specs.Names.{is_name}
use Rattle.satl_cdb.specs.Table.{says}
use Rattle.satl_frame.specs.declared.frames.Frame.{Frame}
use Rattle.satl_frame.specs.declared.frames.Frame.TheVariants as frames
use Rattle.satl_frame.specs.Output.{Answer}
use Rattle.satl_direct.specs.Device.{Device}
use Rattle.satl_direct.specs.Arrival.{Arrival, arrival}
use Rattle.satl_direct.specs.Arrival.Arrival.{answered, attended, overlaps, waits}
use Rattle.satl_direct.specs.Valid.{IsValid}
use Rattle.satl_direct.specs.Run.{Run, RunDeep}
use Rattle.satl_direct.specs.Run.RunDeep.{start, next_event}
use Rattle.satl_laws.specs.ArrivalOrder.{AskOnce, IsInOrder, was_done, writes_plainly}

-- whether an event is neither a loss of power nor a request that changes blocks other than as a WRITE does (profile)
abbrev pub is_mild : Bool → Frame → Bool
is_mild trim (frames.Request r) = writes_plainly (says r.cdb trim)
is_mild trim (frames.Bench events.Power) = false
is_mild trim _ = true

-- whether an arrival makes a task (SAM-5, task set)
abbrev pub waits_at : Arrival → Bool
waits_at (answered reply) = false
waits_at (attended reply) = false
waits_at (overlaps reply) = false
waits_at (waits task) = true

-- whether an event is a request of this nexus and tag that becomes a task (SAM-5 4.7)
abbrev pub becomes_in : ℕ → ℕ → Frame → Device → Bool
becomes_in nexus tag (frames.Request r) s = is_name nexus tag r.nexus (r.tag).0 && waits_at (arrival s r)
becomes_in nexus tag _ s = false

-- whether a request of this nexus and tag became a task in a run (profile)
abbrev pub has_waited : ℕ → ℕ → {first last : Device} {events : List Frame} {groups : List (List Answer)} {losses deep : ℕ}
    → RunDeep first events groups losses last deep → Bool
has_waited nexus tag (start quiet) = false
has_waited nexus tag (next_event {s = s} event now d so_far does) =
    has_waited nexus tag so_far || becomes_in nexus tag event s

-- on each sector each WRITE has acted or not, once and for all; one that was answered with GOOD has, and one that never became
-- a task and was not answered with GOOD has not (SBC-3 5)
pub record HasOutcomes (first : Device) (all : List Frame) (losses : ℕ) (answers : List Answer) (last : Device)
    (run : Run first all losses answers last) : Type 0 where
  pub acted : ℕ → Request → Bool
  pub done : (x : ℕ) (r : Request) → IsIn (frames.Request r) all → was_done answers r ≡ true → acted x r ≡ true
  pub refused : (x : ℕ) (r : Request) → IsIn (frames.Request r) all → has_waited r.nexus (r.tag).0 run.run ≡ false
      → was_done answers r ≡ false → acted x r ≡ false
  pub in_order : IsInOrder acted first all answers last

-- law of order under errors: in a run with flaws, glitches, losses of the link and task management functions, from a device
-- without tasks, each WRITE that became a task and is not answered with GOOD has acted on each sector or not, one that was
-- refused on arrival has not, and for the rest all is in order of arrival (SAM-5 8, command order; SBC-3 5)
abbrev pub OrderUnderErrors : Type 0
OrderUnderErrors =
    (first last : Device) (all : List Frame) (losses : ℕ) (answers : List Answer) (run : Run first all losses answers last) →
    IsValid first → first.tasks ≡ [] → AllByRecursion (λ f. is_mild first.identity.trim f ≡ true) all → AskOnce all
    → HasOutcomes first all losses answers last run
