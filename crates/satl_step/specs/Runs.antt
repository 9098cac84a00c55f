-- Runs as far as they came, and what was counted meanwhile (profile).
use Rattle.std.specs.Prelude.{ℕ, ◌+◌, ◌*◌, ◌≡◌, ◌≤◌, Bool, true, false, if◌then◌else◌, List, [], ◌∷◌, length}
use Rattle.satl_base.specs.declared.bench.BenchEvent.{BenchEvent}
use Rattle.satl_base.specs.declared.bench.BenchEvent.TheVariants as events
use Rattle.satl_base.specs.Lists.{how_many}
use Rattle.satl_io.specs.Causes.{RoseBy}
use Rattle.satl_frame.specs.declared.frames.Frame.{Frame}
use Rattle.satl_frame.specs.declared.frames.Frame.TheVariants as frames
use Rattle.satl_frame.specs.Output.{Answer}
use Rattle.satl_drive.specs.State.{DriveState, Orders}
use Rattle.satl_direct.specs.Device.{Device}
use Rattle.satl_direct.specs.Run.{RunDeep, RunInPart}
use Rattle.satl_core.specs.Benching.{orders_after}
use Rattle.satl_core.specs.Layer.{Layer, view}
use Rattle.satl_core.specs.Turning.{off_calls, turn_calls}

-- what was counted so far: a drive's faults, how often it was unplugged, its account of order bytes, the commands that it has,
-- the most that it had at once, and how often it was called (profile)
pub record Tally : Type 0 where
  pub faults : ℕ
  pub unplugs : ℕ
  pub orders : Orders
  pub outstanding : ℕ
  pub deepest : ℕ
  pub calls : ℕ

-- the same of a drive that was called so often (profile)
abbrev pub tally_of : DriveState → ℕ → Tally
tally_of d calls =
    record {
      faults = d.faults;
      unplugs = d.unplugs;
      orders = d.orders;
      outstanding = length d.outstanding;
      deepest = d.deepest;
      calls = calls;
    }

-- a drive had at once as many commands as it has (profile)
abbrev pub IsDeep : Tally → Type 0
IsDeep t = t.outstanding ≤ t.deepest

-- the deepest queue does not fall, and stays at least what the drive has, where it was (profile)
pub record KeepsDeepest (before after : Tally) : Type 0 where
  pub rises : before.deepest ≤ after.deepest
  pub covers : IsDeep before → IsDeep after

-- where a run stands: the device, and what was counted so far (profile)
pub record Stand : Type 0 where
  pub device : Device
  pub tally : Tally

-- where a layer and its drive stand, which was called so often (profile)
abbrev pub stand_of : Layer → DriveState → ℕ → Stand
stand_of l d calls = record { device = view l d; tally = tally_of d calls }

-- whether an event is a request (profile)
abbrev pub is_request : Frame → Bool
is_request (frames.Request r) = true
is_request _ = false

-- how many of the events are requests (profile)
abbrev pub requests_in : List Frame → ℕ
requests_in events = how_many is_request events

-- the most calls of a drive that an event takes: a request those of its turn, and those of taking tasks off where it overlaps
-- one; a task management function those of taking tasks off (profile)
abbrev pub calls_of : Frame → ℕ
calls_of (frames.Request r) = turn_calls + off_calls
calls_of (frames.Manage m) = off_calls
calls_of _ = 0

-- whether the link is known to be lost behind an event: UNPLUG loses it, and POWER alone brings it back (profile)
abbrev pub is_lost_behind : Frame → Bool → Bool
is_lost_behind (frames.Bench events.Unplug) before = true
is_lost_behind (frames.Bench events.Power) before = false
is_lost_behind _ before = before

-- the same behind events (profile)
abbrev pub is_lost_behind_all : List Frame → Bool → Bool
is_lost_behind_all [] before = before
is_lost_behind_all (event ∷ events) before = is_lost_behind_all events (is_lost_behind event before)

-- the most calls of drives that events take in sum, of so many each: those between an UNPLUG and the next POWER add none
-- (profile)
abbrev pub calls_allowed : (Frame → ℕ) → List Frame → Bool → ℕ
calls_allowed most [] lost = 0
calls_allowed most (event ∷ events) lost =
    (if lost then 0 else most event) + calls_allowed most events (is_lost_behind event lost)

-- the most calls that the turns of the tasks take that are left: none where the link is known to be lost (profile)
abbrev pub calls_left : Bool → Device → ℕ
calls_left lost s = if lost then 0 else turn_calls * length s.tasks

-- whether a bench event unplugs the drive (profile)
abbrev pub unplugs : BenchEvent → Bool
unplugs events.Unplug = true
unplugs _ = false

-- whether an event unplugs the drive (profile)
abbrev pub is_unplug : Frame → Bool
is_unplug (frames.Bench event) = unplugs event
is_unplug _ = false

-- how many of the events unplug the drive (profile)
abbrev pub unplugs_in : List Frame → ℕ
unplugs_in events = how_many is_unplug events

-- a drive's account of order bytes behind an event (profile)
abbrev pub orders_behind : Frame → Orders → Orders
orders_behind (frames.Bench event) before = orders_after event before
orders_behind _ before = before

-- the same behind events (profile)
abbrev pub orders_behind_all : List Frame → Orders → Orders
orders_behind_all [] before = before
orders_behind_all (event ∷ events) before = orders_behind_all events (orders_behind event before)

-- events with so many losses were counted: the drive's count of faults rose by the losses at least, or stands at its last
-- value; its number of unplugs rose by the events that unplug it, or stands at its last value; its account of order bytes has
-- those of the events behind, each event's as one piece, and no others; its calls, and those that the turns of the tasks that
-- are left may take, are as many at most as the events allow in sum; its deepest queue did not fall (profile)
pub record AreCounted (events : List Frame) (losses : ℕ) (before after : Stand) : Type 0 where
  pub faults : RoseBy losses before.tally.faults after.tally.faults
  pub unplugged : RoseBy (unplugs_in events) before.tally.unplugs after.tally.unplugs
  pub few_unplugs : after.tally.unplugs ≤ before.tally.unplugs + unplugs_in events
  pub orders : after.tally.orders ≡ orders_behind_all events before.tally.orders
  pub few_calls : after.tally.calls + calls_left (is_lost_behind_all events before.device.down) after.device
      ≤ before.tally.calls + calls_allowed calls_of events before.device.down
  pub queue : KeepsDeepest before.tally after.tally

-- events were carried out one after the other, and were counted: a group of answers for each (profile)
pub record RunSoFar (before after : Stand) (events : List Frame) (groups : List (List Answer)) : Type 0 where
  pub losses : ℕ
  pub deep : ℕ
  pub run : RunDeep before.device events groups losses after.device deep
  pub covered : IsDeep before.tally → deep ≤ after.tally.deepest
  pub counted : AreCounted events losses before after

-- events were carried out one after the other, and the last one perhaps in part, and were counted: a group of answers for each
-- before it, its answers before its last step, and those of that step (profile)
pub record RunCutSoFar (before after : Stand) (events : List Frame) (groups : List (List Answer))
    (earlier last : List Answer) : Type 0 where
  pub losses : ℕ
  pub run : RunInPart before.device events groups earlier last losses after.device
  pub counted : AreCounted events losses before after
