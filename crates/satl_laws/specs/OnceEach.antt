-- The law of one answer (SAM-5 5).
use Rattle.std.specs.Prelude.{◌≡◌, ℕ, ◌+◌, Bool, false, List, [], filter}
use Rattle.satl_base.specs.declared.request.Request.{Request}
use Rattle.satl_base.specs.declared.bench.BenchEvent.{BenchEvent}
use Rattle.satl_base.specs.declared.bench.BenchEvent.TheVariants as events
use Rattle.satl_base.specs.Lists.{how_many}
use Rattle.satl_base.specs.Names.{is_name}
use Rattle.satl_frame.specs.declared.frames.Frame.{Frame}
use Rattle.satl_frame.specs.declared.frames.Frame.TheVariants as frames
use Rattle.satl_frame.specs.Output.{Answer}
use Rattle.satl_frame.specs.Output.Answer.{replied, managed, closed}
use Rattle.satl_line.specs.declared.entry.Entry.{Entry}
use Rattle.satl_direct.specs.Device.{Device, is_called, is_of}
use Rattle.satl_direct.specs.Arrival.{Arrival, arrival}
use Rattle.satl_direct.specs.Arrival.Arrival.{answered, attended, overlaps, waits}
use Rattle.satl_direct.specs.Management.{effect}
use Rattle.satl_direct.specs.Run.{RunDeep, joined}
use Rattle.satl_direct.specs.Run.RunDeep.{start, next_event}

-- whether an answer is a reply to this nexus and tag (SAM-5 4.7)
abbrev pub answers_to : ℕ → ℕ → Answer → Bool
answers_to nexus tag (replied r) = is_name nexus tag r.nexus (r.tag).0
answers_to nexus tag (managed from function response named) = false
answers_to nexus tag closed = false

-- whether an event is a request of this nexus and tag (SAM-5 4.7)
abbrev pub asks_by : ℕ → ℕ → Frame → Bool
asks_by nexus tag (frames.Request r) = is_name nexus tag r.nexus (r.tag).0
asks_by nexus tag _ = false

-- the tasks that an arrival takes off without an answer: those of the nexus of an overlapped command (SAM-5,
-- overlapped commands)
abbrev pub cleared_by : Arrival → Request → Device → List Entry
cleared_by (answered reply) r s = []
cleared_by (attended reply) r s = []
cleared_by (overlaps reply) r s = filter (is_of r.nexus) s.tasks
cleared_by (waits task) r s = []

-- the tasks that a bench event takes off without an answer: all at a loss of power (profile)
abbrev pub cut_by : BenchEvent → Device → List Entry
cut_by events.Power s = s.tasks
cut_by _ s = []

-- the tasks that an event takes off without an answer (SAM-5 5, 7)
abbrev pub taken_off : Frame → Device → List Entry
taken_off (frames.Request r) s = cleared_by (arrival s r) r s
taken_off (frames.Manage m) s = filter (effect m s).goes s.tasks
taken_off (frames.Turn count) s = []
taken_off (frames.Bench event) s = cut_by event s
taken_off frames.End s = []

-- how many tasks of a nexus and tag a run takes off without an answer (profile)
abbrev pub removed : ℕ → ℕ → {first last : Device} {events : List Frame} {groups : List (List Answer)} {losses deep : ℕ}
    → RunDeep first events groups losses last deep → ℕ
removed nexus tag (start quiet) = 0
removed nexus tag (next_event {s = s} event now d so_far does) =
    removed nexus tag so_far + how_many (is_called nexus tag) (taken_off event s)

-- law of one answer: from a device without tasks, the replies to a nexus and tag, the tasks of it that wait and those that were
-- taken off are together as many as its requests (SAM-5 5)
abbrev pub OnceEach : Type 0
OnceEach =
    (first last : Device) (events : List Frame) (groups : List (List Answer)) (losses deep : ℕ)
    (run : RunDeep first events groups losses last deep) (nexus tag : ℕ) →
    first.tasks ≡ [] →
    how_many (answers_to nexus tag) (joined groups) + how_many (is_called nexus tag) last.tasks + removed nexus tag run
    ≡ how_many (asks_by nexus tag) events
