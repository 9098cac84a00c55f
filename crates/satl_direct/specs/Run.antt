-- Runs of the device over the frames of an input (profile). An event is one of these frames: REQUEST, MANAGE, TURN, BENCH or
-- END; a bench event is what a BENCH frame carries. An answer of an event is a frame of the output: `replied` a REPLY,
-- `managed` a MANAGED, `closed` END; an answer of a step is a reply. `deep` is the greatest `depth` of the device after a turn
-- or at the end of an event: of some turns, of one event, or of a run.
use Rattle.std.specs.Prelude.{◌≡◌, ◌≤◌, ℕ, suc, ◌+◌, max, min, not, ◌||◌, if◌then◌else◌, List, [], ◌∷◌, ◌++◌, map, length}
use Rattle.std.specs.List.{filter, flat_map}
use Rattle.satl_base.specs.declared.bench.BenchEvent.{BenchEvent}
use Rattle.satl_base.specs.declared.bench.BenchEvent.TheVariants as bench
use Rattle.satl_base.specs.declared.request.Manage.{Manage}
use Rattle.satl_base.specs.declared.reply.Reply.{Reply}
use Rattle.satl_base.specs.declared.reply.Response.{Response}
use Rattle.satl_frame.specs.declared.frames.Frame.{Frame}
use Rattle.satl_frame.specs.declared.frames.Frame.TheVariants as frames
use Rattle.satl_frame.specs.Output.{Answer}
use Rattle.satl_frame.specs.Output.Answer.{replied, managed, closed}
use Rattle.satl_line.specs.declared.entry.Entry.{Entry}
use Rattle.satl_line.specs.Conflict.{conflicts}
use Rattle.satl_line.specs.Kinds.{is_ranged}
use Rattle.satl_direct.specs.Device.{Device}
use Rattle.satl_direct.specs.Arrival.{Arrives}
use Rattle.satl_direct.specs.Quiet.{Quiet, Around}
use Rattle.satl_direct.specs.Turn.{Turn, Loss}
use Rattle.satl_direct.specs.Management.{IsManaged}
use Rattle.satl_direct.specs.Bench.{Happens}

-- the eligible tasks of a list (profile)
abbrev pub eligibles : List Entry → List Entry
eligibles [] = []
eligibles (t ∷ ts) = t ∷ filter (λ u. not (conflicts t u)) (eligibles ts)

-- how many queued commands the device lets a drive hold at once: one for each of its eligible ranged tasks, 32 at most, and
-- none while it is down or stopped; the command of a barrier, which runs alone, is not counted (ACS-3, native command queuing;
-- profile)
abbrev pub depth : Device → ℕ
depth s = if s.down || not s.started then 0 else min 32 (length (filter is_ranged (eligibles s.tasks)))

-- a step, or a step, then quiet moves, and then a loss of the link that was up (profile)
pub data MayLose (Step : Device → List Reply → Device → Type 0) (old : Device) : List Reply → Device → Type 0 where
  keeps : {answers : List Reply} {new : Device} → Step old answers new → MayLose Step old answers new
  keeps_and_loses : {answers more : List Reply} {mid after new : Device} → Step old answers mid → Quiet mid after
      → Loss after more new
      → MayLose Step old (answers ++ more) new

-- n turns with quiet moves around each, and the greatest depth after one of them (profile)
pub data TurnsOf : ℕ → Device → List Reply → Device → ℕ → Type 0 where
  none : {s : Device} → TurnsOf 0 s [] s 0
  more : {n deep : ℕ} {s mid new : Device} {earlier rest : List Reply} → TurnsOf n s earlier mid deep
      → Around Turn mid rest new → TurnsOf (suc n) s (earlier ++ rest) new (max deep (depth new))

-- turns until no task is left (profile)
pub record Drains (s : Device) (answers : List Reply) (new : Device) (deep : ℕ) : Type 0 where
  pub count : ℕ
  pub turns : TurnsOf count s answers new deep
  pub empty : new.tasks ≡ []

-- a management function, which gives no answer to any task; its response comes after the answers of a loss (SAM-5 7)
abbrev pub Manages : Manage → Response → Device → List Reply → Device → Type 0
Manages m response s answers new = (answers ≡ []) × IsManaged m s response new

-- a management function, or one and then a loss of the link: what is answered at the loss comes first, and then the response
-- (SAM-5 7; profile)
pub record ManagedAnswers (m : Manage) (s : Device) (answers : List Answer) (new : Device) : Type 0 where
  pub response : Response
  pub replies : List Reply
  pub step : Around (MayLose (Manages m response)) s replies new
  pub answer : answers ≡ map replied replies ++ managed m.nexus m.function response m.tag ∷ []

-- what an event does: its answers, the device after it, and the greatest depth after it or after one of its turns. A request
-- arrives, and the link may be lost after it; a task management function is carried out, and the link may be lost after it; so
-- many turns are taken; something happens to the drive; at the end turns are taken until no task is left, and then the end is
-- told. Around each arrival, function and bench event, and around each turn, there are quiet moves (profile)
abbrev pub Does : Frame → Device → List Answer → Device → ℕ → Type 0
Does (frames.Request r) s answers new deep =
    (replies : List Reply) × (answers ≡ map replied replies) × Around (MayLose (Arrives r)) s replies new × (deep ≡ depth new)
Does (frames.Manage m) s answers new deep = ManagedAnswers m s answers new × (deep ≡ depth new)
Does (frames.Turn n) s answers new deep =
    (replies : List Reply) × (deepest : ℕ) × (answers ≡ map replied replies) × TurnsOf n s replies new deepest
    × (deep ≡ max deepest (depth new))
Does (frames.Bench event) s answers new deep =
    (replies : List Reply) × (answers ≡ map replied replies) × Around (Happens event) s replies new × (deep ≡ depth new)
Does frames.End s answers new deep =
    (replies : List Reply) × (answers ≡ map replied replies ++ closed ∷ []) × Drains s replies new deep

-- how often the link was lost between the two: once where it was up and is down, else not (profile)
abbrev pub losses_of : Device → Device → ℕ
losses_of old new = if old.down then 0 else (if new.down then 1 else 0)

-- how many losses of the link a bench event is: UNPLUG one, also where the link was lost before (profile)
abbrev pub bench_losses : BenchEvent → ℕ
bench_losses bench.Unplug = 1
bench_losses _ = 0

-- how often the link was lost in an event (profile)
abbrev pub losses_in : Frame → Device → Device → ℕ
losses_in (frames.Bench event) old new = bench_losses event
losses_in _ old new = losses_of old new

-- the events one after the other, with quiet moves before the first: a group of answers for each, the number of losses, the
-- last device, and the greatest depth after an event or a turn (profile)
pub data RunDeep (first : Device) : List Frame → List (List Answer) → ℕ → Device → ℕ → Type 0 where
  start : {s : Device} → Quiet first s → RunDeep first [] [] 0 s 0
  next_event : {events : List Frame} {groups : List (List Answer)} {losses deep : ℕ} {s new : Device} (event : Frame)
      (now : List Answer) (deep_now : ℕ)
      → RunDeep first events groups losses s deep → Does event s now new deep_now
      → RunDeep first (events ++ event ∷ []) (groups ++ now ∷ []) (losses + losses_in event s new) new (max deep deep_now)

-- the groups one after the other (profile)
abbrev pub joined : List (List Answer) → List Answer
joined groups = flat_map (λ group. group) groups

-- a run: events, answers, losses and the last device (profile)
pub record Run (first : Device) (events : List Frame) (losses : ℕ) (answers : List Answer) (last : Device) : Type 0 where
  pub groups : List (List Answer)
  pub deep : ℕ
  pub answer : answers ≡ joined groups
  pub run : RunDeep first events groups losses last deep

-- how many turns an event may have made where it is cut short: a TURN at most its own, END any number; no other event can be
-- cut short (profile)
abbrev pub CutTurns : Frame → ℕ → Type 0
CutTurns (frames.Turn n) count = count ≤ n
CutTurns frames.End count = Unit {0}
CutTurns _ count = ⊥

-- an event that asks for turns was cut short behind one of them, be it the last: the answers of the turns before that one, and
-- its own (profile)
pub record DoesShort (event : Frame) (s : Device) (earlier last : List Answer) (new : Device) : Type 0 where
  pub count : ℕ
  pub asked : CutTurns event (suc count)
  pub before : List Reply
  pub mid : Device
  pub deep : ℕ
  pub turns : TurnsOf count s before mid deep
  pub earlier_are : earlier ≡ map replied before
  pub replies : List Reply
  pub turn : Around Turn mid replies new
  pub last_are : last ≡ map replied replies

-- which answers of an event are those of its last step: at the end of an input what is told behind all turns, and of an event
-- that asks for no turns all; a TURN has the answers of its last turn there where it is cut behind it (profile)
abbrev pub IsLastStep : Frame → List Answer → List Answer → Type 0
IsLastStep (frames.Turn n) earlier last = ⊥
IsLastStep frames.End earlier last = last ≡ closed ∷ []
IsLastStep _ earlier last = earlier ≡ []

-- an event was carried out, or was cut short behind one of its turns: the answers before its last step, and those of that step
-- (profile)
pub data DoesInPart (event : Frame) (s : Device) (earlier last : List Answer) (new : Device) : Type 0 where
  does_all : (deep : ℕ) → Does event s (earlier ++ last) new deep → IsLastStep event earlier last
      → DoesInPart event s earlier last new
  does_some : DoesShort event s earlier last new → DoesInPart event s earlier last new

-- a run, and one event more, which was carried out or cut short behind one of its turns: the groups of answers of the events
-- before it, its own answers before its last step, and those of that step (profile)
pub data RunInPart (first : Device) : List Frame → List (List Answer) → List Answer → List Answer → ℕ → Device → Type 0 where
  one_event_more : {events : List Frame} {groups : List (List Answer)} {losses deep : ℕ} {s new : Device} (event : Frame)
      (earlier last : List Answer)
      → RunDeep first events groups losses s deep → DoesInPart event s earlier last new
      → RunInPart first (events ++ event ∷ []) groups earlier last (losses + losses_in event s new) new
