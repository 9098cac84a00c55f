-- One event on one unit: what it does, how its answers are told, and what is counted (profile).
use Rattle.std.specs.Prelude.{◌≡◌, ◌⊎◌, ℕ, ◌+◌, ◌*◌, ◌≤◌, ◌<◌, true, List, ◌++◌, length, map, Option}
use Rattle.satl_base.specs.declared.reply.Reply.{Reply}
use Rattle.satl_io.specs.Causes.{RoseBy}
use Rattle.satl_frame.specs.declared.frames.Frame.{Frame}
use Rattle.satl_frame.specs.declared.frames.Frame.TheVariants as frames
use Rattle.satl_frame.specs.Output.{Answer}
use Rattle.satl_frame.specs.Output.Answer.{replied}
use Rattle.satl_frame.specs.Pulls.{cut_to}
use Rattle.satl_drive.specs.State.{DriveState}
use Rattle.satl_direct.specs.Device.{Device}
use Rattle.satl_direct.specs.Quiet.{Around}
use Rattle.satl_direct.specs.Run.{Does, DoesShort, IsLastStep, TurnsOf, losses_in}
use Rattle.satl_direct.specs.Turn.{Turn}
use Rattle.satl_core.specs.Benching.{unplugs_after}
use Rattle.satl_core.specs.Layer.{Layer}
use Rattle.satl_core.specs.Submitting.{CanSubmit}
use Rattle.satl_core.specs.Turning.{turn_calls}
use Rattle.satl_step.specs.Runs.{IsDeep, KeepsDeepest, Stand, calls_of, orders_behind, stand_of}
use Rattle.satl_step.specs.Telling.{IsTold, IsToldInto, Telling}

-- where a run stands, and who tells its answers (profile)
pub record Scene (T : Type 0) : Type 0 where
  pub stand : Stand
  pub telling : Telling T

-- a layer, its drive, which was called so often, and who tells what they answer behind what was written (profile)
abbrev pub scene_of : {T : Type 0} → Layer → DriveState → ℕ → T → Option (List ℕ) → Scene T
scene_of l d calls teller written =
    record { stand = stand_of l d calls; telling = record { teller = teller; written = written } }

-- the pages that are out are those of a request, or none (profile)
abbrev pub CanTake : Frame → ℕ → ℕ → Type 0
CanTake (frames.Request r) free out = CanSubmit r free out
CanTake (frames.Bench event) free out = out ≡ 0
CanTake _ free out = out ≡ 0

-- a whole event, of which this one has the pages that were free (profile)
pub record IsWholeOf (event whole : Frame) : Type 0 where
  pub room : ℕ
  pub cut : event ≡ cut_to room whole

-- an event was carried out, with these answers: it does what each whole event does of which it is the cut form; and the drive
-- had at once as many commands as the device let it have (profile)
pub record Carried (event : Frame) (before : Stand) (answers : List Answer) (after : Stand) : Type 0 where
  pub deep : ℕ
  pub does : (whole : Frame) → IsWholeOf event whole → Does whole before.device answers after.device deep
  pub covered : IsDeep before.tally → deep ≤ after.tally.deepest

-- an event was carried out, or cut short behind one of its turns: the answers before its last step, and those of that step
-- (profile)
abbrev pub CarriedInPart : Frame → Stand → List Answer → List Answer → Stand → Type 0
CarriedInPart event before earlier last after =
    (Carried event before (earlier ++ last) after × IsLastStep event earlier last)
    ⊎ DoesShort event before.device earlier last after.device

-- how often the drive was unplugged behind an event (profile)
abbrev pub unplugs_behind : Frame → ℕ → ℕ
unplugs_behind (frames.Bench event) before = unplugs_after event before
unplugs_behind _ before = before

-- no event of the bench calls the drive, and no other one where the link was lost before it (profile)
abbrev pub CallsNone : Frame → Device → Type 0
CallsNone (frames.Bench event) s = Unit {0}
CallsNone _ s = s.down ≡ true

-- an event raised the count of faults by its losses; the drive was unplugged by it alone, and took its order bytes alone; and
-- the drive was called as often at most as it allows, and a turn for each task that is gone, and not at all where it calls
-- none; its deepest queue did not fall (profile)
pub record IsTallied (event : Frame) (before after : Stand) : Type 0 where
  pub faults : RoseBy (losses_in event before.device after.device) before.tally.faults after.tally.faults
  pub unplugs : after.tally.unplugs ≡ unplugs_behind event before.tally.unplugs
  pub orders : after.tally.orders ≡ orders_behind event before.tally.orders
  pub calls : after.tally.calls + turn_calls * length after.device.tasks
      ≤ before.tally.calls + turn_calls * length before.device.tasks + calls_of event
  pub uncalled : CallsNone event before.device → after.tally.calls ≡ before.tally.calls
  pub queue : KeepsDeepest before.tally after.tally

-- an event was carried out and counted, and its answers were told (profile)
pub record Done {T : Type 0} (told : T → Answer → List ℕ) (behind : T → Answer → T) (event : Frame)
    (before after : Scene T) : Type 0 where
  pub answers : List Answer
  pub carried : Carried event before.stand answers after.stand
  pub tallied : IsTallied event before.stand after.stand
  pub told_so : IsTold told behind before.telling after.telling answers

-- an event was carried out or cut short, and counted: the answers before its last step were told, and of those of that step,
-- one at least, a front (profile)
pub record DoneInPart {T : Type 0} (told : T → Answer → List ℕ) (behind : T → Answer → T) (event : Frame)
    (before after : Scene T) : Type 0 where
  pub earlier : List Answer
  pub last : List Answer
  pub some : 1 ≤ length last
  pub carried : CarriedInPart event before.stand earlier last after.stand
  pub tallied : IsTallied event before.stand after.stand
  pub told_so : IsToldInto told behind before.telling after.telling earlier last

-- ---- turns

-- so many turns were taken, counted and told (profile)
pub record TurnsTold {T : Type 0} (told : T → Answer → List ℕ) (behind : T → Answer → T) (count : ℕ)
    (before after : Scene T) : Type 0 where
  pub replies : List Reply
  pub deep : ℕ
  pub turns : TurnsOf count before.stand.device replies after.stand.device deep
  pub covered : IsDeep before.stand.tally → deep ≤ after.stand.tally.deepest
  pub tallied : IsTallied (frames.Turn count) before.stand after.stand
  pub told_so : IsTold told behind before.telling after.telling (map replied replies)

-- some of so many turns were taken and counted: those before the last one were told, and of its replies, one at least, a front
-- (profile)
pub record SomeTurnsTold {T : Type 0} (told : T → Answer → List ℕ) (behind : T → Answer → T) (count : ℕ)
    (before after : Scene T) : Type 0 where
  pub taken : ℕ
  pub few : taken < count
  pub earlier : List Reply
  pub mid : Device
  pub deep : ℕ
  pub turns : TurnsOf taken before.stand.device earlier mid deep
  pub replies : List Reply
  pub some : 1 ≤ length replies
  pub turn : Around Turn mid replies after.stand.device
  pub tallied : IsTallied (frames.Turn count) before.stand after.stand
  pub told_so : IsToldInto told behind before.telling after.telling (map replied earlier) (map replied replies)
