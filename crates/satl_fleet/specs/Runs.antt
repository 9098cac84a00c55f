-- The runs of a target's units: each is one of its own direct device, over what the frames are to it (profile).
use Rattle.std.specs.Prelude.{◌≡◌, ℕ, suc, ◌+◌, ◌≤◌, List, [], ◌∷◌, ◌++◌, length}
use Rattle.satl_io.specs.Causes.{RoseBy}
use Rattle.satl_frame.specs.declared.frames.Frame.{Frame}
use Rattle.satl_frame.specs.Output.{Answer}
use Rattle.satl_drive.specs.State.{DriveState}
use Rattle.satl_direct.specs.Device.{Device}
use Rattle.satl_direct.specs.Run.{RunDeep, RunInPart}
use Rattle.satl_serve.specs.Runs.{IsFirstDevice, IsLeftAs, KeepsQueue}
use Rattle.satl_step.specs.Runs.{orders_behind_all, unplugs_in}
use Rattle.satl_fleet.specs.Output.{CutAnswers, NoAnswersBehind, Round, frames_of, groups_for}
use Rattle.satl_fleet.specs.Routing.{project, seen}
use Rattle.satl_fleet.specs.Units.{UnitState, device_of}
use Rattle.satl_base.specs.Lists.{EachAt}

-- a unit where a run begins or ends: the device that it is, and its drive (profile)
pub record UnitStand : Type 0 where
  pub device : Device
  pub drive : DriveState

abbrev pub unit_stand : Device → DriveState → UnitStand
unit_stand device drive = record { device = device; drive = drive }

-- where a unit stands (profile)
abbrev pub unit_stand_of : UnitState → UnitStand
unit_stand_of s = unit_stand (device_of s) s.drive

-- events with so many losses were counted: the drive's count of faults rose by the losses at least, or stands at its last
-- value; its number of unplugs rose by the events that unplug it, or stands at its last value; its account of order bytes has
-- those of the events behind, each event's as one piece, and no others; its deepest queue did not fall, and is no less than
-- what is outstanding (profile)
pub record UnitCounted (events : List Frame) (losses : ℕ) (old new : DriveState) : Type 0 where
  pub faults : RoseBy losses old.faults new.faults
  pub unplugged : RoseBy (unplugs_in events) old.unplugs new.unplugs
  pub few_unplugs : new.unplugs ≤ old.unplugs + unplugs_in events
  pub orders : new.orders ≡ orders_behind_all events old.orders
  pub rises : old.deepest ≤ new.deepest
  pub covers : length new.outstanding ≤ new.deepest

-- events were carried out one after the other, with a group of answers for each; the drive had at once as many commands as the
-- device let it have (profile)
pub record UnitRan (first : UnitStand) (events : List Frame) (groups : List (List Answer)) (last : UnitStand) : Type 0 where
  pub losses : ℕ
  pub deep : ℕ
  pub run : RunDeep first.device events groups losses last.device deep
  pub deepest : deep ≤ last.drive.deepest
  pub counted : UnitCounted events losses first.drive last.drive

-- the same, and the last event was carried out or cut short behind one of its turns, with these answers (profile)
pub record UnitRanInPart (first : UnitStand) (events : List Frame) (groups : List (List Answer)) (cut : CutAnswers)
    (last : UnitStand) : Type 0 where
  pub losses : ℕ
  pub run : RunInPart first.device events groups cut.earlier cut.last losses last.device
  pub counted : UnitCounted events losses first.drive last.drive

-- so did a unit in rounds (profile)
abbrev pub RanRounds : ℕ → ℕ → List Round → UnitStand → UnitStand → Type 0
RanRounds units k rounds first last = UnitRan first (project units k (frames_of rounds)) (groups_for units k rounds) last

-- so did it in rounds and in one more, its answers in which are these (profile)
abbrev pub RanRoundsInPart : ℕ → ℕ → List Round → Round → CutAnswers → UnitStand → UnitStand → Type 0
RanRoundsInPart units k rounds round cut first last =
    UnitRanInPart first (project units k (frames_of (rounds ++ round ∷ []))) (groups_for units k rounds) cut last

-- a unit was served: it began with the first device of its drive, and the drive is left as its last device is, with its tasks
-- in the queue (profile)
pub record UnitServed (Run : UnitStand → UnitStand → Type 0) (old new : DriveState) : Type 0 where
  pub first : Device
  pub last : Device
  pub begins : IsFirstDevice old first
  pub run : Run (unit_stand first old) (unit_stand last new)
  pub ends : IsLeftAs last new
  pub queue : KeepsQueue last new

-- each unit from this one on was served in rounds: to each LUN the answers are those of its own direct device alone (profile)
abbrev pub AreServed : ℕ → ℕ → List Round → List DriveState → List DriveState → Type 0
AreServed units k rounds olds news = EachAt (λ n old new. UnitServed (RanRounds units n rounds) old new) k olds news

-- units from this one on were served in rounds and in one more, up to the one of this number, which sees the last frame and
-- was served in it in whole or in part, with these answers; those behind it leave the last round out and answer nothing in it
-- (profile)
pub data AreServedInPart (units : ℕ) (rounds : List Round) (round : Round) (stop : ℕ) (cut : CutAnswers)
    : ℕ → List DriveState → List DriveState → Type 0 where
  here : {k : ℕ} {old new : DriveState} {olds news : List DriveState} (event : Frame)
      → k ≡ stop → seen units k round.frame ≡ event ∷ [] → NoAnswersBehind k round
      → UnitServed (RanRoundsInPart units k rounds round cut) old new
      → AreServed units (suc k) rounds olds news → AreServedInPart units rounds round stop cut k (old ∷ olds) (new ∷ news)
  later : {k : ℕ} {old new : DriveState} {olds news : List DriveState}
      → UnitServed (RanRounds units k (rounds ++ round ∷ [])) old new
      → AreServedInPart units rounds round stop cut (suc k) olds news
      → AreServedInPart units rounds round stop cut k (old ∷ olds) (new ∷ news)

-- ---- so far

-- units from this one on have run in rounds since they stood there (profile)
abbrev pub HaveRun : ℕ → ℕ → List Round → List UnitState → List UnitState → Type 0
HaveRun units k rounds starts ss =
    EachAt (λ n a s. RanRounds units n rounds (unit_stand_of a) (unit_stand_of s)) k starts ss

-- the same, and in one round more, up to the unit of this number, which sees its frame and did it in whole or in part, with
-- these answers; those behind it answer nothing in it (profile)
pub data HaveRunInPart (units : ℕ) (rounds : List Round) (round : Round) (stop : ℕ) (cut : CutAnswers)
    : ℕ → List UnitState → List UnitState → Type 0 where
  here : {k : ℕ} {a s : UnitState} {starts ss : List UnitState} (event : Frame)
      → k ≡ stop → seen units k round.frame ≡ event ∷ [] → NoAnswersBehind k round
      → RanRoundsInPart units k rounds round cut (unit_stand_of a) (unit_stand_of s)
      → HaveRun units (suc k) rounds starts ss → HaveRunInPart units rounds round stop cut k (a ∷ starts) (s ∷ ss)
  later : {k : ℕ} {a s : UnitState} {starts ss : List UnitState}
      → RanRounds units k (rounds ++ round ∷ []) (unit_stand_of a) (unit_stand_of s)
      → HaveRunInPart units rounds round stop cut (suc k) starts ss
      → HaveRunInPart units rounds round stop cut k (a ∷ starts) (s ∷ ss)

-- a unit has no task, and its deepest queue is what its drive has at least (profile)
pub record HasNoTask (s : UnitState) : Type 0 where
  pub tasks : s.layer.tasks ≡ []
  pub covers : length s.drive.outstanding ≤ s.drive.deepest
