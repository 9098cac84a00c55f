-- The tie of the layer and its drive where commands are queued: what the layer has given to its drive and what it knows of it
-- (ACS-3, native command queuing; profile).
use Rattle.std.specs.Prelude.{◌≡◌, ◌⊎◌, ℕ, ◌<◌, ◌==◌, ◌&&◌, not, Bool, true, false, List, [], ◌∷◌, Some, MatchBool, length, map, unwrap_or}
use Rattle.std.specs.Option.{option_map}
use Rattle.std.specs.List.{AllZip, find, list_any}
use Rattle.satl_line.specs.declared.entry.Entry.{Entry}
use Rattle.satl_line.specs.Eligible.{IsEligible}
use Rattle.satl_line.specs.Kinds.{is_ranged}
use Rattle.satl_line.specs.Blank.{no_entry}
use Rattle.satl_line.specs.Ranged.{RangedTask, ranged_of}
use Rattle.satl_line.specs.Tasks.{Held}
use Rattle.satl_drive.specs.State.{DriveState, Outstanding}
use Rattle.satl_flight.specs.declared.flight.Flying.{Flying}
use Rattle.satl_flight.specs.Flown.{blocks_for, is_in_slot, queued_for}
use Rattle.satl_flight.specs.Queueing.{IsSlotted}
use Rattle.satl_direct.specs.Device.{Device, is_called}
use Rattle.satl_direct.specs.Tasks.{task_of}
use Rattle.satl_core.specs.Layer.{Layer, view}

-- a task that was given to the drive, and the tag that it was given (ACS-3, tags)
pub record Given : Type 0 where
  pub tag : ℕ
  pub task : Entry

-- a command that is outstanding is that of an eligible ranged task, under its tag (profile)
pub record IsGiven (s : Device) (g : Given) (q : Outstanding) : Type 0 where
  pub ranged : RangedTask
  pub ranged_is : ranged_of g.task ≡ Some ranged
  pub eligible : IsEligible s.tasks g.task
  pub small : g.tag < 32
  pub command : q.command ≡ queued_for g.tag ranged
  pub blocks : q.blocks ≡ blocks_for ranged

-- whether a task is among those given (profile)
abbrev pub is_given : List Given → Entry → Bool
is_given given t = list_any (λ (g : Given). is_called t.nexus (t.tag).0 g.task) given

-- no tag is given twice, and no task has two (profile)
abbrev pub AreGivenOnce : List Given → Type 0
AreGivenOnce [] = Unit {0}
AreGivenOnce (g ∷ gs) = (list_any (λ (h : Given). h.tag == g.tag) gs ≡ false) × (is_given gs g.task ≡ false) × AreGivenOnce gs

-- the queue is used: 32 tasks are given, or each eligible ranged task is (profile)
abbrev pub IsFilledQueue : Device → List Given → Type 0
IsFilledQueue s given =
    (length given ≡ 32) ⊎ ((t : Entry) → IsEligible s.tasks t → is_ranged t ≡ true → is_given given t ≡ true)

-- the drive has what was given to it, and as much as can be while the unit is up and started, and else nothing (profile)
pub record IsTiedQueue (s : Device) (given : List Given) (outstanding : List Outstanding) : Type 0 where
  pub each : AllZip (IsGiven s) given outstanding
  pub apart : AreGivenOnce given
  pub used : MatchBool (not s.down && s.started) (IsFilledQueue s given) (given ≡ [])

-- the task that was given under a tag, as the device sees it (profile)
abbrev pub given_of : List Held → Flying → Given
given_of tasks f =
    record {
      tag = f.tag;
      task = unwrap_or
          (option_map (λ (h : Held). task_of h.entry) (find (is_in_slot f.slot) tasks)) no_entry;
    }

-- the tasks that the layer has given to its drive, in order of issue (profile)
abbrev pub given_by : Layer → List Given
given_by l = map (given_of l.tasks) l.flying

-- what the tie says of the queue: what was given is outstanding under its tags, as much as can be is given, and the slots hold
-- its pages (ACS-3, native command queuing; profile)
pub record TiesQueue (l : Layer) (d : DriveState) : Type 0 where
  pub queue : IsTiedQueue (view l d) (given_by l) d.outstanding
  pub slotted : IsSlotted d.outstanding l.slots
