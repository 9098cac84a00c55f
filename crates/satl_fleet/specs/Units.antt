-- The units of a target, and one event on one of them (profile).
use Rattle.std.specs.Prelude.{◌≡◌, ℕ, ◌≤◌, List, length, Option, sum_by}
use Rattle.satl_base.specs.Lists.{paired}
use Rattle.satl_io.specs.Causes.{RoseBy}
use Rattle.satl_io.specs.Known.{Wrote, WrotePart}
use Rattle.satl_frame.specs.declared.frames.Frame.{Frame}
use Rattle.satl_frame.specs.Output.{Answer}
use Rattle.satl_drive.specs.State.{DriveState}
use Rattle.satl_direct.specs.Device.{Device}
use Rattle.satl_direct.specs.Run.{Does, DoesInPart, losses_in}
use Rattle.satl_core.specs.Layer.{Layer, Tied, view}
use Rattle.satl_core.specs.Tie.{TiesQueue}
use Rattle.satl_step.specs.Events.{unplugs_behind}
use Rattle.satl_step.specs.Runs.{IsDeep, KeepsDeepest, orders_behind, tally_of}
use Rattle.satl_fleet.specs.Output.{CutAnswers, told_last, told_under}

-- a unit: a layer and its drive (profile)
pub record UnitState : Type 0 where
  pub layer : Layer
  pub drive : DriveState

abbrev pub unit_state : Layer → DriveState → UnitState
unit_state l d = record { layer = l; drive = d }

-- layers and their drives, in order (profile)
abbrev pub unit_states : List Layer → List DriveState → List UnitState
unit_states layers drives = paired unit_state layers drives

-- the direct device that a unit is (profile)
abbrev pub device_of : UnitState → Device
device_of s = view s.layer s.drive

-- a unit and its drive are tied, and so is what the drive has outstanding (profile)
pub record IsTiedUnit (s : UnitState) : Type 0 where
  pub tied : Tied s.layer s.drive
  pub queue : TiesQueue s.layer s.drive

-- the same, and no page of the unit is out (profile)
pub record IsReady (s : UnitState) : Type 0 where
  pub tied : IsTiedUnit s
  pub all_in : s.layer.out ≡ 0

-- how many tasks wait in all units (profile)
abbrev pub pending : List UnitState → ℕ
pending units = sum_by (λ s. length s.layer.tasks) units

-- a unit did an event, with these answers, and its drive was counted: the drive had at once as many commands as the device let
-- it have, its faults rose by the losses, it was unplugged, and order bytes were handed in to it, by the event alone, and its
-- deepest queue did not fall (profile)
pub record Did (event : Frame) (old : UnitState) (answers : List Answer) (new : UnitState) : Type 0 where
  pub deep : ℕ
  pub does : Does event (device_of old) answers (device_of new) deep
  pub covered : IsDeep (tally_of old.drive 0) → deep ≤ new.drive.deepest
  pub faults : RoseBy (losses_in event (device_of old) (device_of new)) old.drive.faults new.drive.faults
  pub unplugs : new.drive.unplugs ≡ unplugs_behind event old.drive.unplugs
  pub orders : new.drive.orders ≡ orders_behind event old.drive.orders
  pub queue : KeepsDeepest (tally_of old.drive 0) (tally_of new.drive 0)

-- a unit did an event, or it was cut short behind one of its turns (profile)
pub record DidInPart (event : Frame) (old : UnitState) (cut : CutAnswers) (new : UnitState) : Type 0 where
  pub does : DoesInPart event (device_of old) cut.earlier cut.last (device_of new)
  pub faults : RoseBy (losses_in event (device_of old) (device_of new)) old.drive.faults new.drive.faults
  pub unplugs : new.drive.unplugs ≡ unplugs_behind event old.drive.unplugs
  pub orders : new.drive.orders ≡ orders_behind event old.drive.orders
  pub queue : KeepsDeepest (tally_of old.drive 0) (tally_of new.drive 0)

-- a unit's answers before its last step were told, and a front of those of that step (profile)
pub record IsToldUnder (k : ℕ) (cut : CutAnswers) (written written' : Option (List ℕ)) : Type 0 where
  pub behind : Option (List ℕ)
  pub wrote : Wrote written behind (told_under k cut.earlier)
  pub part : WrotePart behind written' (told_last k cut)

-- a unit of this number did an event, and its answers were told (profile)
pub record UnitDid (k : ℕ) (event : Frame) (old new : UnitState) (written written' : Option (List ℕ)) : Type 0 where
  pub answers : List Answer
  pub did : Did event old answers new
  pub wrote : Wrote written written' (told_under k answers)

-- it did it in whole or in part: its answers before the last step were told, and a front of those of that step (profile)
pub record UnitDidInPart (k : ℕ) (event : Frame) (old new : UnitState) (written written' : Option (List ℕ)) : Type 0 where
  pub cut : CutAnswers
  pub did : DidInPart event old cut new
  pub told : IsToldUnder k cut written written'
