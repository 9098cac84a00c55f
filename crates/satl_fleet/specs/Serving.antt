-- A target at a moment: what it has to be for a frame to be served, and what stays of it (profile).
use Rattle.std.specs.Prelude.{◌≡◌, ℕ, ◌+◌, ◌*◌, ◌≤◌, List, [], Vec, map, vec_len}
use Rattle.std.specs.List.{AllByRecursion}
use Rattle.satl_base.specs.declared.reply.Reply.{Reply}
use Rattle.satl_drive.specs.State.{DriveState}
use Rattle.satl_core.specs.Layer.{Layer}
use Rattle.satl_core.specs.Turning.{turn_calls}
use Rattle.satl_fleet.specs.Runs.{HasNoTask}
use Rattle.satl_fleet.specs.Units.{IsReady, IsTiedUnit, UnitState, pending, unit_states}

-- a target, of which it is told what its units are, and how many layers and drives make them up (profile)
pub record Target : Type 0 where
  -- the units in order, each a layer with its drive
  pub units : List UnitState
  pub layers : ℕ
  pub drives : ℕ

-- the target of these layers and drives, where each drive has the state that the function gives (profile)
abbrev pub target : {D X Z : Type 0} → (D → DriveState) → Vec Layer X → Vec D Z → Target
target state layers drives = record {
  units = unit_states layers.items (map state drives.items);
  layers = vec_len layers;
  drives = vec_len drives;
}

-- a target has units that can do an event (profile)
pub record HasUnits (t : Target) : Type 0 where
  -- each layer has its drive
  pub same : t.drives ≡ t.layers
  -- there are one to four
  pub some : 1 ≤ t.layers
  pub few : t.layers ≤ 4
  -- each unit is tied to its drive, and has no page out
  pub ready : AllByRecursion IsReady t.units

-- the first frame can be served (profile)
pub record CanBegin (t : Target) : Type 0 where
  pub has : HasUnits t
  -- no unit has a task
  pub idle : AllByRecursion HasNoTask t.units

-- the next frame can be served (profile)
pub record CanServe (t : Target) (replies : List Reply) : Type 0 where
  pub has : HasUnits t
  -- no reply waits to be told
  pub none : replies ≡ []

-- what stays, also where a write failed (profile)
pub record KeepsUnits (before after : Target) : Type 0 where
  -- each unit is tied to its drive
  pub tied : AllByRecursion IsTiedUnit after.units
  -- there are as many layers and drives as before
  pub layers : after.layers ≡ before.layers
  pub drives : after.drives ≡ before.drives

-- how often the drives were called, with the calls of a turn for each task that waits (profile)
abbrev pub calls_due : Target → ℕ → ℕ
calls_due t calls = calls + turn_calls * pending t.units
