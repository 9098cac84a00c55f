-- Commands that move no data: FLUSH CACHE EXT, and starting and stopping the drive.
use Rattle.std.specs.Prelude.{◌≡◌, not, true, false, Bool, if◌then◌else◌, List, map}
use Rattle.satl_base.specs.Cells.{Cell, settle}
use Rattle.satl_base.specs.Losses.{Loses}
use Rattle.satl_drive.specs.State.{DriveState}

-- every sector is written back where this holds (ACS-3, FLUSH CACHE EXT)
abbrev pub settled_if : Bool → List Cell → List Cell
settled_if settles cells = if settles then map settle cells else cells

-- the drive is left with these sectors, which may have been written back since, and active or not; all else is as before
-- (profile)
pub record IsLeftWith (cells : List Cell) (active : Bool) (old new : DriveState) : Type 0 where
  pub was_up : old.down ≡ false
  pub lost : Loses cells new.cells
  pub stays : new ≡ record old { cells = new.cells; active = active }

-- the drive was started, or it was stopped, with all written back unless NO_FLUSH (SBC-3, START STOP UNIT; SAT-3)
abbrev pub IsSwitched : Bool → Bool → DriveState → DriveState → Type 0
IsSwitched true no_flush old new = IsLeftWith old.cells true old new
IsSwitched false no_flush old new = IsLeftWith (settled_if (not no_flush) old.cells) false old new
