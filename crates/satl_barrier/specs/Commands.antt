-- One ATA command on a drive with nothing outstanding and in no error state.
use Rattle.std.specs.Prelude.{◌≡◌, ◌∷◌, false, List, [], drop}
use Rattle.satl_base.specs.declared.block.Block.{Block}
use Rattle.satl_base.specs.Cells.{Pair}
use Rattle.satl_base.specs.Losses.{Loses}
use Rattle.satl_regs.specs.declared.values.AtaCommand.{AtaCommand}
use Rattle.satl_regs.specs.declared.values.AtaCommand.TheVariants as commands
use Rattle.satl_regs.specs.declared.values.Taskfile.{Taskfile}
use Rattle.satl_regs.specs.Spelling.{command_registers}
use Rattle.satl_regs.specs.Effects.{HasEffect, Medium, Traffic}
use Rattle.satl_drive.specs.State.{DriveState, medium_of, with_medium}
use Rattle.satl_drive.specs.Rules.{IsCutOff, MaySet}

-- a command by its name, not by a code alone (ACS-3 section 7; which commands there are: profile)
abbrev pub IsNamed : AtaCommand → Type 0
IsNamed (commands.Other code) = ⊥
IsNamed _ = Unit {0}

-- what goes to a drive with this command and comes back: the command is spelled in its registers (ACS-3, inputs and outputs of
-- a command)
abbrev pub traffic : AtaCommand → List Block → Taskfile → List Block → Traffic
traffic command given ended taken =
    record { registers = command_registers command; given = given; ended = ended; taken = taken }

-- a command was carried out: its effect, and sectors may have been written back (ACS-3 section 7)
pub record HasRun (command : AtaCommand) (x : Traffic) (old new : DriveState) : Type 0 where
  pub was_up : old.down ≡ false
  pub after : Medium
  pub does : HasEffect command x (medium_of old) after
  pub lost : Loses after.cells new.cells
  pub stays : new ≡ record (with_medium old after) { cells = new.cells }

-- the link was lost while these pairs were under way: each is written or not, and the settings may be others (profile)
pub record IsCutShort (pairs : List Pair) (old new : DriveState) : Type 0 where
  pub settings : MaySet old new
  pub cut : IsCutOff old pairs (record new { cache = old.cache; look = old.look; identify = old.identify })

-- a command that moves no data was carried out (ACS-3 section 7)
pub record HasRunBare (command : AtaCommand) (old new : DriveState) : Type 0 where
  pub ended : Taskfile
  pub taken : List Block
  pub run : HasRun command (traffic command [] ended taken) old new

-- the drive's data stand in the first page, and sectors were written back at most (ACS-3, IDENTIFY DEVICE)
pub record GivesIdentifyData (old : DriveState) (given taken : List Block) (new : DriveState) : Type 0 where
  pub was_up : old.down ≡ false
  pub pages : taken ≡ record { bytes = old.identify } ∷ drop 1 given
  pub lost : Loses old.cells new.cells
  pub stays : new ≡ record old { cells = new.cells }

-- a drive that was not to change: it is as it was; or entries that its sectors may be left with were lost; or its link was lost
-- meanwhile (profile)
pub data IsUndisturbed (old new : DriveState) : Type 0 where
  untouched : new ≡ old → IsUndisturbed old new
  written_back : Loses old.cells new.cells → new ≡ record old { cells = new.cells } → IsUndisturbed old new
  cut_off : IsCutShort [] old new → IsUndisturbed old new
