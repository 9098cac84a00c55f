-- What `run` and a lost link do: each rule relates the drive before the call and after it (ACS-3; lost links: profile).
use Rattle.std.specs.Prelude.{◌≡◌, ◌≤◌, true, false, List, [], ◌∷◌, Option, Some, None, length, drop}
use Rattle.satl_base.specs.declared.block.Block.{Block}
use Rattle.satl_base.specs.Lists.{is_in}
use Rattle.satl_base.specs.Cells.{Cell, Pair, Part}
use Rattle.satl_base.specs.Identify.{has_cache, has_look}
use Rattle.satl_base.specs.Losses.{Loses}
use Rattle.satl_io.specs.Causes.{Rose}
use Rattle.satl_regs.specs.declared.values.Registers.{Registers}
use Rattle.satl_regs.specs.declared.values.AtaCommand.{AtaCommand}
use Rattle.satl_regs.specs.declared.values.AtaCommand.TheVariants.{ReadLog}
use Rattle.satl_regs.specs.Commands.{command_in}
use Rattle.satl_regs.specs.QueuedCommands.{queued_codes}
use Rattle.satl_regs.specs.Effects.{Medium, Traffic, Ata, IsTelling, good_end, own_blocks, pairs_of}
use Rattle.satl_errlog.specs.declared.entry.NcqError.{NcqError}
use Rattle.satl_errlog.specs.Log.{log_of}
use Rattle.satl_drive.specs.State.{DriveState, medium_of, with_medium}

-- in the error state only the error log may be read: log 10h, page 0, one block (ACS-3, READ LOG EXT)
abbrev pub MayRun : Option NcqError → AtaCommand → Type 0
MayRun None command = Unit {0}
MayRun (Some e) command = command ≡ ReadLog 0x10 0 1

-- `run` may be called: nothing is outstanding, the command is not a queued one, in the error state it reads the error log, and
-- there are at least as many pages as its data have blocks (ACS-3; profile)
pub record CanRun (d : DriveState) (r : Registers) (pages : List Block) : Type 0 where
  pub idle : d.outstanding ≡ []
  pub not_queued : is_in r.command queued_codes ≡ false
  pub error : MayRun d.error (command_in r)
  pub room : own_blocks (command_in r) ≤ length pages

-- the command was carried out: the effect is that of the command, and sectors may have been written back (ACS-3 section 7)
pub record IsCarriedOut (x : Traffic) (old new : DriveState) : Type 0 where
  pub was_up : old.down ≡ false
  pub after : Medium
  pub does : Ata x (medium_of old) after
  pub lost : Loses after.cells new.cells
  pub stays : new ≡ record (with_medium old after) { cells = new.cells }

-- the error log was read, which ends the error state (ACS-3 annex A, log 10h)
pub record IsLogRead (e : NcqError) (x : Traffic) (old new : DriveState) : Type 0 where
  pub was_up : old.down ≡ false
  pub ends : x.ended ≡ good_end x.registers 0 0
  pub data_in : x.taken ≡ record { bytes = log_of e } ∷ drop 1 x.given
  pub lost : Loses old.cells new.cells
  pub stays : new ≡ record old { cells = new.cells; error = None }

-- what `run` did, in the error state or not (ACS-3)
abbrev pub IsRunBy : Option NcqError → Traffic → DriveState → DriveState → Type 0
IsRunBy None x old new = IsCarriedOut x old new
IsRunBy (Some e) x old new = IsLogRead e x old new

-- what `run` did, by the error state before it (ACS-3)
abbrev pub IsRun : Traffic → DriveState → DriveState → Type 0
IsRun x old new = IsRunBy old.error x old new

-- the link was lost while these pairs were under way: each is written or not, nothing is outstanding, the error state ends, the
-- drive is active or not, and the count of faults rose or stands at its last value (profile)
pub record IsCutOff (old : DriveState) (pairs : List Pair) (new : DriveState) : Type 0 where
  pub mid : List Cell
  pub part : Part old.cells pairs mid
  pub lost : Loses mid new.cells
  pub rose : Rose old.faults new.faults
  pub stays : new ≡ record old {
    cells = new.cells;
    outstanding = [];
    error = None;
    active = new.active;
    down = true;
    faults = new.faults;
  }

-- write cache and look-ahead may each be on where the drive has them, and its IDENTIFY DEVICE data tell them (ACS-3, SET
-- FEATURES)
pub record MaySet (old new : DriveState) : Type 0 where
  pub cache : new.cache ≡ true → has_cache old.identify ≡ true
  pub look : new.look ≡ true → has_look old.identify ≡ true
  pub tells : IsTelling new.cache new.look old.identify new.identify

-- the link was lost in `run`, also where it was lost before: what the command writes is written in part, and the settings may
-- be others (profile)
pub record IsRunCutOff (old : DriveState) (r : Registers) (given : List Block) (new : DriveState) : Type 0 where
  pub settings : MaySet old new
  pub cut : IsCutOff old (pairs_of (command_in r) (medium_of old) given)
      (record new { cache = old.cache; look = old.look; identify = old.identify })
