-- Devices of two sectors that a run begins with.
use Rattle.std.specs.Prelude.{◌≡◌, true, false, List, [], ◌∷◌}
use Rattle.satl_base.specs.declared.request.Request.{Request}
use Rattle.satl_base.specs.Cells.{Cell}
use Rattle.satl_base.specs.Names.{is_name}
use Rattle.satl_cdb.specs.declared.command.Command.TheVariants as commands
use Rattle.satl_cdb.specs.declared.command.Form.TheVariants as forms
use Rattle.satl_frame.specs.declared.frames.Frame.{Frame}
use Rattle.satl_frame.specs.declared.frames.Frame.TheVariants as frames
use Rattle.satl_line.specs.declared.entry.Entry.{Entry}
use Rattle.satl_direct.specs.Device.{Device}
use Rattle.satl_direct.specs.Tasks.{task_for}

-- a device like another, but up and started, with its write cache on, of two sectors and with these tasks (profile)
abbrev pub at_work : Cell → Cell → List Entry → Device → Device
at_work sector_0 sector_1 tasks s =
    record s {
      cells = sector_0 ∷ sector_1 ∷ [];
      tasks = tasks;
      modes = record s.modes { wce = true };
      started = true;
      down = false;
    }

-- the task of a request for READ(10) of sector 0 (SBC-3, READ (10))
abbrev pub reads_sector_0 : Request → Entry
reads_sector_0 r = task_for false r (commands.Read forms.Ten 0 1 false)

-- the task of a request for WRITE(10) of sector 0 (SBC-3, WRITE (10))
abbrev pub writes_sector_0 : Request → Entry
writes_sector_0 r = task_for false r (commands.Write forms.Ten 0 1 false)

-- the task of a request for WRITE(10) of both sectors (SBC-3, WRITE (10))
abbrev pub writes_both_sectors : Request → Entry
writes_both_sectors r = task_for false r (commands.Write forms.Ten 0 2 false)

-- the task of a request for SYNCHRONIZE CACHE(10) of all sectors (SBC-3, SYNCHRONIZE CACHE (10))
abbrev pub flushes_all_sectors : Request → Entry
flushes_all_sectors r = task_for false r (commands.Flush forms.Ten 0 0)

-- two requests of different nexus or tag (SAM-5 4.7, I_T_L_Q nexus)
abbrev pub DifferInNexusOrTag : Request → Request → Type 0
DifferInNexusOrTag a b = is_name b.nexus (b.tag).0 a.nexus (a.tag).0 ≡ false

-- TURN, or END, which takes turns until no task is left (profile)
abbrev pub AreTurns : Frame → Type 0
AreTurns (frames.Turn count) = Unit {0}
AreTurns frames.End = Unit {0}
AreTurns _ = ⊥
