-- What commands do that run alone on the drive.
use Rattle.std.specs.Prelude.{Bool, true, false, Option, Some, None}
use Rattle.satl_cdb.specs.declared.command.Command.{Command}
use Rattle.satl_cdb.specs.declared.command.Command.TheVariants as commands
use Rattle.satl_base.specs.Blocks.{over}
use Rattle.satl_core.specs.declared.alone.Alone.{Alone}
use Rattle.satl_core.specs.declared.alone.Alone.TheVariants as alones

-- what a command does that runs alone on the drive: a READ and a WRITE go through the queue, and others are answered on arrival
-- (SBC-3 5, SPC-4 6, SAT-3; profile)
abbrev pub alone_of : Command → Option Alone
alone_of (commands.Flush form lba count) = Some alones.Flush
alone_of (commands.ModeSelect ten size) = Some alones.Select
alone_of (commands.StartStop start no_flush) = Some (alones.Switch start no_flush)
alone_of (commands.Verify form lba count false) = Some (alones.Verify (over lba count))
alone_of (commands.Verify form lba count true) = Some (alones.Compare (over lba count))
alone_of (commands.WriteSame form lba count false) = Some (alones.WriteSame (over lba count))
alone_of (commands.WriteSame form lba count true) = Some (alones.TrimRange (over lba count))
alone_of (commands.Unmap size) = Some alones.TrimList
alone_of (commands.Pass cdb) = Some (alones.Through cdb)
alone_of _ = None

-- whether a started unit alone does it (SBC-3, START STOP UNIT; SPC-4 4.5.6, NOT READY)
abbrev pub needs_start : Alone → Bool
needs_start alones.Select = false
needs_start (alones.Switch start no_flush) = false
needs_start (alones.Through cdb) = false
needs_start _ = true
