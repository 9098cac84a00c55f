-- Frames that the auditor knows.
use Rattle.std.specs.Prelude.{Bool, true, false, ◌&&◌, Result, Ok, Err}
use Rattle.satl_base.specs.declared.bench.BenchEvent.TheVariants as events
use Rattle.satl_cdb.specs.declared.command.Command.{Command}
use Rattle.satl_cdb.specs.declared.command.Command.TheVariants as commands
use Rattle.satl_cdb.specs.declared.command.Illegal.{Illegal}
use Rattle.satl_cdb.specs.Table.{says}
use Rattle.satl_frame.specs.declared.frames.Frame.{Frame}
use Rattle.satl_frame.specs.declared.frames.Frame.TheVariants as frames
use Rattle.satl_direct.specs.Arrival.{is_unit_0}

-- a command that the auditor knows: one that is refused, TEST UNIT READY, READ, WRITE or SYNCHRONIZE CACHE (profile)
abbrev pub is_known : Result Command Illegal → Bool
is_known (Err why) = true
is_known (Ok commands.TestUnitReady) = true
is_known (Ok (commands.Read form lba count fua)) = true
is_known (Ok (commands.Write form lba count fua)) = true
is_known (Ok (commands.Flush form lba count)) = true
is_known (Ok command) = false

-- a frame that the auditor knows, on a drive that trims or not: such a command to logical unit 0, TURN, ORDER, POWER or END
-- (profile)
abbrev pub is_known_frame : Bool → Frame → Bool
is_known_frame trim (frames.Request r) = is_unit_0 r.lun && is_known (says r.cdb trim)
is_known_frame trim (frames.Manage m) = false
is_known_frame trim (frames.Turn count) = true
is_known_frame trim (frames.Bench (events.Order order)) = true
is_known_frame trim (frames.Bench events.Power) = true
is_known_frame trim (frames.Bench event) = false
is_known_frame trim frames.End = true
