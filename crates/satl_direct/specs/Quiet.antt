-- What may change between the steps of the device without an answer (profile).
use Rattle.std.specs.Prelude.{◌≡◌, ◌⊎◌, ◌||◌, Bool, true, false, List, [], ◌∷◌}
use Rattle.satl_base.specs.Cells.{Pair}
use Rattle.satl_base.specs.Lists.{IsIn}
use Rattle.satl_base.specs.Moves.{Moves}
use Rattle.satl_base.specs.Blocks.{over}
use Rattle.satl_cdb.specs.declared.command.Command.{Command}
use Rattle.satl_cdb.specs.declared.command.Command.TheVariants as commands
use Rattle.satl_regs.specs.Commands.{command_in}
use Rattle.satl_regs.specs.Effects.{goes_over_medium, pairs_of}
use Rattle.satl_line.specs.declared.entry.Entry.{Entry}
use Rattle.satl_line.specs.Eligible.{IsEligible}
use Rattle.satl_line.specs.Ranged.{written_pairs}
use Rattle.satl_line.specs.Ranged.RangedTask.{ranged_write, ranged_trim}
use Rattle.satl_direct.specs.Device.{Device}
use Rattle.satl_direct.specs.Ending.{device_medium, same_pairs}
use Rattle.satl_direct.specs.Tasks.{pass_of}

-- what a command of a task writes, through the cache where WCE is on and FUA is 0. An UNMAP, queued or not, and a WRITE SAME
-- that unmaps write a block of zeros at each address, an ATA PASS-THROUGH what the ATA command in its registers writes
-- (SBC-3 5, 6.4.5; SAT-3 12.2; zeros: profile)
abbrev pub written_by : Command → Device → Entry → List Pair
written_by (commands.Write form lba count fua) s t = written_pairs s.modes.wce (ranged_write fua (over lba count) t.body)
written_by (commands.WriteSame form lba count false) s t = same_pairs lba count t.body s.modes.wce
written_by (commands.WriteSame form lba count true) s t = written_pairs s.modes.wce (ranged_trim (over lba count ∷ []))
written_by (commands.Unmap size) s t = written_pairs s.modes.wce (ranged_trim t.ranges.items)
written_by (commands.Pass cdb) s t = pairs_of (command_in (pass_of cdb).regs) (device_medium s) t.body
written_by _ s t = []

-- what a task writes (SBC-3 5)
abbrev pub writes : Device → Entry → List Pair
writes s t = written_by t.command s t

-- whether a command reads, writes, verifies or trims, which makes a drive active (ACS-3, power modes)
abbrev pub wakes : Command → Bool
wakes (commands.Read form lba count fua) = true
wakes (commands.Write form lba count fua) = true
wakes (commands.Verify form lba count compare) = true
wakes (commands.WriteSame form lba count unmap) = true
wakes (commands.Unmap size) = true
wakes (commands.Pass cdb) = goes_over_medium (command_in (pass_of cdb).regs)
wakes _ = false

-- an ATA PASS-THROUGH (SAT-3 12.2)
abbrev pub is_pass : Command → Bool
is_pass (commands.Pass cdb) = true
is_pass _ = false

-- a task under way: an eligible task of a device that is up (profile)
pub record IsUnderWay (s : Device) (task : Entry) : Type 0 where
  pub up : s.down ≡ false
  pub eligible : IsEligible s.tasks task

-- a pair may show, that is, be written before its task has ended: a task under way writes it, and the unit is started or the
-- task is an ATA PASS-THROUGH (profile)
pub record MayShow (s : Device) (pair : Pair) : Type 0 where
  pub task : Entry
  pub under_way : IsUnderWay s task
  pub started : (s.started || is_pass task.command) ≡ true
  pub among : IsIn pair (writes s task)

-- a task that may make the drive active before it ends: one under way that goes over the medium, also on a stopped unit (ACS-3,
-- power modes; profile)
pub record MayWake (s : Device) : Type 0 where
  pub task : Entry
  pub under_way : IsUnderWay s task
  pub wakes_it : wakes task.command ≡ true

-- the drive is active or not as before, or a task under way has made it active (profile)
abbrev pub StaysOrWakes : Device → Bool → Type 0
StaysOrWakes s active = (active ≡ s.active) ⊎ ((active ≡ true) × MayWake s)

-- quiet moves, none or any number of them in any order (`Moves`): a loss of power may leave fewer blocks of a sector than
-- before, for a cache may write back at any time; a pair that may show is written; and besides the drive may become active
-- (SBC-3 4.15; profile)
pub record Quiet (old new : Device) : Type 0 where
  pub cells : Moves (MayShow old) old.cells new.cells
  pub active : StaysOrWakes old new.active
  pub stays : new ≡ record old { cells = new.cells; active = new.active }

-- a step, with quiet moves before it and after it (profile)
pub record Around {A : Type 0} (Step : Device → List A → Device → Type 0) (old : Device) (answers : List A)
    (new : Device) : Type 0 where
  pub before : Device
  pub after : Device
  pub quiet_before : Quiet old before
  pub step : Step before answers after
  pub quiet_after : Quiet after new
