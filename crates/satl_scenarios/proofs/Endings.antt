-- How tasks end, where the device is up.
use Rattle.std.proofs.Common.{◌≡◌, refl, true, ℕ, ◌+◌, List, [], ◌∷◌}
use Rattle.std.specs.Prelude.{None, Some}
use Rattle.satl_base.specs.declared.reply.Reply.{Reply}
use Rattle.satl_base.specs.declared.reply.Scsi.TheVariants.{Good}
use Rattle.satl_base.specs.Cells.{Cell, Part, whole}
use Rattle.satl_line.specs.declared.entry.Entry.{Entry}
use Rattle.satl_line.specs.Ending.{flaw_met, blocks_read}
use Rattle.satl_line.specs.Ending.Outcome.{ends_done, ends_flawed, ends_glitched}
use Rattle.satl_line.specs.Ranged.{RangedTask, written_pairs}
use Rattle.satl_direct.specs.Device.{Device, without}
use Rattle.satl_direct.specs.Ending.{Ends, EndsOnSurface, IsTaskDone, medium_error, task_check, task_reply}
use Rattle.satl_direct.specs.Senses.{crc_error}
use Rattle.satl_direct.specs.Turn.{MayEnd, Turn}
use Rattle.satl_direct.specs.Turn.Turn.{ends}

-- a turn in which a task ends
pub ended : {s new : Device} {reply : Reply} (t : Entry) → MayEnd s t → Ends s t reply new → Turn s (reply ∷ []) new
ended {reply = reply} t may e = ends reply (record { task = t; may = may; ends = e })

-- the device once a task is done on the medium
abbrev pub once_done : RangedTask → Device → Entry → Device
once_done ranged s t = record s { cells = whole s.cells (written_pairs s.modes.wce ranged); tasks = without t s.tasks; active = true }

pub done : (ranged : RangedTask) (s : Device) (t : Entry) → flaw_met s.cells ranged ≡ None → EndsOnSurface ranged s t (task_reply t Good [] (blocks_read s.cells ranged)) (once_done ranged s t)
done ranged s t no_flaw = record {
  outcome = ends_done (blocks_read s.cells ranged);
  ends = record { no_flaw = no_flaw; read = refl; written = refl; glitches_stay = refl };
  answer = refl;
  stays = refl;
}

-- the device once a task has met a flaw, with these sectors
abbrev pub once_flawed : List Cell → Device → Entry → Device
once_flawed cells s t = record s { cells = cells; tasks = without t s.tasks }

pub flawed : (ranged : RangedTask) (lba : ℕ) (cells : List Cell) (s : Device) (t : Entry) → flaw_met s.cells ranged ≡ Some lba → Part s.cells (written_pairs s.modes.wce ranged) cells
    → EndsOnSurface ranged s t (task_check s t (medium_error ranged lba)) (once_flawed cells s t)
flawed ranged lba cells s t flaw part = record { outcome = ends_flawed lba; ends = record { flaw = flaw; written = part; glitches_stay = refl }; answer = refl; stays = refl }

-- the device once a task has ended by a CRC error, with these sectors and glitches
abbrev pub once_glitched : List Cell → ℕ → Device → Entry → Device
once_glitched cells left s t = record s { cells = cells; tasks = without t s.tasks; glitches = left }

pub glitched : (ranged : RangedTask) (cells : List Cell) (left : ℕ) (s : Device) (t : Entry) → flaw_met s.cells ranged ≡ None → Part s.cells (written_pairs s.modes.wce ranged) cells → left + 1 ≡ s.glitches
    → EndsOnSurface ranged s t (task_check s t crc_error) (once_glitched cells left s t)
glitched ranged cells left s t no_flaw part one = record { outcome = ends_glitched; ends = record { no_flaw = no_flaw; written = part; one_glitch = one }; answer = refl; stays = refl }

-- a task that is done otherwise
pub carried_out : (after : Device) (t : Entry) → IsTaskDone after t (task_reply t Good [] []) (record after { tasks = without t after.tasks })
carried_out after t = record { answer = refl; stays = refl }
