-- How a ranged task ends on the medium.
use Rattle.std.specs.Prelude.{◌≡◌, ℕ, ◌+◌, Bool, true, List, [], Option, Some, None}
use Rattle.satl_base.specs.declared.block.Block.{Block}
use Rattle.satl_base.specs.declared.bench.Which.TheVariants.{Read, Write}
use Rattle.satl_base.specs.Cells.{Cell, Part, first_flaw, nows, whole}
use Rattle.satl_line.specs.Ranged.{RangedTask, written_pairs}
use Rattle.satl_line.specs.Ranged.RangedTask.{ranged_read, ranged_write, ranged_trim}

-- a ranged task is done and gives the blocks that it read, or it meets a flaw at an address, or it ends with a CRC error
-- (profile)
pub data Outcome : Type 0 where
  ends_done : List Block → Outcome
  ends_flawed : ℕ → Outcome
  ends_glitched : Outcome

-- whether the drive is active once a task has ended: one that is done makes it so (ACS-3, power modes)
abbrev pub active_after : Outcome → Bool → Bool
active_after (ends_done blocks) active = true
active_after (ends_flawed lba) active = active
active_after ends_glitched active = active

-- the lowest address of its range with a flaw of its kind; a trim meets none (ACS-3, UNC; profile)
abbrev pub flaw_met : List Cell → RangedTask → Option ℕ
flaw_met cells (ranged_read fua range) = first_flaw Read cells range.lba range.count
flaw_met cells (ranged_write fua range blocks) = first_flaw Write cells range.lba range.count
flaw_met cells (ranged_trim ranges) = None

-- the blocks that a ranged task reads (SBC-3, READ)
abbrev pub blocks_read : List Cell → RangedTask → List Block
blocks_read cells (ranged_read fua range) = nows cells range.lba range.count
blocks_read cells (ranged_write fua range blocks) = []
blocks_read cells (ranged_trim ranges) = []

-- what the end of a ranged task changes: the cells, and how many CRC errors may still come (profile)
pub record Surface : Type 0 where
  pub cells : List Cell
  pub glitches : ℕ

-- these cells, with so many CRC errors to come (profile)
abbrev pub surface : List Cell → ℕ → Surface
surface cells glitches = record { cells = cells; glitches = glitches }

-- done: no flaw was met, all that the task writes is written, and the glitches stay (SBC-3; profile)
pub record EndsDone (cache_on : Bool) (task : RangedTask) (data_in : List Block) (old new : Surface) : Type 0 where
  pub no_flaw : flaw_met old.cells task ≡ None
  pub read : data_in ≡ blocks_read old.cells task
  pub written : new.cells ≡ whole old.cells (written_pairs cache_on task)
  pub glitches_stay : new.glitches ≡ old.glitches

-- a flaw: the lowest is named, part of what the task writes is written, and the glitches stay (SBC-3, MEDIUM ERROR; profile)
pub record EndsFlawed (cache_on : Bool) (task : RangedTask) (lba : ℕ) (old new : Surface) : Type 0 where
  pub flaw : flaw_met old.cells task ≡ Some lba
  pub written : Part old.cells (written_pairs cache_on task) new.cells
  pub glitches_stay : new.glitches ≡ old.glitches

-- a CRC error: no flaw was met, part of what the task writes is written, and one glitch is used up (ACS-3, ICRC; profile)
pub record EndsGlitched (cache_on : Bool) (task : RangedTask) (old new : Surface) : Type 0 where
  pub no_flaw : flaw_met old.cells task ≡ None
  pub written : Part old.cells (written_pairs cache_on task) new.cells
  pub one_glitch : new.glitches + 1 ≡ old.glitches

-- how a ranged task ends on the medium (SBC-3; profile)
abbrev pub EndsAs : Bool → RangedTask → Outcome → Surface → Surface → Type 0
EndsAs cache_on task (ends_done data_in) old new = EndsDone cache_on task data_in old new
EndsAs cache_on task (ends_flawed lba) old new = EndsFlawed cache_on task lba old new
EndsAs cache_on task ends_glitched old new = EndsGlitched cache_on task old new
