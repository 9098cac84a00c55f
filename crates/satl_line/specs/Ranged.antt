-- Ranged tasks: what a drive sees of a READ, of a WRITE, and of an UNMAP whose trim is queued.
use Rattle.std.specs.Prelude.{◌≡◌, Bool, not, ◌&&◌, List, [], Option, Some, None, replicate}
use Rattle.std.specs.List.{flat_map}
use Rattle.satl_base.specs.declared.block.Block.{Block}
use Rattle.satl_base.specs.declared.block.Range.{Range}
use Rattle.satl_base.specs.Blocks.{zero_block}
use Rattle.satl_base.specs.Cells.{Pair, pairs_from}
use Rattle.satl_base.specs.Lists.{IsIn}
use Rattle.satl_cdb.specs.declared.command.Command.{Command}
use Rattle.satl_cdb.specs.declared.command.Command.TheVariants.{Read, Write, Unmap}
use Rattle.satl_line.specs.declared.entry.Entry.{Entry}
use Rattle.satl_line.specs.declared.entry.Kind.{Kind}
use Rattle.satl_line.specs.declared.entry.Kind.TheVariants.{Ranged, Barrier}
use Rattle.satl_line.specs.Eligible.{IsEligible}

-- a read or a write of one range with its FUA bit, or a trim of some ranges (ACS-3, READ and WRITE FPDMA QUEUED; the queued
-- trim is the profile's)
pub data RangedTask : Type 0 where
  ranged_read : (fua : Bool) (range : Range) → RangedTask
  ranged_write : (fua : Bool) (range : Range) (blocks : List Block) → RangedTask
  ranged_trim : (ranges : List Range) → RangedTask

-- the ranged task of a command with these ranges and pages: none where it is no READ, WRITE or UNMAP (profile)
abbrev pub ranged_by : Command → List Range → List Block → Option RangedTask
ranged_by (Read form lba count fua) ranges body = Some (ranged_read fua (record { lba = lba; count = count }))
ranged_by (Write form lba count fua) ranges body = Some (ranged_write fua (record { lba = lba; count = count }) body)
ranged_by (Unmap length) ranges body = Some (ranged_trim ranges)
ranged_by _ ranges body = None

-- the ranged task of an entry: none where it is a barrier (profile)
abbrev pub ranged_of : Entry → Option RangedTask
ranged_of entry = by_kind entry.kind
  where
    by_kind : Kind → Option RangedTask
    by_kind (Ranged write) = ranged_by entry.command entry.ranges.items entry.body
    by_kind Barrier = None

-- the zero block at each address of some ranges (SBC-3, UNMAP with LBPRZ)
abbrev pub zeros_over : List Range → Bool → List Pair
zeros_over ranges cached = flat_map (λ range. pairs_from range.lba (replicate range.count zero_block) cached) ranges

-- what a ranged task writes, where the drive's cache is on or not: through the cache where it is on and FUA is 0 (SBC-3 FUA,
-- WCE)
abbrev pub written_pairs : Bool → RangedTask → List Pair
written_pairs cache_on (ranged_read fua range) = []
written_pairs cache_on (ranged_write fua range blocks) = pairs_from range.lba blocks (cache_on && not fua)
written_pairs cache_on (ranged_trim ranges) = zeros_over ranges cache_on

-- a pair that an eligible ranged task of the list writes, and that may show before the task ends (profile)
pub record MayPut (cache_on : Bool) (tasks : List Entry) (pair : Pair) : Type 0 where
  pub task : Entry
  pub eligible : IsEligible tasks task
  pub ranged : RangedTask
  pub of_task : ranged_of task ≡ Some ranged
  pub among : IsIn pair (written_pairs cache_on ranged)
