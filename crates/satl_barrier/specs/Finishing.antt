-- How a command ends that goes over a range of the medium, in one ATA command or in pieces of 64 blocks upwards.
use Rattle.std.specs.Prelude.{◌≡◌, ◌⊎◌, ℕ, ◌+◌, ◌-◌, ◌/◌, ◌^◌, ◌≤◌, not, if◌then◌else◌, true, false, List, [], Option, Some, None, MatchOption, length, min, replicate}
use Rattle.satl_base.specs.Limits.{most_covered, piece}
use Rattle.satl_base.specs.declared.block.Block.{Block}
use Rattle.satl_base.specs.declared.block.Range.{Range}
use Rattle.satl_base.specs.declared.bench.Which.TheVariants as flaws
use Rattle.satl_base.specs.Cells.{Cell, Part, first_flaw, nows, pairs_from, whole}
use Rattle.satl_base.specs.Losses.{Loses}
use Rattle.satl_base.specs.Fields.{bit_of}
use Rattle.satl_regs.specs.declared.values.Taskfile.{Taskfile}
use Rattle.satl_regs.specs.Effects.{Transfer, is_bad, zeros_at}
use Rattle.satl_regs.specs.Trim.{addresses}
use Rattle.satl_drive.specs.State.{DriveState}
use Rattle.satl_barrier.specs.declared.finishing.Finish.{Finish}
use Rattle.satl_barrier.specs.declared.finishing.Finish.TheVariants as finishes
use Rattle.satl_barrier.specs.declared.comparing.Comparison.{Comparison}
use Rattle.satl_barrier.specs.declared.comparing.Comparison.TheVariants as comparisons

-- the next piece of a range, behind the blocks that are done (profile)
abbrev pub piece_behind : Range → ℕ → Range
piece_behind range done = record { lba = range.lba + done; count = min piece (range.count - done) }

-- how many pieces so many blocks are (profile)
abbrev pub pieces_of : ℕ → ℕ
pieces_of count = (count + 63) / 64

-- the most pieces of a command (profile)
abbrev pub most_pieces : ℕ
most_pieces = 1024

-- a read of a range, for its flaws or to compare its blocks: it writes nothing (SBC-3, VERIFY commands)
abbrev pub verifying_range : Range → Transfer
verifying_range range =
    record { ext = true; dma = true; stopped_by = flaws.Read; lba = range.lba; sectors = range.count; writes = []; reads = [] }

-- blocks at the addresses of a range, through the cache where it is on (SBC-3, WRITE commands)
abbrev pub writing_range : Range → List Block → DriveState → Transfer
writing_range range blocks d =
    record {
      ext = true;
      dma = true;
      stopped_by = flaws.Write;
      lba = range.lba;
      sectors = range.count;
      writes = pairs_from range.lba blocks d.cache;
      reads = [];
    }

-- the same block at each address of a range, through the cache where it is on (SBC-3, WRITE SAME commands)
abbrev pub writing_same : Range → Block → DriveState → Transfer
writing_same range block d = writing_range range (replicate range.count block) d

-- zeros at each address of some ranges, through the cache where it is on; no flaw stops it (SBC-3 5.28; of flaws: profile)
abbrev pub trimming_ranges : List Range → DriveState → Transfer
trimming_ranges ranges d =
    record {
      ext = true;
      dma = true;
      stopped_by = flaws.Write;
      lba = 0;
      sectors = 0;
      writes = zeros_at d.cache (addresses ranges);
      reads = [];
    }

-- what a taskfile tells of the end: ERR of STATUS is 1 at a bad end, and then ICRC, bit 7 of ERROR, at a CRC error; else LBA is
-- the flawed address (ACS-3, error outputs)
abbrev pub finish_of : Taskfile → Finish
finish_of ended =
    if not (is_bad ended) then finishes.Done
    else if bit_of 7 ended.error then finishes.Garbled
    else finishes.Flawed ended.lba

-- the flawed address that a taskfile tells of a read for flaws: that of a bad end (ACS-3, READ VERIFY SECTOR(S) EXT, error
-- outputs)
abbrev pub told_flaw : Taskfile → Option ℕ
told_flaw ended = if is_bad ended then Some ended.lba else None

-- all of it was carried out, sectors may have been written back since, and the drive is active (ACS-3, normal outputs)
pub record IsDone (t : Transfer) (old new : DriveState) : Type 0 where
  pub was_up : old.down ≡ false
  pub no_flaw : first_flaw t.stopped_by old.cells t.lba t.sectors ≡ None
  pub lost : Loses (whole old.cells t.writes) new.cells
  pub stays : new ≡ record old { cells = new.cells; active = true }

-- part of what it writes was written, sectors may have been written back since, and a piece may have made the drive active
-- (ACS-3, error outputs)
pub record IsTorn (t : Transfer) (old new : DriveState) : Type 0 where
  pub was_up : old.down ≡ false
  pub torn : List Cell
  pub part : Part old.cells t.writes torn
  pub lost : Loses torn new.cells
  pub active : (new.active ≡ old.active) ⊎ (new.active ≡ true)

-- the lowest flawed address of the range stopped it (ACS-3, UNC)
pub record StopsAtFlaw (t : Transfer) (at : ℕ) (old new : DriveState) : Type 0 where
  pub flaw : first_flaw t.stopped_by old.cells t.lba t.sectors ≡ Some at
  pub torn : IsTorn t old new
  pub stays : new ≡ record old { cells = new.cells; active = new.active }

-- a CRC error stopped it, where its first piece, of so many blocks, has no flaw (ACS-3, ICRC; profile)
pub record StopsAtCrc (t : Transfer) (first : ℕ) (old new : DriveState) : Type 0 where
  pub no_flaw : first_flaw t.stopped_by old.cells t.lba first ≡ None
  pub torn : IsTorn t old new
  pub one : new.glitches + 1 ≡ old.glitches
  pub stays : new ≡ record old { cells = new.cells; active = new.active; glitches = new.glitches }

-- how it ended, whose first piece has so many blocks (ACS-3; the pieces: profile)
abbrev pub FinishesAs : Transfer → ℕ → Finish → DriveState → DriveState → Type 0
FinishesAs t first finishes.Done old new = IsDone t old new
FinishesAs t first (finishes.Flawed at) old new = StopsAtFlaw t at old new
FinishesAs t first finishes.Garbled old new = StopsAtCrc t first old new

-- a range was verified: the lowest address that reads stop at, or all of it was read (SBC-3, VERIFY commands)
abbrev pub IsVerified : Range → Option ℕ → DriveState → DriveState → Type 0
IsVerified range flaw old new =
    MatchOption flaw (IsDone (verifying_range range) old new) (λ at. StopsAtFlaw (verifying_range range) at old new)

-- a range was compared with these blocks: reads give them, or others; or it ended before (SBC-3, VERIFY commands, BYTCHK)
abbrev pub ComparesAs : Range → List Block → Comparison → DriveState → DriveState → Type 0
ComparesAs range blocks comparisons.Same old new =
    (nows old.cells range.lba range.count ≡ blocks) × IsDone (verifying_range range) old new
ComparesAs range blocks comparisons.Differs old new =
    (nows old.cells range.lba range.count ≡ blocks → ⊥) × IsDone (verifying_range range) old new
ComparesAs range blocks (comparisons.Flawed at) old new = StopsAtFlaw (verifying_range range) at old new
ComparesAs range blocks comparisons.Garbled old new = StopsAtCrc (verifying_range range) range.count old new

-- a range that one command may go over: some blocks, at most 65,536, within the capacity and the 48 bits of an address (ACS-3)
pub record IsReached (range : Range) (d : DriveState) : Type 0 where
  pub some : 1 ≤ range.count
  pub most : range.count ≤ most_covered
  pub address : range.lba + range.count ≤ 2 ^ 48
  pub within : range.lba + range.count ≤ length d.cells
