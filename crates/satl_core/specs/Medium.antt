-- How commands end that go over the medium alone on the drive.
use Rattle.std.specs.Prelude.{◌≡◌, ◌≤◌, ℕ, ◌+◌, Bool, true, if◌then◌else◌, List, [], ◌∷◌, Option, Some, None, length, get_or}
use Rattle.std.specs.List.{AllByRecursion}
use Rattle.satl_base.specs.declared.block.Block.{Block}
use Rattle.satl_base.specs.declared.block.Range.{Range}
use Rattle.satl_base.specs.Blocks.{no_block, AreWhole}
use Rattle.satl_base.specs.Limits.{most_moved}
use Rattle.satl_base.specs.Cells.{Pair}
use Rattle.satl_base.specs.Identify.{has_trim}
use Rattle.satl_line.specs.declared.entry.Entry.{Entry}
use Rattle.satl_sense.specs.declared.sense.Sense.{Sense}
use Rattle.satl_frame.specs.DataPages.{page_count}
use Rattle.satl_pass.specs.declared.pass.Pass.{Pass}
use Rattle.satl_pass.specs.Reading.{CanGoToDrive}
use Rattle.satl_pass.specs.Status.{status_sense}
use Rattle.satl_regs.specs.declared.values.Taskfile.{Taskfile}
use Rattle.satl_regs.specs.Commands.{command_in}
use Rattle.satl_regs.specs.Effects.{Transfer, pairs_of, is_bad}
use Rattle.satl_regs.specs.Trim.{IsTrimList}
use Rattle.satl_drive.specs.Rules.{IsCarriedOut}
use Rattle.satl_drive.specs.State.{DriveState, medium_of}
use Rattle.satl_barrier.specs.declared.finishing.Finish.{Finish}
use Rattle.satl_barrier.specs.declared.finishing.Finish.TheVariants as finishes
use Rattle.satl_barrier.specs.declared.comparing.Comparison.{Comparison}
use Rattle.satl_barrier.specs.declared.comparing.Comparison.TheVariants as comparisons
use Rattle.satl_barrier.specs.Finishing.{ComparesAs, FinishesAs, IsVerified, trimming_ranges, writing_same}
use Rattle.satl_direct.specs.Senses.{crc_error, miscompare, read_error, write_error}
use Rattle.satl_direct.specs.Tasks.{pass_of}
use Rattle.satl_core.specs.Layer.{FitsCapacity}
use Rattle.satl_core.specs.declared.alone.Alone.{Alone}
use Rattle.satl_core.specs.declared.alone.Alone.TheVariants as alones
use Rattle.satl_core.specs.declared.turning.Ending.{Ending}
use Rattle.satl_core.specs.declared.turning.Ending.TheVariants as endings

-- how a VERIFY without comparison ends (SBC-3, VERIFY commands)
abbrev pub ending_of_verify : Option ℕ → Ending
ending_of_verify None = endings.Good
ending_of_verify (Some lba) = endings.Check (read_error lba)

-- how a VERIFY with comparison ends (SBC-3, VERIFY commands, BYTCHK)
abbrev pub ending_of_comparison : Comparison → Ending
ending_of_comparison comparisons.Same = endings.Good
ending_of_comparison comparisons.Differs = endings.Check miscompare
ending_of_comparison (comparisons.Flawed lba) = endings.Check (read_error lba)
ending_of_comparison comparisons.Garbled = endings.Check crc_error

-- how a WRITE SAME or a trim ends (SAT-3 11)
abbrev pub ending_of_finish : Finish → Ending
ending_of_finish finishes.Done = endings.Good
ending_of_finish (finishes.Flawed lba) = endings.Check (write_error lba)
ending_of_finish finishes.Garbled = endings.Check crc_error

-- a range was verified, and the task ends so (SBC-3, VERIFY commands)
pub record HasVerified (range : Range) (old : DriveState) (ending : Ending) (new : DriveState) : Type 0 where
  pub flaw : Option ℕ
  pub is : IsVerified range flaw old new
  pub told : ending ≡ ending_of_verify flaw

-- a range was compared with these blocks, and the task ends so (SBC-3, VERIFY commands, BYTCHK)
pub record HasCompared (range : Range) (blocks : List Block) (old : DriveState) (ending : Ending)
    (new : DriveState) : Type 0 where
  pub comparison : Comparison
  pub is : ComparesAs range blocks comparison old new
  pub told : ending ≡ ending_of_comparison comparison

-- a WRITE SAME or a trim was carried out, whose first piece has so many blocks, and the task ends so (SBC-3, UNMAP and WRITE
-- SAME commands)
pub record HasFinished (t : Transfer) (first : ℕ) (old : DriveState) (ending : Ending) (new : DriveState) : Type 0 where
  pub finish : Finish
  pub is : FinishesAs t first finish old new
  pub told : ending ≡ ending_of_finish finish

-- how a task ends by the sense data of its command and whether that ended bad (SAT-3 12.2)
abbrev pub ending_with : Option Sense → Bool → Ending
ending_with None bad = endings.Good
ending_with (Some sense) bad = if bad then endings.Check sense else endings.Informed sense

-- how an ATA PASS-THROUGH ends (SAT-3 12.2)
abbrev pub passed : Pass → Taskfile → Ending
passed pass ended = ending_with (status_sense pass ended) (is_bad ended)

-- pages, and the drive that they go to or come from, at a moment (profile)
pub record PagesOnDrive : Type 0 where
  pub pages : List Block
  pub drive : DriveState

-- these pages on the drive (profile)
abbrev pub pages_on : List Block → DriveState → PagesOnDrive
pages_on pages drive = record { pages = pages; drive = drive }

-- the command of an ATA PASS-THROUGH was carried out with the pages, which are left with other blocks, and the task ends so
-- (SAT-3 12.2)
pub record PassesThrough (pass : Pass) (old : PagesOnDrive) (ending : Ending) (new : PagesOnDrive) : Type 0 where
  pub ended : Taskfile
  pub is : IsCarriedOut (record { registers = pass.regs; given = old.pages; ended = ended; taken = new.pages }) old.drive
      new.drive
  pub whole : AreWhole old.pages
  pub left_whole : AreWhole new.pages
  pub size : length new.pages ≡ length old.pages
  pub told : ending ≡ passed pass ended

-- a drive takes a trim of these ranges: it has trim, one block of entries names them, and they lie within the capacity (ACS-3,
-- DATA SET MANAGEMENT)
pub record TakesTrim (ranges : List Range) (d : DriveState) : Type 0 where
  pub has : has_trim d.identify ≡ true
  pub list : IsTrimList ranges
  pub within : AllByRecursion (λ range. range.lba + range.count ≤ length d.cells) ranges

-- what a command that runs alone needs of its task and of the drive: a range within the capacity, its data-out in the pages,
-- and that the drive takes what it trims (SBC-3 5; SAT-3 12.2)
abbrev pub CanCarry : Alone → Entry → DriveState → Type 0
CanCarry (alones.Verify range) t d = FitsCapacity d.capacity range.lba range.count
CanCarry (alones.Compare range) t d =
    (length t.body ≡ range.count) × (range.count ≤ most_moved) × FitsCapacity d.capacity range.lba range.count
CanCarry (alones.WriteSame range) t d = (1 ≤ length t.body) × FitsCapacity d.capacity range.lba range.count
CanCarry (alones.TrimRange range) t d = TakesTrim (range ∷ []) d
CanCarry alones.TrimList t d = TakesTrim t.ranges.items d
CanCarry (alones.Through cdb) t d = (length t.body ≡ page_count (pass_of cdb).length) × CanGoToDrive (pass_of cdb)
CanCarry _ t d = Unit {0}

-- the pages of an ATA PASS-THROUGH are whole (profile)
abbrev pub HasWhole : Alone → Entry → Type 0
HasWhole (alones.Through cdb) t = AreWhole t.body
HasWhole _ t = Unit {0}

-- what a command that runs alone writes (SBC-3, UNMAP and WRITE SAME commands; SAT-3 12.2)
abbrev pub written_alone : Alone → Entry → DriveState → List Pair
written_alone (alones.WriteSame range) t d = (writing_same range (get_or t.body 0 no_block) d).writes
written_alone (alones.TrimRange range) t d = (trimming_ranges (range ∷ []) d).writes
written_alone alones.TrimList t d = (trimming_ranges t.ranges.items d).writes
written_alone (alones.Through cdb) t d = pairs_of (command_in (pass_of cdb).regs) (medium_of d) t.body
written_alone _ t d = []
