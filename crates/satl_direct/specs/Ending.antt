-- How a task ends at its turn (SAT-3 11, error mapping; SBC-3 5; SPC-4 6).
use Rattle.std.specs.Prelude.{◌≡◌, ◌⊎◌, ℕ, ◌+◌, ◌*◌, ◌&&◌, ◌||◌, not, min, Bool, true, false, if◌then◌else◌, List, [], ◌∷◌, Option, Some, None, MatchBool, MatchOption, length, map, replicate}
use Rattle.satl_base.specs.Limits.{piece}
use Rattle.satl_base.specs.declared.block.Block.{Block}
use Rattle.satl_base.specs.declared.block.Range.{Range}
use Rattle.satl_base.specs.declared.bench.Which.TheVariants as flaws
use Rattle.satl_base.specs.declared.modes.Modes.{Modes}
use Rattle.satl_base.specs.declared.reply.Reply.{Reply}
use Rattle.satl_base.specs.declared.reply.Scsi.{Scsi}
use Rattle.satl_base.specs.declared.reply.Scsi.TheVariants.{Good, CheckCondition}
use Rattle.satl_base.specs.Blocks.{first_bytes, over}
use Rattle.satl_base.specs.Cells.{Pair, Part, first_flaw, nows, pairs_from, settle, whole}
use Rattle.satl_cdb.specs.declared.command.Command.{Command}
use Rattle.satl_cdb.specs.declared.command.Command.TheVariants as commands
use Rattle.satl_sense.specs.declared.sense.Sense.{Sense}
use Rattle.satl_identify.specs.Data.{identity_data}
use Rattle.satl_regs.specs.declared.values.Taskfile.{Taskfile}
use Rattle.satl_regs.specs.Effects.{Medium, Ata, is_bad}
use Rattle.satl_mode.specs.Changes.{wanted_by}
use Rattle.satl_pass.specs.declared.pass.Pass.{Pass}
use Rattle.satl_pass.specs.Status.{status_sense}
use Rattle.satl_frame.specs.DataPages.{page_count, pages_of}
use Rattle.satl_line.specs.declared.entry.Entry.{Entry}
use Rattle.satl_line.specs.Ranged.{RangedTask}
use Rattle.satl_line.specs.Ranged.RangedTask.{ranged_read, ranged_write, ranged_trim}
use Rattle.satl_line.specs.Ending.{Outcome, EndsAs, Surface, active_after, surface}
use Rattle.satl_line.specs.Ending.Outcome.{ends_done, ends_flawed, ends_glitched}
use Rattle.satl_direct.specs.Device.{Device, without}
use Rattle.satl_direct.specs.Tasks.{asks, pass_of}
use Rattle.satl_direct.specs.Attentions.{with_modes_changed}
use Rattle.satl_direct.specs.Senses.{sense_text, link_lost, miscompare, not_ready, read_error, write_error, crc_error}

-- the answer to a task, with its data-in, the blocks that it read (SAM-5 5.1)
abbrev pub task_reply : Entry → Scsi → List ℕ → List Block → Reply
task_reply t status sense_bytes data_in =
    record {
      nexus = t.nexus;
      tag = t.tag;
      status = status;
      sense = record { items = sense_bytes };
      body = data_in;
      data_len = 512 * length data_in;
      expected = t.expected;
    }

-- a task is answered with CHECK CONDITION and this sense (SAM-5 5.3.1)
abbrev pub task_check : Device → Entry → Sense → Reply
task_check s t sense = task_reply t CheckCondition (sense_text s.modes sense) []

-- a task is answered with this sense, and nothing else changes (SAM-5 5.3.1)
pub record IsChecked (sense : Sense) (s : Device) (t : Entry) (reply : Reply) (new : Device) : Type 0 where
  pub answer : reply ≡ task_check s t sense
  pub stays : new ≡ record s { tasks = without t s.tasks }

-- a task is done without data, and the device is this one but for the task (SAM-5 5.3.1)
pub record IsTaskDone (after : Device) (t : Entry) (reply : Reply) (new : Device) : Type 0 where
  pub answer : reply ≡ task_reply t Good [] []
  pub stays : new ≡ record after { tasks = without t after.tasks }

-- A read, a write or a trim (`RangedTask`) reads and changes a surface (`Surface`): the sectors and the glitches; a medium
-- (`Medium`) has also the settings, the power mode and the IDENTIFY data.

-- the medium error of a task at a flawed address (SPC-4 4.5.6)
abbrev pub medium_error : RangedTask → ℕ → Sense
medium_error (ranged_read fua range) lba = read_error lba
medium_error (ranged_write fua range data_out) lba = write_error lba
medium_error (ranged_trim ranges) lba = write_error lba

-- the answer by the outcome on the surface (SAT-3 11)
abbrev pub outcome_reply : Device → Entry → RangedTask → Outcome → Reply
outcome_reply s t ranged (ends_done data_in) = task_reply t Good [] data_in
outcome_reply s t ranged (ends_flawed lba) = task_check s t (medium_error ranged lba)
outcome_reply s t ranged ends_glitched = task_check s t crc_error

-- the sectors of the device and its glitches (profile)
abbrev pub surface_of : Device → Surface
surface_of s = surface s.cells s.glitches

-- a READ, a WRITE or a trim ends by its outcome on the surface (`EndsAs`). Where a sector of a READ has a read flaw, or one of
-- a WRITE a write flaw, it fails with the lowest such address; a trim meets none. Else it is done, and the drive is active; or,
-- where a glitch is left, it may end with a CRC error, which uses up one. At a flaw or a CRC error what it writes is written in
-- part (SBC-3 5; of CRC errors: profile)
pub record EndsOnSurface (ranged : RangedTask) (s : Device) (t : Entry) (reply : Reply) (new : Device) : Type 0 where
  pub outcome : Outcome
  pub ends : EndsAs s.modes.wce ranged outcome (surface_of s) (surface_of new)
  pub answer : reply ≡ outcome_reply s t ranged outcome
  pub stays : new ≡ record s {
    cells = new.cells;
    tasks = without t s.tasks;
    glitches = new.glitches;
    active = active_after outcome s.active;
  }

-- a CRC error: what the task writes is written in part, and one glitch is used up (SPC-4 4.5.6; profile)
pub record EndsWithCrcError (writes : List Pair) (s : Device) (t : Entry) (reply : Reply) (new : Device) : Type 0 where
  pub answer : reply ≡ task_check s t crc_error
  pub part : Part s.cells writes new.cells
  pub one_glitch : new.glitches + 1 ≡ s.glitches
  pub stays : new ≡ record s { cells = new.cells; tasks = without t s.tasks; glitches = new.glitches }

-- the task leaves, and what it writes is written in part (profile)
pub record IsPartlyWritten (writes : List Pair) (s : Device) (t : Entry) (new : Device) : Type 0 where
  pub part : Part s.cells writes new.cells
  pub stays : new ≡ record s { cells = new.cells; tasks = without t s.tasks }

-- the block of a WRITE SAME at each address (SBC-3, WRITE SAME commands)
abbrev pub same_pairs : ℕ → ℕ → List Block → Bool → List Pair
same_pairs lba count [] cached = []
same_pairs lba count (block ∷ rest) cached = pairs_from lba (replicate count block) cached

-- a WRITE SAME that does not unmap. Where the first 64 blocks of its range have no write flaw and a glitch is left, it may end
-- with a CRC error. Else it is done, or, where its range has a write flaw, fails with the lowest such address. At a CRC error
-- or a flaw what it writes is written in part, whichever part of the range that is (SBC-3, WRITE SAME commands; SPC-4 4.5.6;
-- that the first piece alone tells of a CRC error: profile)
abbrev pub EndsInPieces : Range → Device → Entry → Reply → Device → Type 0
EndsInPieces range s t reply new =
    let writes : List Pair = same_pairs range.lba range.count t.body s.modes.wce in
    ((first_flaw flaws.Write s.cells range.lba (min piece range.count) ≡ None) × EndsWithCrcError writes s t reply new)
    ⊎ MatchOption (first_flaw flaws.Write s.cells range.lba range.count)
    (IsTaskDone (record s { cells = whole s.cells writes; active = true }) t reply new)
    (λ at. (reply ≡ task_check s t (write_error at)) × IsPartlyWritten writes s t new)

-- VERIFY without comparison: a read flaw in its range, or it is done (SBC-3, VERIFY commands)
abbrev pub EndsVerified : Range → Device → Entry → Reply → Device → Type 0
EndsVerified range s t reply new =
    MatchOption (first_flaw flaws.Read s.cells range.lba range.count)
    (IsTaskDone (record s { active = true }) t reply new)
    (λ at. IsChecked (read_error at) s t reply new)

-- the data-out are what reads give, and it is done; or they differ, which is a MISCOMPARE (SBC-3, VERIFY commands, BYTCHK)
abbrev pub IsCompared : Range → Device → Entry → Reply → Device → Type 0
IsCompared range s t reply new =
    ((t.body ≡ nows s.cells range.lba range.count) × IsTaskDone (record s { active = true }) t reply new)
    ⊎ ((t.body ≡ nows s.cells range.lba range.count → ⊥) × IsChecked miscompare s t reply new)

-- VERIFY with comparison: it fails at a read flaw in its range. Without one it is compared, or, where a glitch is left, may end
-- with a CRC error (SBC-3, VERIFY commands; of CRC errors: profile)
abbrev pub EndsCompared : Range → Device → Entry → Reply → Device → Type 0
EndsCompared range s t reply new =
    MatchOption (first_flaw flaws.Read s.cells range.lba range.count)
    (EndsWithCrcError [] s t reply new ⊎ IsCompared range s t reply new)
    (λ at. IsChecked (read_error at) s t reply new)

-- every sector is written back, also those outside the range of the command (SBC-3, SYNCHRONIZE CACHE; that its range counts on
-- arrival alone, where it has to lie within the capacity: profile)
abbrev pub settled : Device → Device
settled s = record s { cells = map settle s.cells }

-- every sector is written back where this flag is true, and else the device stays as it is (SBC-3, SYNCHRONIZE CACHE)
abbrev pub device_settled_if : Bool → Device → Device
device_settled_if settles s = if settles then settled s else s

-- START STOP UNIT: stopped and in standby, with all written back unless NO_FLUSH; or started and active (SBC-3, START STOP
-- UNIT; SAT-3)
abbrev pub after_start_stop : Bool → Bool → Device → Device
after_start_stop false no_flush s = record (device_settled_if (not no_flush) s) { active = false; started = false }
after_start_stop true no_flush s = record s { active = true; started = true }

-- the mode values after a MODE SELECT (SPC-4, MODE SELECT commands)
abbrev pub selected : Device → Entry → Modes
selected s t = wanted_by s.modes t.change

-- MODE SELECT: the mode values are those selected; all is written back where that turns WCE off; and where a value has changed,
-- MODE PARAMETERS CHANGED is posted for the other nexuses (SPC-4, MODE SELECT commands; SBC-3 6.4.5)
abbrev pub after_select : Device → Entry → Device
after_select s t =
    record (device_settled_if (s.modes.wce && not (selected s t).wce) s) {
      modes = selected s t;
      attentions = with_modes_changed s.modes (selected s t) t.nexus s.attentions;
    }

-- what ATA commands see of the device (ACS-3; SAT-3)
abbrev pub device_medium : Device → Medium
device_medium s = record {
  cells = s.cells;
  cache = s.modes.wce;
  look = not s.modes.dra;
  active = s.active;
  glitches = s.glitches;
  identify = identity_data s.identity.bytes s.modes.wce (not s.modes.dra);
}

-- the status of an ATA PASS-THROUGH: CHECK CONDITION where it has sense data, else GOOD (SAT-3 12.2)
abbrev pub pass_status : Option Sense → Scsi
pass_status None = Good
pass_status (Some sense) = CheckCondition

-- its sense data, in the form that D_SENSE chooses (SAT-3 12.2)
abbrev pub pass_sense : Modes → Option Sense → List ℕ
pass_sense modes None = []
pass_sense modes (Some sense) = sense_text modes sense

-- its data-in: none where its command ended with ERR in STATUS (`is_bad`) or where T_DIR is 0 (SAT-3 12.2)
abbrev pub pass_data : Pass → Taskfile → List Block → List ℕ
pass_data pass ended taken = if is_bad ended || pass.out then [] else first_bytes pass.length taken

-- its answer, with its data-in (SAT-3 12.2)
abbrev pub pass_reply : Device → Entry → Pass → Taskfile → List Block → Reply
pass_reply s t pass ended taken = record {
  nexus = t.nexus;
  tag = t.tag;
  status = pass_status (status_sense pass ended);
  sense = record { items = pass_sense s.modes (status_sense pass ended) };
  body = pages_of (pass_data pass ended taken);
  data_len = length (pass_data pass ended taken);
  expected = t.expected;
}

-- ATA PASS-THROUGH: its command is carried out on the medium, with its data-out or with as many pages as its data-in needs;
-- what it sets are the mode values from then on. Of the command `given` are the pages handed to the drive, `ended` its
-- registers at the end, `taken` the pages after it, and `after` the medium; `Ata` is the effect of the command in the registers
-- (satl_regs). No unit attention is posted (SAT-3 12.2)
pub record EndsPassed (pass : Pass) (s : Device) (t : Entry) (reply : Reply) (new : Device) : Type 0 where
  pub given : List Block
  pub data_out : pass.out ≡ true → given ≡ t.body
  pub size : length given ≡ page_count pass.length
  pub ended : Taskfile
  pub taken : List Block
  pub after : Medium
  pub does : Ata (record { registers = pass.regs; given = given; ended = ended; taken = taken }) (device_medium s) after
  pub answer : reply ≡ pass_reply s t pass ended taken
  pub stays : new ≡ record s {
    cells = after.cells;
    tasks = without t s.tasks;
    modes = record s.modes { wce = after.cache; dra = not after.look };
    active = after.active;
    glitches = after.glitches;
  }

-- how a command of a task ends on a device that is up, and started where the command needs that (SBC-3 5, SPC-4 6, SAT-3); a
-- command without a line here is answered on arrival, and is no task
abbrev pub EndsBy : Command → Device → Entry → Reply → Device → Type 0
EndsBy (commands.ModeSelect ten size) s t reply new = IsTaskDone (after_select s t) t reply new
EndsBy (commands.StartStop start no_flush) s t reply new = IsTaskDone (after_start_stop start no_flush s) t reply new
EndsBy (commands.Read form lba count fua) s t reply new = EndsOnSurface (ranged_read fua (over lba count)) s t reply new
EndsBy (commands.Write form lba count fua) s t reply new =
    EndsOnSurface (ranged_write fua (over lba count) t.body) s t reply new
EndsBy (commands.Verify form lba count false) s t reply new = EndsVerified (over lba count) s t reply new
EndsBy (commands.Verify form lba count true) s t reply new = EndsCompared (over lba count) s t reply new
EndsBy (commands.Flush form lba count) s t reply new = IsTaskDone (settled s) t reply new
EndsBy (commands.WriteSame form lba count false) s t reply new = EndsInPieces (over lba count) s t reply new
EndsBy (commands.WriteSame form lba count true) s t reply new = EndsOnSurface (ranged_trim (over lba count ∷ [])) s t reply new
EndsBy (commands.Unmap size) s t reply new = EndsOnSurface (ranged_trim t.ranges.items) s t reply new
EndsBy (commands.Pass cdb) s t reply new = EndsPassed (pass_of cdb) s t reply new
EndsBy _ s t reply new = ⊥

-- the first that holds: the link is lost; the unit is stopped, and the command needs it started; and then the command itself
-- (SAT-3 11; profile)
abbrev pub Ends : Device → Entry → Reply → Device → Type 0
Ends s t reply new =
    MatchBool s.down (IsChecked link_lost s t reply new)
    (MatchBool (not s.started && (asks t.command).needs_started) (IsChecked not_ready s t reply new)
    (EndsBy t.command s t reply new))
