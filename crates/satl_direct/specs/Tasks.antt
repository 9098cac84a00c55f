-- What commands ask of the device, and the tasks that they become (SBC-3 5, SPC-4 6, SAT-3). `Illegal` is a refusal: its
-- additional sense codes, the byte at fault where there is one, and whether that byte is of the CDB or of the data-out; what is
-- named with `fault` gives one, or none. The `form` of a command is the length of its CDB; `form_of` is the layout of an ATA
-- PASS-THROUGH of 12 or 16 bytes. `Flush` is SYNCHRONIZE CACHE; the last field of a VERIFY is whether it compares (BYTCHK),
-- that of a WRITE SAME its UNMAP bit; `ten` is whether a MODE command has 10 bytes, `long_lba` LLBAA, `no_descriptor` DBD,
-- `control` PC; `page` is PAGE CODE, and of an INQUIRY None where EVPD is 0. `size` is PARAMETER LIST LENGTH, `alloc`
-- ALLOCATION LENGTH, `descriptor` DESC, `select` SELECT REPORT. Of a request, `body` is the data-out in pages, and `data_len`
-- its bytes.
use Rattle.std.specs.Prelude.{ℕ, ◌*◌, ◌==◌, ◌&&◌, not, nat_lt, Bool, true, false, if◌then◌else◌, List, [], ◌∷◌, length, take, get_or, Option, Some, None, Result, Ok, Err}
use Rattle.std.specs.List.{sum_by}
use Rattle.satl_base.specs.declared.block.Block.{Block}
use Rattle.satl_base.specs.declared.block.Range.{Range}
use Rattle.satl_base.specs.declared.modes.ModeChange.{ModeChange}
use Rattle.satl_base.specs.declared.request.Request.{Request}
use Rattle.satl_base.specs.declared.request.Attr.{Attr}
use Rattle.satl_base.specs.declared.request.Attr.TheVariants.{Simple, Ordered}
use Rattle.satl_base.specs.declared.modes.Modes.{Modes}
use Rattle.satl_base.specs.Blocks.{first_bytes, no_block, over, is_zeros}
use Rattle.satl_base.specs.Limits.{leave_no_room}
use Rattle.satl_cdb.specs.declared.command.Command.{Command}
use Rattle.satl_cdb.specs.declared.command.Command.TheVariants as commands
use Rattle.satl_cdb.specs.declared.command.Illegal.{Illegal}
use Rattle.satl_cdb.specs.Refusals.{invalid_field, list_length_error}
use Rattle.satl_cdb.specs.Unmap.{list_fault, ranges_of}
use Rattle.satl_identify.specs.declared.identity.Identity.{Identity}
use Rattle.satl_mode.specs.SelectList.{select_fault}
use Rattle.satl_mode.specs.Changes.{change_in}
use Rattle.satl_pass.specs.declared.pass.Pass.{Pass}
use Rattle.satl_pass.specs.Fields.{form_of, pass_in}
use Rattle.satl_pass.specs.Reading.{pass_says}
use Rattle.satl_frame.specs.DataPages.{page_count, pages_of}
use Rattle.satl_line.specs.declared.entry.Entry.{Entry}
use Rattle.satl_line.specs.Kinds.{kind_of}
use Rattle.satl_line.specs.Tasks.{without_pages}

-- what an ATA PASS-THROUGH says (SAT-3 12.2)
abbrev pub pass_of : List ℕ → Pass
pass_of cdb = pass_in (form_of cdb) cdb

-- what a command asks of the device: the refusal of its fields, which an ATA PASS-THROUGH alone can have here (those of all
-- others are judged by the table of operation codes); the range that its CDB names, which has to lie within the capacity; the
-- refusal of its list length; the bytes of data-out that it needs; the refusal of its data-out; the blocks that its task holds;
-- what its task keeps of the data-out, which of a MODE SELECT and an UNMAP is nothing; the ranges by which conflicts are
-- judged, those of a READ, a WRITE or an UNMAP, and of no other command; the mode values that it sets; and whether it needs the
-- unit started (SBC-3 5, SPC-4 6, SAT-3 12.2; the blocks held: profile)
pub record Asks : Type 0 where
  pub fields_fault : Option Illegal
  pub range : Range
  pub length_fault : Option Illegal
  pub needed : ℕ
  pub data_fault : Identity → Modes → List Block → Option Illegal
  pub held : ℕ
  pub kept : List Block → List Block
  pub ranges : List Block → List Range
  pub change : List Block → Option ModeChange
  pub needs_started : Bool

-- its CDB names no range, it has no data-out, holds nothing, and its task, if it has one, is carried out on a stopped unit too
-- (profile)
abbrev pub nothing : Asks
nothing = record {
  fields_fault = None;
  range = over 0 0;
  length_fault = None;
  needed = 0;
  data_fault = λ identity modes body. None;
  held = 0;
  kept = λ body. [];
  ranges = λ body. [];
  change = λ body. None;
  needs_started = false;
}

-- its CDB names a range, and it needs the unit started (SBC-3 5)
abbrev pub over_range : ℕ → ℕ → Asks
over_range lba count = record nothing { range = over lba count; needs_started = true }

-- a MODE SELECT: its list is judged, and what it sets is its change; of the list itself nothing is kept (SPC-4, MODE SELECT
-- commands)
abbrev pub asks_select : Bool → ℕ → Asks
asks_select ten size = record nothing {
  needed = size;
  data_fault = λ identity modes body. select_fault identity modes body size ten;
  change = λ body. Some (change_in body size ten);
}

-- an UNMAP: its list is empty, or has at least its header of 8 bytes and is judged (SBC-3 5.28)
abbrev pub asks_unmap : ℕ → Asks
asks_unmap size = record nothing {
  length_fault = if not (size == 0) && nat_lt size 8 then Some list_length_error else None;
  needed = size;
  data_fault = λ identity modes body. if size == 0 then None else list_fault body size identity.capacity;
  ranges = ranges_of;
  needs_started = true;
}

-- the refusal of the block of a WRITE SAME that unmaps: it has to be zeros (SBC-3, WRITE SAME commands; profile)
abbrev pub fault_of_block : Block → Option Illegal
fault_of_block block = if is_zeros block.bytes then None else Some (invalid_field 1)

-- the same of the first block of a data-out (SBC-3, WRITE SAME commands; profile)
abbrev pub block_fault : List Block → Option Illegal
block_fault body = fault_of_block (get_or body 0 no_block)

-- the refusal in what an ATA PASS-THROUGH says (SAT-3 12.2)
abbrev pub fault_in : Result Pass Illegal → Option Illegal
fault_in (Ok pass) = None
fault_in (Err why) = Some why

-- an ATA PASS-THROUGH: its fields are judged by rules of its own; where T_DIR is 0 it needs its data-out and keeps it, with
-- zeros in what is left of the last page; it holds as many pages as its transfer length fills, in either direction (SAT-3 12.2;
-- the blocks held: profile)
abbrev pub asks_through : List ℕ → Pass → Asks
asks_through cdb pass = record nothing {
  fields_fault = fault_in (pass_says cdb);
  needed = if pass.out then pass.length else 0;
  held = page_count pass.length;
  kept = λ body. if pass.out then pages_of (first_bytes pass.length body) else [];
}

-- what each command asks (SBC-3 5, SPC-4 6, SAT-3 12.2; the blocks held: profile)
abbrev pub asks : Command → Asks
asks commands.TestUnitReady = nothing
asks (commands.RequestSense descriptor alloc) = nothing
asks (commands.Inquiry page alloc) = nothing
asks (commands.ModeSense ten long_lba no_descriptor control page alloc) = nothing
asks (commands.ModeSelect ten size) = asks_select ten size
asks (commands.StartStop start no_flush) = nothing
asks commands.ReadCapacity10 = nothing
asks (commands.ReadCapacity16 alloc) = nothing
asks (commands.ReportLuns select alloc) = nothing
asks (commands.Read form lba count fua) = record (over_range lba count) { held = count; ranges = λ body. over lba count ∷ [] }
asks (commands.Write form lba count fua) =
    record (over_range lba count) {
      needed = 512 * count;
      held = count;
      kept = λ body. body;
      ranges = λ body. over lba count ∷ [];
    }
asks (commands.Verify form lba count false) = over_range lba count
asks (commands.Verify form lba count true) =
    record (over_range lba count) { needed = 512 * count; held = count; kept = λ body. body }
asks (commands.Flush form lba count) = over_range lba count
asks (commands.WriteSame form lba count false) = record (over_range lba count) { needed = 512; held = 1; kept = λ body. body }
asks (commands.WriteSame form lba count true) =
    record (over_range lba count) {
      needed = 512;
      data_fault = λ identity modes body. block_fault body;
      held = 1;
      kept = λ body. body;
    }
asks (commands.Unmap size) = asks_unmap size
asks (commands.Pass cdb) = asks_through cdb (pass_of cdb)

-- the range that the CDB of a command names, of no block where it names none (SBC-3 5)
abbrev pub range_of : Command → Range
range_of command = (asks command).range

-- the bytes of data-out that a command needs (SBC-3 5, SPC-4 6)
abbrev pub needed : Command → ℕ
needed command = (asks command).needed

-- the blocks that the task of a command holds (profile)
abbrev pub held_blocks : Command → ℕ
held_blocks command = (asks command).held

-- the data-out of a command in the pages that it holds (SBC-3 5)
abbrev pub data_out_kept : Command → List Block → List Block
data_out_kept command body = (asks command).kept body

-- the blocks held by tasks (profile)
abbrev pub held_by : List Entry → ℕ
held_by tasks = sum_by (λ t. t.blocks) tasks

-- the task set has no place for a command: it has 64 tasks, or its blocks and those of the command exceed 32,768 (SAM-5 5.3.1,
-- TASK SET FULL; the figures: profile)
abbrev pub is_full : List Entry → Command → Bool
is_full tasks command = leave_no_room (length tasks) (held_by tasks) (held_blocks command)

-- the attribute ORDERED (SAM-5 8.6)
abbrev pub is_ordered : Attr → Bool
is_ordered Simple = false
is_ordered Ordered = true

-- the task that a request becomes, on a drive that queues trims or does not (SAM-5, task set)
abbrev pub task_for : Bool → Request → Command → Entry
task_for queued_trim r command = record {
  nexus = r.nexus;
  tag = r.tag;
  kind = kind_of command queued_trim;
  ordered = is_ordered r.attr;
  blocks = held_blocks command;
  command = command;
  body = data_out_kept command (take (held_blocks command) r.body);
  ranges = record { items = (asks command).ranges r.body };
  change = (asks command).change r.body;
  expected = r.expected;
}

-- the same task without its pages (profile)
abbrev pub task_without_pages : Bool → Request → Command → Entry
task_without_pages queued_trim r command = without_pages (task_for queued_trim r command)

-- a task as the device sees it: with its data-out alone in its pages (SAM-5, task set)
abbrev pub task_of : Entry → Entry
task_of entry = record entry { body = data_out_kept entry.command entry.body }
