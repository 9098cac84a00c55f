-- What a request does when it arrives (SAM-5 5, SPC-4, SBC-3; the order of the tests: profile).
use Rattle.std.specs.Prelude.{◌≡◌, ℕ, ◌+◌, ◌==◌, not, ◌&&◌, ◌||◌, nat_lt, Bool, true, false, if◌then◌else◌, List, [], ◌∷◌, ◌++◌, length, take, slice_get, slice_index, unwrap_or, Option, Some, None, Result, Ok, Err, slice_index_or}
use Rattle.std.specs.List.{list_any}
use Rattle.satl_base.specs.declared.request.Request.{Request}
use Rattle.satl_base.specs.declared.reply.Reply.{Reply}
use Rattle.satl_base.specs.declared.reply.Scsi.{Scsi}
use Rattle.satl_base.specs.declared.reply.Scsi.TheVariants.{Good, CheckCondition, TaskSetFull}
use Rattle.satl_base.specs.Lists.{is_in}
use Rattle.satl_base.specs.Blocks.{is_zeros}
use Rattle.satl_cdb.specs.declared.command.Command.{Command}
use Rattle.satl_cdb.specs.declared.command.Command.TheVariants as commands
use Rattle.satl_cdb.specs.declared.command.Illegal.{Illegal}
use Rattle.satl_cdb.specs.Table.{says}
use Rattle.satl_cdb.specs.Unmap.{ranges_of}
use Rattle.satl_cdb.specs.PrimaryCommands.{desc, evpd, inquiry_code, inquiry_length, report_luns_code, request_sense_code, sense_length}
use Rattle.satl_sense.specs.declared.sense.Sense.{Sense}
use Rattle.satl_vpd.specs.Capacity.{capacity_10, capacity_16}
use Rattle.satl_vpd.specs.Luns.{lun_list}
use Rattle.satl_vpd.specs.Standard.{standard_data}
use Rattle.satl_vpd.specs.Vital.{vpd_page}
use Rattle.satl_mode.specs.declared.sense.ModeSense.{ModeSense}
use Rattle.satl_mode.specs.ModeData.{mode_data}
use Rattle.satl_unit.specs.declared.attention.Attention.{Attention}
use Rattle.satl_frame.specs.DataPages.{pages_of}
use Rattle.satl_line.specs.declared.entry.Entry.{Entry}
use Rattle.satl_direct.specs.Device.{Device, attentions_of, is_called, of_others, once_told}
use Rattle.satl_direct.specs.Tasks.{asks, is_full, needed, range_of, task_for}
use Rattle.satl_direct.specs.Senses.{attention_sense, link_lost, no_sense, not_ready, out_of_range, overlapped, refusal_sense, sense_spelled, sense_text, short_data, unknown_unit}

-- the operation code (SPC-4 4.3)
abbrev pub operation_code : Request → ℕ
operation_code r = slice_index r.cdb 0

-- whether a request has this operation code (SPC-4 4.3)
abbrev pub asks_for : ℕ → Request → Bool
asks_for code r = operation_code r == code

-- an answer without data (SAM-5 5.1)
abbrev pub reply_to : Request → Scsi → List ℕ → Reply
reply_to r status sense_bytes =
    record {
      nexus = r.nexus;
      tag = r.tag;
      status = status;
      sense = record { items = sense_bytes };
      body = [];
      data_len = 0;
      expected = r.expected;
    }

-- CHECK CONDITION with sense data in the form that D_SENSE chooses (SAM-5 5.3.1, SPC-4 4.5)
abbrev pub check : Device → Request → Sense → Reply
check s r sense = reply_to r CheckCondition (sense_text s.modes sense)

-- GOOD with data-in, cut to the allocation length (SPC-4 4.3.5.6)
abbrev pub good_with_data : Request → ℕ → List ℕ → Reply
good_with_data r alloc text =
    record {
      nexus = r.nexus;
      tag = r.tag;
      status = Good;
      sense = record { items = [] };
      body = pages_of (take alloc text);
      data_len = length (take alloc text);
      expected = r.expected;
    }

-- the logical unit 0: eight bytes of zero (SAM-5 4.6)
abbrev pub is_unit_0 : List ℕ → Bool
is_unit_0 lun = is_zeros lun

-- what becomes of a request: it is answered at once and nothing changes; or with the first unit attention condition of its
-- nexus, which is told by that; or it overlaps a task: then it alone is answered, and all tasks of its nexus go without an
-- answer; or it is a task from now on (SAM-5 5)
pub data Arrival : Type 0 where
  answered : Reply → Arrival
  attended : Reply → Arrival
  overlaps : Reply → Arrival
  waits : Entry → Arrival

-- the answer to TEST UNIT READY, to a READ, WRITE or VERIFY of no block, to a MODE SELECT with an empty list, and to an UNMAP
-- that gives no range: that the link is lost; else that the unit is stopped; else GOOD (SPC-4 6.47; profile)
abbrev pub ready_reply : Device → Request → Reply
ready_reply s r =
    if s.down then check s r link_lost
    else if not s.started then check s r not_ready
    else reply_to r Good []

-- a command becomes a task where the task set has a place for it, and else is answered with TASK SET FULL (SAM-5 5.3.1)
abbrev pub placed : Device → Request → Command → Arrival
placed s r command =
    if is_full s.tasks command then answered (reply_to r TaskSetFull []) else waits (task_for s.identity.queued_trim r command)

-- the same, unless the command has nothing to do: then it is answered as TEST UNIT READY is (profile)
abbrev pub placed_unless : Bool → Device → Request → Command → Arrival
placed_unless idle s r command = if idle then answered (ready_reply s r) else placed s r command

-- REQUEST SENSE: the first condition of the nexus as data, which is told by that, or NO SENSE (SPC-4 6.39)
abbrev pub sense_told : Option Attention → Request → Bool → ℕ → Arrival
sense_told None r descriptor alloc = answered (good_with_data r alloc (sense_spelled descriptor no_sense))
sense_told (Some what) r descriptor alloc = attended (good_with_data r alloc (sense_spelled descriptor (attention_sense what)))

-- INQUIRY: the standard data or a page of vital product data (SPC-4 6.6)
abbrev pub inquiry_text : Device → Option ℕ → List ℕ
inquiry_text s None = standard_data s.identity true
inquiry_text s (Some page) = unwrap_or (vpd_page page s.identity) []

-- what a MODE SENSE asks to be shown (SPC-4, MODE SENSE commands)
abbrev pub mode_sense_asked : Bool → Bool → Bool → ℕ → ℕ → ModeSense
mode_sense_asked ten long_lba no_descriptor control page = record {
  ten = ten;
  long_lba = long_lba;
  no_descriptor = no_descriptor;
  control = control;
  page = page;
}

-- what becomes of a command whose fields and data-out are good: it is answered from what the device says of itself, REQUEST
-- SENSE by `sense_told`; or, where it is TEST UNIT READY or has nothing to do, as `ready_reply` says; or it is placed. A
-- SYNCHRONIZE CACHE is placed whatever its count is (SPC-4 6, SBC-3 5)
abbrev pub becomes : Device → Request → Command → Arrival
becomes s r commands.TestUnitReady = answered (ready_reply s r)
becomes s r (commands.RequestSense descriptor alloc) = sense_told (slice_get (attentions_of r.nexus s) 0) r descriptor alloc
becomes s r (commands.Inquiry page alloc) = answered (good_with_data r alloc (inquiry_text s page))
becomes s r (commands.ModeSense ten long_lba no_descriptor control page alloc) =
    answered (good_with_data r alloc (mode_data s.identity s.modes (mode_sense_asked ten long_lba no_descriptor control page)))
becomes s r (commands.ModeSelect ten size) = placed_unless (size == 0) s r (commands.ModeSelect ten size)
becomes s r (commands.StartStop start no_flush) = placed s r (commands.StartStop start no_flush)
becomes s r commands.ReadCapacity10 = answered (good_with_data r 8 (capacity_10 s.identity))
becomes s r (commands.ReadCapacity16 alloc) = answered (good_with_data r alloc (capacity_16 s.identity))
becomes s r (commands.ReportLuns select alloc) = answered (good_with_data r alloc (lun_list select))
becomes s r (commands.Read form lba count fua) = placed_unless (count == 0) s r (commands.Read form lba count fua)
becomes s r (commands.Write form lba count fua) = placed_unless (count == 0) s r (commands.Write form lba count fua)
becomes s r (commands.Verify form lba count compare) = placed_unless (count == 0) s r (commands.Verify form lba count compare)
becomes s r (commands.Flush form lba count) = placed s r (commands.Flush form lba count)
becomes s r (commands.WriteSame form lba count unmap) = placed s r (commands.WriteSame form lba count unmap)
becomes s r (commands.Unmap size) = placed_unless ((size == 0) || (length (ranges_of r.body) == 0)) s r (commands.Unmap size)
becomes s r (commands.Pass cdb) = placed s r (commands.Pass cdb)

-- refused with this, if there is something, and else what follows (SPC-4 4.5.6)
abbrev pub unless_refused : Option Illegal → Device → Request → Arrival → Arrival
unless_refused None s r next = next
unless_refused (Some why) s r next = answered (check s r (refusal_sense why))

-- the data-out is judged: whether the list has a good length, whether there are as many bytes as the command needs, and what is
-- in them; bytes beyond those are ignored. Where all is good, the command becomes what `becomes` says (SBC-3 5; profile)
abbrev pub data_arrival : Device → Request → Command → Arrival
data_arrival s r command =
    unless_refused (asks command).length_fault s r
    (if nat_lt r.data_len (needed command) then answered (check s r short_data)
    else unless_refused ((asks command).data_fault s.identity s.modes r.body) s r (becomes s r command))

-- the range, and then the data-out (SBC-3 5)
abbrev pub command_arrival : Device → Request → Command → Arrival
command_arrival s r command =
    if nat_lt s.identity.capacity ((range_of command).lba + (range_of command).count) then answered (check s r out_of_range)
    else data_arrival s r command

-- the fields: the lowest byte at fault, or for ATA PASS-THROUGH the first rule that is broken (SPC-4 4.3; SAT-3
-- 12.2; which fault is told: profile)
abbrev pub cdb_arrival : Device → Request → Result Command Illegal → Arrival
cdb_arrival s r (Err why) = answered (check s r (refusal_sense why))
cdb_arrival s r (Ok command) = unless_refused (asks command).fields_fault s r (command_arrival s r command)

-- the codes of commands that are carried out though a unit attention condition is posted: INQUIRY, REPORT LUNS and REQUEST
-- SENSE (SAM-5 5.14)
abbrev pub codes_before_attentions : List ℕ
codes_before_attentions = inquiry_code ∷ report_luns_code ∷ request_sense_code ∷ []

-- the first condition that is posted for the nexus of a request, for which the request ends with CHECK CONDITION; none where it
-- is one of those three commands, of which REQUEST SENSE tells the condition as data (`sense_told`) (SAM-5 5.14)
abbrev pub attention_told : List (List Attention) → Request → Option Attention
attention_told attentions r =
    if is_in (operation_code r) codes_before_attentions then None else slice_get (slice_index_or attentions r.nexus []) 0

-- the same by the conditions that a device has (SAM-5 5.14)
abbrev pub attention_for : Device → Request → Option Attention
attention_for s r = attention_told s.attentions r

-- what the CDB says, or that its operation code is not served, as that of UNMAP is not where the drive does not trim (SPC-4
-- 4.3)
abbrev pub code_arrival : Device → Request → Arrival
code_arrival s r = cdb_arrival s r (says r.cdb s.identity.trim)

-- a unit attention, and then the operation code (SAM-5 5.14)
abbrev pub attention_arrival : Option Attention → Device → Request → Arrival
attention_arrival (Some what) s r = attended (check s r (attention_sense what))
attention_arrival None s r = code_arrival s r

-- to the logical unit, or a REPORT LUNS to any: a task of the same nexus and tag, and then the unit attentions (SAM-5,
-- overlapped commands)
abbrev pub unit_arrival : Device → Request → Arrival
unit_arrival s r =
    if list_any (is_called r.nexus (r.tag).0) s.tasks then overlaps (check s r overlapped)
    else attention_arrival (attention_for s r) s r

-- to another logical unit: INQUIRY without EVPD says that there is none, REQUEST SENSE says so as data, and all else is refused
-- (SPC-4 6.6, 6.39; SAM-5, incorrect logical unit numbers; profile)
abbrev pub other_arrival : Device → Request → Arrival
other_arrival s r =
    if asks_for inquiry_code r && not (evpd r.cdb)
    then answered (good_with_data r (inquiry_length r.cdb) (standard_data s.identity false))
    else if asks_for request_sense_code r
    then answered (good_with_data r (sense_length r.cdb) (sense_spelled (desc r.cdb) unknown_unit))
    else answered (check s r unknown_unit)

-- the first that holds: another logical unit, unless it is REPORT LUNS; a task of that nexus and tag; a unit attention; an
-- operation code that is not served; a bad field; a range that is outside; bad data-out; and then the command itself (profile)
abbrev pub arrival : Device → Request → Arrival
arrival s r = if is_unit_0 r.lun || asks_for report_luns_code r then unit_arrival s r else other_arrival s r

-- what an arrival does: its answers, and the device after it (SAM-5 5)
abbrev pub ArrivesAs : Arrival → Request → Device → List Reply → Device → Type 0
ArrivesAs (answered reply) r s answers new = (answers ≡ reply ∷ []) × (new ≡ s)
ArrivesAs (attended reply) r s answers new = (answers ≡ reply ∷ []) × (new ≡ once_told r.nexus s)
ArrivesAs (overlaps reply) r s answers new = (answers ≡ reply ∷ []) × (new ≡ record s { tasks = of_others r.nexus s.tasks })
ArrivesAs (waits task) r s answers new = (answers ≡ []) × (new ≡ record s { tasks = s.tasks ++ task ∷ [] })

-- a request arrives (SAM-5 5)
abbrev pub Arrives : Request → Device → List Reply → Device → Type 0
Arrives r s answers new = ArrivesAs (arrival s r) r s answers new
