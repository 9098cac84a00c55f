-- What the layer is asked with, and what becomes of it.
use Rattle.std.specs.Prelude.{◌≡◌, ◌⊎◌, ℕ, ◌*◌, ◌+◌, ◌≤◌, ◌<◌, ◌==◌, ◌||◌, ◌&&◌, not, nat_lt, Bool, true, false, if◌then◌else◌, Option, Some, None, Result, Ok, Err, List, [], ◌∷◌, ◌++◌, length, map, take, is_some, slice_get, slice_index, slice_index_or, MatchBool}
use Rattle.std.specs.List.{position_from}
use Rattle.satl_base.specs.declared.block.Block.{Block}
use Rattle.satl_base.specs.declared.request.Request.{Request}
use Rattle.satl_base.specs.declared.reply.Reply.{Reply}
use Rattle.satl_base.specs.declared.reply.Scsi.TheVariants as statuses
use Rattle.satl_base.specs.Lists.{is_in}
use Rattle.satl_base.specs.declared.modes.Modes.{Modes}
use Rattle.satl_cdb.specs.declared.command.Command.{Command}
use Rattle.satl_cdb.specs.declared.command.Command.TheVariants as commands
use Rattle.satl_cdb.specs.declared.command.Illegal.{Illegal}
use Rattle.satl_cdb.specs.Table.{says}
use Rattle.satl_cdb.specs.Unmap as unmap
use Rattle.satl_cdb.specs.PrimaryCommands.{desc, evpd, inquiry_code, inquiry_length, request_sense_code, sense_length}
use Rattle.satl_identify.specs.declared.identity.Identity.{Identity}
use Rattle.satl_sense.specs.declared.sense.Sense.{Sense}
use Rattle.satl_regs.specs.Trim.{trim_block}
use Rattle.satl_unit.specs.declared.attention.Attention.{Attention}
use Rattle.satl_direct.specs.Arrival.{asks_for, good_with_data, operation_code, reply_to, mode_sense_asked, codes_before_attentions}
use Rattle.satl_direct.specs.Device.{is_of, attentions_left}
use Rattle.satl_direct.specs.Senses.{attention_sense, link_lost, no_sense, not_ready, out_of_range, overlapped, refusal_sense, sense_text, short_data, unknown_unit}
use Rattle.satl_direct.specs.Tasks.{asks, needed, range_of, task_for, task_of, task_without_pages}
use Rattle.satl_asks.specs.Commands.{IsList}
use Rattle.satl_asks.specs.Requests.{is_for_unit}
use Rattle.satl_core.specs.declared.submitting.AtOnce.{AtOnce}
use Rattle.satl_core.specs.declared.submitting.AtOnce.TheVariants as at_once
use Rattle.satl_line.specs.Tasks.{Held, entries_of, is_named, is_too_much}
use Rattle.satl_telling.specs.declared.telling.Data.TheVariants as datas
use Rattle.satl_telling.specs.Telling.{data_text}
use Rattle.satl_core.specs.Layer.{Layer}
use Rattle.satl_base.specs.Limits.{IsExpectable}
use Rattle.satl_core.specs.Leaving.{left_by}
use Rattle.satl_core.specs.Turning.{off_calls}

-- the pages out are the request's, which hold all of its data-out, or no page was free for more (profile)
pub record CanSubmit (r : Request) (free out : ℕ) : Type 0 where
  pub pages : out ≡ length r.body
  pub all : (r.data_len ≤ 512 * length r.body) ⊎ (free ≡ 0)
  pub expected : IsExpectable r.expected

-- a request with no more of its pages than were free (profile)
pub record IsCutOf (whole cut : Request) : Type 0 where
  pub count : ℕ
  pub cut_is : cut ≡ record whole { body = take count whole.body }

-- the answer to a request that is answered at once (profile)
abbrev pub reply_at_once : Identity → Modes → Request → AtOnce → Reply
reply_at_once i m r at_once.Good = reply_to r statuses.Good []
reply_at_once i m r (at_once.Tell what alloc) = good_with_data r alloc (data_text i m what)
reply_at_once i m r (at_once.Check sense) = reply_to r statuses.CheckCondition (sense_text m sense)

-- a command may become a task, unless it is answered at once with this (profile)
abbrev pub unless_answered : Option AtOnce → Command → Result Command AtOnce
unless_answered None command = Ok command
unless_answered (Some answer) command = Err answer

-- TEST UNIT READY, and commands that go over no block (profile)
abbrev pub readiness : Layer → AtOnce
readiness l =
    if l.down then at_once.Check link_lost
    else if not l.started then at_once.Check not_ready
    else at_once.Good

-- whether a command has nothing to do: it goes over no block, or its list is empty or names none (profile)
abbrev pub is_idle : Command → List Block → Bool
is_idle (commands.Read form lba count fua) body = count == 0
is_idle (commands.Write form lba count fua) body = count == 0
is_idle (commands.Verify form lba count compare) body = count == 0
is_idle (commands.ModeSelect ten size) body = size == 0
is_idle (commands.Unmap size) body = (size == 0) || (length (unmap.ranges_of body) == 0)
is_idle _ body = false

-- one that has nothing to do answers as TEST UNIT READY does, and any other may become a task (profile)
abbrev pub unless_idle : Layer → List Block → Command → Result Command AtOnce
unless_idle l body command = if is_idle command body then Err (readiness l) else Ok command

-- a command whose fields, range and data-out are good: answered from what the device says of itself, or it may become a task
-- (profile); REQUEST SENSE has nothing to tell (SPC-4 6.39)
abbrev pub answer_to : Layer → List Block → Command → Result Command AtOnce
answer_to l body commands.TestUnitReady = Err (readiness l)
answer_to l body (commands.RequestSense descriptor alloc) = Err (at_once.Tell (datas.Sense descriptor no_sense) alloc)
answer_to l body (commands.Inquiry page alloc) = Err (at_once.Tell (datas.Inquiry page) alloc)
answer_to l body (commands.ModeSense ten long_lba no_descriptor control page alloc) =
    Err (at_once.Tell (datas.Modes (mode_sense_asked ten long_lba no_descriptor control page)) alloc)
answer_to l body commands.ReadCapacity10 = Err (at_once.Tell datas.Capacity10 8)
answer_to l body (commands.ReadCapacity16 alloc) = Err (at_once.Tell datas.Capacity16 alloc)
answer_to l body (commands.ReportLuns select alloc) = Err (at_once.Tell (datas.Luns select) alloc)
answer_to l body command = unless_idle l body command

-- refused with this, if there is something, and else what follows (SPC-4 4.5.6)
abbrev pub unless_illegal : Option Illegal → Result Command AtOnce → Result Command AtOnce
unless_illegal None next = next
unless_illegal (Some why) next = Err (at_once.Check (refusal_sense why))

-- why a command whose fields and range are good is answered at once, but for a full task set (profile)
abbrev pub data_answer : Layer → Request → Command → Result Command AtOnce
data_answer l r command =
    unless_illegal (asks command).length_fault
    (if nat_lt r.data_len (needed command) then Err (at_once.Check short_data)
    else unless_illegal ((asks command).data_fault l.identity l.modes r.body) (answer_to l r.body command))

-- the fields, the range, and then the data-out (profile)
abbrev pub command_answer : Layer → Request → Command → Result Command AtOnce
command_answer l r command =
    unless_illegal (asks command).fields_fault
    (if nat_lt l.identity.capacity ((range_of command).lba + (range_of command).count) then Err (at_once.Check out_of_range)
    else data_answer l r command)

-- what the CDB says, and then the command (profile)
abbrev pub cdb_answer : Layer → Request → Result Command Illegal → Result Command AtOnce
cdb_answer l r (Err why) = Err (at_once.Check (refusal_sense why))
cdb_answer l r (Ok command) = command_answer l r command

-- what the CDB says, or that its operation code is unknown, and then the command (profile)
abbrev pub code_answer : Layer → Request → Result Command AtOnce
code_answer l r = cdb_answer l r (says r.cdb l.identity.trim)

-- the pages of a request hold all of its data-out, or 65,536 bytes of it, more than a parameter list has (profile)
abbrev pub HoldsList : Request → Type 0
HoldsList r = (r.data_len ≤ 512 * length r.body) ⊎ (65536 ≤ 512 * length r.body)

-- the bytes of a CDB that tell the length of a parameter list are bytes (SPC-4, MODE SELECT commands)
abbrev pub HasLengths : List ℕ → Type 0
HasLengths cdb = (slice_index cdb 4 < 256) × (slice_index cdb 7 < 256) × (slice_index cdb 8 < 256)

-- the list of an UNMAP is one without a fault, or it is empty (SBC-3 5.28)
abbrev pub HasListUnlessEmpty : Command → List Block → ℕ → Type 0
HasListUnlessEmpty (commands.Unmap size) body capacity = (size ≡ 0) ⊎ IsList body size capacity
HasListUnlessEmpty _ body capacity = Unit {0}

-- the refusal of a list of an UNMAP, if it is not empty (SBC-3 5.28)
abbrev pub unmap_list_fault : List Block → ℕ → ℕ → Option Illegal
unmap_list_fault body size capacity = if size == 0 then None else unmap.list_fault body size capacity

-- whether a command trims: an UNMAP, and a WRITE SAME that unmaps (SBC-3, UNMAP and WRITE SAME commands)
abbrev pub trims : Command → Bool
trims (commands.Unmap size) = true
trims (commands.WriteSame form lba count unmap) = unmap
trims _ = false

-- an UNMAP whose trim is queued has the entries of its list in its page (ACS-3, SEND FPDMA QUEUED)
abbrev pub HasEntries : Command → Bool → List Block → List Block → Type 0
HasEntries (commands.Unmap size) true list pages = pages ≡ record { bytes = trim_block (unmap.ranges_of list) } ∷ []
HasEntries _ queued_trim list pages = Unit {0}

-- whether a task has the nexus and tag of a request (SAM-5, overlapped commands)
abbrev pub overlaps : List Held → Request → Bool
overlaps tasks r = is_some (position_from (is_named r.nexus r.tag) 0 tasks)

-- whether it is for logical unit 0 and has the nexus and tag of a task (SAM-5, overlapped commands)
abbrev pub is_overlapping : List Held → Request → Bool
is_overlapping tasks r = is_for_unit r && overlaps tasks r

-- the most calls of a drive that a request takes as it arrives: one, in which its task is issued, or those of taking tasks off
-- where it overlaps one (profile)
abbrev pub arrival_calls : List Held → Request → ℕ
arrival_calls tasks r = if is_overlapping tasks r then off_calls else 1

-- the unit attention condition that a request is answered with; REQUEST SENSE tells it as data (SAM-5 5.14, SPC-4 6.39)
abbrev pub attention_of : List (List Attention) → Request → Option Attention
attention_of attentions r =
    if is_in (operation_code r) codes_before_attentions && not (asks_for request_sense_code r) then None
    else slice_get (slice_index_or attentions r.nexus []) 0

-- the answer to a REQUEST SENSE with this sense data (SPC-4 6.39)
abbrev pub sense_data : List ℕ → Sense → AtOnce
sense_data cdb sense = at_once.Tell (datas.Sense (desc cdb) sense) (sense_length cdb)

-- a condition is told: as data to REQUEST SENSE, and else by CHECK CONDITION (SAM-5 5.14, SPC-4 6.39)
abbrev pub tell_attention : Attention → List ℕ → AtOnce
tell_attention what cdb =
    if slice_index cdb 0 == request_sense_code then sense_data cdb (attention_sense what)
    else at_once.Check (attention_sense what)

-- a unit attention, and without one what follows (profile)
abbrev pub attention_answer : Option Attention → List ℕ → Result Command AtOnce → Result Command AtOnce
attention_answer (Some what) cdb next = Err (tell_attention what cdb)
attention_answer None cdb next = next

-- the answer of a LUN at which there is no logical unit (SPC-4 6.6, 6.39; SAM-5, incorrect logical unit numbers;
-- profile)
abbrev pub other_answer : Request → AtOnce
other_answer r =
    if asks_for inquiry_code r && not (evpd r.cdb) then at_once.Tell datas.NoUnit (inquiry_length r.cdb)
    else if asks_for request_sense_code r then sense_data r.cdb unknown_unit
    else at_once.Check unknown_unit

-- the command of a request that may become a task, or why it is answered at once (profile)
abbrev pub judged : Layer → Request → Result Command AtOnce
judged l r =
    if not (is_for_unit r) then Err (other_answer r)
    else if overlaps l.tasks r then Err (at_once.Check overlapped)
    else attention_answer (attention_of l.attentions r) r.cdb (code_answer l r)

-- the layer once a request is judged: without the tasks of its nexus where it overlaps one, and without the condition that it
-- is told (profile)
abbrev pub once_judged : Layer → Request → Layer
once_judged l r =
    if not (is_for_unit r) then l
    else if overlaps l.tasks r then record l { tasks = left_by (is_of r.nexus) l.tasks }
    else record l { attentions = attentions_left (attention_of l.attentions r) r.nexus l.attentions }

-- a request finds a full task set: nothing else changes, and no page is out (SAM-5 5.3.1)
pub record FindsSetFull (r : Request) (old : Layer) (replies : List Reply) (new : Layer) : Type 0 where
  pub reply : replies ≡ reply_to r statuses.TaskSetFull [] ∷ []
  pub stays : new ≡ record old { free = new.free; out = 0 }

-- a request becomes the last task, and no page is out (profile)
pub record IsAdded (r : Request) (command : Command) (old : Layer) (replies : List Reply) (new : Layer) : Type 0 where
  pub none : replies ≡ []
  pub last : map task_of (entries_of new.tasks) ≡ map task_of (entries_of old.tasks)
      ++ task_for old.identity.queued_trim r command ∷ []
  pub stays : new ≡ record old { tasks = new.tasks; free = new.free; out = 0 }

-- a command becomes a task, but for a full task set (profile)
abbrev pub Becomes : Request → Command → Layer → List Reply → Layer → Type 0
Becomes r command old replies new =
    MatchBool (is_too_much old.tasks (task_without_pages old.identity.queued_trim r command))
    (FindsSetFull r old replies new)
    (IsAdded r command old replies new)
