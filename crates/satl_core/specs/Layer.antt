-- What the layer holds, and the direct device that it and its drive are.
use Rattle.std.specs.Prelude.{◌≡◌, ℕ, ◌+◌, ◌≤◌, ◌<◌, ◌^◌, ◌&&◌, Bool, true, false, not, if◌then◌else◌, List, [], ◌∷◌, map, length, IfSome, MatchBool}
use Rattle.std.specs.List.{AllByRecursion, sum_by}
use Rattle.satl_base.specs.declared.block.Range.{Range}
use Rattle.satl_base.specs.declared.modes.Modes.{Modes}
use Rattle.satl_base.specs.declared.reply.Reply.{Reply}
use Rattle.satl_base.specs.Limits.{IsExpectable, most_covered, most_moved, most_tasks}
use Rattle.satl_base.specs.Blocks.{over}
use Rattle.satl_cdb.specs.declared.command.Command.{Command}
use Rattle.satl_cdb.specs.declared.command.Command.TheVariants.{Flush, ModeSelect, Pass, Read, StartStop, Unmap, Verify, Write, WriteSame}
use Rattle.satl_identify.specs.declared.identity.Identity.{Identity}
use Rattle.satl_identify.specs.Refusals.{IsIdentity}
use Rattle.satl_mode.specs.Changes.{IsChangeOf}
use Rattle.satl_regs.specs.Trim.{IsTrimList}
use Rattle.satl_pass.specs.Reading.{CanGoToDrive}
use Rattle.satl_frame.specs.DataPages.{page_count}
use Rattle.satl_line.specs.Kinds.{kind_of}
use Rattle.satl_line.specs.Tasks.{Held, entries_of}
use Rattle.satl_pages.specs.Counts.{Counts, number_of}
use Rattle.satl_drive.specs.State.{DriveState, IsFit}
use Rattle.satl_drive.specs.Queue.{Slots}
use Rattle.satl_flight.specs.declared.flight.Flying.{Flying}
use Rattle.satl_flight.specs.Flown.{IsInFlight}
use Rattle.satl_flight.specs.Settled.{IsFilled}
use Rattle.satl_unit.specs.declared.attention.Attention.{Attention}
use Rattle.satl_barrier.specs.Leaving.{TellsOf}
use Rattle.satl_direct.specs.Device.{Device}
use Rattle.satl_direct.specs.Tasks.{pass_of, task_of}
use Rattle.satl_direct.specs.Valid.{IsValid}

-- the layer: what its drive says of itself, the mode values, whether the unit is started, its mark of a lost link, the unit
-- attention conditions of each nexus from nexus 0 on; its tasks with their pages, those that are outstanding on the drive in
-- order of issue, and the slots of the tags; and how many pages are free and out (a task's pages are neither) (SAM-5 5.14; the
-- rest: profile)
pub record Layer : Type 0 where
  pub identity : Identity
  pub modes : Modes
  pub started : Bool
  pub down : Bool
  pub attentions : List (List Attention)
  pub tasks : List Held
  pub flying : List Flying
  pub slots : Slots
  pub free : ℕ
  pub out : ℕ

-- the pages that tasks hold (profile)
abbrev pub held_pages : List Held → ℕ
held_pages tasks = sum_by (λ h. length h.entry.body) tasks

-- 1 to 4,096 blocks within the capacity and the 48 bits of an address, and pages for each (profile)
abbrev pub IsWithin : ℕ → ℕ → ℕ → ℕ → Type 0
IsWithin capacity lba count blocks =
    (blocks ≡ count) × (lba < 2 ^ 48) × (1 ≤ count) × (count ≤ most_moved) × (lba + count ≤ capacity)

-- 1 to 65,536 blocks within the capacity and the 48 bits of an address (profile)
pub record FitsCapacity (capacity lba count : ℕ) : Type 0 where
  pub some : 1 ≤ count
  pub most : count ≤ most_covered
  pub address : lba + count ≤ 2 ^ 48
  pub within : lba + count ≤ capacity

-- a command that makes a task, which holds so many blocks: READ, WRITE and VERIFY with comparison their blocks, WRITE SAME its
-- one, ATA PASS-THROUGH those of its data, and all others none (profile)
abbrev pub IsTask : ℕ → Command → ℕ → Type 0
IsTask capacity (ModeSelect ten size) blocks = (blocks ≡ 0) × (size < 65536)
IsTask capacity (StartStop start no_flush) blocks = blocks ≡ 0
IsTask capacity (Read form lba count fua) blocks = IsWithin capacity lba count blocks
IsTask capacity (Write form lba count fua) blocks = IsWithin capacity lba count blocks
IsTask capacity (Verify form lba count false) blocks = (blocks ≡ 0) × FitsCapacity capacity lba count
IsTask capacity (Verify form lba count true) blocks = (blocks ≡ count) × (count ≤ most_moved) × FitsCapacity capacity lba count
IsTask capacity (Flush form lba count) blocks = blocks ≡ 0
IsTask capacity (WriteSame form lba count unmap) blocks = (blocks ≡ 1) × FitsCapacity capacity lba count
IsTask capacity (Unmap size) blocks = (blocks ≡ 0) × (size < 65536)
IsTask capacity (Pass cdb) blocks = (blocks ≡ page_count (pass_of cdb).length) × CanGoToDrive (pass_of cdb)
IsTask capacity _ blocks = ⊥

-- the pages that a task holds beside those of its blocks: one for the entries of an UNMAP whose trim is queued (profile)
abbrev pub entry_pages : Command → Bool → ℕ
entry_pages (Unmap size) queued_trim = if queued_trim then 1 else 0
entry_pages _ queued_trim = 0

-- ranges that a drive with trim takes in one block of entries (ACS-3, DATA SET MANAGEMENT)
pub record AreTrimmed (identity : Identity) (ranges : List Range) : Type 0 where
  pub has : identity.trim ≡ true
  pub list : IsTrimList ranges
  pub within : AllByRecursion (λ range. range.lba + range.count ≤ identity.capacity) ranges

-- what a task trims can be trimmed (SBC-3, UNMAP and WRITE SAME commands)
abbrev pub CanTrim : Identity → Command → List Range → Type 0
CanTrim identity (WriteSame form lba count true) ranges = AreTrimmed identity (over lba count ∷ [])
CanTrim identity (Unmap size) ranges = AreTrimmed identity ranges
CanTrim identity _ ranges = Unit {0}

-- a task holds as many pages as blocks, and one for entries where it needs it, is one that its command makes, is of the kind of
-- its command, trims what can be trimmed, and changes mode values alone that the drive can change (profile)
pub record IsKept (identity : Identity) (h : Held) : Type 0 where
  pub pages : length h.entry.body ≡ h.entry.blocks + entry_pages h.entry.command identity.queued_trim
  pub trims : CanTrim identity h.entry.command h.entry.ranges.items
  pub task : IsTask identity.capacity h.entry.command h.entry.blocks
  pub kind : h.entry.kind ≡ kind_of h.entry.command identity.queued_trim
  pub change : IfSome h.entry.change (IsChangeOf identity)
  pub expected : IsExpectable h.entry.expected

-- the direct device that the layer and its drive are (profile)
abbrev pub view : Layer → DriveState → Device
view l d = record {
  cells = d.cells;
  tasks = map task_of (entries_of l.tasks);
  modes = l.modes;
  started = l.started;
  active = d.active;
  down = d.down;
  attentions = l.attentions;
  glitches = d.glitches;
  identity = l.identity;
}

-- the layer's record of its drive is right: together they are a valid device; what was given to the drive is outstanding there,
-- and no queued command has failed; the drive fits its data; as long as the link is up the cache is on where WCE is, and
-- look-ahead where DRA is not; the drive's data are those of the identity with the drive's settings in them; and the mark of a
-- lost link is set where the link is lost (profile)
pub record Agrees (l : Layer) (d : DriveState) : Type 0 where
  pub mark : l.down ≡ d.down
  pub queue : IsInFlight l.flying l.tasks d
  pub fit : IsFit d
  pub cache : l.down ≡ false → d.cache ≡ l.modes.wce
  pub look : l.down ≡ false → d.look ≡ not l.modes.dra
  pub told : TellsOf l.identity.bytes d
  pub valid : IsValid (view l d)

-- a unit that is up and started gives tasks to its drive (SBC-3, START STOP UNIT; profile)
abbrev pub works : Layer → Bool
works l = not l.down && l.started

-- the queue is used: while the unit is up and started, 32 tasks are outstanding or each eligible ranged task is, and else none
-- (profile)
abbrev pub IsUsed : Layer → Type 0
IsUsed l = MatchBool (works l) (IsFilled l.flying l.tasks) (l.flying ≡ [])

-- the layer and its drive agree, and the queue is used (profile)
pub record Tied (l : Layer) (d : DriveState) : Type 0 where
  pub agrees : Agrees l d
  pub used : IsUsed l

-- the most replies of one call: one for each task of a full set, and one more (profile)
abbrev pub most_replies : ℕ
most_replies = most_tasks + 1

-- the pages in replies (profile)
abbrev pub reply_pages : List Reply → ℕ
reply_pages replies = sum_by (λ r. length r.body) replies

-- the parts of the layer fit together: the pool's 32,960 pages are free, in tasks, or out; each task is kept; the identity is
-- one that a drive's data give (profile)
pub record IsSoundLayer (identity : Identity) (tasks : List Held) (pool : Counts) : Type 0 where
  pub held : held_pages tasks ≤ pool.out
  pub all : number_of pool ≡ 32960
  pub kept : AllByRecursion (IsKept identity) tasks
  pub identity_is : IsIdentity identity
