-- The direct device: a SCSI block device as a host sees it (SAM-5, logical unit; SBC-3 4). Words of the crates below:
--
-- drive            the ATA disk behind the device. A block is 512 bytes; a sector, or cell (`Cell`), is a place of the drive
--                  for a block; a page is 512 bytes of memory, room for one block
-- unit             the device, as commands name it
-- nexus            who asks, an I_T nexus of SAM-5, by its number: there are four, 0 to 3
-- step             one request arrives, one turn is taken, one task management function is carried out, or one bench event
--                  happens; an event of a run is a whole frame, and a TURN or an END may have many steps
-- down, up         while the link to its drive is lost, the device is down, and else up
-- glitch           a CRC error that may still come; it need not
-- pair             a block for an address, with whether it goes through the cache; a write takes the sector's read flaw away
--                  and leaves its write flaw
-- written whole    all pairs are, in order (`whole`)
-- written in part  each pair, in order, is written or left out (`Part`)
-- written back     of a sector: a loss of power can leave only the block that a read gives (`settle`). In a quiet move a cache
--                  may write back less: then a loss of power can leave fewer blocks than before (`Moves`). A sector is sound
--                  where the block that a read gives is among those that a loss of power can leave
-- ranged task      a READ, a WRITE or a queued UNMAP; all others are barriers. The type `RangedTask` is wider: it is what is
--                  done to ranges, a read, a write or a trim, and so also what an UNMAP that is not queued and a WRITE SAME
--                  that unmaps do, though these are barriers. A trim writes a block of zeros at each address
-- conflict         of two tasks, where one is ORDERED or a barrier, or where their ranges meet and one writes
-- eligible         of a task, where it conflicts with no earlier one
-- piece            64 blocks
-- posted, told     a unit attention condition is posted for a nexus, and is told, by which it goes, in one answer. There are
--                  five, in this order of report: POWER ON OCCURRED (`PowerOn`), BUS DEVICE RESET FUNCTION OCCURRED
--                  (`UnitReset`; the function LOGICAL UNIT RESET has this name too), I_T NEXUS LOSS OCCURRED (`NexusLoss`),
--                  COMMANDS CLEARED BY ANOTHER INITIATOR (`Cleared`), MODE PARAMETERS CHANGED (`ModeChanged`)
use Rattle.std.specs.Prelude.{ℕ, ◌==◌, not, Bool, List, [], Option, Some, None, slice_index_or, slice_set, drop, filter}
use Rattle.satl_base.specs.declared.modes.Modes.{Modes}
use Rattle.satl_base.specs.Cells.{Cell}
use Rattle.satl_base.specs.Lists.{remove_first}
use Rattle.satl_base.specs.Names.{is_name}
use Rattle.satl_identify.specs.declared.identity.Identity.{Identity}
use Rattle.satl_unit.specs.declared.attention.Attention.{Attention}
use Rattle.satl_line.specs.declared.entry.Entry.{Entry}

-- the device: its sectors; its tasks in order of arrival, each with its data-out alone in its pages; its mode values, WCE, DRA
-- and D_SENSE; whether it is started, and active and not in standby; whether its drive's link is lost; the unit attention
-- conditions of each nexus, from nexus 0 on, in the order of report; how many transfers may still end with a CRC error; and
-- what its drive says of itself. A task (`Entry`) has its nexus, tag, kind (ranged, and whether it writes, or a barrier) and
-- attribute; its command; how many blocks it holds room for, of data-out or of data-in (`blocks`); its data-out (`body`; room
-- for data-in is not seen here); its ranges; what a MODE SELECT changes (`change`); and how many bytes of data-in its host
-- takes, where it says so (`expected`) (SAM-5, task set and unit attention conditions; SBC-3; glitches and lost links:
-- profile)
pub record Device : Type 0 where
  pub cells : List Cell
  pub tasks : List Entry
  pub modes : Modes
  pub started : Bool
  pub active : Bool
  pub down : Bool
  pub attentions : List (List Attention)
  pub glitches : ℕ
  pub identity : Identity

-- whether a task has this nexus and tag (SAM-5 4.7, I_T_L_Q nexus)
abbrev pub is_called : ℕ → ℕ → Entry → Bool
is_called nexus tag task = is_name nexus tag task.nexus (task.tag).0

-- the tasks but for one (SAM-5, task set)
abbrev pub without : Entry → List Entry → List Entry
without task tasks = remove_first (is_called task.nexus (task.tag).0) tasks

-- whether a task is of this nexus (SAM-5 4.7, I_T nexus)
abbrev pub is_of : ℕ → Entry → Bool
is_of nexus task = task.nexus == nexus

-- the tasks of the other nexuses (SAM-5 4.7)
abbrev pub of_others : ℕ → List Entry → List Entry
of_others nexus tasks = filter (λ t. not (is_of nexus t)) tasks

-- the conditions that are posted for a nexus (SAM-5 5.14)
abbrev pub attentions_of : ℕ → Device → List Attention
attentions_of nexus s = slice_index_or s.attentions nexus []

-- the device once the first condition of a nexus is told (SAM-5 5.14)
abbrev pub once_told : ℕ → Device → Device
once_told nexus s = record s { attentions = slice_set s.attentions nexus (drop 1 (attentions_of nexus s)) }

-- the conditions of all nexuses, without the first of this nexus where one was told (SAM-5 5.14)
abbrev pub attentions_left : Option Attention → ℕ → List (List Attention) → List (List Attention)
attentions_left None nexus attentions = attentions
attentions_left (Some what) nexus attentions = slice_set attentions nexus (drop 1 (slice_index_or attentions nexus []))
