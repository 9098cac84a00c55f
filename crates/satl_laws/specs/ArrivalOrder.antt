-- The law of arrival order (SAM-5 8, command order; SBC-3 5).
use Rattle.std.specs.Prelude.{◌≡◌, ℕ, ◌-◌, ◌==◌, ◌&&◌, not, ◌<◌, Bool, true, false, if◌then◌else◌, List, [], ◌∷◌, ◌++◌, Some, Result, Ok, Err, get_or, map, slice_get}
use Rattle.std.specs.List.{AllByRecursion, fold, list_any, range_with_len}
use Rattle.satl_base.specs.declared.block.Block.{Block}
use Rattle.satl_base.specs.declared.request.Request.{Request}
use Rattle.satl_base.specs.declared.reply.Reply.{Reply}
use Rattle.satl_base.specs.declared.reply.Scsi.{Scsi}
use Rattle.satl_base.specs.declared.reply.Scsi.TheVariants.{Good, CheckCondition, TaskSetFull}
use Rattle.satl_base.specs.declared.bench.BenchEvent.TheVariants as events
use Rattle.satl_base.specs.Blocks.{lies_in, no_block}
use Rattle.satl_base.specs.Cells.{Cell}
use Rattle.satl_base.specs.Lists.{how_many, IsIn}
use Rattle.satl_cdb.specs.declared.command.Command.{Command}
use Rattle.satl_cdb.specs.declared.command.Command.TheVariants as commands
use Rattle.satl_cdb.specs.declared.command.Illegal.{Illegal}
use Rattle.satl_cdb.specs.Table.{says}
use Rattle.satl_frame.specs.declared.frames.Frame.{Frame}
use Rattle.satl_frame.specs.declared.frames.Frame.TheVariants as frames
use Rattle.satl_frame.specs.Output.{Answer}
use Rattle.satl_frame.specs.Output.Answer.{replied, managed, closed}
use Rattle.satl_direct.specs.Device.{Device}
use Rattle.satl_direct.specs.Valid.{IsValid}
use Rattle.satl_direct.specs.Run.{Run}
use Rattle.satl_laws.specs.OnceEach.{asks_by}

-- whether a reply says GOOD (SAM-5 5.3.1)
abbrev pub is_good : Scsi → Bool
is_good Good = true
is_good CheckCondition = false
is_good TaskSetFull = false

-- whether an answer is GOOD to a request (SAM-5 5.3.1)
abbrev pub is_done : Request → Answer → Bool
is_done r (replied reply) = (reply.nexus == r.nexus) && ((reply.tag).0 == (r.tag).0) && is_good reply.status
is_done r (managed from function response named) = false
is_done r closed = false

-- whether a request was answered with GOOD (SAM-5 5.3.1)
abbrev pub was_done : List Answer → Request → Bool
was_done answers r = list_any (is_done r) answers

-- the block that a WRITE brings to a sector of its range, and else what was there (SBC-3, WRITE commands)
abbrev pub brought : Result Command Illegal → List Block → ℕ → Block → Block
brought (Ok (commands.Write form lba count fua)) body x was =
    if lies_in lba count x then get_or body (x - lba) was else was
brought (Ok command) body x was = was
brought (Err why) body x was = was

-- a sector's block after an event, where these requests have acted on it (SBC-3 5)
abbrev pub block_after : (Request → Bool) → Bool → ℕ → Frame → Block → Block
block_after acted trim x (frames.Request r) was = if acted r then brought (says r.cdb trim) r.body x was else was
block_after acted trim x _ was = was

-- a sector's block by the WRITEs that have acted on it, in the order of the input (SBC-3 5)
abbrev pub content : (Request → Bool) → Bool → ℕ → List Frame → Block → Block
content acted trim x events was = fold (λ block event. block_after acted trim x event block) was events

-- what a read of a sector gives, and no block past the last (SBC-3)
abbrev pub read_at : List Cell → ℕ → Block
read_at cells x = get_or (map (λ c. c.now) cells) x no_block

-- a READ of a range (SBC-3, READ commands)
abbrev pub IsReadOf : Result Command Illegal → ℕ → ℕ → Type 0
IsReadOf (Ok (commands.Read form from number fua)) lba count = (from ≡ lba) × (number ≡ count)
IsReadOf (Ok command) lba count = ⊥
IsReadOf (Err why) lba count = ⊥

-- a reply that answers a request with GOOD (SAM-5 5.3.1)
pub record IsGoodReply (r : Request) (reply : Reply) (answers : List Answer) : Type 0 where
  pub among : IsIn (replied reply) answers
  pub done : is_done r (replied reply) ≡ true

-- each READ that is answered with GOOD gives for each sector the block of the last WRITE before it in the input that has acted
-- on the sector, and at the end each sector has the block of the last of all these; without one, the block that it had at first
-- (SBC-3 5)
pub record IsInOrder (acted : ℕ → Request → Bool) (first : Device) (all : List Frame) (answers : List Answer)
    (last : Device) : Type 0 where
  pub reads : (before after : List Frame) (r : Request) (reply : Reply) (lba count : ℕ)
      → all ≡ before ++ frames.Request r ∷ after → IsReadOf (says r.cdb first.identity.trim) lba count →
      IsGoodReply r reply answers
      → reply.body ≡ map (λ x. content (acted x) first.identity.trim x before (read_at first.cells x))
      (range_with_len lba count)
  pub writes : (x : ℕ) (c : Cell) → slice_get last.cells x ≡ Some c
      → c.now ≡ content (acted x) first.identity.trim x all (read_at first.cells x)

-- whether a CDB changes no block but as a WRITE does: it is no WRITE SAME, UNMAP or ATA PASS-THROUGH (SBC-3 5; SAT-3 12.2)
abbrev pub writes_plainly : Result Command Illegal → Bool
writes_plainly (Ok (commands.WriteSame form lba count unmap)) = false
writes_plainly (Ok (commands.Unmap size)) = false
writes_plainly (Ok (commands.Pass cdb)) = false
writes_plainly (Ok command) = true
writes_plainly (Err why) = true

-- whether it stops or starts the unit (SBC-3, START STOP UNIT)
abbrev pub stops_or_starts : Result Command Illegal → Bool
stops_or_starts (Ok (commands.StartStop starts no_flush)) = true
stops_or_starts (Ok command) = false
stops_or_starts (Err why) = false

-- a request that changes no block but as a WRITE does, and is no START STOP UNIT; TURN, ORDER or END (profile)
abbrev pub is_plain : Bool → Frame → Bool
is_plain trim (frames.Request r) = writes_plainly (says r.cdb trim) && not (stops_or_starts (says r.cdb trim))
is_plain trim (frames.Manage m) = false
is_plain trim (frames.Turn count) = true
is_plain trim (frames.Bench (events.Order order)) = true
is_plain trim (frames.Bench event) = false
is_plain trim frames.End = true

-- each nexus and tag asks once at most (profile)
abbrev pub AskOnce : List Frame → Type 0
AskOnce frames_of_run = (nexus tag : ℕ) → how_many (asks_by nexus tag) frames_of_run < 2

-- a device at rest: up, started, without tasks, flaws and glitches (profile)
pub record IsFresh (s : Device) : Type 0 where
  pub up : s.down ≡ false
  pub started : s.started ≡ true
  pub no_tasks : s.tasks ≡ []
  pub no_flaws : AllByRecursion (λ c. (c.read_flaw ≡ false) × (c.write_flaw ≡ false)) s.cells
  pub no_glitches : s.glitches ≡ 0

-- law of arrival order: in a run to END, without losses, from a device at rest, the WRITEs that are answered with GOOD have
-- acted, and no other (SAM-5 8, command order; SBC-3 5)
abbrev pub ArrivalOrder : Type 0
ArrivalOrder =
    (first last : Device) (all : List Frame) (answers : List Answer) → Run first (all ++ frames.End ∷ []) 0 answers last →
    IsValid first → IsFresh first → AllByRecursion (λ f. is_plain first.identity.trim f ≡ true) all → AskOnce all
    → IsInOrder (λ x. was_done answers) first all answers last
