-- What the calls of the flight do (ACS-3, native command queuing; profile).
use Rattle.std.specs.Prelude.{◌≡◌, ◌⊎◌, ℕ, ◌+◌, ◌≤◌, ◌<◌, ◌==◌, true, false, List, [], ◌∷◌, ◌++◌, Option, Some, None, IfSome, MatchOption, if◌then◌else◌, length, slice_get}
use Rattle.std.specs.List.{before_first, find, remove}
use Rattle.satl_base.specs.declared.block.Block.{Block}
use Rattle.satl_base.specs.Cells.{Cell}
use Rattle.satl_base.specs.Losses.{Loses}
use Rattle.satl_base.specs.Moves.{Moves}
use Rattle.satl_io.specs.Causes.{Rose}
use Rattle.satl_regs.specs.declared.values.Registers.{Registers}
use Rattle.satl_regs.specs.declared.values.AtaCommand.TheVariants.{ReadLog}
use Rattle.satl_regs.specs.Commands.{command_in}
use Rattle.satl_regs.specs.Effects.{Traffic, icrc_abrt, unc}
use Rattle.satl_errlog.specs.declared.entry.NcqError.{NcqError}
use Rattle.satl_line.specs.Eligible.{IsEligibleBy, eligible_at, eligible_by}
use Rattle.satl_line.specs.Ending.{EndsAs, Outcome, active_after, surface}
use Rattle.satl_line.specs.Ending.Outcome.{ends_done, ends_flawed, ends_glitched}
use Rattle.satl_line.specs.Ranged.{MayPut, RangedTask, ranged_of}
use Rattle.satl_line.specs.Ranged.RangedTask.{ranged_read, ranged_write, ranged_trim}
use Rattle.satl_line.specs.Tasks.{Held, entries_of, slots_of, with_body}
use Rattle.satl_drive.specs.State.{DriveState}
use Rattle.satl_drive.specs.Queue.{FailsAtFlaw, FailsByCrc, queued_flaw}
use Rattle.satl_drive.specs.Rules.{IsLogRead, IsRunCutOff, MaySet}
use Rattle.satl_flight.specs.declared.flight.Flying.{Flying}
use Rattle.satl_flight.specs.Flown.{IsInFlight, clash, is_of_slot, is_outstanding, queued_for}
use Rattle.satl_flight.specs.Lending.{IsLending, Waiting, has_tag, with_own_pages}

-- a queue, and the drive that it is on, at a moment (profile)
pub record OnDrive : Type 0 where
  pub queue : Waiting
  pub drive : DriveState

-- the queue on the drive (profile)
abbrev pub on_drive : Waiting → DriveState → OnDrive
on_drive queue drive = record { queue = queue; drive = drive }

-- the deepest queue never falls, and stays at least the queue where it was (profile)
pub record Deepens (old new : DriveState) : Type 0 where
  pub rises : old.deepest ≤ new.deepest
  pub covers : length old.outstanding ≤ old.deepest → length new.outstanding ≤ new.deepest

-- the link was lost: nothing is outstanding, pairs of eligible tasks were put, a glitch may have gone, and the settings may be
-- others (profile)
pub record IsLostInFlight (tasks : List Held) (old new : DriveState) : Type 0 where
  pub moves : Moves (MayPut old.cache (entries_of tasks)) old.cells new.cells
  pub glitches : (new.glitches ≡ old.glitches) ⊎ (new.glitches + 1 ≡ old.glitches)
  pub rose : Rose old.faults new.faults
  pub settings : MaySet old new ⊎ ((new.cache ≡ old.cache) × (new.look ≡ old.look) × (new.identify ≡ old.identify))
  pub stays : new ≡ record old {
    cells = new.cells;
    outstanding = [];
    error = None;
    cache = new.cache;
    look = new.look;
    active = new.active;
    glitches = new.glitches;
    down = true;
    identify = new.identify;
    faults = new.faults;
  }
  pub deep : Deepens old new

-- the link was lost where a command was issued or the drive was reset: beside the sectors all else is as before (profile)
pub record IsLostQuietly (tasks : List Held) (old new : DriveState) : Type 0 where
  pub moves : Moves (MayPut old.cache (entries_of tasks)) old.cells new.cells
  pub rose : Rose old.faults new.faults
  pub stays : new ≡ record old {
    cells = new.cells;
    outstanding = [];
    error = None;
    down = true;
    faults = new.faults;
    deepest = new.deepest;
  }
  pub deep : Deepens old new

-- more of the tasks is outstanding, and nothing else of the drive changes but entries of sectors that are lost, if anything was
-- issued (profile)
pub record IsLaunched (old new : OnDrive) : Type 0 where
  pub tie : IsInFlight new.queue.flying old.queue.tasks new.drive
  pub rest : List Flying
  pub more : new.queue.flying ≡ old.queue.flying ++ rest
  pub lost : (new.drive.cells ≡ old.drive.cells) ⊎ Loses old.drive.cells new.drive.cells
  pub stays : new.drive ≡ record old.drive {
    cells = new.drive.cells;
    outstanding = new.drive.outstanding;
    deepest = new.drive.deepest;
  }
  pub deep : Deepens old.drive new.drive

-- the blocks that a task has read, once it is done (profile)
abbrev pub read_into : RangedTask → List Block → List Block
read_into (ranged_read fua range) body = body
read_into (ranged_write fua range blocks) body = []
read_into (ranged_trim ranges) body = []

-- the outcome that an entry of the error log stands for, and that of a command that is done (SAT-3 11; profile)
abbrev pub outcome_of : Option NcqError → RangedTask → List Block → Outcome
outcome_of None ranged body = ends_done (read_into ranged body)
outcome_of (Some e) ranged body = if e.error == unc then ends_flawed e.lba else ends_glitched

-- an error of a queued command is a flaw or a CRC error (ACS-3, UNC and ICRC; profile)
abbrev pub IsFlawOrCrc : Option NcqError → Type 0
IsFlawOrCrc None = Unit {0}
IsFlawOrCrc (Some e) = (e.error ≡ unc) ⊎ (e.error ≡ icrc_abrt)

-- the task at this place has ended: what the others put before it, its own end, and what they put after it; whether it has left
-- the queue is not said (profile)
pub record HasEndedAt (place : ℕ) (outcome : Outcome) (old new : OnDrive) : Type 0 where
  pub held : Held
  pub stands : slice_get old.queue.tasks place ≡ Some held
  pub eligible : IsEligibleBy clash old.queue.tasks held
  pub ranged : RangedTask
  pub ranged_is : ranged_of held.entry ≡ Some ranged
  pub before : List Cell
  pub after : List Cell
  pub moves_before : Moves (MayPut old.drive.cache (entries_of old.queue.tasks)) old.drive.cells before
  pub ends : EndsAs old.drive.cache ranged outcome (surface before old.drive.glitches) (surface after new.drive.glitches)
  pub moves_after : Moves (MayPut old.drive.cache (entries_of (remove old.queue.tasks place))) after new.drive.cells
  pub tie : IsInFlight new.queue.flying (remove old.queue.tasks place) new.drive
  pub stays : new.drive ≡ record old.drive {
    cells = new.drive.cells;
    outstanding = new.drive.outstanding;
    active = active_after outcome old.drive.active;
    glitches = new.drive.glitches;
  }
  pub deep : Deepens old.drive new.drive

-- the entry of the error log tells of the task that failed, by its tag: it failed at its lowest flaw, or by a CRC error where
-- it has none (ACS-3 annex A, log 10h; profile)
pub record IsEntryOf (task : Held) (ranged : RangedTask) (old new : OnDrive) (e : NcqError) : Type 0 where
  pub tagged : find (has_tag e.tag) old.queue.flying ≡ Some (record { tag = e.tag; slot = task.slot })
  pub cause : MatchOption (queued_flaw old.drive.cells (queued_for e.tag ranged))
      (FailsByCrc (queued_for e.tag ranged) old.drive.glitches new.drive.glitches e)
      (λ lba. FailsAtFlaw (queued_for e.tag ranged) lba old.drive.glitches new.drive.glitches e)

-- the drive was reset: nothing is outstanding, and each task waits on (profile)
pub record IsCut (tasks : List Held) (old new : DriveState) : Type 0 where
  pub tie : IsInFlight [] tasks new
  pub moves : Moves (MayPut old.cache (entries_of tasks)) old.cells new.cells
  pub stays : new ≡ record old { cells = new.cells; outstanding = []; error = None }
  pub deep : Deepens old new

-- the task at this place, with the pages that it has now, is the one that has ended; those that it read stand in them (profile)
pub record Settles (place : ℕ) (error : Option NcqError) (old new : OnDrive) : Type 0 where
  pub ranged : RangedTask
  pub body : List Block
  pub settled : HasEndedAt place (outcome_of error ranged body) (on_drive (with_own_pages old.queue) old.drive)
      (on_drive (with_own_pages new.queue) new.drive)
  pub error_is : IsFlawOrCrc error
  pub ranged_is : ranged_of settled.held.entry ≡ Some ranged
  pub logged : IfSome error (IsEntryOf settled.held ranged old new)
  pub ended : slice_get new.queue.tasks place ≡ Some (with_body body settled.held)
  pub size : length body ≡ length settled.held.entry.body
  pub leaves : IsLending new.queue.flying new.queue.slots (remove new.queue.tasks place)
  pub others : remove (with_own_pages new.queue).tasks place ≡ remove (with_own_pages old.queue).tasks place

-- the error log was read (ACS-3 annex A, log 10h)
pub record HasReadLog (e : NcqError) (old new : DriveState) : Type 0 where
  pub traffic : Traffic
  pub read : IsLogRead e traffic old new

-- the link was lost while it was read (profile)
pub record IsLogCutOff (old new : DriveState) : Type 0 where
  pub registers : Registers
  pub reads : command_in registers ≡ ReadLog 0x10 0 1
  pub given : List Block
  pub cut : IsRunCutOff old registers given new

-- the task at a place is outstanding, or may not be, or no tag is left (profile)
abbrev pub IsIssuedIfItMay : List Flying → List Held → ℕ → Type 0
IsIssuedIfItMay flying tasks place =
    (length flying ≡ 32) ⊎ ((h : Held) (task : RangedTask) → slice_get tasks place ≡ Some h
    → eligible_by clash tasks place ≡ true → ranged_of h.entry ≡ Some task → is_outstanding flying h.slot ≡ true)

-- the place comes before the one that is found, or none is found (profile)
abbrev pub IsBefore : ℕ → Option ℕ → Type 0
IsBefore place None = Unit {0}
IsBefore place (Some found) = place < found

-- the task at a place is eligible and not outstanding (profile)
pub record NeedsIssue (flying : List Flying) (tasks : List Held) (place : ℕ) : Type 0 where
  pub eligible : eligible_at (entries_of tasks) place ≡ true
  pub fresh : (slot : ℕ) → slice_get (slots_of tasks) place ≡ Some slot → is_outstanding flying slot ≡ false

-- the queue is used: 32 tasks are outstanding, or each eligible ranged task is (profile)
abbrev pub IsFilled : List Flying → List Held → Type 0
IsFilled flying tasks =
    (length flying ≡ 32) ⊎ ((h : Held) (task : RangedTask) → IsEligibleBy clash tasks h → ranged_of h.entry ≡ Some task
    → is_outstanding flying h.slot ≡ true)

-- the task at this place may be issued: it is eligible and ranged (profile)
pub record MayIssue (tasks : List Held) (place : ℕ) (task : Held) : Type 0 where
  pub stands : slice_get tasks place ≡ Some task
  pub eligible : eligible_by clash tasks place ≡ true
  pub ranged : RangedTask
  pub ranged_is : ranged_of task.entry ≡ Some ranged

-- the task at this place became outstanding (profile)
pub record Starts (old new : List Flying) (tasks : List Held) (place : ℕ) (task : Held) : Type 0 where
  pub stands : slice_get tasks place ≡ Some task
  pub was_not : is_outstanding old task.slot ≡ false
  pub is : is_outstanding new task.slot ≡ true

-- what was outstanding as the task in a slot was issued (profile)
abbrev pub issued_before : ℕ → List Flying → List Flying
issued_before slot flying = before_first (is_of_slot slot) flying

-- tasks are issued in order of arrival: as a task became outstanding, each earlier task that may be issued was outstanding
-- (profile; ACS-3, native command queuing)
abbrev pub IssuesInOrder : List Flying → List Flying → List Held → Type 0
IssuesInOrder old new tasks =
    (p q : ℕ) (earlier later : Held) → p < q → MayIssue tasks p earlier → Starts old new tasks q later
    → is_outstanding (issued_before later.slot new) earlier.slot ≡ true

-- the task at this place was issued, under a tag (profile)
pub record IssuesOne (tasks : List Held) (place : ℕ) (old new : List Flying) : Type 0 where
  pub task : Held
  pub stands : slice_get tasks place ≡ Some task
  pub tag : ℕ
  pub pushed : new ≡ old ++ record { tag = tag; slot = task.slot } ∷ []

-- nothing was issued, or the task at this place alone (profile)
abbrev pub IssuesAtMost : List Held → ℕ → List Flying → List Flying → Type 0
IssuesAtMost tasks place old new = (new ≡ old) ⊎ IssuesOne tasks place old new
