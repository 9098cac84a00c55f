-- What serving an input to its end says to a host.
use Rattle.std.specs.Prelude.{◌≡◌, ◌⊎◌, ℕ, ◌+◌, ◌≤◌, true, false, List, [], ◌∷◌, ◌++◌, length, map}
use Rattle.std.specs.List.{AllByRecursion}
use Rattle.satl_base.specs.declared.request.Request.{Request}
use Rattle.satl_base.specs.declared.block.Block.{Block}
use Rattle.satl_base.specs.Cells.{Cell}
use Rattle.satl_base.specs.Lists.{how_many}
use Rattle.satl_io.specs.Causes.{Rose}
use Rattle.satl_frame.specs.declared.frames.Frame.{Frame}
use Rattle.satl_frame.specs.declared.frames.Frame.TheVariants as frames
use Rattle.satl_frame.specs.declared.frames.FrameFault.{FrameFault}
use Rattle.satl_frame.specs.Output.{Answer}
use Rattle.satl_drive.specs.State.{DriveState}
use Rattle.satl_direct.specs.Device.{is_called}
use Rattle.satl_direct.specs.Run.{joined}
use Rattle.satl_laws.specs.OnceEach.{answers_to, asks_by, removed}
use Rattle.satl_laws.specs.ArrivalOrder.{is_plain}
use Rattle.satl_laws.specs.OrderUnderErrors.{is_mild}
use Rattle.satl_renaming.specs.UsedAgain.{EachAnsweredFirst, HasOutcomesByPlace, IsInOrderByPlace, answers_for, leaves_tasks, was_done_at}
use Rattle.satl_origins.specs.Origins.{IsRequestedIn, MayHold, WasRead}
use Rattle.satl_serve.specs.declared.telling.Form.{Form}
use Rattle.satl_serve.specs.Headline.{IsServedBefore, IsServedToEnd}
use Rattle.satl_serve.specs.Moments.{Moment}
use Rattle.satl_serve.specs.Runs.{BrokeInAnswers, Serves}

module _ {form : Form} {limit : ℕ} {before after : Moment} (served : IsServedToEnd form limit before after) where
  -- the frames that were read (profile)
  abbrev pub frames_read : List Frame
  frames_read = served.run.events ++ frames.End ∷ []

  -- the answers that were written, in a group for each frame (profile)
  abbrev pub groups_written : List (List Answer)
  groups_written = served.run.groups

  -- the first device reads as the drive did, and the drive is left with the sectors of the last one (SBC-3)
  pub record IsOnTheDrive : Type 0 where
    pub begins : map (λ c. c.now) served.first.cells ≡ map (λ c. c.now) before.drive.cells
    pub ends : after.drive.cells ≡ served.last.cells

  -- READs and WRITEs have acted in order of arrival (SAM-5 8; SBC-3 5)
  pub record HasServedInOrder : Type 0 where
    pub order : IsInOrderByPlace (λ x. was_done_at frames_read groups_written) served.first frames_read groups_written
        served.last
    pub drive : IsOnTheDrive

  -- and each WRITE that is not answered with GOOD on each sector or not (SAM-5 8; SBC-3 5)
  pub record HasServedUnderErrors : Type 0 where
    pub outcomes : HasOutcomesByPlace served.first frames_read groups_written served.run.run.losses served.run.run.deep
        served.last served.run.run.run
    pub drive : IsOnTheDrive

-- no sector has a flaw, and no CRC error may come (profile)
pub record IsClean (d : DriveState) : Type 0 where
  pub no_flaws : AllByRecursion (λ (c : Cell). (c.read_flaw ≡ false) × (c.write_flaw ≡ false)) d.cells
  pub no_glitches : d.glitches ≡ 0

-- law of one answer where an input is served: the replies that were written to a nexus and tag and the tasks of it that were
-- taken off are together as many as its requests (SAM-5 5)
abbrev pub ServedOnce : Type 0
ServedOnce =
    (form : Form) (limit : ℕ) (before after : Moment) (served : IsServedToEnd form limit before after) (nexus tag : ℕ)
    → how_many (answers_to nexus tag) (joined (groups_written served)) + removed nexus tag served.run.run.run
    ≡ how_many (asks_by nexus tag) (frames_read served)

-- the same where an input is served up to a frame that was refused or not read: beside them are the tasks that still wait
-- (SAM-5 5)
abbrev pub ServedOnceBefore : Type 0
ServedOnceBefore =
    (form : Form) (limit : ℕ) (why : FrameFault) (before after : Moment) (served : IsServedBefore form limit why before after)
    (nexus tag : ℕ)
    → how_many (answers_to nexus tag) (joined served.run.groups) + how_many (is_called nexus tag) served.last.tasks
    + removed nexus tag served.run.run.run
    ≡ how_many (asks_by nexus tag) served.run.events

-- law of one answer by place where an input is served: without task management functions and losses of power, where each
-- request comes once all earlier ones of its nexus and tag are answered, each has one reply from its place on, before its nexus
-- and tag are used again (SAM-5 4.7, 5)
abbrev pub ServedOneEach : Type 0
ServedOneEach =
    (form : Form) (limit : ℕ) (before after : Moment) (served : IsServedToEnd form limit before after)
    (earlier later : List Frame) (r : Request) →
    AllByRecursion (λ f. leaves_tasks f ≡ true) served.run.events →
    EachAnsweredFirst (frames_read served) (groups_written served) →
    frames_read served ≡ earlier ++ frames.Request r ∷ later
    → how_many (answers_to r.nexus (r.tag).0) (answers_for (frames_read served) (groups_written served) (length earlier) r) ≡ 1

-- law of arrival order where an input is served: over a clean drive whose count of faults did not rise, where each request
-- comes once all earlier ones of its nexus and tag are answered (SAM-5 4.7, 8; SBC-3 5)
abbrev pub ServedInOrder : Type 0
ServedInOrder =
    (form : Form) (limit : ℕ) (before after : Moment) (served : IsServedToEnd form limit before after) →
    IsClean before.drive → (Rose before.drive.faults after.drive.faults → ⊥) →
    AllByRecursion (λ f. is_plain served.first.identity.trim f ≡ true) served.run.events →
    EachAnsweredFirst (frames_read served) (groups_written served)
    → HasServedInOrder served

-- law of order under errors where an input is served (SAM-5 4.7, 8; SBC-3 5)
abbrev pub ServedUnderErrors : Type 0
ServedUnderErrors =
    (form : Form) (limit : ℕ) (before after : Moment) (served : IsServedToEnd form limit before after) →
    AllByRecursion (λ f. is_mild served.first.identity.trim f ≡ true) (frames_read served) →
    EachAnsweredFirst (frames_read served) (groups_written served)
    → HasServedUnderErrors served

-- law of origins where an input is served, whatever fails, is lost or loses power: each block that a sector of the drive has at
-- the end, or may be left with, is one that it had or might be left with before, or one that a command of the frames that were
-- read may write to this very sector (SBC-3 4.15, 5)
abbrev pub ServedNothingInvented : Type 0
ServedNothingInvented =
    (form : Form) (limit : ℕ) (before after : Moment) (served : IsServedToEnd form limit before after) (x : ℕ) (block : Block) →
    MayHold after.drive.cells x block
    → MayHold before.drive.cells x block ⊎ IsRequestedIn served.first (frames_read served) x block

-- and so is each block that a READ was answered with, where each request comes once all earlier ones of its nexus and tag are
-- answered (SBC-3, READ commands; SAM-5 4.7)
abbrev pub ServedNothingInventedIsRead : Type 0
ServedNothingInventedIsRead =
    (form : Form) (limit : ℕ) (before after : Moment) (served : IsServedToEnd form limit before after) (x : ℕ) (block : Block) →
    EachAnsweredFirst (frames_read served) (groups_written served) →
    WasRead served.first.identity.trim (frames_read served) (groups_written served) x block
    → MayHold before.drive.cells x block ⊎ IsRequestedIn served.first (frames_read served) x block

-- the same where an input is served up to a frame that was refused or not read (SBC-3 4.15, 5)
abbrev pub ServedNothingInventedBefore : Type 0
ServedNothingInventedBefore =
    (form : Form) (limit : ℕ) (why : FrameFault) (before after : Moment) (served : IsServedBefore form limit why before after)
    (x : ℕ) (block : Block) →
    MayHold after.drive.cells x block
    → MayHold before.drive.cells x block ⊎ IsRequestedIn served.first served.run.events x block

-- ---- where a write failed in the answers to a frame

-- an input was served up to a frame in whose answers a write failed (profile)
abbrev pub IsServedInto : Form → ℕ → Moment → Moment → Type 0
IsServedInto form limit before after = Serves (BrokeInAnswers form limit) before after

module _ {form : Form} {limit : ℕ} {before after : Moment} (served : IsServedInto form limit before after) where
  -- the frames that were read, and the answers to what was done of them, whose front was written (profile)
  abbrev pub frames_taken : List Frame
  frames_taken = served.run.events ++ served.run.event ∷ []

  abbrev pub answers_due : List Answer
  answers_due = joined (served.run.groups ++ (served.run.earlier ++ served.run.last) ∷ [])

-- law of one answer there: the replies that are due to a nexus and tag and the tasks of it that still wait are together no more
-- than its requests (SAM-5 5)
abbrev pub ServedAtMostOnce : Type 0
ServedAtMostOnce =
    (form : Form) (limit : ℕ) (before after : Moment) (served : IsServedInto form limit before after) (nexus tag : ℕ)
    → how_many (answers_to nexus tag) (answers_due served) + how_many (is_called nexus tag) served.last.tasks
    ≤ how_many (asks_by nexus tag) (frames_taken served)

-- law of origins there (SBC-3 4.15, 5)
abbrev pub ServedNothingInventedInto : Type 0
ServedNothingInventedInto =
    (form : Form) (limit : ℕ) (before after : Moment) (served : IsServedInto form limit before after) (x : ℕ)
    (block : Block) →
    MayHold after.drive.cells x block
    → MayHold before.drive.cells x block ⊎ IsRequestedIn served.first (frames_taken served) x block
