-- The words of the program, how it ends, and why (profile).
use Rattle.std.specs.Prelude.{◌≡◌, ◌⊎◌, ℕ, List, [], Some, Err}
use Rattle.clap.specs.Words.{Text}
use Rattle.satl_io.specs.Causes.{Rose}
use Rattle.satl_identify.specs.declared.identity.IdentityFault.{IdentityFault}
use Rattle.satl_identify.specs.Refusals.{identity_of}
use Rattle.satl_frame.specs.declared.frames.Frame.{Frame}
use Rattle.satl_frame.specs.declared.frames.FrameFault.TheVariants.{Bad, ReadFault}
use Rattle.satl_frame.specs.declared.frames.Reason.{Reason}
use Rattle.satl_text.specs.declared.summary.Summary.{Summary}
use Rattle.satl_serve.specs.declared.telling.Form.{Form}
use Rattle.satl_serve.specs.declared.telling.Form.TheVariants as forms
use Rattle.satl_serve.specs.Headline.{IsNotServed, IsServedBefore, IsServedInPart, IsServedWhole}
use Rattle.satl_serve.specs.Completeness.{GoesWell, IsGoodInput}
use Rattle.satl_serve.specs.Moments.{Moment}
use Rattle.satl_serve.specs.Stopping.{IsDriveRefused}
use Rattle.satl_words.specs.declared.modes.Mode.{Mode}
use Rattle.satl_words.specs.declared.modes.Mode.TheVariants as modes
use Rattle.satl_words.specs.Asked.{AreRefused, AskFor}
use Rattle.satl_words.specs.Plain.{IsInRange}
use Rattle.satl_usb.specs.Headline.{IsItemInput}
use Rattle.satl_usb.specs.Items.{Item}
use Rattle.satl_top.specs.Bridging.{BridgeEnds}
use Rattle.satl_top.specs.Auditing.{AuditEnds}
use Rattle.satl_top.specs.Load.{Load, LoadEnds, load_of}
use Rattle.satl_top.specs.declared.status.Status.{Status}
use Rattle.satl_top.specs.declared.status.Status.TheVariants as statuses

-- the exit number of each status (profile)
abbrev pub exit_number : Status → ℕ
exit_number statuses.Done = 0
exit_number statuses.Usage = 2
exit_number statuses.BadInput = 3
exit_number statuses.ReadFault = 4
exit_number statuses.WriteFault = 5
exit_number statuses.NoMemory = 6
exit_number statuses.DriveRefused = 7
exit_number statuses.No = 9
exit_number statuses.NotCovered = 10

-- a read or a write fault comes only where the source's or the sink's count of faults rose, and a drive is refused only for its
-- IDENTIFY DEVICE data or where its own count rose (profile)
abbrev pub HasStatusCause : Moment → Moment → Status → Type 0
HasStatusCause before after statuses.ReadFault = Rose before.source.faults after.source.faults
HasStatusCause before after statuses.WriteFault = Rose before.sink.faults after.sink.faults
HasStatusCause before after statuses.DriveRefused =
    ((fault : IdentityFault) × (identity_of before.drive.identify ≡ Err fault)) ⊎ Rose before.drive.faults after.drive.faults
HasStatusCause before after _ = Unit {0}

-- what holds of the input, the output in a form and the drive, by the status (profile): a whole input was served; or it was
-- served up to a frame that was refused or not read, or up to a write that failed; or it was not served
abbrev pub ServeEnds : Form → ℕ → Moment → Moment → Status → Type 0
ServeEnds form limit before after statuses.Done = (summary : Summary) × IsServedWhole form limit summary before after
ServeEnds form limit before after statuses.Usage = ⊥
ServeEnds form limit before after statuses.BadInput =
    (reason : Reason) × (offset : ℕ) × IsServedBefore form limit (Bad reason offset) before after
ServeEnds form limit before after statuses.ReadFault = IsServedBefore form limit ReadFault before after
ServeEnds form limit before after statuses.WriteFault = IsServedInPart form limit before after
ServeEnds form limit before after statuses.NoMemory = IsNotServed before after
ServeEnds form limit before after statuses.DriveRefused = IsNotServed before after
ServeEnds form limit before after statuses.No = ⊥
ServeEnds form limit before after statuses.NotCovered = ⊥

-- a good input is served whole where all goes well, up to END and no byte further (profile): but there may be no memory to
-- begin, or the link was lost before the layer was open, where the drive's count of faults rose
abbrev pub Completes : List ℕ → Moment → Moment → Status → Type 0
Completes rest before after statuses.Done = after.source.left ≡ Some rest
Completes rest before after statuses.NoMemory = Unit {0}
Completes rest before after statuses.DriveRefused = Rose before.drive.faults after.drive.faults
Completes rest before after _ = ⊥

-- a drive whose IDENTIFY DEVICE data are refused is told so, unless there was no memory (profile)
abbrev pub TellsRefused : Moment → Moment → Status → Type 0
TellsRefused before after status = (fault : IdentityFault) → IsDriveRefused fault before.drive after.drive →
    (status ≡ statuses.DriveRefused) ⊎ (status ≡ statuses.NoMemory)

-- the frames that were handed in were served, and answered in a form: what holds by the status, and why it is that one; a good
-- input is served whole where all goes well (profile)
pub record HasServed (form : Form) (limit : ℕ) (before after : Moment) (status : Status) : Type 0 where
  pub ends : ServeEnds form limit before after status
  pub causes : HasStatusCause before after status
  pub refused : TellsRefused before after status
  pub complete : (fs : List Frame) (rest : List ℕ) → IsGoodInput limit before.source.left fs rest → GoesWell before after
      → Completes rest before after status

-- the items that were handed in were bridged: what holds by the status, and why it is that one; what is items to its end is
-- bridged whole where all goes well; the drive was not unplugged, and no order bytes were handed in to it (profile)
pub record HasBridged (limit : ℕ) (before after : Moment) (status : Status) : Type 0 where
  pub ends : BridgeEnds limit before after status
  pub causes : HasStatusCause before after status
  pub refused : TellsRefused before after status
  pub complete : (items : List Item) → IsItemInput limit before.source.left items → GoesWell before after
      → Completes [] before after status
  pub unplugs : after.drive.unplugs ≡ before.drive.unplugs
  pub orders : after.drive.orders ≡ before.drive.orders

-- the record that was handed in was judged: what holds by the status, and why it is that one (profile)
pub record HasJudged (before after : Moment) (status : Status) : Type 0 where
  pub ends : AuditEnds before after status
  pub causes : HasStatusCause before after status
  pub refused : TellsRefused before after status

-- a generated input was served, and its totals told: what holds by the status, and why it is that one (profile)
pub record HasLoaded (limit : ℕ) (load : Load) (before after : Moment) (status : Status) : Type 0 where
  pub ends : LoadEnds limit load before after status
  pub causes : HasStatusCause before after status
  pub refused : TellsRefused before after status

-- a mode was carried out (profile)
abbrev pub HasCarriedOut : Mode → ℕ → Moment → Moment → Status → Type 0
HasCarriedOut modes.Replay limit before after status = HasServed forms.Frames limit before after status
HasCarriedOut modes.Show limit before after status = HasServed forms.Text limit before after status
HasCarriedOut modes.Usb limit before after status = HasBridged limit before after status
HasCarriedOut modes.Audit limit before after status = HasJudged before after status
HasCarriedOut (modes.Generate seed requests) limit before after status =
    HasLoaded limit (load_of seed requests) before after status

-- nothing was done: the words ask for nothing, or there was not the memory to read them (profile)
pub record IsUnused (words : List Text) (before after : Moment) (status : Status) : Type 0 where
  pub why : ((status ≡ statuses.Usage) × AreRefused words) ⊎ (status ≡ statuses.NoMemory)
  pub stays : after ≡ before

-- the outcome by the words (profile): nothing was done, or the words ask for a mode in range, which was carried out
abbrev pub OutcomeByWords : List Text → ℕ → Moment → Moment → Status → Type 0
OutcomeByWords words limit before after status =
    IsUnused words before after status
    ⊎ ((mode : Mode) × IsInRange mode × AskFor words mode × HasCarriedOut mode limit before after status)
