-- Why serving stops, and what holds where it stopped behind the opening of the layer (profile).
use Rattle.std.specs.Prelude.{◌≡◌, ◌⊎◌, ℕ, ◌≤◌, List, Option, Err}
use Rattle.satl_io.specs.Causes.{Rose}
use Rattle.satl_io.specs.Known.{Wrote, WrotePart}
use Rattle.satl_identify.specs.declared.identity.IdentityFault.{IdentityFault}
use Rattle.satl_identify.specs.Refusals.{identity_of}
use Rattle.satl_frame.specs.declared.frames.FrameFault.{FrameFault}
use Rattle.satl_frame.specs.declared.frames.FrameFault.TheVariants.{Bad, ReadFault}
use Rattle.satl_frame.specs.declared.frames.Reason.{Reason}
use Rattle.satl_drive.specs.State.{DriveState}
use Rattle.satl_core.specs.declared.satl.OpenFault.TheVariants as opening
use Rattle.satl_core.specs.Opening.{IsCause}
use Rattle.satl_step.specs.declared.frames_loop.Stop.{Stop}
use Rattle.satl_step.specs.declared.frames_loop.Stop.TheVariants as stops
use Rattle.satl_serve.specs.declared.serving.ServeFault.{ServeFault}
use Rattle.satl_serve.specs.declared.serving.ServeFault.TheVariants as faults
use Rattle.satl_serve.specs.declared.telling.Form.{Form}
use Rattle.satl_serve.specs.Forms.{fault_told}
use Rattle.satl_serve.specs.Moments.{Moment, SinkState, SourceState, Spot}
use Rattle.satl_serve.specs.Runs.{RanBefore, RanInPart}

-- how far a run came where it stopped with a fault (profile)
abbrev pub RanTo : Form → ℕ → Spot → Spot → ServeFault → Type 0
RanTo form limit before after (faults.Open fault) = ⊥
RanTo form limit before after (faults.BadInput reason offset) = RanBefore form limit (Bad reason offset) before after
RanTo form limit before after faults.Read = RanBefore form limit ReadFault before after
RanTo form limit before after faults.Write = RanInPart form limit before after

-- a read fault comes only where the source's count rose, and a write fault only where the sink's did (profile)
abbrev pub HasStreamCause : SourceState → SourceState → SinkState → SinkState → ServeFault → Type 0
HasStreamCause read read' write write' (faults.Open fault) = ⊥
HasStreamCause read read' write write' (faults.BadInput reason offset) = Unit {0}
HasStreamCause read read' write write' faults.Read = Rose read.faults read'.faults
HasStreamCause read read' write write' faults.Write = Rose write.faults write'.faults

-- the same, and a fault of opening the layer has its own cause (profile)
abbrev pub HasServeCause : Moment → Moment → ServeFault → Type 0
HasServeCause before after (faults.Open fault) = IsCause before.drive after.drive fault
HasServeCause before after (faults.BadInput reason offset) = Unit {0}
HasServeCause before after faults.Read = Rose before.source.faults after.source.faults
HasServeCause before after faults.Write = Rose before.sink.faults after.sink.faults

-- the drive's IDENTIFY DEVICE data are refused, and its count of faults has not risen (profile)
pub record IsDriveRefused (fault : IdentityFault) (old new : DriveState) : Type 0 where
  pub refused : identity_of old.identify ≡ Err fault
  pub no_rise : Rose old.faults new.faults → ⊥

-- this refusal is told, or that there was no memory (profile)
abbrev pub TellsRefusal : IdentityFault → ServeFault → Type 0
TellsRefusal refusal fault = (fault ≡ faults.Open (opening.Identity refusal)) ⊎ (fault ≡ faults.Open opening.NoMemory)

-- a refusal of the reader is told, where a frame is bad (profile)
abbrev pub Tells : Form → FrameFault → Option (List ℕ) → Option (List ℕ) → ServeFault → Type 0
Tells form why written written' (faults.Open fault) = ⊥
Tells form why written written' (faults.BadInput reason offset) =
    (why ≡ Bad reason offset) × Wrote written written' (fault_told form reason offset)
Tells form why written written' faults.Read = (why ≡ ReadFault) × (written' ≡ written)
Tells form why written written' faults.Write =
    (reason : Reason) × (offset : ℕ) × (why ≡ Bad reason offset) × WrotePart written written' (fault_told form reason offset)

-- the same; the count of faults of the sink did not fall, and it rose where a write failed (profile)
pub record TellsSo (form : Form) (why : FrameFault) (before after : SinkState) (fault : ServeFault) : Type 0 where
  pub tells : Tells form why before.written after.written fault
  pub later : before.faults ≤ after.faults
  pub cause : (fault ≡ faults.Write) → Rose before.faults after.faults

-- why serving stops where frames are carried out no further: a refusal is told, and behind a write that failed nothing is
-- (profile)
abbrev pub TellsStop : Form → SinkState → SinkState → ServeFault → Stop → Type 0
TellsStop form before after fault (stops.Refused why) = TellsSo form why before after fault
TellsStop form before after fault stops.Write = (fault ≡ faults.Write) × (after ≡ before)
