-- What holds of the input, the output and the drive, by how serving ended (profile).
use Rattle.std.specs.Prelude.{◌≡◌, ℕ, ◌+◌, ◌≤◌, List, map, Some, Result, IfErr, MatchResult}
use Rattle.std.specs.Result.{IsErrAnd}
use Rattle.satl_identify.specs.declared.identity.IdentityFault.{IdentityFault}
use Rattle.satl_frame.specs.declared.frames.Frame.{Frame}
use Rattle.satl_frame.specs.declared.frames.FrameFault.{FrameFault}
use Rattle.satl_frame.specs.declared.frames.FrameFault.TheVariants.{Bad, ReadFault}
use Rattle.satl_text.specs.Totals.{summary_of}
use Rattle.satl_text.specs.declared.summary.Summary.{Summary}
use Rattle.satl_direct.specs.Run.{joined}
use Rattle.satl_barrier.specs.Commands.{IsUndisturbed}
use Rattle.satl_step.specs.Runs.{requests_in}
use Rattle.satl_serve.specs.Completeness.{GoesWell, IsGoodInput, MayStop}
use Rattle.satl_serve.specs.declared.telling.Form.{Form}
use Rattle.satl_serve.specs.declared.serving.ServeFault.{ServeFault}
use Rattle.satl_serve.specs.declared.serving.ServeFault.TheVariants as faults
use Rattle.satl_serve.specs.Moments.{Moment}
use Rattle.satl_serve.specs.Runs.{RanBefore, RanInPart, RanWhole, Serves}
use Rattle.satl_serve.specs.Stopping.{HasServeCause, IsDriveRefused, TellsRefusal}

-- an input was served up to END, in this form, within this limit, from this before to this after (profile)
abbrev pub IsServedToEnd : Form → ℕ → Moment → Moment → Type 0
IsServedToEnd form limit before after = Serves (RanWhole form limit) before after

-- the same, and the totals are those of the requests and these answers (profile)
pub record IsServedWhole (form : Form) (limit : ℕ) (summary : Summary) (before after : Moment) : Type 0 where
  pub to_end : IsServedToEnd form limit before after
  pub totals : summary ≡ summary_of (requests_in to_end.run.events) (joined to_end.run.groups)

-- it was served up to a frame that was refused or not read (profile)
abbrev pub IsServedBefore : Form → ℕ → FrameFault → Moment → Moment → Type 0
IsServedBefore form limit why before after = Serves (RanBefore form limit why) before after

-- it was served up to a write that failed (profile)
abbrev pub IsServedInPart : Form → ℕ → Moment → Moment → Type 0
IsServedInPart form limit before after = Serves (RanInPart form limit) before after

-- nothing was read, waited for or written; the drive stays as it was, but for entries that its sectors may be left with, and,
-- where its link was lost meanwhile, for what that does; each sector reads as before; it was not unplugged, no order bytes were
-- handed in to it, and it was called once at most (profile)
pub record IsNotServed (before after : Moment) : Type 0 where
  pub read : after.source.left ≡ before.source.left
  pub waits : after.source.waited ≡ before.source.waited
  pub wrote : after.sink.written ≡ before.sink.written
  pub undisturbed : IsUndisturbed before.drive after.drive
  pub nows : map (λ c. c.now) after.drive.cells ≡ map (λ c. c.now) before.drive.cells
  pub unplugs : after.drive.unplugs ≡ before.drive.unplugs
  pub orders : after.drive.orders ≡ before.drive.orders
  pub one_call : after.calls ≤ before.calls + 1

-- the same by the fault (profile)
abbrev pub IsStopped : Form → ℕ → Moment → Moment → ServeFault → Type 0
IsStopped form limit before after (faults.Open fault) = IsNotServed before after
IsStopped form limit before after (faults.BadInput reason offset) = IsServedBefore form limit (Bad reason offset) before after
IsStopped form limit before after faults.Read = IsServedBefore form limit ReadFault before after
IsStopped form limit before after faults.Write = IsServedInPart form limit before after

-- what the result of serving says, whatever it gives of an input that was served up to END (profile): what holds by the fault,
-- and why it is that one; a drive whose data are refused is told so, unless there was no memory; and a good input is served up
-- to END where all goes well, and no byte behind it is read
pub record ResultSays {A : Type 0} (form : Form) (limit : ℕ) (before after : Moment)
    (result : Result A ServeFault) : Type 0 where
  pub stopped : IfErr result (IsStopped form limit before after)
  pub causes : IfErr result (HasServeCause before after)
  pub refused : (fault : IdentityFault) → IsDriveRefused fault before.drive after.drive → IsErrAnd result (TellsRefusal fault)
  pub complete : (fs : List Frame) (rest : List ℕ) → IsGoodInput limit before.source.left fs rest → GoesWell before after
      → MatchResult result (λ _. after.source.left ≡ Some rest) (MayStop before after)
