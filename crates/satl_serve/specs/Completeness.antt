-- That a good input is served whole where all goes well (profile).
use Rattle.std.specs.Prelude.{◌≡◌, ℕ, List, Option, Some, Ok}
use Rattle.satl_io.specs.Causes.{Rose}
use Rattle.satl_identify.specs.Refusals.{identity_of}
use Rattle.satl_identify.specs.declared.identity.Identity.{Identity}
use Rattle.satl_frame.specs.Progress.{ReadsToEnd}
use Rattle.satl_frame.specs.declared.frames.Frame.{Frame}
use Rattle.satl_frame.specs.declared.frames.Version.TheVariants.{Two}
use Rattle.satl_core.specs.declared.satl.OpenFault.TheVariants as opening
use Rattle.satl_serve.specs.Moments.{Moment}
use Rattle.satl_serve.specs.declared.serving.ServeFault.{ServeFault}
use Rattle.satl_serve.specs.declared.serving.ServeFault.TheVariants as faults

-- the source tells its bytes: these frames and END, within the limit, and this rest (profile)
pub record IsGoodInput (limit : ℕ) (left : Option (List ℕ)) (fs : List Frame) (rest : List ℕ) : Type 0 where
  pub input : List ℕ
  pub told : left ≡ Some input
  pub whole : ReadsToEnd limit Two input fs rest

-- the drive's data are accepted, and neither the source's nor the sink's count of faults rose or stands at its last value
-- (profile)
pub record GoesWell (before after : Moment) : Type 0 where
  pub identity : Identity
  pub accepted : identity_of before.drive.identify ≡ Ok identity
  pub reads : Rose before.source.faults after.source.faults → ⊥
  pub writes : Rose before.sink.faults after.sink.faults → ⊥

-- the faults that are left to a good input where all goes well, before anything is read: want of memory, and a link that was
-- lost while the layer was opened, where the drive's count of faults rose (profile)
abbrev pub MayStop : Moment → Moment → ServeFault → Type 0
MayStop before after (faults.Open opening.NoMemory) = Unit {0}
MayStop before after (faults.Open opening.LinkDown) = Rose before.drive.faults after.drive.faults
MayStop before after _ = ⊥
