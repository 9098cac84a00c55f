-- What opening the layer gives (SAT-3 8.1, IDENTIFY DEVICE; profile).
use Rattle.std.specs.Prelude.{◌≡◌, not, true, false, [], replicate, Ok, Err}
use Rattle.satl_base.specs.Losses.{Loses}
use Rattle.satl_io.specs.Causes.{Rose}
use Rattle.satl_identify.specs.Refusals.{identity_of}
use Rattle.satl_drive.specs.State.{DriveState}
use Rattle.satl_core.specs.declared.satl.OpenFault.{OpenFault}
use Rattle.satl_core.specs.declared.satl.OpenFault.TheVariants as faults
use Rattle.satl_core.specs.Layer.{Layer, Tied}

-- the layer is that of the drive's data: started, without tasks and unit attentions, its modes as the drive's settings are, and
-- no page is out (profile)
pub record IsOpened (old : DriveState) (l : Layer) (new : DriveState) : Type 0 where
  pub identity : identity_of old.identify ≡ Ok l.identity
  pub tasks : l.tasks ≡ []
  pub idle : l.flying ≡ []
  pub wce : l.modes.wce ≡ l.identity.cache_on
  pub dra : l.modes.dra ≡ not l.identity.look_on
  pub d_sense : l.modes.d_sense ≡ false
  pub started : l.started ≡ true
  pub up : l.down ≡ false
  pub attentions : l.attentions ≡ replicate 4 []
  pub out : l.out ≡ 0
  pub tied : Tied l new
  pub lost : Loses old.cells new.cells
  pub stays : new ≡ record old { cells = new.cells }

-- why the layer is not opened: the data are refused, or the link was lost; want of memory is free (profile)
abbrev pub IsCause : DriveState → DriveState → OpenFault → Type 0
IsCause old new (faults.Identity fault) = identity_of old.identify ≡ Err fault
IsCause old new faults.LinkDown = Rose old.faults new.faults
IsCause old new faults.NoMemory = Unit {0}
