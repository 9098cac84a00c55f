-- The units of a target are opened, each on its drive (SAT-3 8.1, IDENTIFY DEVICE; profile).
use Rattle.std.specs.Prelude.{◌≡◌, ◌⊎◌, List, [], ◌∷◌, map}
use Rattle.satl_drive.specs.State.{DriveState}
use Rattle.satl_core.specs.Layer.{Layer}
use Rattle.satl_barrier.specs.Commands.{IsUndisturbed}
use Rattle.satl_core.specs.Opening.{IsCause, IsOpened}
use Rattle.satl_core.specs.Tie.{TiesQueue}
use Rattle.satl_core.specs.declared.satl.OpenFault.{OpenFault}

-- a drive was at most asked for its IDENTIFY DEVICE data: it stays as it was, but for entries that its sectors may be left
-- with, and, where its link was lost meanwhile, for what that does; each sector reads as before; it was not unplugged, and no
-- order bytes were handed in to it (profile)
pub record IsLeftAlone (old new : DriveState) : Type 0 where
  pub undisturbed : IsUndisturbed old new
  pub nows : map (λ c. c.now) new.cells ≡ map (λ c. c.now) old.cells
  pub unplugs : new.unplugs ≡ old.unplugs
  pub orders : new.orders ≡ old.orders

-- a layer was opened on a drive (profile)
pub record Opens (old : DriveState) (l : Layer) (new : DriveState) : Type 0 where
  pub opened : IsOpened old l new
  pub queue : TiesQueue l new
  pub nows : map (λ c. c.now) new.cells ≡ map (λ c. c.now) old.cells

-- layers were opened on the first drives, and those behind them stay (profile)
pub data OpensTo : List DriveState → List Layer → List DriveState → Type 0 where
  rest : {ds : List DriveState} → OpensTo ds [] ds
  more : {old new : DriveState} {l : Layer} {olds news : List DriveState} {ls : List Layer}
      → Opens old l new → OpensTo olds ls news → OpensTo (old ∷ olds) (l ∷ ls) (new ∷ news)

-- one of the drives is not opened for this cause (profile)
abbrev pub IsCauseOfOne : OpenFault → List DriveState → List DriveState → Type 0
IsCauseOfOne fault [] news = ⊥
IsCauseOfOne fault (old ∷ olds) [] = ⊥
IsCauseOfOne fault (old ∷ olds) (new ∷ news) = IsCause old new fault ⊎ IsCauseOfOne fault olds news
