-- The settings of a drive: its write cache, and read look-ahead.
use Rattle.std.specs.Prelude.{◌≡◌, ◌&&◌, not, false, Bool}
use Rattle.satl_base.specs.declared.modes.Modes.{Modes}
use Rattle.satl_base.specs.Identify.{has_cache, has_look}
use Rattle.satl_base.specs.Losses.{Loses}
use Rattle.satl_regs.specs.declared.setting.Setting.{Setting}
use Rattle.satl_regs.specs.Effects.{IsTelling, with_setting}
use Rattle.satl_drive.specs.State.{DriveState, medium_of, with_medium}
use Rattle.satl_barrier.specs.Flushing.{settled_if}

-- the link is up, and the settings are as these mode values say: the cache by WCE, and look-ahead by DRA (SAT-3 10)
pub record IsSetBy (modes : Modes) (d : DriveState) : Type 0 where
  pub up : d.down ≡ false
  pub cache : d.cache ≡ modes.wce
  pub look : d.look ≡ not modes.dra

-- what a drive has not is left as it is (SAT-3 10)
pub record CanSet (modes wanted : Modes) (d : DriveState) : Type 0 where
  pub cache : has_cache d.identify ≡ false → wanted.wce ≡ modes.wce
  pub look : has_look d.identify ≡ false → wanted.dra ≡ modes.dra

-- a setting was made: all sectors are written back where the write cache was turned off (ACS-3, SET FEATURES)
pub record IsSetOn (what : Setting) (old new : DriveState) : Type 0 where
  pub was_up : old.down ≡ false
  pub lost : Loses (with_setting what (medium_of old)).cells new.cells
  pub tells : IsTelling new.cache new.look old.identify new.identify
  pub stays : new ≡ record (with_medium old (with_setting what (medium_of old))) { cells = new.cells; identify = new.identify }

-- write cache and look-ahead are on or off so, and all was written back where the cache was turned off (ACS-3, SET FEATURES)
pub record IsTuned (cache look : Bool) (old new : DriveState) : Type 0 where
  pub was_up : old.down ≡ false
  pub cache_is : new.cache ≡ cache
  pub look_is : new.look ≡ look
  pub lost : Loses (settled_if (old.cache && not cache) old.cells) new.cells
  pub stays : new ≡ record old { cells = new.cells; cache = new.cache; look = new.look; identify = new.identify }
