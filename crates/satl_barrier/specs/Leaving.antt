-- What commands for one task leave of a drive.
use Rattle.std.specs.Prelude.{◌≡◌, ◌⊎◌, ◌+◌, true, List, [], None, length, ℕ}
use Rattle.satl_base.specs.Cells.{AreSound, Pair}
use Rattle.satl_base.specs.Identify.{has_cache, has_look}
use Rattle.satl_base.specs.Lists.{IsIn}
use Rattle.satl_base.specs.Moves.{Moves}
use Rattle.satl_io.specs.Causes.{Rose}
use Rattle.satl_identify.specs.Data.{identity_data}
use Rattle.satl_drive.specs.State.{DriveState, IsFit}

-- a drive on which a command may be carried out alone: nothing is outstanding, no queued command has failed, and it fits its
-- data (ACS-3; profile)
pub record IsFree (d : DriveState) : Type 0 where
  pub idle : d.outstanding ≡ []
  pub no_error : d.error ≡ None
  pub fit : IsFit d

-- the data are those of an identity, with the drive's settings in them (ACS-3, IDENTIFY DEVICE, word 85)
abbrev pub TellsOf : List ℕ → DriveState → Type 0
TellsOf bytes d = d.identify ≡ identity_data bytes d.cache d.look

-- the data say as before that there is a write cache and look-ahead (ACS-3, IDENTIFY DEVICE, word 82)
pub record SaysSo (old new : List ℕ) : Type 0 where
  pub cache : has_cache new ≡ has_cache old
  pub look : has_look new ≡ has_look old

-- what commands leave of a drive, whatever they do and also where the link is lost: it is free for the next, with as many
-- sectors, which are sound; its data say as before that it has a write cache and look-ahead, and are those of the same
-- identity; it was not unplugged, no order bytes were handed in, and its queue was never deeper (profile)
pub record Stays (old new : DriveState) : Type 0 where
  pub free : IsFree new
  pub capacity : new.capacity ≡ old.capacity
  pub sound : AreSound new.cells
  pub says : SaysSo old.identify new.identify
  pub tells : (bytes : List ℕ) → length bytes ≡ 512 → TellsOf bytes old → TellsOf bytes new
  pub unplugs : new.unplugs ≡ old.unplugs
  pub orders : new.orders ≡ old.orders
  pub deepest : new.deepest ≡ old.deepest

-- the glitches are as before, or one fewer (profile)
abbrev pub OneGlitchAtMost : DriveState → DriveState → Type 0
OneGlitchAtMost old new = (new.glitches ≡ old.glitches) ⊎ (new.glitches + 1 ≡ old.glitches)

-- the link was lost in one of the commands for a task that writes these pairs: each may have been written and entries of
-- sectors lost, and a glitch may have gone (profile)
pub record IsLostIn (pairs : List Pair) (old new : DriveState) : Type 0 where
  pub cells : Moves (λ pair. IsIn pair pairs) old.cells new.cells
  pub glitches : OneGlitchAtMost old new
  pub rose : Rose old.faults new.faults
  pub down : new.down ≡ true
