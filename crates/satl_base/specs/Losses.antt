-- Cells whose cache writes back on its own.
use Rattle.std.specs.Prelude.{◌≡◌, List}
use Rattle.std.specs.List.{AllZip}
use Rattle.satl_base.specs.Lists.{IsIn, LeavesOut}
use Rattle.satl_base.specs.Cells.{Cell}

-- a loss of power may leave fewer blocks than before, and still what a read gives (SBC-3 4.15: a cache may write back at any
-- time)
pub record Lost (old new : Cell) : Type 0 where
  pub now : new.now ≡ old.now
  pub read_flaw : new.read_flaw ≡ old.read_flaw
  pub write_flaw : new.write_flaw ≡ old.write_flaw
  pub fewer : LeavesOut old.may new.may
  pub sound : IsIn new.now new.may

-- each cell may have lost entries, and nothing else has changed (SBC-3 4.15)
abbrev pub Loses : List Cell → List Cell → Type 0
Loses old new = AllZip Lost old new
