-- Any number of small changes to cells, in any order.
use Rattle.std.specs.Prelude.{List, Bool, IsTrue}
use Rattle.satl_base.specs.Cells.{Cell, Pair, put_at}
use Rattle.satl_base.specs.Losses.{Loses}

-- entries of cells are lost, and pairs are put for which P holds: what tasks under way do (SAM-5, Command order is the
-- device's; SBC-3 4.15)
pub data Moves (P : Pair → Type 0) : List Cell → List Cell → Type 0 where
  stay : {cells : List Cell} → Moves P cells cells
  lose : {old mid new : List Cell} → Loses old mid → Moves P mid new → Moves P old new
  write : {old new : List Cell} (p : Pair) → P p → Moves P (put_at old p) new → Moves P old new

-- the pairs that pass a test (profile)
abbrev pub Passes : (Pair → Bool) → Pair → Type 0
Passes allows p = IsTrue (allows p)
