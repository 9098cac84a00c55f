-- Bytes that are gathered before they are written (profile).
use Rattle.std.specs.Prelude.{ℕ, ◌≡◌, List, ◌++◌, Option}
use Rattle.satl_io.specs.Known.{Wrote}

-- these bytes came behind those that were gathered: some were written, and the others are gathered now
pub record Gathers (written written' : Option (List ℕ)) (gathered gathered' bytes : List ℕ) : Type 0 where
  pub gone : List ℕ
  pub wrote : Wrote written written' gone
  pub split : gone ++ gathered' ≡ gathered ++ bytes
