-- How far a record is judged (profile).
use Rattle.std.specs.Prelude.{ℕ, List}
use Rattle.satl_identify.specs.declared.identity.Identity.{Identity}
use Rattle.satl_direct.specs.Device.{Device}
use Rattle.satl_audit.specs.Arriving.{device_at}
use Rattle.satl_audit.specs.Kept.{Keeping}
use Rattle.satl_audit.specs.declared.arriving.Followed.{Followed}

-- what is judged: the identity of the drive, and the recorded input (profile)
pub record Recorded : Type 0 where
  pub identity : Identity
  pub input : List ℕ

-- how far it is judged: the tasks that wait, with what is left of the output, and what is known of each sector (profile)
pub record Progress : Type 0 where
  pub followed : Followed
  pub sectors : List Keeping

-- what is left of the output, and what is known of each sector (profile)
pub record Compared : Type 0 where
  pub output : List ℕ
  pub sectors : List Keeping

abbrev pub recorded : Identity → List ℕ → Recorded
recorded identity input = record { identity = identity; input = input }

abbrev pub progress : Followed → List Keeping → Progress
progress followed sectors = record { followed = followed; sectors = sectors }

abbrev pub compared : List ℕ → List Keeping → Compared
compared output sectors = record { output = output; sectors = sectors }

-- the device at this point but for its sectors (profile)
abbrev pub device_in : Recorded → Progress → Device
device_in r p = device_at r.identity r.input p.followed
