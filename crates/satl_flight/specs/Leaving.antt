-- What is left outstanding where a command has ended, and the drive calls that this takes.
use Rattle.std.specs.Prelude.{◌≡◌, ℕ, List, [], Option, Some, None}
use Rattle.std.specs.List.{find}
use Rattle.satl_base.specs.Lists.{remove_first}
use Rattle.satl_errlog.specs.declared.entry.NcqError.{NcqError}
use Rattle.satl_flight.specs.declared.flight.Flying.{Flying}
use Rattle.satl_flight.specs.Lending.{has_tag}

-- one is outstanding no longer, and all others are (ACS-3, native command queuing)
pub record LosesOne (old new : List Flying) : Type 0 where
  pub done : Flying
  pub tag : ℕ
  pub found : find (has_tag tag) old ≡ Some done
  pub left : new ≡ remove_first (has_tag tag) old

-- where a command is done the others stay outstanding, and where one failed nothing does (ACS-3, native command queuing)
abbrev pub AreLeft : Option NcqError → List Flying → List Flying → Type 0
AreLeft None old new = LosesOne old new
AreLeft (Some e) old new = new ≡ []

-- the drive calls of an end: the poll, and the read of the error log where the command failed (profile)
abbrev pub settle_calls : Option NcqError → ℕ
settle_calls None = 1
settle_calls (Some e) = 2
