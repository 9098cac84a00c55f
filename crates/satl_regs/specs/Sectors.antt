-- What a test bench does to a sector (profile).
use Rattle.std.specs.Prelude.{◌≡◌, true, false, [], ◌∷◌}
use Rattle.satl_base.specs.declared.bench.Which.{Which}
use Rattle.satl_base.specs.declared.bench.Which.TheVariants.{Read, Write}
use Rattle.satl_base.specs.Lists.{IsIn}
use Rattle.satl_base.specs.Cells.{Cell}

-- a sector with a flaw of a kind, or with none (profile)
abbrev pub with_flaw : Which → Cell → Cell
with_flaw Read c = record c { read_flaw = true }
with_flaw Write c = record c { write_flaw = true }

-- a sector without flaws (profile)
abbrev pub without_flaws : Cell → Cell
without_flaws c = record c { read_flaw = false; write_flaw = false }

-- a sector after a loss of power: it has one of the blocks that it might be left with; flaws stay (SBC-3 4.15; profile)
pub record IsLeftBehind (old new : Cell) : Type 0 where
  pub one : IsIn new.now old.may
  pub alone : new.may ≡ new.now ∷ []
  pub read_flaw : new.read_flaw ≡ old.read_flaw
  pub write_flaw : new.write_flaw ≡ old.write_flaw
