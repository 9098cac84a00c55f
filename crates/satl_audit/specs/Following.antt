-- What deeds leave of a sector that goes along with them.
use Rattle.std.specs.Prelude.{◌≡◌, ℕ, ◌<◌, Bool, true, false, List, [], ◌∷◌, ◌++◌, length, drop, is_some, Option, Some, None}
use Rattle.satl_base.specs.declared.block.Block.{Block}
use Rattle.satl_base.specs.declared.block.Range.{Range}
use Rattle.satl_base.specs.Blocks.{blocks_from}
use Rattle.satl_base.specs.Cells.{Pair, pairs_from}
use Rattle.satl_frame.specs.DataPages.{pages_of}
use Rattle.satl_audit.specs.declared.effects.Put.{Put}
use Rattle.satl_audit.specs.Deeds.{Deed}
use Rattle.satl_audit.specs.Deeds.Deed.{shows, puts, gives, settles, powers}
use Rattle.satl_audit.specs.Guesses.{blocks_at}
use Rattle.satl_audit.specs.Kept.{Keeping, known_sector_at}
use Rattle.satl_audit.specs.Sectors.{KnownSector, sector_gives, sector_power, sector_puts, settled_in}

-- so many blocks of the input from a place on (profile)
abbrev pub input_blocks : List ℕ → ℕ → ℕ → List Block
input_blocks input at count = blocks_from count (drop at input)

-- the pairs of a WRITE over a range whose data-out stands at this place of the input (SBC-3, WRITE commands)
abbrev pub pairs_in : List ℕ → Range → ℕ → Bool → List Pair
pairs_in input range at cached = pairs_from range.lba (input_blocks input at range.count) cached

-- the blocks of a WRITE were put (SBC-3, WRITE commands)
abbrev pub PutsBlocks : List ℕ → Put → List Keeping → List Keeping → Type 0
PutsBlocks input put old new = (x : ℕ) → x < length old →
    known_sector_at input new x ≡ sector_puts x (pairs_in input put.range put.at put.cached) (known_sector_at input old x)

-- what a loss of power may leave has the blocks of a WRITE too (SBC-3 4.15)
abbrev pub PendsBlocks : List ℕ → Range → ℕ → List Keeping → List Keeping → Type 0
PendsBlocks input range at old new = (cached : Bool) → (x : ℕ) → x < length old →
    (known_sector_at input new x).may ≡ (known_sector_at input old x).may ++ blocks_at x (pairs_in input range at cached)

-- a READ from an address gave these bytes: some sector cannot have them; or each can, and has them from then on (SBC-3, READ
-- commands)
abbrev pub GivesBlocks : List ℕ → ℕ → List ℕ → List Keeping → List Keeping → Bool → Type 0
GivesBlocks input lba given old new false = (x : ℕ) × (x < length old)
    × (sector_gives x lba (pages_of given) (Some (known_sector_at input old x)) ≡ None)
GivesBlocks input lba given old new true = (x : ℕ) → x < length old →
    sector_gives x lba (pages_of given) (Some (known_sector_at input old x)) ≡ Some (known_sector_at input new x)

-- what deeds leave of a sector, where these pairs have shown last, which matters at a loss of power alone; None where it does
-- not go along with them (profile)
abbrev pub along : ℕ → Option (List Pair) → List Deed → Option KnownSector → Option KnownSector
along x o ds None = None
along x o [] (Some s) = Some s
along x o (shows pairs ∷ ds) (Some s) = along x (Some pairs) ds (Some s)
along x o (puts pairs ∷ ds) (Some s) = along x None ds (Some (sector_puts x pairs s))
along x o (gives lba blocks ∷ ds) (Some s) = along x None ds (sector_gives x lba blocks (Some s))
along x o (settles ∷ ds) (Some s) = along x None ds (Some (settled_in s.now s.may))
along x o (powers ∷ ds) (Some s) = along x None ds (Some (sector_power x o s))

-- whether a sector goes along with deeds, where these pairs have shown last (profile)
abbrev pub sectored : ℕ → Option (List Pair) → List Deed → Option KnownSector → Bool
sectored x o ds s = is_some (along x o ds s)

-- each sector goes along with deeds (profile)
abbrev pub Follows : List ℕ → List Deed → List Keeping → List Keeping → Type 0
Follows input deeds old new = (length new ≡ length old)
    × ((x : ℕ) → x < length old → along x None deeds (Some (known_sector_at input old x)) ≡ Some (known_sector_at input new x))

-- some sector does not go along with deeds (profile)
abbrev pub SomeRefuses : List ℕ → List Deed → List Keeping → Type 0
SomeRefuses input deeds old = (x : ℕ) × (x < length old) × (along x None deeds (Some (known_sector_at input old x)) ≡ None)
