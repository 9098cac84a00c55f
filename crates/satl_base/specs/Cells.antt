-- Cells: the sectors of a medium, and what writing does to them (SBC-3 4.1, medium and cache).
use Rattle.std.specs.Prelude.{◌≡◌, ◌⊎◌, ℕ, zero, suc, ◌+◌, Bool, false, if◌then◌else◌, List, [], ◌∷◌, ◌++◌, Option, Some, None, map, slice_index_or, slice_range}
use Rattle.std.specs.List.{AllByRecursion, fold}
use Rattle.satl_base.specs.declared.block.Block.{Block}
use Rattle.satl_base.specs.declared.bench.Which.{Which}
use Rattle.satl_base.specs.declared.bench.Which.TheVariants.{Read, Write}
use Rattle.satl_base.specs.Lists.{IsIn, change_at}

-- a sector: the block that a read gives, the blocks that a loss of power may leave, and whether reads or writes fail there
-- (SBC-3 4.15)
pub record Cell : Type 0 where
  pub now : Block
  pub may : List Block
  pub read_flaw : Bool
  pub write_flaw : Bool

-- what a read gives may also be left by a loss of power (SBC-3 4.15)
abbrev pub IsSound : Cell → Type 0
IsSound c = IsIn c.now c.may

abbrev pub AreSound : List Cell → Type 0
AreSound cells = AllByRecursion IsSound cells

-- what a loss of power may leave once a block is written, by what it might leave before: through the cache that and the block,
-- and else the block alone (SBC-3 4.15)
abbrev pub may_after_put : {X : Type 0} → List X → X → Bool → List X
may_after_put may v cached = if cached then may ++ v ∷ [] else v ∷ []

-- a block is written (SBC-3 4.15): through the cache it may be left beside what was there, else it alone is left; the read flaw
-- goes
abbrev pub put : Cell → Block → Bool → Cell
put c v cached = record { now = v; may = may_after_put c.may v cached; read_flaw = false; write_flaw = c.write_flaw }

-- only what a read gives is left by a loss of power (SBC-3, SYNCHRONIZE CACHE)
abbrev pub settle : Cell → Cell
settle c = record c { may = c.now ∷ [] }

-- a sector without flaws, which a loss of power leaves as it is (profile)
abbrev pub lasts : Block → Cell
lasts block = record { now = block; may = block ∷ []; read_flaw = false; write_flaw = false }

-- a sector that was written through the cache, over a block that a loss of power may bring back (SBC-3 4.15)
abbrev pub cached_over : Block → Block → Cell
cached_over old new = record (lasts new) { may = old ∷ new ∷ [] }

-- a block for an address, written through the cache or past it (SBC-3, FUA)
pub record Pair : Type 0 where
  pub lba : ℕ
  pub block : Block
  pub cached : Bool

-- the cells after one block was written (SBC-3, WRITE commands)
abbrev pub put_at : List Cell → Pair → List Cell
put_at cells p = change_at cells p.lba (λ c. put c p.block p.cached)

-- each pair is put, in order (SBC-3, WRITE commands)
abbrev pub whole : List Cell → List Pair → List Cell
whole cells pairs = fold put_at cells pairs

-- each pair, in order, is put or left out: a write that failed (profile)
abbrev pub Part : List Cell → List Pair → List Cell → Type 0
Part cells [] new = new ≡ cells
Part cells (p ∷ ps) new = Part cells ps new ⊎ Part (put_at cells p) ps new

-- blocks for the addresses from lba on (SBC-3, LOGICAL BLOCK ADDRESS)
abbrev pub pairs_from : ℕ → List Block → Bool → List Pair
pairs_from lba [] cached = []
pairs_from lba (v ∷ vs) cached = record { lba = lba; block = v; cached = cached } ∷ pairs_from (lba + 1) vs cached

-- what reads of count blocks from lba on give (SBC-3, READ commands)
abbrev pub nows : List Cell → ℕ → ℕ → List Block
nows cells lba count = map (λ c. c.now) (slice_range cells lba (lba + count))

-- the flaw of a kind (profile)
abbrev pub has_flaw : Which → Cell → Bool
has_flaw Read c = c.read_flaw
has_flaw Write c = c.write_flaw

-- the lowest place of count from lba on whose flag is set (profile)
abbrev pub first_set : List Bool → ℕ → ℕ → Option ℕ
first_set flags lba zero = None
first_set flags lba (suc count) = if slice_index_or flags lba false then Some lba else first_set flags (lba + 1) count

-- the lowest address of a range with a flaw of a kind (SBC-3, the INFORMATION field of sense data)
abbrev pub first_flaw : Which → List Cell → ℕ → ℕ → Option ℕ
first_flaw which cells lba count = first_set (map (has_flaw which) cells) lba count
