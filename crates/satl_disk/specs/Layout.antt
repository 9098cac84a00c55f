-- How the modelled drive keeps its sectors: their blocks, the stable blocks of the dirty ones, in slots, and their flaws
-- (profile).
use Rattle.std.specs.Prelude.{◌≡◌, ℕ, zero, suc, ◌^◌, ◌<◌, ◌==◌, Bool, true, false, List, [], ◌∷◌, Option, Some, None, count_by, is_some, option_map, length, map, slice_index_or}
use Rattle.satl_base.specs.declared.block.Block.{Block}
use Rattle.satl_base.specs.declared.bench.Which.{Which}
use Rattle.satl_base.specs.declared.bench.Which.TheVariants.{Read, Write}
use Rattle.satl_base.specs.Blocks.{zero_block}
use Rattle.satl_disk.specs.declared.sectors.Flaws.{Flaws}
use Rattle.satl_disk.specs.Sectors.{Sector}
use Rattle.satl_disk.specs.Disk.{blank_sector}

-- the first n blocks of a list; behind its end they are zeros
abbrev pub front_blocks : ℕ → List Block → List Block
front_blocks zero bs = []
front_blocks (suc n) [] = zero_block ∷ front_blocks n []
front_blocks (suc n) (b ∷ bs) = b ∷ front_blocks n bs

-- the block at a place, zeros behind the end
abbrev pub block_at : List Block → ℕ → Block
block_at bs place = slice_index_or bs place zero_block

-- three lists of one length that are read side by side
abbrev pub zipped : {A B C D : Type 0} → (A → B → C → D) → List A → List B → List C → List D
zipped f [] ys zs = []
zipped f (x ∷ xs) [] zs = []
zipped f (x ∷ xs) (y ∷ ys) [] = []
zipped f (x ∷ xs) (y ∷ ys) (z ∷ zs) = f x y z ∷ zipped f xs ys zs

-- whether each place is marked: its round is this one
abbrev pub marked_in : ℕ → List ℕ → List Bool
marked_in round rounds = map (λ r. r == round) rounds

-- a sector's slot, where it was given one
abbrev pub slot_given : Bool → ℕ → Option ℕ
slot_given true slot = Some slot
slot_given false slot = None

-- the slot of the sector at a place, none behind the end
abbrev pub slot_at : List (Option ℕ) → ℕ → Option ℕ
slot_at slots place = slice_index_or slots place None

-- the slots of fewer than 2^32 sectors, taken in order from 0: no two sectors have one slot
pub record AreSlots (used : ℕ) (slots : List (Option ℕ)) : Type 0 where
  pub few : length slots < 2 ^ 32
  pub count : count_by is_some slots ≡ used
  pub below : (place k : ℕ) → slot_at slots place ≡ Some k → k < used
  pub apart : (place other k : ℕ) → slot_at slots place ≡ Some k → slot_at slots other ≡ Some k → other ≡ place

-- a dirty sector has a slot
abbrev pub HasSlot : Bool → Option ℕ → Type 0
HasSlot true None = ⊥
HasSlot true (Some k) = Unit {0}
HasSlot false slot = Unit {0}

-- the stable block of a sector by the blocks that are kept, whether it is dirty, and its slot
abbrev pub stable_of : List Block → Bool → Option ℕ → Option Block
stable_of kept false slot = None
stable_of kept true slot = option_map (block_at kept) slot

-- the stable block of the sector at a place, none behind the end
abbrev pub stable_at : List (Option Block) → ℕ → Option Block
stable_at stables place = slice_index_or stables place None

-- a sector by its block, its stable block and its flaws
abbrev pub sector_of : Block → Option Block → Flaws → Sector
sector_of b stable f = record { now = b; stable = stable; read_flaw = f.read; write_flaw = f.write }

-- the sector at a place, a blank one behind the end
abbrev pub sector_at : List Sector → ℕ → Sector
sector_at ss place = slice_index_or ss place blank_sector

-- no flaw
abbrev pub no_flaws : Flaws
no_flaws = record { read = false; write = false }

-- the flaws of a sector that was written
abbrev pub written_flaws : Flaws → Flaws
written_flaws f = record f { read = false }

-- the flaws of a sector that has one more of a kind
abbrev pub struck_flaws : Which → Flaws → Flaws
struck_flaws Read f = record f { read = true }
struck_flaws Write f = record f { write = true }

-- the flaw of a kind
abbrev pub is_flawed : Which → Flaws → Bool
is_flawed Read f = f.read
is_flawed Write f = f.write
