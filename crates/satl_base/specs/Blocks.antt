-- Blocks of 512 bytes, and the bytes of a list of them (profile).
use Rattle.std.specs.Prelude.{ℕ, ◌+◌, ◌/◌, ◌%◌, ◌≡◌, ◌==◌, ◌&&◌, not, nat_le, nat_lt, Bool, List, [], map, replicate, slice_index, get_or, take, length}
use Rattle.std.specs.List.{AllByRecursion, flat_map, list_all}
use Rattle.std.specs.Simd.{first_chunks}
use Rattle.satl_base.specs.declared.block.Block.{Block}
use Rattle.satl_base.specs.declared.block.Range.{Range}

-- a block has its 512 bytes, and each of many has (SBC-3 4.5; the size: profile)
abbrev pub IsWhole : Block → Type 0
IsWhole block = length block.bytes ≡ 512

abbrev pub AreWhole : List Block → Type 0
AreWhole blocks = AllByRecursion IsWhole blocks

-- n bytes of zero (profile)
abbrev pub zero_bytes : ℕ → List ℕ
zero_bytes n = replicate n 0

-- whether these bytes are zeros (profile)
abbrev pub is_zeros : List ℕ → Bool
is_zeros bytes = list_all (λ byte. byte == 0) bytes

-- 512 bytes of zero (profile)
abbrev pub zero_block : Block
zero_block = record { bytes = zero_bytes 512 }

-- the bytes of the blocks, one after another (profile)
abbrev pub bytes_of : List Block → List ℕ
bytes_of blocks = flat_map (λ b. b.bytes) blocks

-- n blocks of the bytes, 512 in each (profile)
abbrev pub blocks_from : ℕ → List ℕ → List Block
blocks_from n bytes = map (λ chunk. record { bytes = chunk }) (first_chunks 512 n bytes)

-- the first n bytes of the blocks (profile)
abbrev pub first_bytes : ℕ → List Block → List ℕ
first_bytes n blocks = take n (bytes_of blocks)

-- a range that has a block: an UNMAP block descriptor and a range entry of DATA SET MANAGEMENT may have none (SBC-3 5.28;
-- ACS-3 7.5)
abbrev pub is_used : Range → Bool
is_used range = not (range.count == 0)

-- so many blocks from an address on (SBC-3, LOGICAL BLOCK ADDRESS; ACS-3, LBA and COUNT)
abbrev pub over : ℕ → ℕ → Range
over lba count = record { lba = lba; count = count }

-- whether a place is one of so many from a first one on: a sector of a range (SBC-3, LOGICAL BLOCK ADDRESS and TRANSFER LENGTH)
abbrev pub lies_in : ℕ → ℕ → ℕ → Bool
lies_in first count x = nat_le first x && nat_lt x (first + count)

-- what stands past the last block (profile)
abbrev pub no_block : Block
no_block = record { bytes = [] }

-- the byte at a place of the blocks: byte 512 is the first of the second block (profile)
abbrev pub byte_at : List Block → ℕ → ℕ
byte_at blocks place = slice_index (get_or blocks (place / 512) no_block).bytes (place % 512)
