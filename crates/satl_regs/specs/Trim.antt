-- The payload of a trim: a block of 64 entries of 8 bytes, the lowest byte first (ACS-3 section 7, DATA SET MANAGEMENT).
use Rattle.std.specs.Prelude.{ℕ, ◌+◌, ◌-◌, ◌*◌, ◌^◌, ◌<◌, ◌≤◌, ◌==◌, List, [], ◌∷◌, ◌++◌, length, map, if◌then◌else◌}
use Rattle.std.specs.List.{filter, flat_map, range_with_len, AllByRecursion}
use Rattle.std.specs.Simd.{first_chunks}
use Rattle.byteorder.specs.Endian.{little_bytes, little_number}
use Rattle.satl_base.specs.Blocks.{is_used, zero_bytes}
use Rattle.satl_base.specs.Fields.{bits_of}
use Rattle.satl_base.specs.declared.block.Range.{Range}

-- An entry as a number: the LBA in bits 47:0, the count in bits 63:48.
abbrev pub entry_number : Range → ℕ
entry_number r = r.lba + r.count * 2 ^ 48

abbrev pub trim_entry : ℕ → Range
trim_entry number = record { lba = bits_of 47 0 number; count = bits_of 63 48 number }

-- A count has 16 bits, so a range of 65,536 blocks takes two entries.
abbrev pub split : Range → List Range
split r =
    if r.count == 65536 then record { lba = r.lba; count = 65535 } ∷ record { lba = r.lba + 65535; count = 1 } ∷ []
    else r ∷ []

abbrev pub entries : List Range → List Range
entries ranges = flat_map split ranges

-- The bytes of entries, one after the other.
abbrev pub payload : List Range → List ℕ
payload ranges = flat_map (λ r. little_bytes 8 (entry_number r)) ranges

-- A block that begins with these bytes; all others are 0.
abbrev pub padded_bytes : List ℕ → List ℕ
padded_bytes bytes = bytes ++ zero_bytes (512 - length bytes)

-- The block that trims these ranges.
abbrev pub trim_block : List Range → List ℕ
trim_block ranges = padded_bytes (payload (entries ranges))

-- The numbers of 8 bytes each that stand in a list of bytes, n of them.
unfoldable pub numbers : ℕ → List ℕ → List ℕ
numbers n bytes = map (λ entry. little_number 8 entry) (first_chunks 8 n bytes)

-- The ranges that a block trims: an entry with count 0 is unused.
unfoldable pub trimmed : List ℕ → List Range
trimmed block = filter is_used (map trim_entry (numbers 64 block))

-- A range that entries can name: 48 bits of LBA, and at most 65,536 blocks.
pub record IsTrimmable (r : Range) : Type 0 where
  pub lba : r.lba < 2 ^ 48
  pub count : r.count ≤ 65536
  pub within : r.lba + r.count ≤ 2 ^ 48

-- Ranges that one block of entries can name.
pub record IsTrimList (ranges : List Range) : Type 0 where
  pub each : AllByRecursion IsTrimmable ranges
  pub room : length (entries ranges) ≤ 64

-- A range that one entry can name.
abbrev pub FitsEntry : Range → Type 0
FitsEntry r = (r.lba < 2 ^ 48) × (r.count < 2 ^ 16)

-- The addresses of ranges, one range after the other.
abbrev pub addresses : List Range → List ℕ
addresses ranges = flat_map (λ r. range_with_len r.lba r.count) ranges
