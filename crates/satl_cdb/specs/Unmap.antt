-- The parameter list of UNMAP (SBC-3 5.28.2, UNMAP parameter list; the limits, and that a list whose descriptors go past its
-- end is refused: profile).
use Rattle.std.specs.Prelude.{ℕ, zero, suc, ◌+◌, ◌*◌, ◌/◌, nat_lt, List, [], ◌∷◌, Option, Some, None, filter, if◌then◌else◌}
use Rattle.byteorder.specs.Endian.{big_number}
use Rattle.satl_base.specs.declared.block.Block.{Block}
use Rattle.satl_base.specs.declared.block.Range.{Range}
use Rattle.satl_base.specs.Blocks.{byte_at, is_used}
use Rattle.satl_base.specs.Limits.{most_covered, most_ranges}
use Rattle.satl_base.specs.Places.{places}
use Rattle.satl_cdb.specs.declared.command.Illegal.{Illegal}
use Rattle.satl_cdb.specs.Refusals.{list_length_error, invalid_list_field, list_out_of_range}

-- the number in n bytes of a list from a place on, the highest byte first
abbrev pub number_at : ℕ → ℕ → List Block → ℕ
number_at place n list = big_number n (places place n (byte_at list))

-- UNMAP BLOCK DESCRIPTOR DATA LENGTH, bytes 2 to 3
abbrev pub descriptors_length : List Block → ℕ
descriptors_length list = number_at 2 2 list

-- descriptor i, of 16 bytes from byte 8 + 16 i on: 8 bytes of address, 4 of count
unfoldable pub descriptor : List Block → ℕ → Range
descriptor list i = record { lba = number_at (8 + 16 * i) 8 list; count = number_at (16 + 16 * i) 4 list }

-- n descriptors from the i-th on
unfoldable pub descriptors_from : ℕ → ℕ → List Block → List Range
descriptors_from i zero list = []
descriptors_from i (suc n) list = descriptor list i ∷ descriptors_from (i + 1) n list

-- the whole descriptors; a part of one at the end is left out
abbrev pub descriptors : List Block → List Range
descriptors list = descriptors_from 0 (descriptors_length list / 16) list

-- the first fault of descriptors from the i-th on, where those before it have a sum of counts: a range that exceeds
-- the capacity, or more than 65,536 blocks in all
abbrev pub descriptor_fault : ℕ → ℕ → ℕ → List Range → Option Illegal
descriptor_fault capacity i sum [] = None
descriptor_fault capacity i sum (r ∷ rs) =
    if nat_lt capacity (r.lba + r.count) then Some list_out_of_range
    else if nat_lt most_covered (sum + r.count) then Some (invalid_list_field (16 + 16 * i))
    else descriptor_fault capacity (i + 1) (sum + r.count) rs

-- the first fault of a list of so many bytes: a block descriptor data length that exceeds them, more than 64
-- descriptors, or the first fault of a descriptor
abbrev pub list_fault : List Block → ℕ → ℕ → Option Illegal
list_fault list length capacity =
    if nat_lt length (descriptors_length list + 8) then Some list_length_error
    else if nat_lt most_ranges (descriptors_length list / 16) then Some (invalid_list_field 2)
    else descriptor_fault capacity 0 0 (descriptors list)

-- a descriptor without a block gives no range
abbrev pub ranges_of : List Block → List Range
ranges_of list = filter is_used (descriptors list)
