-- The faults of a MODE SELECT list one within the other, as the code finds them.
use Rattle.std.specs.Prelude.{ℕ, zero, suc, ◌+◌, ◌==◌, ◌&&◌, nat_lt, nat_le, not, Bool, List, [], ◌∷◌, Option, Some, None, if◌then◌else◌}
use Rattle.std.specs.Option.{option_map}
use Rattle.satl_base.specs.declared.block.Block.{Block}
use Rattle.satl_base.specs.declared.modes.Modes.{Modes}
use Rattle.satl_cdb.specs.declared.command.Illegal.{Illegal}
use Rattle.satl_cdb.specs.Refusals.{list_length_error, invalid_list_field}
use Rattle.satl_cdb.specs.Unmap.{number_at}
use Rattle.satl_identify.specs.declared.identity.Identity.{Identity}
use Rattle.satl_mode.specs.declared.descriptor.Descriptor.{Descriptor}
use Rattle.satl_mode.specs.declared.page.ModePage.{ModePage}
use Rattle.satl_mode.specs.ModePages.{row_of, size_of}
use Rattle.satl_mode.specs.Descriptors.{BlockField, block_fields, descriptor_size}
use Rattle.satl_mode.specs.Changes.{descriptor_length, first_page, header_size, on_page, page_at}
use Rattle.satl_mode.specs.SelectList.{descriptor_length_place, descriptor_sized, difference, has_long_lba}

-- the first of two faults
abbrev pub first_fault : Option Illegal → Option Illegal → Option Illegal
first_fault None later = later
first_fault (Some fault) later = Some fault

-- the first field of a descriptor at a place that is neither 0 nor what MODE SENSE shows
abbrev pub fields_fault : List BlockField → List Block → ℕ → Option Illegal
fields_fault [] list place = None
fields_fault (f ∷ fs) list place =
    if not (number_at (place + f.place) f.width list == 0) && not (number_at (place + f.place) f.width list == f.value)
    then Some (invalid_list_field (place + f.place))
    else fields_fault fs list place

-- the first fault of a descriptor: another length, not whole, or one of its fields
abbrev pub descriptor_fault : Option Descriptor → ℕ → List Block → ℕ → Bool → Option Illegal
descriptor_fault None capacity list length ten = Some (invalid_list_field (descriptor_length_place ten))
descriptor_fault (Some d) capacity list length ten =
    if nat_lt length (header_size ten + descriptor_size d) then Some list_length_error
    else fields_fault (block_fields d capacity) list (header_size ten)

-- the first fault before the pages: a header that is not whole, or one of the descriptor
abbrev pub front_fault : ℕ → List Block → ℕ → Bool → Option Illegal
front_fault capacity list length ten =
    if nat_lt length (header_size ten) then Some list_length_error
    else descriptor_fault (descriptor_sized (has_long_lba ten list) (descriptor_length ten list)) capacity list length ten

module _ (i : Identity) (m : Modes) (list : List Block) where
  -- the fault of a page with a byte that differs from the current page in a bit that can't change
  abbrev pub bits_fault : ModePage → ℕ → Option Illegal
  bits_fault page place = option_map invalid_list_field (difference i m list page place 2 (row_of page).length)

  -- the first fault of the pages from a place on, at most n, of a list of so many bytes
  unfoldable pub pages_fault : ℕ → ℕ → ℕ → Option Illegal
  pages_fault zero length place = None
  pages_fault (suc n) length place =
      if nat_le length place then None
      else
      on_page (page_at list length place)
      (λ page. first_fault (bits_fault page place) (pages_fault n length (place + size_of page)))
      (λ refusal. Some refusal)

  -- the first fault of a list of so many bytes; an empty one has none
  abbrev pub nested_fault : ℕ → Bool → Option Illegal
  nested_fault length ten =
      if length == 0 then None
      else first_fault (front_fault i.capacity list length ten) (pages_fault length length (first_page ten list))
