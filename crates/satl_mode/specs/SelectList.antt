-- Which parameter lists of MODE SELECT are refused: their rules, in the order in which they are judged (SPC-4, MODE SELECT
-- commands and 7.5; the refusals, and that the short block descriptor is taken also with LONGLBA: profile).
use Rattle.std.specs.Prelude.{ℕ, zero, suc, ◌+◌, ◌-◌, ◌==◌, ◌&&◌, nat_lt, nat_le, not, bit_and, Bool, true, List, [], ◌∷◌, ◌++◌, map, Option, Some, None, Result, Ok, Err, if◌then◌else◌}
use Rattle.std.specs.List.{find}
use Rattle.std.specs.Option.{option_map}
use Rattle.satl_base.specs.declared.block.Block.{Block}
use Rattle.satl_base.specs.declared.modes.Modes.{Modes}
use Rattle.satl_base.specs.Blocks.{byte_at}
use Rattle.satl_base.specs.Fields.{bits_of}
use Rattle.satl_cdb.specs.declared.command.Illegal.{Illegal}
use Rattle.satl_cdb.specs.Refusals.{list_length_error, invalid_list_field}
use Rattle.satl_cdb.specs.Unmap.{number_at}
use Rattle.satl_identify.specs.declared.identity.Identity.{Identity}
use Rattle.satl_mode.specs.declared.descriptor.Descriptor.{Descriptor}
use Rattle.satl_mode.specs.declared.descriptor.Descriptor.TheVariants.{Absent, Short, Long}
use Rattle.satl_mode.specs.declared.page.ModePage.{ModePage}
use Rattle.satl_mode.specs.ModePages.{changeable_values, current_values, page_byte, page_coded, row_of, shown_by, size_of}
use Rattle.satl_mode.specs.Descriptors.{BlockField, block_fields, descriptor_size}
use Rattle.satl_mode.specs.Changes.{applied, change_in, descriptor_length, first_page, header_size, list_bit}

-- a value, or a fault where there is one
abbrev pub unless_fault : {A : Type 0} → Option Illegal → A → Result A Illegal
unless_fault None value = Ok value
unless_fault (Some fault) value = Err fault

-- LONGLBA: byte 4 bit 0 of 10
abbrev pub has_long_lba : Bool → List Block → Bool
has_long_lba ten list = ten && list_bit list 4 0

-- the place of BLOCK DESCRIPTOR LENGTH
abbrev pub descriptor_length_place : Bool → ℕ
descriptor_length_place ten = if ten then 6 else 3

-- the descriptor of a length; the long one goes with LONGLBA alone
abbrev pub descriptor_sized : Bool → ℕ → Option Descriptor
descriptor_sized long size =
    if size == 0 then Some Absent else if size == 8 then Some Short else if long && (size == 16) then Some Long else None

-- a rule: whether it is broken, and the refusal then
pub record ListRule : Type 0 where
  pub breaks : Bool
  pub refusal : Illegal

abbrev pub refuses : Bool → Illegal → ListRule
refuses breaks refusal = record { breaks = breaks; refusal = refusal }

-- the refusal of the first rule that is broken
abbrev pub first_broken : List ListRule → Option Illegal
first_broken rules = option_map (λ rule. rule.refusal) (find (λ rule. rule.breaks) rules)

-- a field of a descriptor at a place is 0 or what MODE SENSE shows
abbrev pub field_rule : List Block → ℕ → BlockField → ListRule
field_rule list place f =
    refuses (not (number_at (place + f.place) f.width list == 0) && not (number_at (place + f.place) f.width list == f.value))
    (invalid_list_field (place + f.place))

-- of the block descriptor: its length, whole, and each of its fields
abbrev pub descriptor_rules : Option Descriptor → ℕ → List Block → ℕ → Bool → List ListRule
descriptor_rules None capacity list length ten = refuses true (invalid_list_field (descriptor_length_place ten)) ∷ []
descriptor_rules (Some d) capacity list length ten =
    refuses (nat_lt length (header_size ten + descriptor_size d)) list_length_error
    ∷ map (field_rule list (header_size ten)) (block_fields d capacity)

-- of what stands before the pages: the header is whole, and the rules of the block descriptor
abbrev pub front_rules : ℕ → List Block → ℕ → Bool → List ListRule
front_rules capacity list length ten =
    refuses (nat_lt length (header_size ten)) list_length_error
    ∷ descriptor_rules (descriptor_sized (has_long_lba ten list) (descriptor_length ten list)) capacity list length ten

-- two bytes are the same but for some bits
abbrev pub same_but_for : ℕ → ℕ → ℕ → Bool
same_but_for bits a b = bit_and a (255 - bits) == bit_and b (255 - bits)

module _ (i : Identity) (m : Modes) (list : List Block) where
  -- the byte of a page at a place agrees with the current page in each bit that can't change
  abbrev pub agrees : ModePage → ℕ → ℕ → Bool
  agrees page place at =
      same_but_for (page_byte page (shown_by changeable_values i m) at) (byte_at list (place + at))
      (page_byte page (shown_by current_values i m) at)

  -- the place of the first byte, of n from the byte at on, that does not
  unfoldable pub difference : ModePage → ℕ → ℕ → ℕ → Option ℕ
  difference page place at zero = None
  difference page place at (suc n) = if agrees page place at then difference page place (at + 1) n else Some (place + at)

  -- of n bytes of a page from a byte on: each bit that can't change is that of the current page
  unfoldable pub bit_rules : ModePage → ℕ → ℕ → ℕ → List ListRule
  bit_rules page place at zero = []
  bit_rules page place at (suc n) = refuses (not (agrees page place at)) (invalid_list_field (place + at))
      ∷ bit_rules page place (at + 1) n

  -- of a page that there is, or not, at a place: PAGE CODE, PAGE LENGTH, whole, its bits, and then the rules that follow
  abbrev pub page_rules : Option ModePage → ℕ → ℕ → (ℕ → List ListRule) → List ListRule
  page_rules None length place later = refuses true (invalid_list_field place) ∷ []
  page_rules (Some page) length place later =
      refuses (not (byte_at list (place + 1) == (row_of page).length)) (invalid_list_field (place + 1))
      ∷ refuses (nat_lt length (place + size_of page)) list_length_error
      ∷ (bit_rules page place 2 (row_of page).length ++ later (place + size_of page))

  -- of the pages from a place on, at most n, of a list of so many bytes; bit 7 of PAGE CODE is PS
  unfoldable pub pages_rules : ℕ → ℕ → ℕ → List ListRule
  pages_rules zero length place = []
  pages_rules (suc n) length place =
      if nat_le length place then []
      else refuses (nat_lt length (place + 2)) list_length_error
      ∷ page_rules (page_coded (bits_of 6 0 (byte_at list place))) length place (λ next. pages_rules n length next)

  -- of a list of so many bytes; an empty one has none
  abbrev pub select_rules : ℕ → Bool → List ListRule
  select_rules length ten =
      if length == 0 then [] else front_rules i.capacity list length ten ++ pages_rules length length (first_page ten list)

  -- the refusal of the first rule of a list that is broken
  abbrev pub select_fault : ℕ → Bool → Option Illegal
  select_fault length ten = first_broken (select_rules length ten)

  -- the modes with what the list sets, or the refusal of its first fault
  unfoldable pub select_says : ℕ → Bool → Result Modes Illegal
  select_says length ten = unless_fault (select_fault length ten) (applied m (change_in list length ten))
