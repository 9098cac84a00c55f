-- The first rule that is broken says what the definitions of a list say.
use Rattle.std.proofs.Common.{◌≡◌, refl, ap, ◌∙◌, cond, ℕ, zero, suc, ◌+◌, Bool, true, false, List, [], ◌∷◌, ◌++◌, Some, None}
use Rattle.std.specs.Prelude.{Option, Ok, Err, map, not, nat_lt, nat_le, ◌==◌, ◌&&◌}
use Rattle.std.specs.List.{find}
use Rattle.std.specs.Option.{option_map}
use Rattle.satl_base.specs.declared.block.Block.{Block}
use Rattle.satl_base.specs.declared.modes.Modes.{Modes}
use Rattle.satl_base.specs.Blocks.{byte_at}
use Rattle.satl_base.specs.Fields.{bits_of}
use Rattle.satl_cdb.specs.declared.command.Illegal.{Illegal}
use Rattle.satl_cdb.specs.Refusals.{list_length_error, invalid_list_field}
use Rattle.satl_cdb.specs.Unmap.{number_at}
use Rattle.satl_identify.specs.declared.identity.Identity.{Identity}
use Rattle.satl_mode.specs.declared.descriptor.Descriptor.{Descriptor}
use Rattle.satl_mode.specs.declared.page.ModePage.{ModePage}
use Rattle.satl_mode.specs.ModePages.{page_coded, row_of, size_of}
use Rattle.satl_mode.specs.Descriptors.{BlockField, block_fields, descriptor_size}
use Rattle.satl_mode.specs.Changes.{descriptor_length, first_page, header_size, on_page, page_at, whole_page}
use Rattle.satl_mode.specs.SelectList.{ListRule, agrees, bit_rules, descriptor_rules, descriptor_sized, field_rule, first_broken, front_rules, has_long_lba, page_rules, pages_rules, select_fault, difference}
use Rattle.satl_mode.proofs.Nested.{bits_fault, descriptor_fault, fields_fault, first_fault, front_fault, pages_fault, nested_fault}

-- the refusal of the first rule that is broken, one rule after the other
abbrev pub by_turns : List ListRule → Option Illegal
by_turns [] = None
by_turns (rule ∷ rules) = cond rule.breaks (Some rule.refusal) (by_turns rules)

first_is : (rules : List ListRule) → first_broken rules ≡ by_turns rules
first_is [] = refl
first_is (rule ∷ rules) =
    elim rule.breaks as (λ t. option_map (λ (r : ListRule). r.refusal) (cond t (Some rule) (find (λ (r : ListRule). r.breaks) rules)) ≡ cond t (Some rule.refusal) (by_turns rules)) [
      | true ↦ refl
      | false ↦ first_is rules
    ]

-- of two lists of rules the first decides
pub joined_rules : (a b : List ListRule) → by_turns (a ++ b) ≡ first_fault (by_turns a) (by_turns b)
joined_rules [] b = refl
joined_rules (rule ∷ rules) b =
    elim rule.breaks as (λ t. cond t (Some rule.refusal) (by_turns (rules ++ b)) ≡ first_fault (cond t (Some rule.refusal) (by_turns rules)) (by_turns b)) [
      | true ↦ refl
      | false ↦ joined_rules rules b
    ]

fields_are : (fs : List BlockField) (list : List Block) (place : ℕ) → by_turns (map (field_rule list place) fs) ≡ fields_fault fs list place
fields_are [] list place = refl
fields_are (f ∷ fs) list place =
    ap (λ rest. cond (not (number_at (place + f.place) f.width list == 0) && not (number_at (place + f.place) f.width list == f.value)) (Some (invalid_list_field (place + f.place))) rest) (fields_are fs list place)

descriptor_is : (d : Option Descriptor) (capacity : ℕ) (list : List Block) (length : ℕ) (ten : Bool) → by_turns (descriptor_rules d capacity list length ten) ≡ descriptor_fault d capacity list length ten
descriptor_is None capacity list length ten = refl
descriptor_is (Some d) capacity list length ten =
    ap (λ rest. cond (nat_lt length (header_size ten + descriptor_size d)) (Some list_length_error) rest) (fields_are (block_fields d capacity) list (header_size ten))

front_is : (capacity : ℕ) (list : List Block) (length : ℕ) (ten : Bool) → by_turns (front_rules capacity list length ten) ≡ front_fault capacity list length ten
front_is capacity list length ten =
    ap (λ rest. cond (nat_lt length (header_size ten)) (Some list_length_error) rest) (descriptor_is (descriptor_sized (has_long_lba ten list) (descriptor_length ten list)) capacity list length ten)

module _ (i : Identity) (m : Modes) (list : List Block) where
  bits_are : (page : ModePage) (place at n : ℕ) → by_turns (bit_rules i m list page place at n) ≡ option_map invalid_list_field (difference i m list page place at n)
  unfolding difference bit_rules
  bits_are page place at zero = refl
  bits_are page place at (suc n) =
      elim (agrees i m list page place at) as (λ t. cond (not t) (Some (invalid_list_field (place + at))) (by_turns (bit_rules i m list page place (at + 1) n)) ≡ option_map invalid_list_field (cond t (difference i m list page place (at + 1) n) (Some (place + at)))) [
        | true ↦ bits_are page place (at + 1) n
        | false ↦ refl
      ]

  abbrev pub Follows : ℕ → ℕ → Type 0
  Follows n length = (place : ℕ) → by_turns (pages_rules i m list n length place) ≡ pages_fault i m list n length place

  page_is : (o : Option ModePage) (n length place : ℕ) → Follows n length
      → by_turns (page_rules i m list o length place (λ next. pages_rules i m list n length next))
      ≡ on_page (whole_page o list length place) (λ page. first_fault (bits_fault i m list page place) (pages_fault i m list n length (place + size_of page))) (λ refusal. Some refusal)
  page_is None n length place later = refl
  page_is (Some page) n length place later =
      elim (not (byte_at list (place + 1) == (row_of page).length)) as (λ t.
      cond t (Some (invalid_list_field (place + 1))) (cond (nat_lt length (place + size_of page)) (Some list_length_error) (by_turns (bit_rules i m list page place 2 (row_of page).length ++ pages_rules i m list n length (place + size_of page))))
      ≡ on_page (cond t (Err (invalid_list_field (place + 1))) (cond (nat_lt length (place + size_of page)) (Err list_length_error) (Ok page))) (λ p. first_fault (bits_fault i m list p place) (pages_fault i m list n length (place + size_of p))) (λ refusal. Some refusal)) [
        | true ↦ refl
        | false ↦ elim (nat_lt length (place + size_of page)) as (λ t.
            cond t (Some list_length_error) (by_turns (bit_rules i m list page place 2 (row_of page).length ++ pages_rules i m list n length (place + size_of page)))
            ≡ on_page (cond t (Err list_length_error) (Ok page)) (λ p. first_fault (bits_fault i m list p place) (pages_fault i m list n length (place + size_of p))) (λ refusal. Some refusal)) [
              | true ↦ refl
              | false ↦
                  joined_rules (bit_rules i m list page place 2 (row_of page).length) (pages_rules i m list n length (place + size_of page))
                  ∙ ap (λ x. first_fault x (by_turns (pages_rules i m list n length (place + size_of page)))) (bits_are page place 2 (row_of page).length)
                  ∙ ap (first_fault (bits_fault i m list page place)) (later (place + size_of page))
            ]
      ]

  pages_by_turns : (n length : ℕ) → Follows n length
  unfolding pages_fault pages_rules
  pages_by_turns zero length place = refl
  pages_by_turns (suc n) length place =
      elim (nat_le length place) as (λ past.
      by_turns (cond past [] (record { breaks = nat_lt length (place + 2); refusal = list_length_error } ∷ page_rules i m list (page_coded (bits_of 6 0 (byte_at list place))) length place (λ next. pages_rules i m list n length next)))
      ≡ cond past None (on_page (page_at list length place) (λ page. first_fault (bits_fault i m list page place) (pages_fault i m list n length (place + size_of page))) (λ refusal. Some refusal))) [
        | true ↦ refl
        | false ↦ elim (nat_lt length (place + 2)) as (λ t.
            cond t (Some list_length_error) (by_turns (page_rules i m list (page_coded (bits_of 6 0 (byte_at list place))) length place (λ next. pages_rules i m list n length next)))
            ≡ on_page (cond t (Err list_length_error) (whole_page (page_coded (bits_of 6 0 (byte_at list place))) list length place)) (λ page. first_fault (bits_fault i m list page place) (pages_fault i m list n length (place + size_of page))) (λ refusal. Some refusal)) [
              | true ↦ refl
              | false ↦ page_is (page_coded (bits_of 6 0 (byte_at list place))) n length place (pages_by_turns n length)
            ]
      ]

  pub pages_are : (n length place : ℕ) → first_broken (pages_rules i m list n length place) ≡ pages_fault i m list n length place
  pages_are n length place = first_is (pages_rules i m list n length place) ∙ pages_by_turns n length place

  -- the first rule that is broken is the first fault of a list
  pub rules_say : (length : ℕ) (ten : Bool) → select_fault i m list length ten ≡ nested_fault i m list length ten
  rules_say length ten =
      first_is (cond (length == 0) [] (front_rules i.capacity list length ten ++ pages_rules i m list length length (first_page ten list)))
      ∙ elim (length == 0) as (λ t.
      by_turns (cond t [] (front_rules i.capacity list length ten ++ pages_rules i m list length length (first_page ten list)))
      ≡ cond t None (first_fault (front_fault i.capacity list length ten) (pages_fault i m list length length (first_page ten list)))) [
        | true ↦ refl
        | false ↦
            joined_rules (front_rules i.capacity list length ten) (pages_rules i m list length length (first_page ten list))
            ∙ ap (λ x. first_fault x (by_turns (pages_rules i m list length length (first_page ten list)))) (front_is i.capacity list length ten)
            ∙ ap (first_fault (front_fault i.capacity list length ten)) (pages_by_turns length length (first_page ten list))
      ]
