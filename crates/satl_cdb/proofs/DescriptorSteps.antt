-- Steps along the descriptors of an UNMAP list.
use Rattle.std.proofs.Common.{◌≡◌, ℕ, suc, ◌+◌, ◌-◌, ◌*◌, ◌<◌, ◌≤◌, true, false, cond, List, [], ◌∷◌, ◌++◌, Some, None, refl, sym, ap, ◌∙◌, arith}
use Rattle.std.specs.Prelude.{nat_lt, filter}
use Rattle.std.proofs.lemmas.List.{append-nil, append_assoc}
use Rattle.std.proofs.lemmas.Bool.{le-ltb, lt-ltb}
use Rattle.satl_base.specs.declared.block.Block.{Block}
use Rattle.satl_base.specs.declared.block.Range.{Range}
use Rattle.satl_cdb.specs.Refusals.{list_out_of_range, invalid_list_field}
use Rattle.satl_cdb.specs.Unmap.{descriptor, descriptors_from, descriptor_fault}
use Rattle.satl_base.specs.Blocks.{is_used}

-- a loop over the descriptors is at place i, with a sum of counts and the ranges taken: what is left decides, and gives the
-- other ranges
pub record IsAt (capacity : ℕ) (list : List Block) (count i sum : ℕ) (taken : List Range) : Type 0 where
  pub fault : descriptor_fault capacity i sum (descriptors_from i (count - i) list) ≡ descriptor_fault capacity 0 0 (descriptors_from 0 count list)
  pub ranges : taken ++ filter is_used (descriptors_from i (count - i) list) ≡ filter is_used (descriptors_from 0 count list)

filter-front : (ranges : List Range) (r : Range) (rs : List Range) → ranges ++ filter is_used (r ∷ rs) ≡ (ranges ++ filter is_used (r ∷ [])) ++ filter is_used rs
filter-front ranges r rs =
    elim (is_used r) as (λ b. ranges ++ cond b (r ∷ filter is_used rs) (filter is_used rs) ≡ (ranges ++ cond b (r ∷ []) []) ++ filter is_used rs) [
      | true ↦ sym (append_assoc ranges (r ∷ []) (filter is_used rs))
      | false ↦ ap (λ (x : List Range). x ++ filter is_used rs) (sym (append-nil ranges))
    ]

module _ (capacity : ℕ) (list : List Block) (count i sum : ℕ) (ranges : List Range) where
  rest : List Range
  rest = descriptors_from (i + 1) (count - (i + 1)) list

  head : i < count → descriptors_from i (count - i) list ≡ descriptor list i ∷ rest
  unfolding descriptors_from rest
  head lt = let k : count - i ≡ suc (count - (i + 1)) = omega arith in rw k refl

  pub goes_on : (r : Range) (new : List Range) → i < count → r ≡ descriptor list i → nat_lt capacity (r.lba + r.count) ≡ false → sum + r.count ≤ 65536 → new ≡ ranges ++ filter is_used (r ∷ [])
      → IsAt capacity list count i sum ranges → IsAt capacity list count (i + 1) (sum + r.count) new
  unfolding rest
  goes_on r new lt is inside few pushed at =
      let h : descriptors_from i (count - i) list ≡ r ∷ rest = head lt ∙ ap (λ (d : Range). d ∷ rest) (sym is) in
      let one : descriptor_fault capacity i sum (descriptors_from i (count - i) list) ≡ descriptor_fault capacity (i + 1) (sum + r.count) rest = rw (h, inside, le-ltb 65536 (sum + r.count) few) refl in
      let two : ranges ++ filter is_used (descriptors_from i (count - i) list) ≡ new ++ filter is_used rest = rw (h, pushed) (filter-front ranges r rest) in
      record { fault = sym one ∙ at.fault; ranges = sym two ∙ at.ranges }

  pub outside : (r : Range) → i < count → r ≡ descriptor list i → nat_lt capacity (r.lba + r.count) ≡ true → IsAt capacity list count i sum ranges
      → descriptor_fault capacity 0 0 (descriptors_from 0 count list) ≡ Some list_out_of_range
  outside r lt is breaks at =
      let h : descriptors_from i (count - i) list ≡ r ∷ rest = head lt ∙ ap (λ (d : Range). d ∷ rest) (sym is) in
      let one : descriptor_fault capacity i sum (descriptors_from i (count - i) list) ≡ Some list_out_of_range = rw (h, breaks) refl in
      sym at.fault ∙ one

  pub too_many : (r : Range) → i < count → r ≡ descriptor list i → nat_lt capacity (r.lba + r.count) ≡ false → 65536 < sum + r.count → IsAt capacity list count i sum ranges
      → descriptor_fault capacity 0 0 (descriptors_from 0 count list) ≡ Some (invalid_list_field (16 + 16 * i))
  too_many r lt is inside more at =
      let h : descriptors_from i (count - i) list ≡ r ∷ rest = head lt ∙ ap (λ (d : Range). d ∷ rest) (sym is) in
      let one : descriptor_fault capacity i sum (descriptors_from i (count - i) list) ≡ Some (invalid_list_field (16 + 16 * i)) = rw (h, inside, lt-ltb 65536 (sum + r.count) more) refl in
      sym at.fault ∙ one

  pub all_taken : count ≤ i → IsAt capacity list count i sum ranges
      → (descriptor_fault capacity 0 0 (descriptors_from 0 count list) ≡ None) × (ranges ≡ filter is_used (descriptors_from 0 count list))
  unfolding descriptors_from
  all_taken le at =
      let k : count - i ≡ 0 = omega arith in
      let none : descriptors_from i (count - i) list ≡ [] = rw k refl in
      let one : descriptor_fault capacity i sum (descriptors_from i (count - i) list) ≡ None = rw none refl in
      let two : ranges ++ filter is_used (descriptors_from i (count - i) list) ≡ ranges = rw none (append-nil ranges) in
      (sym at.fault ∙ one, sym two ∙ at.ranges)
