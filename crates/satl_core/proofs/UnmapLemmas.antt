-- The list of an UNMAP: what it names can be trimmed, and it says the same where the pages behind it are cut off.
use Rattle.std.proofs.Common.{◌≡◌, refl, sym, ap, subst, ◌∙◌, arith, cond, inl, inr, ℕ, zero, suc, ◌+◌, ◌*◌, ◌/◌, ◌^◌, ◌<◌, ◌≤◌, true, false, List, [], ◌∷◌, ◌++◌, length, Some, None}
use Rattle.std.specs.Prelude.{not, nat_lt, ◌==◌}
use Rattle.std.specs.List.{AllByRecursion, filter}
use Rattle.std.proofs.lemmas.Bool.{cases_lt, eqb-false, eqb-true, ltb-false}
use Rattle.std.proofs.lemmas.List.{append-nil, length-append}
use Rattle.std.proofs.lemmas.List.Concat.{flat_map-cons}
use Rattle.satl_core.proofs.HeldLemmas.{filter_fewer}
use Rattle.satl_base.proofs.ListsLemmas.{All-filter}
use Rattle.satl_base.specs.declared.block.Block.{Block}
use Rattle.satl_base.specs.declared.block.Range.{Range}
use Rattle.satl_cdb.specs.Refusals.{invalid_list_field, list_length_error, list_out_of_range}
use Rattle.satl_cdb.specs.Unmap.{descriptor, descriptor_fault, descriptors, descriptors_from, descriptors_length, list_fault, ranges_of}
use Rattle.satl_base.specs.Blocks.{is_used}
use Rattle.satl_identify.specs.declared.identity.Identity.{Identity}
use Rattle.satl_identify.specs.Refusals.{IsIdentity}
use Rattle.satl_identify.proofs.Judging.{capacity_bounds}
use Rattle.satl_regs.specs.Trim.{IsTrimList, IsTrimmable, addresses, entries, split, trim_block, trimmed}
use Rattle.satl_regs.specs.Effects.{payload_ranges}
use Rattle.satl_regs.proofs.Addresses.{addresses-entries}
use Rattle.satl_regs.proofs.Trims.{block_back, entries_fit}
use Rattle.satl_line.specs.Ranged.RangedTask.{ranged_trim}
use Rattle.satl_flight.specs.Flown.{RangedFits}
use Rattle.satl_core.specs.Layer.{AreTrimmed}
use Rattle.satl_asks.specs.Commands.{IsList}
use Rattle.satl_core.proofs.SelectLemmas.{Agree, number_same}

-- the blocks of ranges
abbrev total : List Range → ℕ
total [] = 0
total (r ∷ rs) = r.count + total rs

-- ranges within a capacity, of at most 65,536 blocks with those before them
record AreSound (capacity sum : ℕ) (rs : List Range) : Type 0 where
  within : AllByRecursion (λ (r : Range). r.lba + r.count ≤ capacity) rs
  few : sum + total rs ≤ 65536

sound_by : (capacity i sum : ℕ) (rs : List Range) → sum ≤ 65536 → descriptor_fault capacity i sum rs ≡ None → AreSound capacity sum rs
sound_by capacity i sum [] few none = record { within = tt; few = omega (arith, few) }
sound_by capacity i sum (r ∷ rs) few none =
    (elim (nat_lt capacity (r.lba + r.count)) as (λ b. nat_lt capacity (r.lba + r.count) ≡ b → cond b (Some list_out_of_range) (cond (nat_lt 65536 (sum + r.count)) (Some (invalid_list_field (16 + 16 * i))) (descriptor_fault capacity (i + 1) (sum + r.count) rs)) ≡ None → AreSound capacity sum (r ∷ rs)) [
      | true ↦ λ is e. absurd cc
      | false ↦ λ is e. (elim (nat_lt 65536 (sum + r.count)) as (λ b. nat_lt 65536 (sum + r.count) ≡ b → cond b (Some (invalid_list_field (16 + 16 * i))) (descriptor_fault capacity (i + 1) (sum + r.count) rs) ≡ None → AreSound capacity sum (r ∷ rs)) [
        | true ↦ λ more f. absurd cc
        | false ↦ λ fits f.
            let here = ltb-false capacity (r.lba + r.count) is in
            let most = ltb-false 65536 (sum + r.count) fits in
            let rest = sound_by capacity (i + 1) (sum + r.count) rs (omega (arith, most)) f in
            record { within = (omega (arith, here), rest.within); few = omega (arith, rest.few) }
      ]) refl e
    ]) refl none

-- ---- ranges without those of no block

used_total : (rs : List Range) → total (filter is_used rs) ≤ total rs
used_total [] = omega arith
used_total (r ∷ rs) = let rest = used_total rs in elim (r.count == 0) as (λ b. total (cond (not b) (r ∷ filter is_used rs) (filter is_used rs)) ≤ r.count + total rs) [ true ↦ omega (arith, rest) | false ↦ omega (arith, rest) ]

abbrev AreUsed : List Range → Type 0
AreUsed rs = AllByRecursion (λ (r : Range). 1 ≤ r.count) rs

are_used : (rs : List Range) → AreUsed (filter is_used rs)
are_used [] = tt
are_used (r ∷ rs) =
    (elim (r.count == 0) as (λ b. (r.count == 0) ≡ b → AreUsed (cond (not b) (r ∷ filter is_used rs) (filter is_used rs))) [
      | true ↦ λ is. are_used rs
      | false ↦ λ is. let some = eqb-false r.count 0 is in (omega (arith, some), are_used rs)
    ]) refl

-- ---- the entries that name them

split_few : (r : Range) → length (split r) ≤ 2
split_few r = elim (r.count == 65536) as (λ b. length (cond b (record { lba = r.lba; count = 65535 } ∷ record { lba = r.lba + 65535; count = 1 } ∷ []) (r ∷ [])) ≤ 2) [ true ↦ omega arith | false ↦ omega arith ]

split_one : (r : Range) → r.count < 65536 → length (split r) ≡ 1
split_one r few =
    (elim (r.count == 65536) as (λ b. (r.count == 65536) ≡ b → length (cond b (record { lba = r.lba; count = 65535 } ∷ record { lba = r.lba + 65535; count = 1 } ∷ []) (r ∷ [])) ≡ 1) [
      | true ↦ λ is. let all = eqb-true r.count 65536 is in absurd (omega (arith, all, few))
      | false ↦ λ is. refl
    ]) refl

entries_one : (rs : List Range) → total rs < 65536 → length (entries rs) ≡ length rs
entries_one [] few = refl
entries_one (r ∷ rs) few =
    let one = split_one r (omega (arith, few)) in
    let rest = entries_one rs (omega (arith, few)) in
    rw flat_map-cons (let both = length-append (split r) (entries rs) in omega (arith, one, rest, both))

entries_few : (rs : List Range) → AreUsed rs → total rs ≤ 65536 → length rs ≤ 64 → length (entries rs) ≤ 64
entries_few [] used few short = omega arith
entries_few (r ∷ rs) used few short =
    elim (cases_lt r.count 65536) [
      | inl less ↦
          let one = split_one r less in
          let rest = entries_one rs (omega (arith, few, used.0)) in
          rw flat_map-cons (let both = length-append (split r) (entries rs) in omega (arith, one, rest, both, short))
      | inr all ↦ rw (flat_map-cons, alone rs used.1 (omega (arith, few, all))) (let two = split_few r in let both = length-append (split r) [] in omega (arith, two, both))
    ]
  where
    alone : (rs : List Range) → AreUsed rs → total rs ≤ 0 → rs ≡ []
    alone [] used none = refl
    alone (r ∷ rs) used none = absurd (omega (arith, used.0, none))

trimmable : (capacity : ℕ) (rs : List Range) → capacity < 2 ^ 48 → AllByRecursion (λ (r : Range). r.lba + r.count ≤ capacity) rs → AreUsed rs → total rs ≤ 65536 → AllByRecursion IsTrimmable rs
trimmable capacity [] small within used few = tt
trimmable capacity (r ∷ rs) small within used few =
    (record { lba = omega (arith, small, within.0, used.0); count = omega (arith, few); within = omega (arith, small, within.0) }, trimmable capacity rs small within.1 used.1 (omega (arith, few)))

-- ---- a list without a fault

descriptors_count : (i n : ℕ) (list : List Block) → length (descriptors_from i n list) ≡ n
unfolding descriptors_from
descriptors_count i zero list = refl
descriptors_count i (suc n) list = ap suc (descriptors_count (i + 1) n list)

record IsSoundList (list : List Block) (size capacity : ℕ) : Type 0 where
  fits : descriptors_length list + 8 ≤ size
  few : descriptors_length list / 16 ≤ 64
  sound : descriptor_fault capacity 0 0 (descriptors list) ≡ None

list_sound : (list : List Block) (size capacity : ℕ) → list_fault list size capacity ≡ None → IsSoundList list size capacity
list_sound list size capacity none =
    (elim (nat_lt size (descriptors_length list + 8)) as (λ b. nat_lt size (descriptors_length list + 8) ≡ b → cond b (Some list_length_error) (cond (nat_lt 64 (descriptors_length list / 16)) (Some (invalid_list_field 2)) (descriptor_fault capacity 0 0 (descriptors list))) ≡ None → IsSoundList list size capacity) [
      | true ↦ λ is e. absurd cc
      | false ↦ λ is e. (elim (nat_lt 64 (descriptors_length list / 16)) as (λ b. nat_lt 64 (descriptors_length list / 16) ≡ b → cond b (Some (invalid_list_field 2)) (descriptor_fault capacity 0 0 (descriptors list)) ≡ None → IsSoundList list size capacity) [
        | true ↦ λ more f. absurd cc
        | false ↦ λ fits f. record { fits = ltb-false size (descriptors_length list + 8) is; few = ltb-false 64 (descriptors_length list / 16) fits; sound = f }
      ]) refl e
    ]) refl none

-- a drive with trim takes what a list without a fault names
pub list_trims : (identity : Identity) (list : List Block) (size : ℕ) → IsIdentity identity → identity.trim ≡ true → IsList list size identity.capacity → AreTrimmed identity (ranges_of list)
list_trims identity list size is has it =
    let whole = list_sound list size identity.capacity it.sound in
    let all = sound_by identity.capacity 0 0 (descriptors list) (omega arith) whole.sound in
    let within = All-filter (λ (r : Range). r.lba + r.count ≤ identity.capacity) is_used (descriptors list) all.within in
    let few : total (ranges_of list) ≤ 65536 = let less = used_total (descriptors list) in omega (arith, less, all.few) in
    let short : length (ranges_of list) ≤ 64 = let less = filter_fewer is_used (descriptors list) in let count = descriptors_count 0 (descriptors_length list / 16) list in omega (arith, less, count, whole.few) in
    record {
      has = has;
      list = record { each = trimmable identity.capacity (ranges_of list) (capacity_bounds identity is).1 within (are_used (descriptors list)) few; room = entries_few (ranges_of list) (are_used (descriptors list)) few short };
      within = within;
    }

-- one range of 1 to 65,536 blocks
pub range_trims : (identity : Identity) (r : Range) → IsIdentity identity → identity.trim ≡ true → r.count ≤ 65536 → 1 ≤ r.count → r.lba + r.count ≤ identity.capacity → AreTrimmed identity (r ∷ [])
range_trims identity r is has few some within = record {
  has = has;
  list = record { each = trimmable identity.capacity (r ∷ []) (capacity_bounds identity is).1 (within, tt) (some, tt) (omega (arith, few)); room = entries_few (r ∷ []) (some, tt) (omega (arith, few)) (omega arith) };
  within = (within, tt);
}

-- ---- two lists with the same first bytes

descriptors_same : (a b : List Block) (i n limit : ℕ) → Agree limit a b → 8 + 16 * (i + n) ≤ limit → descriptors_from i n a ≡ descriptors_from i n b
unfolding descriptors_from descriptor
descriptors_same a b i zero limit agree room = refl
descriptors_same a b i (suc n) limit agree room =
    rw (number_same (8 + 16 * i) 8 limit a b agree (omega (arith, room)), number_same (16 + 16 * i) 4 limit a b agree (omega (arith, room)), descriptors_same a b (i + 1) n limit agree (omega (arith, room))) refl

length_same : (a b : List Block) (size : ℕ) → Agree size a b → 8 ≤ size → descriptors_length a ≡ descriptors_length b
length_same a b size agree header = number_same 2 2 size a b agree (omega (arith, header))

all_same : (a b : List Block) (size : ℕ) → Agree size a b → 8 ≤ size → descriptors_length a + 8 ≤ size → descriptors a ≡ descriptors b
all_same a b size agree header fits =
    descriptors_same a b 0 (descriptors_length a / 16) size agree (omega (arith, fits)) ∙ ap (λ n. descriptors_from 0 (n / 16) b) (length_same a b size agree header)

pub list_same : (a b : List Block) (size capacity : ℕ) → Agree size a b → 8 ≤ size → list_fault a size capacity ≡ list_fault b size capacity
list_same a b size capacity agree header =
    (elim (nat_lt size (descriptors_length a + 8)) as (λ t. nat_lt size (descriptors_length a + 8) ≡ t → cond t (Some list_length_error) (cond (nat_lt 64 (descriptors_length a / 16)) (Some (invalid_list_field 2)) (descriptor_fault capacity 0 0 (descriptors a))) ≡ cond t (Some list_length_error) (cond (nat_lt 64 (descriptors_length b / 16)) (Some (invalid_list_field 2)) (descriptor_fault capacity 0 0 (descriptors b)))) [
      | true ↦ λ is. refl
      | false ↦ λ is. ap (λ n. cond (nat_lt 64 (n / 16)) (Some (invalid_list_field 2)) (descriptor_fault capacity 0 0 (descriptors a))) (length_same a b size agree header)
          ∙ ap (λ rs. cond (nat_lt 64 (descriptors_length b / 16)) (Some (invalid_list_field 2)) (descriptor_fault capacity 0 0 rs)) (all_same a b size agree header (ltb-false size (descriptors_length a + 8) is))
    ]) refl
    ∙ ap (λ n. cond (nat_lt size (n + 8)) (Some list_length_error) (cond (nat_lt 64 (descriptors_length b / 16)) (Some (invalid_list_field 2)) (descriptor_fault capacity 0 0 (descriptors b)))) (length_same a b size agree header)

pub ranges_same : (a b : List Block) (size capacity : ℕ) → Agree size a b → 8 ≤ size → list_fault a size capacity ≡ None → ranges_of a ≡ ranges_of b
ranges_same a b size capacity agree header none = ap (filter is_used) (all_same a b size agree header (list_sound a size capacity none).fits)

-- ---- the block of entries that names ranges

split_within : (capacity : ℕ) (r : Range) (rest : List Range) → r.lba + r.count ≤ capacity → AllByRecursion (λ (x : Range). x.lba + x.count ≤ capacity) rest → AllByRecursion (λ (x : Range). x.lba + x.count ≤ capacity) (split r ++ rest)
split_within capacity r rest within all =
    (elim (r.count == 65536) as (λ b. (r.count == 65536) ≡ b → AllByRecursion (λ (x : Range). x.lba + x.count ≤ capacity) (cond b (record { lba = r.lba; count = 65535 } ∷ record { lba = r.lba + 65535; count = 1 } ∷ []) (r ∷ []) ++ rest)) [
      | true ↦ λ is. let all_of = eqb-true r.count 65536 is in (omega (arith, within, all_of), (omega (arith, within, all_of), all))
      | false ↦ λ is. (within, all)
    ]) refl

entries_within : (capacity : ℕ) (rs : List Range) → AllByRecursion (λ (x : Range). x.lba + x.count ≤ capacity) rs → AllByRecursion (λ (x : Range). x.lba + x.count ≤ capacity) (entries rs)
entries_within capacity [] all = tt
entries_within capacity (r ∷ rs) all = rw flat_map-cons (split_within capacity r (entries rs) all.0 (entries_within capacity rs all.1))

-- what the block of entries names
payload_is : (ranges : List Range) → IsTrimList ranges → payload_ranges 1 (record { bytes = trim_block ranges } ∷ []) ≡ filter is_used (entries ranges)
payload_is ranges list = append-nil (trimmed (trim_block ranges)) ∙ block_back (entries ranges) (entries_fit ranges list.each) list.room

-- it fits a drive with these sectors, which queues trims
pub entries_suit : (identity : Identity) (ranges : List Range) (body : List Block) → AreTrimmed identity ranges → identity.queued_trim ≡ true → body ≡ record { bytes = trim_block ranges } ∷ [] → RangedFits identity.capacity identity.queued_trim body (ranged_trim ranges)
entries_suit identity ranges body trims queued is =
    let named = payload_is ranges trims.list in (
      queued,
      is,
      ap (λ b. addresses (payload_ranges 1 b)) is ∙ (ap addresses named ∙ addresses-entries ranges),
      subst (λ b. AllByRecursion (λ (x : Range). x.lba + x.count ≤ identity.capacity) (payload_ranges 1 b)) (sym is) (subst (λ rs. AllByRecursion (λ (x : Range). x.lba + x.count ≤ identity.capacity) rs) (sym named) (All-filter (λ (x : Range). x.lba + x.count ≤ identity.capacity) is_used (entries ranges) (entries_within identity.capacity ranges trims.within))),
    )
