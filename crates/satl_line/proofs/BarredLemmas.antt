-- The slots whose task waits for an earlier one, as masks come, change and go.
use Rattle.std.proofs.Common.{◌≡◌, refl, sym, ◌∙◌, ap, subst, ℕ, ◌*◌, ◌%◌, ◌<◌, ◌^◌, Bool, true, false, List, get_or, set, map, length, arith}
use Rattle.std.specs.Prelude.{◌==◌, not, if◌then◌else◌, replicate}
use Rattle.std.specs.Int.{bit_at, bit_not, w64}
use Rattle.std.specs.Int.Bits.{and_zero_l}
use Rattle.std.specs.List.{AllByRecursion}
use Rattle.std.proofs.lemmas.Bool.{eqb-true, eqb-false, false_from_ne_true}
use Rattle.std.proofs.lemmas.Grind.{same_number_lists}
use Rattle.std.proofs.lemmas.List.{get_or-set_same, get_or-set_other, length-map}
use Rattle.std.proofs.Math.ListN.{length-set}
use Rattle.std.proofs.lemmas.Nat.Bits.{bit_at-zero, bit_at_clear_same, bit_at_clear_other}
use Rattle.std.proofs.lemmas.Option.{get_or_from_slice_get, slice_get_within}
use Rattle.satl_base.proofs.ListsLemmas.{get-map}
use Rattle.satl_line.specs.declared.entry.Entry.{Entry}
use Rattle.satl_line.specs.Layout.{AreBarred, IsMasked, clear_bit, cleared, held_in, tasks_in, with_slot}
use Rattle.satl_line.specs.Tasks.{Held, IsBarredMask, slots_of}
use Rattle.satl_line.proofs.MasksLemmas.{bit, clear_none, get_or-cleared, with_slot_here, with_slot_other}
use Rattle.satl_line.proofs.SlotsLemmas.{All-at, eligible_is, get_or-replicate_same, slots_of_tasks}

-- no task waits where all masks are 0
pub barred_none : (masks : List ℕ) → masks ≡ replicate 64 0 → AreBarred masks 0
barred_none masks zeros = λ q lt.
    bit_at-zero q ∙ ap (λ n. if n == 0 then 0 else 1) (sym (ap (λ l. get_or l q 0) zeros ∙ get_or-replicate_same 64 q))

-- the mask of a slot whose mask was 0
pub barred_with : (masks : List ℕ) (s mask barred : ℕ) → s < length masks → s < 64 → get_or masks s 0 ≡ 0 → AreBarred masks barred → AreBarred (set masks s mask) (with_slot (not (mask == 0)) s barred)
barred_with masks s mask barred within small zero h = λ q lt.
    (elim (q == s) as (λ b. (q == s) ≡ b → bit_at (with_slot (not (mask == 0)) s barred) q ≡ (if get_or (set masks s mask) q 0 == 0 then 0 else 1)) [
      | true ↦ λ e. subst (λ r. bit_at (with_slot (not (mask == 0)) s barred) r ≡ (if get_or (set masks s mask) r 0 == 0 then 0 else 1)) (sym (eqb-true q s e))
          (with_slot_here (not (mask == 0)) s barred small (h s small ∙ ap (λ n. if n == 0 then 0 else 1) zero)
          ∙ turned (mask == 0) ∙ ap (λ n. if n == 0 then 0 else 1) (sym (get_or-set_same masks s mask 0 within)))
      | false ↦ λ e. with_slot_other (not (mask == 0)) s barred q small e ∙ h q lt ∙ ap (λ n. if n == 0 then 0 else 1) (sym (get_or-set_other masks s q mask 0 (eqb-false q s e)))
    ]) refl
  where
    turned : (b : Bool) → bit (not b) ≡ (if b then 0 else 1)
    turned true = refl
    turned false = refl

-- a slot that no other mask has goes
pub barred_apart : (masks masks' : List ℕ) (s barred barred' : ℕ) → s < length masks → s < 64 → masks' ≡ set masks s 0 → barred' ≡ clear_bit s barred → AreBarred masks barred → AreBarred masks' barred'
barred_apart masks masks' s barred barred' within small masks_are barred_is h =
    subst (λ l. AreBarred l barred') (sym masks_are) (subst (AreBarred (set masks s 0)) (sym barred_is) (λ q lt.
    (elim (q == s) as (λ b. (q == s) ≡ b → bit_at (clear_bit s barred) q ≡ (if get_or (set masks s 0) q 0 == 0 then 0 else 1)) [
      | true ↦ λ e. subst (λ r. bit_at (clear_bit s barred) r ≡ (if get_or (set masks s 0) r 0 == 0 then 0 else 1)) (sym (eqb-true q s e))
          (bit_at_clear_same w64 barred s small ∙ ap (λ n. if n == 0 then 0 else 1) (sym (get_or-set_same masks s 0 0 within)))
      | false ↦ λ e. bit_at_clear_other w64 barred s small q lt (eqb-false q s e) ∙ h q lt ∙ ap (λ n. if n == 0 then 0 else 1) (sym (get_or-set_other masks s q 0 0 (eqb-false q s e)))
    ]) refl))

-- ---- a slot goes out of the masks that may have it

-- masks of which some are still to be cleared, and the slots that are barred by them
pub record Clearing (initial masks : List ℕ) (s rest waiting : ℕ) : Type 0 where
  pub wide : length masks ≡ 64
  pub done : (q : ℕ) → q < 64 → bit_at rest q ≡ 0 → get_or masks q 0 ≡ get_or (cleared initial s) q 0
  pub left : (q : ℕ) → q < 64 → bit_at rest q ≡ 1 → clear_bit s (get_or masks q 0) ≡ get_or (cleared initial s) q 0
  pub barred : AreBarred masks waiting

clear_zero : (s : ℕ) → clear_bit s 0 ≡ 0
clear_zero s = and_zero_l (bit_not w64 (1 * 2 ^ s % 2 ^ 64))

-- the slot's own mask is 0, and the others that may have it are left
pub clearing_begins : (masks masks' : List ℕ) (s these barred barred' : ℕ) → length masks ≡ 64 → s < 64 → ((q : ℕ) → get_or masks q 0 < 2 ^ 64) → masks' ≡ set masks s 0 → barred' ≡ clear_bit s barred →
    ((q : ℕ) → q < 64 → bit_at these q ≡ 0 → bit_at (get_or masks q 0) s ≡ 0) → AreBarred masks barred → Clearing masks masks' s these barred'
clearing_begins masks masks' s these barred barred' wide small fits masks_are barred_is others h = record {
  wide = ap length masks_are ∙ length-set masks s 0 ∙ wide;
  done = λ q lt none. ap (λ l. get_or l q 0) masks_are ∙ (elim (q == s) as (λ b. (q == s) ≡ b → get_or (set masks s 0) q 0 ≡ get_or (cleared masks s) q 0) [
    | true ↦ λ e. subst (λ r. get_or (set masks s 0) r 0 ≡ get_or (cleared masks s) r 0) (sym (eqb-true q s e)) (own ∙ sym own_cleared)
    | false ↦ λ e. get_or-set_other masks s q 0 0 (eqb-false q s e) ∙ sym (clear_none s (get_or masks q 0) small (fits q) (others q lt none)) ∙ sym (get_or-cleared masks s q e)
  ]) refl;
  left = λ q lt one. ap (λ l. clear_bit s (get_or l q 0)) masks_are ∙ (elim (q == s) as (λ b. (q == s) ≡ b → clear_bit s (get_or (set masks s 0) q 0) ≡ get_or (cleared masks s) q 0) [
    | true ↦ λ e. subst (λ r. clear_bit s (get_or (set masks s 0) r 0) ≡ get_or (cleared masks s) r 0) (sym (eqb-true q s e)) (ap (clear_bit s) own ∙ clear_zero s ∙ sym own_cleared)
    | false ↦ λ e. ap (clear_bit s) (get_or-set_other masks s q 0 0 (eqb-false q s e)) ∙ sym (get_or-cleared masks s q e)
  ]) refl;
  barred = barred_apart masks masks' s barred barred' (omega (arith, small, wide)) small masks_are barred_is h;
}
  where
    own : get_or (set masks s 0) s 0 ≡ 0
    own = get_or-set_same masks s 0 0 (omega (arith, small, wide))

    own_cleared : get_or (cleared masks s) s 0 ≡ 0
    own_cleared = get_or-set_same (map (clear_bit s) masks) s 0 0 (omega (arith, small, wide, length-map masks (clear_bit s)))

-- one more mask is cleared
pub clearing_more : (initial masks masks' : List ℕ) (s rest barred barred' o mask : ℕ) → o < 64 → bit_at rest o ≡ 1 → mask ≡ clear_bit s (get_or masks o 0) → masks' ≡ set masks o mask → barred' ≡ (if mask == 0 then clear_bit o barred else barred) →
    Clearing initial masks s rest barred → Clearing initial masks' s (clear_bit o rest) barred'
clearing_more initial masks masks' s rest barred barred' o mask small one mask_is masks_are barred_is h = record {
  wide = ap length masks_are ∙ length-set masks o mask ∙ h.wide;
  done = λ q lt none. ap (λ l. get_or l q 0) masks_are ∙ (elim (q == o) as (λ b. (q == o) ≡ b → get_or (set masks o mask) q 0 ≡ get_or (cleared initial s) q 0) [
    | true ↦ λ e. subst (λ r. get_or (set masks o mask) r 0 ≡ get_or (cleared initial s) r 0) (sym (eqb-true q o e)) (here ∙ mask_is ∙ h.left o small one)
    | false ↦ λ e. get_or-set_other masks o q mask 0 (eqb-false q o e) ∙ h.done q lt (sym (bit_at_clear_other w64 rest o small q lt (eqb-false q o e)) ∙ none)
  ]) refl;
  left = λ q lt still. ap (λ l. clear_bit s (get_or l q 0)) masks_are ∙ (elim (q == o) as (λ b. (q == o) ≡ b → clear_bit s (get_or (set masks o mask) q 0) ≡ get_or (cleared initial s) q 0) [
    | true ↦ λ e. absurd (omega (arith, still, ap (bit_at (clear_bit o rest)) (eqb-true q o e), bit_at_clear_same w64 rest o small))
    | false ↦ λ e. ap (clear_bit s) (get_or-set_other masks o q mask 0 (eqb-false q o e)) ∙ h.left q lt (sym (bit_at_clear_other w64 rest o small q lt (eqb-false q o e)) ∙ still)
  ]) refl;
  barred = subst (λ l. AreBarred l barred') (sym masks_are) (subst (AreBarred (set masks o mask)) (sym barred_is) (λ q lt.
      (elim (q == o) as (λ b. (q == o) ≡ b → bit_at (if mask == 0 then clear_bit o barred else barred) q ≡ (if get_or (set masks o mask) q 0 == 0 then 0 else 1)) [
        | true ↦ λ e. subst (λ r. bit_at (if mask == 0 then clear_bit o barred else barred) r ≡ (if get_or (set masks o mask) r 0 == 0 then 0 else 1)) (sym (eqb-true q o e))
            (own (mask == 0) refl ∙ ap (λ n. if n == 0 then 0 else 1) (sym here))
        | false ↦ λ e. other q lt e (mask == 0) ∙ h.barred q lt ∙ ap (λ n. if n == 0 then 0 else 1) (sym (get_or-set_other masks o q mask 0 (eqb-false q o e)))
      ]) refl));
}
  where
    here : get_or (set masks o mask) o 0 ≡ mask
    here = get_or-set_same masks o mask 0 (omega (arith, small, h.wide))

    other : (q : ℕ) → q < 64 → (q == o) ≡ false → (b : Bool) → bit_at (if b then clear_bit o barred else barred) q ≡ bit_at barred q
    other q lt e true = bit_at_clear_other w64 barred o small q lt (eqb-false q o e)
    other q lt e false = refl

    -- a mask that is not 0 without the slot was not 0 with it
    own : (b : Bool) → (mask == 0) ≡ b → bit_at (if b then clear_bit o barred else barred) o ≡ (if b then 0 else 1)
    own true e = bit_at_clear_same w64 barred o small
    own false e = h.barred o small ∙ ap (λ b. if b then 0 else 1) (false_from_ne_true (get_or masks o 0 == 0) (λ z.
        let zero : mask ≡ 0 = mask_is ∙ ap (clear_bit s) (eqb-true (get_or masks o 0) 0 z) ∙ clear_zero s in
        eqb-false mask 0 e zero))

-- no mask is left
pub clearing_ends : (initial masks : List ℕ) (s rest barred : ℕ) → length initial ≡ 64 → rest ≡ 0 → Clearing initial masks s rest barred → masks ≡ cleared initial s
clearing_ends initial masks s rest barred wide none h =
    same_number_lists masks (cleared initial s) (h.wide ∙ sym (length-set (map (clear_bit s) initial) s 0 ∙ length-map initial (clear_bit s) ∙ wide))
    (λ k lt. h.done k (omega (arith, lt, h.wide)) (ap (λ n. bit_at n k) none ∙ bit_at-zero k))

-- the slots that wait are those of the tasks that are not eligible
pub barred_mask : (slots : List Entry) (order masks : List ℕ) (tasks : List Held) (barred : ℕ) → tasks_in slots order ≡ tasks → AllByRecursion (λ q. q < 64) order → IsMasked (tasks_in slots order) masks → ((q : ℕ) → get_or masks q 0 < 2 ^ 64) → AreBarred masks barred → IsBarredMask tasks barred
barred_mask slots order masks tasks barred is taken are fits h = λ place held at.
    let within : place < length tasks = slice_get_within tasks place held at in
    let there : place < length order = omega (arith, within, ap length is, length-map order (held_in slots)) in
    let slot_is : get_or order place 0 ≡ held.slot =
    ap (λ l. get_or l place 0) (sym (slots_of_tasks slots order) ∙ ap slots_of is) ∙ get_or_from_slice_get (slots_of tasks) place held.slot 0 (get-map (λ (x : Held). x.slot) tasks place held at) in
    h held.slot (subst (λ q. q < 64) slot_is (All-at (λ q. q < 64) order place 0 there taken))
    ∙ ap (λ q. if get_or masks q 0 == 0 then 0 else 1) (sym slot_is)
    ∙ ap (λ b. if b then 0 else 1) (eligible_is slots order order masks tasks place refl is taken are (fits (get_or order place 0)) within)
