-- What a task that comes or goes does to masks.
use Rattle.std.proofs.Common.{◌≡◌, refl, sym, ◌∙◌, ap, subst, ℕ, ◌*◌, ◌%◌, ◌^◌, ◌<◌, Bool, true, false, List, [], ◌∷◌, ◌++◌, map, length, get_or, set, arith, append_assoc}
use Rattle.std.specs.Prelude.{not, ◌||◌, ◌&&◌, ◌==◌, if◌then◌else◌}
use Rattle.std.specs.Int.{bit_at, bit_not, w64}
use Rattle.std.specs.List.{list_any, AllByRecursion}
use Rattle.std.specs.Int.Bits.{and_zero_l}
use Rattle.std.proofs.Math.ListN.{get_or-map}
use Rattle.std.proofs.lemmas.Bool.{eq-eqb, eqb-true, eqb-false, false_from_ne_true, or_from, and_right, or_parts}
use Rattle.std.proofs.lemmas.List.{get_or-set_same, get_or-set_other, append-nil}
use Rattle.std.proofs.lemmas.Nat.{and_le_l}
use Rattle.std.proofs.lemmas.Nat.Bits.{bit_at_set_same, bit_at_set_other, bit_at_clear_same, bit_at_clear_other, same_from_bits_below, bit_at-zero}
use Rattle.satl_line.specs.Conflict.{Access, accesses_conflict}
use Rattle.satl_line.specs.Layout.{SlotAccess, is_marked, IsMask, HaveMasks, clear_bit, cleared, with_slot}

abbrev pub bit : Bool → ℕ
bit b = if b then 1 else 0

-- no task lies in this slot
abbrev pub HasNot : ℕ → List SlotAccess → Type 0
HasNot slot marks = AllByRecursion (λ u. (u.slot == slot) ≡ false) marks

pub not_marked : (marks : List SlotAccess) (s : Access) (q : ℕ) → HasNot q marks → is_marked marks s q ≡ false
not_marked [] s q h = refl
not_marked (m ∷ ms) s q h = rw h.0 (not_marked ms s q h.1)

pub HasNot-append : (slot : ℕ) (xs ys : List SlotAccess) → HasNot slot xs → HasNot slot ys → HasNot slot (xs ++ ys)
HasNot-append slot [] ys h k = k
HasNot-append slot (x ∷ xs) ys h k = (h.0, HasNot-append slot xs ys h.1 k)

-- a mark of another slot may be left out
pub marked_without : (front : List SlotAccess) (x : SlotAccess) (back : List SlotAccess) (s : Access) (q : ℕ) → (x.slot == q) ≡ false → is_marked (front ++ x ∷ back) s q ≡ is_marked (front ++ back) s q
marked_without [] x back s q other = rw other refl
marked_without (m ∷ front) x back s q other = ap (λ b. ((m.slot == q) && accesses_conflict m.access s) || b) (marked_without front x back s q other)

-- a slot is taken out of the mask as its task leaves
pub mask_without : (front : List SlotAccess) (x : SlotAccess) (back : List SlotAccess) (s : Access) (mask : ℕ) → x.slot < 64 → HasNot x.slot front → HasNot x.slot back → IsMask (front ++ x ∷ back) s mask → IsMask (front ++ back) s (clear_bit x.slot mask)
mask_without front x back s mask small in_front in_back h =
    λ q lt. (elim (x.slot == q) as (λ b. (x.slot == q) ≡ b → bit_at (clear_bit x.slot mask) q ≡ bit (is_marked (front ++ back) s q)) [
      | true ↦ λ e. subst (λ r. bit_at (clear_bit x.slot mask) r ≡ bit (is_marked (front ++ back) s r)) (eqb-true x.slot q e)
          (bit_at_clear_same w64 mask x.slot small ∙ ap bit (sym (not_marked (front ++ back) s x.slot (HasNot-append x.slot front back in_front in_back))))
      | false ↦ λ e. bit_at_clear_other w64 mask x.slot small q lt (λ same. eqb-false x.slot q e (sym same)) ∙ h q lt ∙ ap bit (marked_without front x back s q e)
    ]) refl

-- a slot that no task has may be taken out
pub mask_kept : (marks : List SlotAccess) (slot : ℕ) (s : Access) (mask : ℕ) → slot < 64 → HasNot slot marks → IsMask marks s mask → IsMask marks s (clear_bit slot mask)
mask_kept marks slot s mask small none h =
    λ q lt. (elim (slot == q) as (λ b. (slot == q) ≡ b → bit_at (clear_bit slot mask) q ≡ bit (is_marked marks s q)) [
      | true ↦ λ e. subst (λ r. bit_at (clear_bit slot mask) r ≡ bit (is_marked marks s r)) (eqb-true slot q e)
          (bit_at_clear_same w64 mask slot small ∙ ap bit (sym (not_marked marks s slot none)))
      | false ↦ λ e. bit_at_clear_other w64 mask slot small q lt (λ same. eqb-false slot q e (sym same)) ∙ h q lt
    ]) refl

-- ---- all masks

-- the mask of another slot, where one is taken out
pub get_or-cleared : (masks : List ℕ) (slot q : ℕ) → (q == slot) ≡ false → get_or (cleared masks slot) q 0 ≡ clear_bit slot (get_or masks q 0)
get_or-cleared masks slot q other =
    get_or-set_other (map (clear_bit slot) masks) slot q 0 0 (eqb-false q slot other)
    ∙ ap (get_or (map (clear_bit slot) masks) q) (sym (and_zero_l (bit_not w64 (1 * 2 ^ slot % 2 ^ 64))))
    ∙ get_or-map (clear_bit slot) masks q 0

pub are_kept : (earlier ms : List SlotAccess) (masks : List ℕ) (slot : ℕ) → slot < 64 → HasNot slot earlier → HasNot slot ms → HaveMasks earlier ms masks → HaveMasks earlier ms (cleared masks slot)
are_kept earlier [] masks slot small none not_here h = tt
are_kept earlier (m ∷ ms) masks slot small none not_here h = (
  subst (λ v. IsMask earlier m.access v) (sym (get_or-cleared masks slot m.slot not_here.0)) (mask_kept earlier slot m.access _ small none h.0),
  are_kept (earlier ++ m ∷ []) ms masks slot small (HasNot-append slot earlier (m ∷ []) none (not_here.0, tt)) not_here.1 h.1,
)

pub are_without : (front : List SlotAccess) (x : SlotAccess) (back ms : List SlotAccess) (masks : List ℕ) → x.slot < 64 → HasNot x.slot front → HasNot x.slot back → HasNot x.slot ms → HaveMasks (front ++ x ∷ back) ms masks → HaveMasks (front ++ back) ms (cleared masks x.slot)
are_without front x back [] masks small in_front in_back in_ms h = tt
are_without front x back (m ∷ ms) masks small in_front in_back in_ms h = (
  subst (λ v. IsMask (front ++ back) m.access v) (sym (get_or-cleared masks x.slot m.slot in_ms.0)) (mask_without front x back m.access _ small in_front in_back h.0),
  let further : HaveMasks (front ++ x ∷ (back ++ m ∷ [])) ms masks = subst (λ e. HaveMasks e ms masks) (append_assoc front (x ∷ back) (m ∷ [])) h.1 in
      subst (λ e. HaveMasks e ms (cleared masks x.slot)) (sym (append_assoc front back (m ∷ [])))
      (are_without front x (back ++ m ∷ []) ms masks small in_front (HasNot-append x.slot back (m ∷ []) in_back (in_ms.0, tt)) in_ms.1 further),
)

pub are_front : (earlier front back : List SlotAccess) (masks : List ℕ) → HaveMasks earlier (front ++ back) masks → HaveMasks earlier front masks
are_front earlier [] back masks h = tt
are_front earlier (m ∷ front) back masks h = (h.0, are_front (earlier ++ m ∷ []) front back masks h.1)

pub are_back : (earlier front back : List SlotAccess) (masks : List ℕ) → HaveMasks earlier (front ++ back) masks → HaveMasks (earlier ++ front) back masks
are_back earlier [] back masks h = subst (λ e. HaveMasks e back masks) (sym (append-nil earlier)) h
are_back earlier (m ∷ front) back masks h = subst (λ e. HaveMasks e back masks) (append_assoc earlier (m ∷ []) front) (are_back (earlier ++ m ∷ []) front back masks h.1)

pub are_joined : (earlier front back : List SlotAccess) (masks : List ℕ) → HaveMasks earlier front masks → HaveMasks (earlier ++ front) back masks → HaveMasks earlier (front ++ back) masks
are_joined earlier [] back masks h k = subst (λ e. HaveMasks e back masks) (append-nil earlier) k
are_joined earlier (m ∷ front) back masks h k = (h.0, are_joined (earlier ++ m ∷ []) front back masks h.1 (subst (λ e. HaveMasks e back masks) (sym (append_assoc earlier (m ∷ []) front)) k))

-- the masks as a task leaves
pub are_removed : (front : List SlotAccess) (x : SlotAccess) (back : List SlotAccess) (masks : List ℕ) → x.slot < 64 → HasNot x.slot front → HasNot x.slot back → HaveMasks [] (front ++ x ∷ back) masks → HaveMasks [] (front ++ back) (cleared masks x.slot)
are_removed front x back masks small in_front in_back h =
    let later : HaveMasks (front ++ x ∷ []) back masks = (are_back [] front (x ∷ back) masks h).1 in
    let behind : HaveMasks (front ++ []) back (cleared masks x.slot) = are_without front x [] back masks small in_front tt in_back later in
    are_joined [] front back (cleared masks x.slot) (are_kept [] front masks x.slot small tt in_front (are_front [] front (x ∷ back) masks h))
    (subst (λ e. HaveMasks e back (cleared masks x.slot)) (append-nil front) behind)

-- a mask is put where no task lies
pub are_put : (earlier ms : List SlotAccess) (masks : List ℕ) (slot mask : ℕ) → HasNot slot ms → HaveMasks earlier ms masks → HaveMasks earlier ms (set masks slot mask)
are_put earlier [] masks slot mask none h = tt
are_put earlier (m ∷ ms) masks slot mask none h = (
  subst (λ v. IsMask earlier m.access v) (sym (get_or-set_other masks slot m.slot mask 0 (eqb-false m.slot slot none.0))) h.0,
  are_put (earlier ++ m ∷ []) ms masks slot mask none.1 h.1,
)

-- the masks as a task comes
pub are_added : (marks : List SlotAccess) (m : SlotAccess) (masks : List ℕ) (mask : ℕ) → m.slot < length masks → HasNot m.slot marks → HaveMasks [] marks masks → IsMask marks m.access mask → HaveMasks [] (marks ++ m ∷ []) (set masks m.slot mask)
are_added marks m masks mask small none h is =
    are_joined [] marks (m ∷ []) (set masks m.slot mask) (are_put [] marks masks m.slot mask none h)
    (subst (λ v. IsMask marks m.access v) (sym (get_or-set_same masks m.slot mask 0 small)) is, tt)

-- ---- a mask that is 0

-- no mark at all
abbrev pub is_struck : List SlotAccess → Access → Bool
is_struck earlier s = list_any (λ u. accesses_conflict u.access s) earlier

pub unmarked : (earlier : List SlotAccess) (s : Access) → is_struck earlier s ≡ false → (q : ℕ) → is_marked earlier s q ≡ false
unmarked [] s h q = refl
unmarked (u ∷ us) s h q =
    or_from ((u.slot == q) && accesses_conflict u.access s) (is_marked us s q) (and_right (u.slot == q) (accesses_conflict u.access s) (or_parts (accesses_conflict u.access s) (is_struck us s) h).0) (unmarked us s (or_parts (accesses_conflict u.access s) (is_struck us s) h).1 q)

-- each task lies in one of the 64 slots
abbrev pub AreSmall : List SlotAccess → Type 0
AreSmall marks = AllByRecursion (λ u. u.slot < 64) marks

pub unstruck : (earlier : List SlotAccess) (s : Access) → AreSmall earlier → ((q : ℕ) → q < 64 → is_marked earlier s q ≡ false) → is_struck earlier s ≡ false
unstruck [] s small h = refl
unstruck (u ∷ us) s small h =
    or_from (accesses_conflict u.access s) (is_struck us s)
    (here (u.slot == u.slot) (accesses_conflict u.access s) (eq-eqb u.slot u.slot refl) (or_parts ((u.slot == u.slot) && accesses_conflict u.access s) (is_marked us s u.slot) (h u.slot small.0)).0)
    (unstruck us s small.1 (λ q lt. (or_parts ((u.slot == q) && accesses_conflict u.access s) (is_marked us s q) (h q lt)).1))
  where
    here : (c d : Bool) → c ≡ true → (c && d) ≡ false → d ≡ false
    here true d e k = k
    here false d e k = absurd cc

pub bit_is_zero : (b : Bool) → bit b ≡ 0 → b ≡ false
bit_is_zero true h = absurd (omega arith)
bit_is_zero false h = refl

-- the mask is 0 exactly where no earlier task conflicts
pub zero_mask : (earlier : List SlotAccess) (s : Access) (mask : ℕ) → AreSmall earlier → IsMask earlier s mask → mask < 2 ^ 64 → (mask == 0) ≡ not (is_struck earlier s)
zero_mask earlier s mask small h fits =
    (elim (is_struck earlier s) as (λ b. is_struck earlier s ≡ b → (mask == 0) ≡ not b) [
      | true ↦ λ e. false_from_ne_true (mask == 0) (λ z.
          let none : is_struck earlier s ≡ false = unstruck earlier s small (λ q lt. bit_is_zero (is_marked earlier s q) (sym (h q lt) ∙ ap (λ v. bit_at v q) (eqb-true mask 0 z) ∙ bit_at-zero q)) in
          cc)
      | false ↦ λ e. eq-eqb mask 0 (same_from_bits_below 64 mask 0 fits (omega arith) (λ q lt. h q lt ∙ ap bit (unmarked earlier s e q) ∙ sym (bit_at-zero q)))
    ]) refl

-- ---- a slot that is noted where it is to be

pub with_slot_here : (noted : Bool) (s number : ℕ) → s < 64 → bit_at number s ≡ 0 → bit_at (with_slot noted s number) s ≡ bit noted
with_slot_here true s number small vacant = bit_at_set_same w64 number s small
with_slot_here false s number small vacant = vacant

pub with_slot_other : (noted : Bool) (s number q : ℕ) → s < 64 → (q == s) ≡ false → bit_at (with_slot noted s number) q ≡ bit_at number q
with_slot_other true s number q small other = bit_at_set_other w64 number s small q (eqb-false q s other)
with_slot_other false s number q small other = refl

-- a mask that does not have the slot stays
pub clear_none : (slot mask : ℕ) → slot < 64 → mask < 2 ^ 64 → bit_at mask slot ≡ 0 → clear_bit slot mask ≡ mask
clear_none slot mask small fits none =
    same_from_bits_below 64 (clear_bit slot mask) mask (omega (arith, and_le_l mask (bit_not w64 (1 * 2 ^ slot % 2 ^ 64)), fits)) fits
    (λ q lt. (elim (q == slot) as (λ b. (q == slot) ≡ b → bit_at (clear_bit slot mask) q ≡ bit_at mask q) [
      | true ↦ λ e. subst (λ r. bit_at (clear_bit slot mask) r ≡ bit_at mask r) (sym (eqb-true q slot e)) (bit_at_clear_same w64 mask slot small ∙ sym none)
      | false ↦ λ e. bit_at_clear_other w64 mask slot small q lt (eqb-false q slot e)
    ]) refl)
