-- The tasks near one that comes: which are left out, and what is noted as tasks come and go.
use Rattle.std.proofs.Common.{◌≡◌, refl, sym, ◌∙◌, ap, subst, ℕ, ◌+◌, ◌<◌, Bool, true, false, List, [], ◌∷◌, ◌++◌, map, length, get_or, set, arith, ◌⊎◌, ⊎_elim}
use Rattle.std.specs.Prelude.{not, nat_lt, ◌==◌, ◌||◌, ◌&&◌, if◌then◌else◌}
use Rattle.std.specs.List.{AllByRecursion, remove}
use Rattle.std.specs.Int.{bit_at}
use Rattle.std.proofs.lemmas.Nat.Bits.{bit_at-lt, bit_at-zero}
use Rattle.satl_base.proofs.ListsLemmas.{All-both}
use Rattle.std.proofs.lemmas.Bool.{eqb-true, eqb-false, ltb-true, ltb-false, or_from}
use Rattle.std.proofs.lemmas.List.{get_or-set_same, get_or-set_other, get_or_default}
use Rattle.satl_line.specs.declared.entry.Entry.{Entry}
use Rattle.satl_line.specs.declared.outline.Outline.{Outline}
use Rattle.satl_line.specs.declared.regions.Regions.{Regions}
use Rattle.satl_line.specs.Blank.{no_entry}
use Rattle.satl_line.specs.Outlines.{IsOutline, is_active, may_meet, no_outline, outline_in}
use Rattle.satl_line.specs.Conflict.{Access, access_of, accesses_conflict, conflicts}
use Rattle.satl_line.specs.Tasks.{count_of}
use Rattle.satl_line.specs.Layout.{AreBarred, HaveMasks, IsTakenMask, SlotAccess, held_in, is_marked, mark_of, tasks_in, AreNoted, IsNoted, SetInMemory, FitTogether}
use Rattle.satl_line.specs.Regions.{OutlinesApart, AreNear, IsNear, HasAllNear, MayLeaveOut}
use Rattle.satl_line.proofs.OutlinesLemmas.{EachIs, apart_where_quiet, told_by_outlines}
use Rattle.satl_line.proofs.MasksLemmas.{bit}
use Rattle.satl_line.proofs.RegionsLemmas.{all_removed}
use Rattle.satl_line.proofs.AmongLemmas.{All-counted, all_counted}
use Rattle.satl_line.proofs.SlotsLemmas.{All-append, All-at, All-other, All-right, count-append, count_one, slots_of_tasks}

-- ---- the tasks that are left out

-- the outlines of tasks that lie apart say that these do not conflict
apart_by_outlines : (a b : Entry) (o p : Outline) → IsOutline a o → IsOutline b p → OutlinesApart o p → conflicts a b ≡ false
apart_by_outlines a b o p is is' apart =
    sym (told_by_outlines a b o p is is')
    ∙ ap (λ x. x || (may_meet o p && conflicts a b)) apart.alone
    ∙ ap (λ x. ((o.write || p.write) && x) && conflicts a b) apart.spans
    ∙ never (o.write || p.write) (conflicts a b)
  where
    never : (x y : Bool) → ((x && false) && y) ≡ false
    never true y = refl
    never false y = refl

-- the tasks that lie apart from one that comes, and where it neither writes nor stands alone, all others that do neither
pub are_left_out : (slots : List Entry) (outlines : List Outline) (order free : List ℕ) (taken active : ℕ) (regions : Regions) (e : Entry) (o : Outline) (these : ℕ) → EachIs slots outlines order → AreNoted is_active outlines order free active → AreNear regions outlines order → IsTakenMask order taken → AllByRecursion (λ q. q < 64) order →
    IsOutline e o → HasAllNear regions o taken these ⊎ ((is_active o ≡ false) × HasAllNear regions o active these) → AllByRecursion (MayLeaveOut e these) (tasks_in slots order)
are_left_out slots outlines order free taken active regions e o these each noted near held small own how =
    all order each noted.held near.each small (all_counted order)
  where
    here : (q : ℕ) → IsOutline (get_or slots q no_entry) (outline_in outlines q) → IsNoted is_active outlines active q → IsNear regions q (outline_in outlines q) → q < 64 → 0 < count_of q order → MayLeaveOut e these (held_in slots q)
    here q is noted near lt some none = ⊎_elim
        (λ leaves. apart_by_outlines (get_or slots q no_entry) e (outline_in outlines q) o is own (leaves q (outline_in outlines q) lt near (omega (arith, held q lt, some, bit_at-lt taken q)) none))
        (λ part. by_writes part.0 part.1 (is_active (outline_in outlines q)) refl)
        how
      where
        by_writes : is_active o ≡ false → HasAllNear regions o active these → (b : Bool) → is_active (outline_in outlines q) ≡ b → conflicts (get_or slots q no_entry) e ≡ false
        by_writes quiet leaves true e' = apart_by_outlines (get_or slots q no_entry) e (outline_in outlines q) o is own (leaves q (outline_in outlines q) lt near (noted ∙ ap bit e') none)
        by_writes quiet leaves false e' = apart_where_quiet (get_or slots q no_entry) e (outline_in outlines q) o is own e' quiet

    all : (qs : List ℕ) → EachIs slots outlines qs → AllByRecursion (IsNoted is_active outlines active) qs → AllByRecursion (λ q. IsNear regions q (outline_in outlines q)) qs → AllByRecursion (λ q. q < 64) qs → AllByRecursion (λ q. 0 < count_of q order) qs → AllByRecursion (MayLeaveOut e these) (tasks_in slots qs)
    all [] are noted near small some = tt
    all (q ∷ qs) are noted near small some = (here q are.0 noted.0 near.0 small.0 some.0, all qs are.1 noted.1 near.1 small.1 some.1)

-- ---- the tasks that may wait for one that goes

-- it bars none that it does not conflict with
not_barred : (marks : List SlotAccess) (a b : Access) (s : ℕ) → AllByRecursion (λ u. (u.slot == s) ≡ true → u.access ≡ a) marks → accesses_conflict a b ≡ false → is_marked marks b s ≡ false
not_barred [] a b s own apart = refl
not_barred (u ∷ us) a b s own apart =
    or_from ((u.slot == s) && accesses_conflict u.access b) (is_marked us b s) (here (u.slot == s) own.0) (not_barred us a b s own.1 apart)
  where
    here : (c : Bool) → (c ≡ true → u.access ≡ a) → (c && accesses_conflict u.access b) ≡ false
    here true same = ap (λ x. accesses_conflict x b) (same refl) ∙ apart
    here false same = refl

-- so their masks do not have its slot
have_not : (slots : List Entry) (masks : List ℕ) (s : ℕ) (P : ℕ → Type 0) (earlier : List SlotAccess) (order : List ℕ) → s < 64 → AllByRecursion (λ u. (u.slot == s) ≡ true → u.access ≡ access_of (get_or slots s no_entry)) earlier → HaveMasks earlier (map mark_of (tasks_in slots order)) masks →
    AllByRecursion (λ q. P q → conflicts (get_or slots s no_entry) (get_or slots q no_entry) ≡ false) order → AllByRecursion (λ q. P q → bit_at (get_or masks q 0) s ≡ 0) order
have_not slots masks s P earlier [] small own are apart = tt
have_not slots masks s P earlier (q ∷ qs) small own are apart = (
  λ p. are.0 s small ∙ ap bit (not_barred earlier (access_of (get_or slots s no_entry)) (access_of (get_or slots q no_entry)) s own (apart.0 p)),
  have_not slots masks s P (earlier ++ mark_of (held_in slots q) ∷ []) qs small
      (All-append (λ (u : SlotAccess). (u.slot == s) ≡ true → u.access ≡ access_of (get_or slots s no_entry)) earlier (mark_of (held_in slots q) ∷ []) own
      (λ e. ap (λ r. access_of (get_or slots r no_entry)) (eqb-true q s e), tt)) are.1 apart.1,
)

apart_turned : (a b : Outline) → OutlinesApart a b → OutlinesApart b a
apart_turned a b apart = record {
  alone = or_turned a.alone b.alone apart.alone;
  spans = and_turned (nat_lt b.span.last a.span.first) (nat_lt a.span.last b.span.first) apart.spans;
}
  where
    or_turned : (x y : Bool) → (x || y) ≡ false → (y || x) ≡ false
    or_turned false false h = refl
    or_turned false true h = absurd cc
    or_turned true y h = absurd cc

    and_turned : (x y : Bool) → (not x && not y) ≡ false → (not y && not x) ≡ false
    and_turned true true h = refl
    and_turned true false h = refl
    and_turned false true h = refl
    and_turned false false h = absurd cc

-- of the tasks that wait, only those beside it may have its slot in their masks
pub only_near_wait : (layout : SetInMemory) (regions : Regions) (place s barred these : ℕ) (seen : Outline) → FitTogether layout → AreNear regions layout.outlines layout.order → AreBarred layout.masks barred → place < length layout.order → s ≡ get_or layout.order place s →
    HasAllNear regions (get_or layout.outlines s seen) barred these → (q : ℕ) → q < 64 → bit_at these q ≡ 0 → bit_at (get_or layout.masks q 0) s ≡ 0
only_near_wait layout regions place s barred these seen h near waits within at leaves q lt none =
    (elim (get_or layout.masks q 0 == 0) as (λ b. (get_or layout.masks q 0 == 0) ≡ b → bit_at (get_or layout.masks q 0) s ≡ 0) [
      | true ↦ λ e. zero_has_none q (eqb-true (get_or layout.masks q 0) 0 e)
      | false ↦ λ e. (elim (nat_lt 0 (count_of q layout.order)) as (λ b. nat_lt 0 (count_of q layout.order) ≡ b → bit_at (get_or layout.masks q 0) s ≡ 0) [
        | true ↦ λ i. All-counted (λ r. LeftOut r → bit_at (get_or layout.masks r 0) s ≡ 0) q layout.order (ltb-true 0 (count_of q layout.order) i)
            (have_not layout.slots layout.masks s LeftOut [] layout.order small tt h.masked.full (all layout.order h.outlined.each near.each h.taken))
            (waits q lt ∙ ap (λ b. if b then 0 else 1) e, none)
        | false ↦ λ i. zero_has_none q (h.masked.empty q (ap (count_of q) (slots_of_tasks layout.slots layout.order) ∙ omega (arith, ltb-false 0 (count_of q layout.order) i)))
      ]) refl
    ]) refl
  where
    LeftOut : ℕ → Type 0
    LeftOut r = (bit_at barred r ≡ 1) × (bit_at these r ≡ 0)

    zero_has_none : (r : ℕ) → get_or layout.masks r 0 ≡ 0 → bit_at (get_or layout.masks r 0) s ≡ 0
    zero_has_none r is = ap (λ n. bit_at n s) is ∙ bit_at-zero s

    small : s < 64
    small = subst (λ r. r < 64) (sym at) (All-at (λ r. r < 64) layout.order place s within h.taken)

    own : IsOutline (get_or layout.slots s no_entry) (get_or layout.outlines s seen)
    own = subst (IsOutline (get_or layout.slots s no_entry)) (get_or_default layout.outlines s no_outline seen (omega (arith, small, h.outlined.room)))
        (subst (λ r. IsOutline (get_or layout.slots r no_entry) (outline_in layout.outlines r)) (sym at) (All-at (λ r. IsOutline (get_or layout.slots r no_entry) (outline_in layout.outlines r)) layout.order place s within h.outlined.each))

    all : (qs : List ℕ) → EachIs layout.slots layout.outlines qs → AllByRecursion (λ r. IsNear regions r (outline_in layout.outlines r)) qs → AllByRecursion (λ r. r < 64) qs
        → AllByRecursion (λ r. LeftOut r → conflicts (get_or layout.slots s no_entry) (get_or layout.slots r no_entry) ≡ false) qs
    all [] are near low = tt
    all (r ∷ rs) are near low = (
      λ left. apart_by_outlines (get_or layout.slots s no_entry) (get_or layout.slots r no_entry) (get_or layout.outlines s seen) (outline_in layout.outlines r) own are.0 (apart_turned (outline_in layout.outlines r) (get_or layout.outlines s seen) (leaves r (outline_in layout.outlines r) low.0 near.0 left.0 left.1)),
      all rs are.1 near.1 low.1,
    )

-- ---- what is near, as tasks come and go

-- a slot that is taken next is none of those that are taken
pub slot_free : (layout : SetInMemory) (left : List ℕ) (s : ℕ) → FitTogether layout → layout.free ≡ left ++ s ∷ [] → (s < length layout.outlines) × (count_of s layout.order ≡ 0)
slot_free layout left s sound is =
    let small = (All-right (λ q. q < 64) left (s ∷ []) (subst (AllByRecursion (λ q. q < 64)) is sound.small)).0 in
    (omega (arith, small, sound.outlined.room), omega (arith, sound.once s small, ap (count_of s) is, count-append s left (s ∷ []), count_one s))

-- no task is there
pub near_none : (regions : Regions) (outlines : List Outline) (order : List ℕ) → length regions.near ≡ 256 → order ≡ [] → AreNear regions outlines order
near_none regions outlines order room none = subst (AreNear regions outlines) (sym none) (record { room = room; each = tt })

-- the other tasks stay near as one comes
pub near_with : (old new : Regions) (outlines : List Outline) (order order' : List ℕ) (s : ℕ) (o : Outline) → s < length outlines → count_of s order ≡ 0 → order' ≡ order ++ s ∷ [] → length new.near ≡ 256 → IsNear new s o → ((q : ℕ) (p : Outline) → IsNear old q p → IsNear new q p) → AreNear old outlines order → AreNear new (set outlines s o) order'
near_with old new outlines order order' s o within none is room own others near =
    subst (AreNear new (set outlines s o)) (sym is) (record {
      room = room;
      each = All-append (λ q. IsNear new q (outline_in (set outlines s o) q)) order (s ∷ [])
          (All-other (λ q. IsNear old q (outline_in outlines q)) (λ q. IsNear new q (outline_in (set outlines s o) q)) s
          (λ q other is. subst (IsNear new q) (sym (get_or-set_other outlines s q o no_outline (eqb-false q s other))) (others q (outline_in outlines q) is))
          order none near.each)
          (subst (IsNear new s) (sym (get_or-set_same outlines s o no_outline within)) own, tt);
    })

-- a slot that is free is none of those that are taken
pub slot_gone : (order free free' : List ℕ) (s : ℕ) → free' ≡ free ++ s ∷ [] → AllByRecursion (λ q. q < 64) free' → ((q : ℕ) → q < 64 → count_of q order + count_of q free' ≡ 1) → count_of s order ≡ 0
slot_gone order free free' s freed small once =
    omega (arith, once s (All-right (λ q. q < 64) free (s ∷ []) (subst (AllByRecursion (λ q. q < 64)) freed small)).0, ap (count_of s) freed, count-append s free (s ∷ []), count_one s)

-- and as one leaves
pub near_without : (old new : Regions) (outlines : List Outline) (order order' : List ℕ) (place s : ℕ) → order' ≡ remove order place → count_of s order' ≡ 0 → AllByRecursion (λ q. q < 64) order' → length new.near ≡ 256 → ((q : ℕ) (p : Outline) → q < 64 → (q == s) ≡ false → IsNear old q p → IsNear new q p) → AreNear old outlines order → AreNear new outlines order'
near_without old new outlines order order' place s is none small room others near = record {
  room = room;
  each = All-other (λ q. (q < 64) × IsNear old q (outline_in outlines q)) (λ q. IsNear new q (outline_in outlines q)) s
      (λ q other both. others q (outline_in outlines q) both.0 other both.1)
      order' none (All-both (λ q. q < 64) (λ q. IsNear old q (outline_in outlines q)) order' small
      (subst (AllByRecursion (λ q. IsNear old q (outline_in outlines q))) (sym is) (all_removed (λ q. IsNear old q (outline_in outlines q)) order place near.each)));
}
