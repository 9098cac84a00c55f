-- The slots whose tasks are held against one that comes: those that are taken, and what is found in them.
use Rattle.std.proofs.Common.{◌≡◌, refl, sym, ◌∙◌, ap, subst, ℕ, ◌+◌, ◌*◌, ◌%◌, ◌^◌, ◌<◌, ◌≤◌, Bool, true, false, List, [], ◌∷◌, ◌++◌, map, get_or, arith}
use Rattle.std.specs.Prelude.{nat_lt, min, max, bit_and, bit_or, bit_xor, ◌==◌, ◌||◌, ◌&&◌, if◌then◌else◌}
use Rattle.std.specs.List.{AllByRecursion}
use Rattle.std.specs.Int.{bit_at, bit_not, w64}
use Rattle.std.proofs.lemmas.Nat.{and_le_l}
use Rattle.std.proofs.lemmas.Nat.Bits.{bit_at-lt, bit_at-zero, bit_at_and, bit_at_or, bit_at_xor, bit_at_clear_same, bit_at_clear_other, bit_at_set_same}
use Rattle.std.proofs.lemmas.Bool.{eqb-true, eqb-false, ltb-true, ltb-false, lt-ltb}
use Rattle.satl_base.proofs.ListsLemmas.{All-weaken}
use Rattle.satl_line.specs.declared.entry.Entry.{Entry}
use Rattle.satl_line.specs.declared.outline.Outline.{Outline}
use Rattle.satl_line.specs.Blank.{no_entry}
use Rattle.satl_line.specs.Outlines.{IsOutline, is_active, is_of_alone, outline_in}
use Rattle.satl_line.specs.Conflict.{Access, access_of, accesses_conflict, any_meet, conflicts}
use Rattle.satl_line.specs.Tasks.{Held, count_of, slots_of}
use Rattle.satl_line.specs.Layout.{IsMask, IsMaskAmong, IsTakenMask, AreNoted, IsNoted, clear_bit, held_in, is_marked, mark_of, tasks_in, with_slot}
use Rattle.satl_line.specs.Regions.{AllHaveTasks, MayLeaveOut}
use Rattle.satl_line.proofs.OutlinesLemmas.{EachIs}
use Rattle.satl_line.proofs.MasksLemmas.{bit, with_slot_other}
use Rattle.satl_line.proofs.SlotsLemmas.{All-right, count-append, count_of-first, count_one, count_other, slots_of_tasks}

-- ---- the slots that are taken

-- what holds of each of these numbers holds of one that is among them
pub All-counted : (P : ℕ → Type 0) (q : ℕ) (xs : List ℕ) → 0 < count_of q xs → AllByRecursion P xs → P q
All-counted P q [] some all = absurd (omega (arith, some))
All-counted P q (x ∷ xs) some all =
    (elim (x == q) as (λ b. (x == q) ≡ b → 0 < (if b then 1 else 0) + count_of q xs → P q) [
      | true ↦ λ e h. subst P (eqb-true x q e) all.0
      | false ↦ λ e h. All-counted P q xs (omega (arith, h)) all.1
    ]) refl some

-- each of these numbers is among them
pub all_counted : (xs : List ℕ) → AllByRecursion (λ q. 0 < count_of q xs) xs
all_counted [] = tt
all_counted (x ∷ xs) = (
  omega (arith, count_of-first x xs),
  All-weaken (λ q. 0 < count_of q xs) (λ q. 0 < count_of q (x ∷ xs)) (λ q some. omega (arith, some)) xs (all_counted xs),
)

-- a slot changes hands: it was free and is taken
pub taken_with : (order free order' free' : List ℕ) (s taken : ℕ) → AllByRecursion (λ q. q < 64) free → free ≡ free' ++ s ∷ [] → ((q : ℕ) → q < 64 → count_of q order + count_of q free ≡ 1) → ((q : ℕ) → q < 64 → count_of q order' + count_of q free' ≡ 1) → IsTakenMask order taken → IsTakenMask order' (with_slot true s taken)
taken_with order free order' free' s taken small_all is once once' h = λ q lt.
    let small = (All-right (λ q. q < 64) free' (s ∷ []) (subst (AllByRecursion (λ q. q < 64)) is small_all)).0 in
    let parts = ap (count_of q) is ∙ count-append q free' (s ∷ []) in
    (elim (q == s) as (λ b. (q == s) ≡ b → bit_at (with_slot true s taken) q ≡ count_of q order') [
      | true ↦ λ e. subst (λ r. bit_at (with_slot true s taken) r ≡ count_of r order') (sym (eqb-true q s e))
          (bit_at_set_same w64 taken s small ∙ omega (arith, once s small, once' s small, ap (count_of s) is, count-append s free' (s ∷ []), count_one s))
      | false ↦ λ e. with_slot_other true s taken q small e ∙ h q lt ∙ omega (arith, once q lt, once' q lt, parts, count_other q s e)
    ]) refl

-- or it was taken and is free
pub taken_without : (order free order' free' : List ℕ) (s taken : ℕ) → AllByRecursion (λ q. q < 64) free' → free' ≡ free ++ s ∷ [] → ((q : ℕ) → q < 64 → count_of q order + count_of q free ≡ 1) → ((q : ℕ) → q < 64 → count_of q order' + count_of q free' ≡ 1) → IsTakenMask order taken → IsTakenMask order' (clear_bit s taken)
taken_without order free order' free' s taken small_all is once once' h = λ q lt.
    let small = (All-right (λ q. q < 64) free (s ∷ []) (subst (AllByRecursion (λ q. q < 64)) is small_all)).0 in
    let parts = ap (count_of q) is ∙ count-append q free (s ∷ []) in
    (elim (q == s) as (λ b. (q == s) ≡ b → bit_at (clear_bit s taken) q ≡ count_of q order') [
      | true ↦ λ e. subst (λ r. bit_at (clear_bit s taken) r ≡ count_of r order') (sym (eqb-true q s e))
          (bit_at_clear_same w64 taken s small ∙ omega (arith, once' s small, ap (count_of s) is, count-append s free (s ∷ []), count_one s))
      | false ↦ λ e. bit_at_clear_other w64 taken s small q lt (eqb-false q s e) ∙ h q lt ∙ omega (arith, once q lt, once' q lt, parts, count_other q s e)
    ]) refl

-- no slot is taken
pub taken_none : (order : List ℕ) → order ≡ [] → IsTakenMask order 0
taken_none order none = λ q lt. bit_at-zero q ∙ ap (count_of q) (sym none)

-- ---- the slots that are looked at

-- among the slots that are taken are those whose task writes or stands alone
pub active_taken : (outlines : List Outline) (order free : List ℕ) (active q : ℕ) → count_of q order + count_of q free ≡ 1 → AreNoted is_active outlines order free active → bit_at active q ≤ count_of q order
active_taken outlines order free active q once noted =
    (elim (nat_lt 0 (count_of q free)) as (λ b. nat_lt 0 (count_of q free) ≡ b → bit_at active q ≤ count_of q order) [
      | true ↦ λ e. omega (arith, All-counted (λ q. bit_at active q ≡ 0) q free (ltb-true 0 (count_of q free) e) noted.vacant)
      | false ↦ λ e. omega (arith, ltb-false 0 (count_of q free) e, once, bit_at-lt active q)
    ]) refl

counts_are : (slots : List Entry) (order : List ℕ) (tasks : List Held) (q : ℕ) → tasks_in slots order ≡ tasks → count_of q order ≡ count_of q (slots_of tasks)
counts_are slots order tasks q is = ap (count_of q) (sym (slots_of_tasks slots order) ∙ ap slots_of is)

-- those of some slots of which each is taken
pub all_have_tasks : (slots : List Entry) (order : List ℕ) (tasks : List Held) (these some : ℕ) → tasks_in slots order ≡ tasks → ((q : ℕ) → bit_at these q ≤ bit_at some q) → ((q : ℕ) → q < 64 → bit_at some q ≤ count_of q order) → AllHaveTasks tasks these
all_have_tasks slots order tasks these some is among within = λ q lt.
    omega (arith, among q, within q lt, counts_are slots order tasks q is)

-- the outline in a slot that is looked at is that of the task there
pub outline_among : (slots : List Entry) (outlines : List Outline) (order : List ℕ) (tasks : List Held) (among q : ℕ) → tasks_in slots order ≡ tasks → AllHaveTasks tasks among → EachIs slots outlines order → q < 64 → bit_at among q ≡ 1 → IsOutline (get_or slots q no_entry) (outline_in outlines q)
outline_among slots outlines order tasks among q is held each lt one =
    All-counted (λ q. IsOutline (get_or slots q no_entry) (outline_in outlines q)) q order
    (omega (arith, held q lt, one, counts_are slots order tasks q is)) each

-- ---- what is found in them

-- of the slots that were looked at, those whose task conflicts are in the mask; the rest is left
pub record Looked (clash : ℕ → Bool) (among rest mask : ℕ) : Type 0 where
  pub left : (q : ℕ) → q < 64 → bit_at rest q ≤ bit_at among q
  pub found : (q : ℕ) → q < 64 → bit_at mask q + (if clash q then bit_at rest q else 0) ≡ (if clash q then bit_at among q else 0)

-- one more was looked at
pub looked_more : (clash : ℕ → Bool) (among rest mask mask' s : ℕ) (b : Bool) → s < 64 → bit_at rest s ≡ 1 → b ≡ clash s → mask' ≡ with_slot b s mask → Looked clash among rest mask → Looked clash among (clear_bit s rest) mask'
looked_more clash among rest mask mask' s b small one b_is mask_is h = subst (Looked clash among (clear_bit s rest)) (sym mask_is) (record {
  left = λ q lt. (elim (q == s) as (λ x. (q == s) ≡ x → bit_at (clear_bit s rest) q ≤ bit_at among q) [
    | true ↦ λ e. subst (λ r. bit_at (clear_bit s rest) r ≤ bit_at among r) (sym (eqb-true q s e)) (omega (arith, bit_at_clear_same w64 rest s small))
    | false ↦ λ e. omega (arith, bit_at_clear_other w64 rest s small q lt (eqb-false q s e), h.left q lt)
  ]) refl;
  found = λ q lt. (elim (q == s) as (λ x. (q == s) ≡ x → bit_at (with_slot b s mask) q + (if clash q then bit_at (clear_bit s rest) q else 0) ≡ (if clash q then bit_at among q else 0)) [
    | true ↦ λ e. subst (λ r. bit_at (with_slot b s mask) r + (if clash r then bit_at (clear_bit s rest) r else 0) ≡ (if clash r then bit_at among r else 0)) (sym (eqb-true q s e))
        (here b (clash s) b_is (h.found s small))
    | false ↦ λ e. ap (λ n. n + (if clash q then bit_at (clear_bit s rest) q else 0)) (with_slot_other b s mask q small e)
        ∙ ap (λ n. bit_at mask q + (if clash q then n else 0)) (bit_at_clear_other w64 rest s small q lt (eqb-false q s e)) ∙ h.found q lt
  ]) refl;
})
  where
    here : (b c : Bool) → b ≡ c → bit_at mask s + (if c then bit_at rest s else 0) ≡ (if c then bit_at among s else 0) → bit_at (with_slot b s mask) s + (if c then bit_at (clear_bit s rest) s else 0) ≡ (if c then bit_at among s else 0)
    here true true same is = omega (arith, is, one, bit_at_set_same w64 mask s small, bit_at_clear_same w64 rest s small, bit_at-lt among s)
    here false false same is = is
    here true false same is = absurd cc
    here false true same is = absurd cc

-- fewer are left
pub fewer_left : (rest s : ℕ) → s < 64 → bit_at rest s ≡ 1 → clear_bit s rest < rest
fewer_left rest s small one =
    omega (arith, and_le_l rest (bit_not w64 (1 * 2 ^ s % 2 ^ 64)), differ)
  where
    differ : clear_bit s rest ≡ rest → ⊥
    differ same = omega (arith, one, ap (λ n. bit_at n s) same, bit_at_clear_same w64 rest s small)

-- whether a slot is marked: a task lies in it and conflicts
marked_is : (slots : List Entry) (e : Entry) (q : ℕ) (order : List ℕ) → is_marked (map mark_of (tasks_in slots order)) (access_of e) q ≡ (nat_lt 0 (count_of q order) && conflicts (held_in slots q).entry e)
marked_is slots e q [] = refl
marked_is slots e q (p ∷ ps) =
    (elim (p == q) as (λ b. (p == q) ≡ b → ((b && conflicts (held_in slots p).entry e) || is_marked (map mark_of (tasks_in slots ps)) (access_of e) q) ≡ (nat_lt 0 ((if b then 1 else 0) + count_of q ps) && conflicts (held_in slots q).entry e)) [
      | true ↦ λ i. ap (λ r. conflicts (held_in slots r).entry e || is_marked (map mark_of (tasks_in slots ps)) (access_of e) q) (eqb-true p q i)
          ∙ ap (λ r. conflicts (held_in slots q).entry e || r) (marked_is slots e q ps)
          ∙ once (conflicts (held_in slots q).entry e) (nat_lt 0 (count_of q ps))
          ∙ ap (λ r. r && conflicts (held_in slots q).entry e) (sym (lt-ltb 0 (1 + count_of q ps) (omega arith)))
      | false ↦ λ i. marked_is slots e q ps ∙ ap (λ n. nat_lt 0 n && conflicts (held_in slots q).entry e) (omega arith)
    ]) refl
  where
    once : (c r : Bool) → (c || (r && c)) ≡ (true && c)
    once true r = refl
    once false true = refl
    once false false = refl

-- ---- tasks that stand alone

-- a task that stands alone conflicts with each that comes behind it
conflicts_behind : (a b : Access) → a.alone ≡ true → accesses_conflict a b ≡ true
unfolding accesses_conflict
conflicts_behind a b alone = ap (λ x. x || b.alone || ((a.write || b.write) && any_meet a.ranges b.ranges)) alone

-- and with each that came before it
conflicts_before : (a b : Access) → b.alone ≡ true → accesses_conflict a b ≡ true
unfolding accesses_conflict
conflicts_before a b alone = ap (λ y. a.alone || y || ((a.write || b.write) && any_meet a.ranges b.ranges)) alone ∙ either a.alone ((a.write || b.write) && any_meet a.ranges b.ranges)
  where
    either : (x m : Bool) → (x || true || m) ≡ true
    either true m = refl
    either false m = refl

-- so the mask of one that stands alone has them all
pub mask_of_alone : (slots : List Entry) (among : ℕ) (e : Entry) (o : Outline) → IsOutline e o → o.alone ≡ true → IsMaskAmong slots among e among
mask_of_alone slots among e o own alone = λ q lt.
    ap (λ c. if c then bit_at among q else 0) (sym (conflicts_before (access_of (held_in slots q).entry) (access_of e) (sym own.alone ∙ alone)))

-- and each other mask those that stand alone, beside what is found in the rest
pub mask_with_alone : (slots : List Entry) (outlines : List Outline) (order free : List ℕ) (tasks : List Held) (among alone mask : ℕ) (e : Entry) → tasks_in slots order ≡ tasks → AllHaveTasks tasks among → EachIs slots outlines order → AreNoted is_of_alone outlines order free alone →
    IsMaskAmong slots (bit_xor among (bit_and among alone)) e mask → IsMaskAmong slots among e (bit_or mask (bit_and among alone))
mask_with_alone slots outlines order free tasks among alone mask e is held each noted found = λ q lt.
    bit_at_or mask (bit_and among alone) q ∙ ap (λ n. max (bit_at mask q) n) (bit_at_and among alone q)
    ∙ parts q lt (conflicts (held_in slots q).entry e) refl
    (found q lt ∙ ap (λ n. if conflicts (held_in slots q).entry e then n else 0) (bit_at_xor among (bit_and among alone) q ∙ ap (λ n. (bit_at among q + n) % 2) (bit_at_and among alone q)))
  where
    clash : (q : ℕ) → q < 64 → bit_at among q ≡ 1 → bit_at alone q ≡ 1 → conflicts (held_in slots q).entry e ≡ true
    clash q lt one also =
        let some : 0 < count_of q order = omega (arith, held q lt, one, counts_are slots order tasks q is) in
        let outlined = All-counted (λ q. IsOutline (get_or slots q no_entry) (outline_in outlines q)) q order some each in
        let own = All-counted (IsNoted is_of_alone outlines alone) q order some noted.held in
        conflicts_behind (access_of (held_in slots q).entry) (access_of e) (sym outlined.alone ∙ is_one (outline_in outlines q).alone (sym own ∙ also))
      where
        is_one : (b : Bool) → ◌≡◌ {A = ℕ} (if b then 1 else 0) 1 → b ≡ true
        is_one true h = refl
        is_one false h = absurd (omega (arith, h))

    parts : (q : ℕ) → q < 64 → (c : Bool) → conflicts (held_in slots q).entry e ≡ c → bit_at mask q ≡ (if c then (bit_at among q + min (bit_at among q) (bit_at alone q)) % 2 else 0) →
        max (bit_at mask q) (min (bit_at among q) (bit_at alone q)) ≡ (if c then bit_at among q else 0)
    parts q lt true c_is here = omega (arith, here, bit_at-lt among q, bit_at-lt alone q)
    parts q lt false c_is here =
        (elim (nat_lt 1 (bit_at among q + bit_at alone q)) as (λ b. nat_lt 1 (bit_at among q + bit_at alone q) ≡ b → max (bit_at mask q) (min (bit_at among q) (bit_at alone q)) ≡ 0) [
          | true ↦ λ e.
              let both = ltb-true 1 (bit_at among q + bit_at alone q) e in
              let never : true ≡ false = sym (clash q lt (omega (arith, both, bit_at-lt among q, bit_at-lt alone q)) (omega (arith, both, bit_at-lt among q, bit_at-lt alone q))) ∙ c_is in
              cc
          | false ↦ λ e. omega (arith, here, ltb-false 1 (bit_at among q + bit_at alone q) e)
        ]) refl

-- the mask of what was found is that of a task that comes
pub mask_among : (slots : List Entry) (order : List ℕ) (tasks : List Held) (e : Entry) (among mask : ℕ) → tasks_in slots order ≡ tasks → AllHaveTasks tasks among → AllByRecursion (MayLeaveOut e among) tasks → IsMaskAmong slots among e mask → IsMask (map mark_of tasks) (access_of e) mask
mask_among slots order tasks e among mask is held left_out h =
    subst (λ l. IsMask (map mark_of l) (access_of e) mask) is (λ q lt.
    h q lt ∙ at q (conflicts (held_in slots q).entry e) refl (omega (arith, held q lt, counts_are slots order tasks q is))
    ∙ ap bit (sym (marked_is slots e q order)))
  where
    in_slots : (qs : List ℕ) → AllByRecursion (MayLeaveOut e among) (tasks_in slots qs) → AllByRecursion (λ q. MayLeaveOut e among (held_in slots q)) qs
    in_slots [] all = tt
    in_slots (q ∷ qs) all = (all.0, in_slots qs all.1)

    at : (q : ℕ) (c : Bool) → conflicts (held_in slots q).entry e ≡ c → bit_at among q ≤ count_of q order → (if c then bit_at among q else 0) ≡ bit (nat_lt 0 (count_of q order) && c)
    at q c c_is within =
        (elim (nat_lt 0 (count_of q order)) as (λ b. nat_lt 0 (count_of q order) ≡ b → (if c then bit_at among q else 0) ≡ bit (b && c)) [
          | true ↦ λ i. some c c_is (All-counted (λ q. MayLeaveOut e among (held_in slots q)) q order (ltb-true 0 (count_of q order) i) (in_slots order (subst (AllByRecursion (MayLeaveOut e among)) (sym is) left_out)))
          | false ↦ λ i. none c (ltb-false 0 (count_of q order) i)
        ]) refl
      where
        none : (c : Bool) → count_of q order ≤ 0 → (if c then bit_at among q else 0) ≡ 0
        none true few = omega (arith, few, within)
        none false few = refl

        some : (c : Bool) → conflicts (held_in slots q).entry e ≡ c → MayLeaveOut e among (held_in slots q) → (if c then bit_at among q else 0) ≡ bit c
        some true c_is out = omega (arith, bit_at-lt among q, one)
          where
            one : bit_at among q ≡ 0 → ⊥
            one zero_there = let never : true ≡ false = sym c_is ∙ out zero_there in cc
        some false c_is out = refl
