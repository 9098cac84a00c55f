-- What slots hold as tasks come and go.
use Rattle.std.proofs.Common.{◌≡◌, refl, sym, ◌∙◌, ap, subst, ℕ, zero, suc, ◌+◌, ◌-◌, ◌*◌, ◌%◌, ◌<◌, ◌≤◌, ◌^◌, Bool, true, false, cond, List, [], ◌∷◌, ◌++◌, Some, map, length, take, drop, get_or, set, arith, append_assoc, ◌⊎◌, ⊎_elim, inl, inr, bit_or}
use Rattle.std.specs.Prelude.{not, nat_lt, ◌==◌, ◌||◌, ◌&&◌, if◌then◌else◌, slice_get, unwrap_or, replicate}
use Rattle.std.specs.Option.{option_map}
use Rattle.std.specs.List.{list_any, AllByRecursion, IsDistinct, remove, position_from}
use Rattle.std.specs.Int.Bits.{and_zero_l}
use Rattle.std.specs.Int.{bit_at, bit_not, w64}
use Rattle.std.proofs.lemmas.Nat.Bits.{bit_at_set_same, bit_at_set_other, bit_at_clear_same, bit_at_clear_other, bit_at-zero}
use Rattle.satl_base.proofs.ListsLemmas.{All-both, All-weaken, remove-map}
use Rattle.satl_base.specs.declared.block.Block.{Block}
use Rattle.satl_base.specs.declared.request.Tag.{Tag}
use Rattle.satl_base.specs.Lists.{how_many, change_at}
use Rattle.std.proofs.lemmas.List.Sums.{sum_by-append, sum_by-cons}
use Rattle.std.proofs.Math.ListN.{length-set, get_or-map}
use Rattle.std.proofs.lemmas.Option.{slice_get-get_or, slice_get_past}
use Rattle.std.proofs.lemmas.Bool.{eq-eqb, eqb-true, eqb-false, ltb-true, ltb-false, lt-ltb, le-ltb, and_right, ne_eqb}
use Rattle.std.proofs.lemmas.List.{get_or-set_same, get_or-set_other, length-append, length-map, length-replicate, map-append, append-nil, get_or_default, get_or_read_under}
use Rattle.satl_line.specs.declared.entry.Entry.{Entry}
use Rattle.satl_line.specs.declared.outline.Outline.{Outline}
use Rattle.satl_line.specs.Blank.{no_entry}
use Rattle.satl_line.specs.Outlines.{IsOutline, is_active, no_outline, outline_in}
use Rattle.satl_line.specs.Conflict.{access_of, conflicts}
use Rattle.satl_line.specs.Eligible.{eligible_at, is_clear_by}
use Rattle.satl_line.specs.Tasks.{AreOwnSlots, AreMasks, is_barred_from, entries_of, Held, count_of, slots_of, total_blocks, entry_at, Adds, with_body}
use Rattle.satl_line.specs.Layout.{SlotAccess, mark_of, is_marked, IsMask, HaveMasks, IsMasked, clear_bit, cleared, held_in, tasks_in, AreNoted, IsNoted, with_slot, CountLowBytes, has_low_byte, low_byte, one_fewer, one_more, SetInMemory, FitTogether}
use Rattle.satl_line.proofs.CountsLemmas.{counted_few, counted_more, counted_out}
use Rattle.satl_line.proofs.OutlinesLemmas.{EachIs, outline_with}
use Rattle.satl_line.proofs.MasksLemmas.{bit, with_slot_here, with_slot_other, HasNot, AreSmall, is_struck, zero_mask, are_removed, are_added, get_or-cleared}

-- ---- counts

pub count-append : (q : ℕ) (xs ys : List ℕ) → count_of q (xs ++ ys) ≡ count_of q xs + count_of q ys
count-append q [] ys = omega arith
count-append q (x ∷ xs) ys = omega (arith, count-append q xs ys)

pub count_one : (q : ℕ) → count_of q (q ∷ []) ≡ 1
count_one q = rw (eq-eqb q q refl) (omega arith)

pub count_of-first : (q : ℕ) (qs : List ℕ) → count_of q (q ∷ qs) ≡ 1 + count_of q qs
count_of-first q qs = rw (eq-eqb q q refl) (omega arith)

pub count_other : (q s : ℕ) → (q == s) ≡ false → count_of q (s ∷ []) ≡ 0
count_other q s other =
    (elim (s == q) as (λ b. (s == q) ≡ b → (if b then 1 else 0) + 0 ≡ 0) [
      | true ↦ λ e. absurd (eqb-false q s other (sym (eqb-true s q e)))
      | false ↦ λ e. omega arith
    ]) refl

pub head_out : (q x : ℕ) (n : ℕ) → (if x == q then 1 else 0) + n ≡ 0 → ((x == q) ≡ false) × (n ≡ 0)
head_out q x n h =
    (elim (x == q) as (λ b. (if b then 1 else 0) + n ≡ 0 → (b ≡ false) × (n ≡ 0)) [
      | true ↦ λ e. absurd (omega arith)
      | false ↦ λ e. (refl, omega arith)
    ]) h

-- ---- lists

pub All-append : {X : Type 0} (P : X → Type 0) (xs ys : List X) → AllByRecursion P xs → AllByRecursion P ys → AllByRecursion P (xs ++ ys)
All-append P [] ys h k = k
All-append P (x ∷ xs) ys h k = (h.0, All-append P xs ys h.1 k)

pub All-left : {X : Type 0} (P : X → Type 0) (xs ys : List X) → AllByRecursion P (xs ++ ys) → AllByRecursion P xs
All-left P [] ys h = tt
All-left P (x ∷ xs) ys h = (h.0, All-left P xs ys h.1)

pub All-right : {X : Type 0} (P : X → Type 0) (xs ys : List X) → AllByRecursion P (xs ++ ys) → AllByRecursion P ys
All-right P [] ys h = h
All-right P (x ∷ xs) ys h = All-right P xs ys h.1

pub All-at : {X : Type 0} (P : X → Type 0) (xs : List X) (i : ℕ) (d : X) → i < length xs → AllByRecursion P xs → P (get_or xs i d)
All-at P [] i d h k = absurd (omega arith)
All-at P (x ∷ xs) zero d h k = k.0
All-at P (x ∷ xs) (suc i) d h k = All-at P xs i d (omega arith) k.1

pub parted : {X : Type 0} (xs : List X) (i : ℕ) (d : X) → i < length xs → xs ≡ take i xs ++ get_or xs i d ∷ drop (suc i) xs
parted [] i d h = absurd (omega arith)
parted (x ∷ xs) zero d h = refl
parted (x ∷ xs) (suc i) d h = ap (λ ys. x ∷ ys) (parted xs i d (omega arith))

pub position_from-map : {X Y : Type 0} (f : X → Y) (p : Y → Bool) (i : ℕ) (xs : List X) → position_from p i (map f xs) ≡ position_from (λ x. p (f x)) i xs
position_from-map f p i [] = refl
position_from-map f p i (x ∷ xs) = ap (λ r. cond (p (f x)) (Some i) r) (position_from-map f p (i + 1) xs)

-- what does not turn on one number, where it is not among these
pub All-other : (P Q : ℕ → Type 0) (s : ℕ) → ((q : ℕ) → (q == s) ≡ false → P q → Q q) → (xs : List ℕ) → count_of s xs ≡ 0 → AllByRecursion P xs → AllByRecursion Q xs
All-other P Q s f [] h all = tt
All-other P Q s f (x ∷ xs) h all = let out = head_out s x (count_of s xs) h in (f x out.0 all.0, All-other P Q s f xs out.1 all.1)

-- ---- the tasks in slots

pub slots_of_tasks : (slots : List Entry) (order : List ℕ) → slots_of (tasks_in slots order) ≡ order
slots_of_tasks slots [] = refl
slots_of_tasks slots (q ∷ qs) = ap (λ r. q ∷ r) (slots_of_tasks slots qs)

-- a slot that no task has may be written
pub tasks_set_other : (slots : List Entry) (s : ℕ) (x : Entry) (order : List ℕ) → count_of s order ≡ 0 → tasks_in (set slots s x) order ≡ tasks_in slots order
tasks_set_other slots s x [] h = refl
tasks_set_other slots s x (q ∷ qs) h =
    let out = head_out s q (count_of s qs) h in
    ap (λ v. record { slot = q; entry = v } ∷ tasks_in (set slots s x) qs) (get_or-set_other slots s q x no_entry (eqb-false q s out.0))
    ∙ ap (λ r. held_in slots q ∷ r) (tasks_set_other slots s x qs out.1)

pub has_not : (slots : List Entry) (s : ℕ) (order : List ℕ) → count_of s order ≡ 0 → HasNot s (map mark_of (tasks_in slots order))
has_not slots s [] h = tt
has_not slots s (q ∷ qs) h = let out = head_out s q (count_of s qs) h in (out.0, has_not slots s qs out.1)

pub are_small : (slots : List Entry) (order : List ℕ) → AllByRecursion (λ q. q < 64) order → AreSmall (map mark_of (tasks_in slots order))
are_small slots [] h = tt
are_small slots (q ∷ qs) h = (h.0, are_small slots qs h.1)

-- what is written to a slot that no task has
outline_other : (slots : List Entry) (outlines : List Outline) (s : ℕ) (x : Entry) (o : Outline) (order : List ℕ) → count_of s order ≡ 0 → EachIs slots outlines order → EachIs (set slots s x) (set outlines s o) order
outline_other slots outlines s x o order none each =
    All-other (λ q. IsOutline (get_or slots q no_entry) (outline_in outlines q)) (λ q. IsOutline (get_or (set slots s x) q no_entry) (outline_in (set outlines s o) q)) s
    (λ q other is. subst (λ e. IsOutline e (outline_in (set outlines s o) q)) (sym (get_or-set_other slots s q x no_entry (eqb-false q s other)))
    (subst (λ p. IsOutline (get_or slots q no_entry) p) (sym (get_or-set_other outlines s q o no_outline (eqb-false q s other))) is))
    order none each

entry_other : (slots : List Entry) (outlines : List Outline) (s : ℕ) (x : Entry) (order : List ℕ) → count_of s order ≡ 0 → EachIs slots outlines order → EachIs (set slots s x) outlines order
entry_other slots outlines s x order none each =
    All-other (λ q. IsOutline (get_or slots q no_entry) (outline_in outlines q)) (λ q. IsOutline (get_or (set slots s x) q no_entry) (outline_in outlines q)) s
    (λ q other is. subst (λ e. IsOutline e (outline_in outlines q)) (sym (get_or-set_other slots s q x no_entry (eqb-false q s other))) is)
    order none each

pub total-append : (xs ys : List Held) → total_blocks (xs ++ ys) ≡ total_blocks xs + total_blocks ys
total-append xs ys = sum_by-append (λ (h : Held). h.entry.blocks) xs ys

-- ---- eligibility

pub struck_map : (held : List Held) (e : Entry) → is_struck (map mark_of held) (access_of e) ≡ list_any (λ u. conflicts u e) (entries_of held)
struck_map [] e = refl
struck_map (h ∷ hs) e = ap (λ b. conflicts h.entry e || b) (struck_map hs e)

small-append : (xs ys : List SlotAccess) → AreSmall xs → AreSmall ys → AreSmall (xs ++ ys)
small-append xs ys h k = All-append (λ u. u.slot < 64) xs ys h k

eligible_from : (earlier tasks : List Held) (masks : List ℕ) (k : ℕ) → AreSmall (map mark_of earlier) → AreSmall (map mark_of tasks) → HaveMasks (map mark_of earlier) (map mark_of tasks) masks → get_or masks (get_or (slots_of tasks) k 0) 0 < 2 ^ 64 → k < length tasks →
    (get_or masks (get_or (slots_of tasks) k 0) 0 == 0) ≡ unwrap_or (option_map (is_clear_by conflicts (entries_of earlier ++ take k (entries_of tasks))) (slice_get (entries_of tasks) k)) false
eligible_from earlier [] masks k small_earlier small are fits lt = absurd (omega arith)
eligible_from earlier (h ∷ hs) masks zero small_earlier small are fits lt =
    zero_mask (map mark_of earlier) (access_of h.entry) (get_or masks h.slot 0) small_earlier are.0 fits
    ∙ ap not (struck_map earlier h.entry ∙ ap (list_any (λ u. conflicts u h.entry)) (sym (append-nil (entries_of earlier))))
eligible_from earlier (h ∷ hs) masks (suc k) small_earlier small are fits lt =
    let more : map mark_of (earlier ++ h ∷ []) ≡ map mark_of earlier ++ mark_of h ∷ [] = map-append mark_of earlier (h ∷ []) in
    eligible_from (earlier ++ h ∷ []) hs masks k (subst AreSmall (sym more) (small-append (map mark_of earlier) (mark_of h ∷ []) small_earlier (small.0, tt))) small.1
    (subst (λ e. HaveMasks e (map mark_of hs) masks) (sym more) are.1) fits (omega arith)
    ∙ ap (λ l. unwrap_or (option_map (is_clear_by conflicts l) (slice_get (entries_of hs) k)) false)
    (ap (λ l. l ++ take k (entries_of hs)) (map-append (λ held. held.entry) earlier (h ∷ [])) ∙ append_assoc (entries_of earlier) (h.entry ∷ []) (take k (entries_of hs)))

-- the mask of the task at a place is 0 exactly where the task is eligible
pub eligible_is : (slots : List Entry) (order seen masks : List ℕ) (tasks : List Held) (k : ℕ) → seen ≡ order → tasks_in slots order ≡ tasks → AllByRecursion (λ q. q < 64) order → IsMasked (tasks_in slots order) masks → get_or masks (get_or seen k 0) 0 < 2 ^ 64 → k < length tasks →
    (get_or masks (get_or seen k 0) 0 == 0) ≡ eligible_at (entries_of tasks) k
eligible_is slots order seen masks tasks k same is taken are fits lt =
    let seen_is : seen ≡ slots_of tasks = same ∙ sym (slots_of_tasks slots order) ∙ ap slots_of is in
    ap (λ l. get_or masks (get_or l k 0) 0 == 0) seen_is
    ∙ eligible_from [] tasks masks k tt (subst (λ l. AreSmall (map mark_of l)) is (are_small slots order taken)) (subst (λ l. HaveMasks [] (map mark_of l) masks) is are.full)
    (subst (λ l. get_or masks (get_or l k 0) 0 < 2 ^ 64) seen_is fits) lt

-- ---- the slots that are noted

-- the bits of the other slots stay as a slot is left
noted_without : (holds : Outline → Bool) (outlines : List Outline) (front : List ℕ) (s : ℕ) (back free : List ℕ) (noted : ℕ) → s < 64 → count_of s front ≡ 0 → count_of s back ≡ 0 → count_of s free ≡ 0 → AllByRecursion (λ q. q < 64) (front ++ s ∷ back) → AllByRecursion (λ q. q < 64) free → AreNoted holds outlines (front ++ s ∷ back) free noted →
    AreNoted holds outlines (front ++ back) (free ++ s ∷ []) (clear_bit s noted)
noted_without holds outlines front s back free noted small no_front no_back no_free are_small free_small h = record {
  held = All-append (IsNoted holds outlines (clear_bit s noted)) front back
      (others (λ q. bit (holds (outline_in outlines q))) front no_front (All-left (λ q. q < 64) front (s ∷ back) are_small) (All-left (IsNoted holds outlines noted) front (s ∷ back) h.held))
      (others (λ q. bit (holds (outline_in outlines q))) back no_back (All-right (λ q. q < 64) front (s ∷ back) are_small).1 (All-right (IsNoted holds outlines noted) front (s ∷ back) h.held).1);
  vacant = All-append (λ q. bit_at (clear_bit s noted) q ≡ 0) free (s ∷ []) (others (λ q. 0) free no_free free_small h.vacant) (bit_at_clear_same w64 noted s small, tt);
}
  where
    others : (f : ℕ → ℕ) (qs : List ℕ) → count_of s qs ≡ 0 → AllByRecursion (λ q. q < 64) qs → AllByRecursion (λ q. bit_at noted q ≡ f q) qs → AllByRecursion (λ q. bit_at (clear_bit s noted) q ≡ f q) qs
    others f qs none are_small are =
        All-other (λ q. (q < 64) × (bit_at noted q ≡ f q)) (λ q. bit_at (clear_bit s noted) q ≡ f q) s
        (λ q other is. bit_at_clear_other w64 noted s small q is.0 (eqb-false q s other) ∙ is.1)
        qs none (All-both (λ q. q < 64) (λ q. bit_at noted q ≡ f q) qs are_small are)

-- and as one is taken, whose own bit is told by the new outline
noted_with : (holds : Outline → Bool) (outlines : List Outline) (order free : List ℕ) (s noted : ℕ) (o : Outline) → s < 64 → s < length outlines → count_of s order ≡ 0 → count_of s free ≡ 0 → AreNoted holds outlines order (free ++ s ∷ []) noted →
    AreNoted holds (set outlines s o) (order ++ s ∷ []) free (with_slot (holds o) s noted)
noted_with holds outlines order free s noted o small within no_order no_free h = record {
  held = All-append (IsNoted holds (set outlines s o) (with_slot (holds o) s noted)) order (s ∷ [])
      (All-other (IsNoted holds outlines noted) (IsNoted holds (set outlines s o) (with_slot (holds o) s noted)) s
      (λ q other is. with_slot_other (holds o) s noted q small other ∙ is ∙ ap (λ p. bit (holds p)) (sym (get_or-set_other outlines s q o no_outline (eqb-false q s other))))
      order no_order h.held)
      (with_slot_here (holds o) s noted small (All-right (λ q. bit_at noted q ≡ 0) free (s ∷ []) h.vacant).0 ∙ ap (λ p. bit (holds p)) (sym (get_or-set_same outlines s o no_outline within)), tt);
  vacant = All-other (λ q. bit_at noted q ≡ 0) (λ q. bit_at (with_slot (holds o) s noted) q ≡ 0) s
      (λ q other is. with_slot_other (holds o) s noted q small other ∙ is)
      free no_free (All-left (λ q. bit_at noted q ≡ 0) free (s ∷ []) h.vacant);
}

-- ---- a task leaves

-- the counts of the slot of a task
alone : (layout : SetInMemory) (front : List ℕ) (s : ℕ) (back : List ℕ) → FitTogether (record layout { order = front ++ s ∷ back }) → s < 64 → (count_of s front ≡ 0) × (count_of s back ≡ 0)
alone layout front s back h small =
    let e = count-append s front (s ∷ back) in
    let o = h.once s small in
    let one : count_of s (s ∷ back) ≡ 1 + count_of s back = rw (eq-eqb s s refl) (omega arith) in
    (omega (arith, e, o, one), omega (arith, e, o, one))

-- what is kept once the task in a slot was taken out, and another entry lies there
abbrev without : SetInMemory → ℕ → Entry → Entry → List ℕ → SetInMemory
without layout s e other order = record layout {
  slots = set layout.slots s other;
  order = order;
  free = layout.free ++ s ∷ [];
  masks = cleared layout.masks s;
  blocks = layout.blocks - e.blocks;
  active = clear_bit s layout.active;
  tag_counts = one_fewer layout.tag_counts e.tag;
}

pub sound_without : (layout : SetInMemory) (front : List ℕ) (s : ℕ) (back : List ℕ) (e other : Entry) → FitTogether (record layout { order = front ++ s ∷ back }) → get_or layout.slots s no_entry ≡ e →
    FitTogether (without layout s e other (front ++ back))
    × (tasks_in (set layout.slots s other) (front ++ back) ≡ tasks_in layout.slots (front ++ back)) × (e.blocks ≤ layout.blocks) × (1 ≤ get_or layout.tag_counts (low_byte e.tag) 0)
sound_without layout front s back e other h is =
    let at : s < 64 = (All-right (λ q. q < 64) front (s ∷ back) h.taken).0 in
    let out = alone layout front s back h at in
    let none : count_of s (front ++ back) ≡ 0 = omega (arith, count-append s front back, out.0, out.1) in
    let same : tasks_in (set layout.slots s other) (front ++ back) ≡ tasks_in layout.slots (front ++ back) = tasks_set_other layout.slots s other (front ++ back) none in
    let taken : AllByRecursion (λ q. q < 64) (front ++ back) = All-append (λ q. q < 64) front back (All-left (λ q. q < 64) front (s ∷ back) h.taken) (All-right (λ q. q < 64) front (s ∷ back) h.taken).1 in
    let parts : map mark_of (tasks_in layout.slots (front ++ s ∷ back)) ≡ map mark_of (tasks_in layout.slots front) ++ mark_of (held_in layout.slots s) ∷ map mark_of (tasks_in layout.slots back)
    = ap (map mark_of) (map-append (held_in layout.slots) front (s ∷ back)) ∙ map-append mark_of (tasks_in layout.slots front) (tasks_in layout.slots (s ∷ back)) in
    let whole : map mark_of (tasks_in layout.slots (front ++ back)) ≡ map mark_of (tasks_in layout.slots front) ++ map mark_of (tasks_in layout.slots back)
    = ap (map mark_of) (map-append (held_in layout.slots) front back) ∙ map-append mark_of (tasks_in layout.slots front) (tasks_in layout.slots back) in
    let full : HaveMasks [] (map mark_of (tasks_in layout.slots front) ++ map mark_of (tasks_in layout.slots back)) (cleared layout.masks s)
    = are_removed (map mark_of (tasks_in layout.slots front)) (mark_of (held_in layout.slots s)) (map mark_of (tasks_in layout.slots back)) layout.masks at (has_not layout.slots s front out.0) (has_not layout.slots s back out.1)
    (subst (λ l. HaveMasks [] l layout.masks) parts h.masked.full) in
    let blocks_is : total_blocks (tasks_in layout.slots (front ++ back)) + e.blocks ≡ layout.blocks
    = sum_out (tasks_in layout.slots front) (held_in layout.slots s) (tasks_in layout.slots back) (tasks_in layout.slots (front ++ back)) (tasks_in layout.slots (front ++ s ∷ back)) e layout.blocks
    (map-append (held_in layout.slots) front back) (map-append (held_in layout.slots) front (s ∷ back)) is h.total in
    let counted = counted_out layout.slots front s back e (tasks_in (set layout.slots s other) (front ++ back)) layout.tag_counts h.counted is same in (
      record {
        room = length-set layout.slots s other ∙ h.room;
        wide = length-set (map (clear_bit s) layout.masks) s 0 ∙ length-map layout.masks (clear_bit s) ∙ h.wide;
        taken = taken;
        small = All-append (λ q. q < 64) layout.free (s ∷ []) h.small (at, tt);
        once = λ q lt. omega (arith, h.once q lt, count-append q front (s ∷ back), count-append q front back, count-append q layout.free (s ∷ []));
        count = omega (arith, h.count, length-append front (s ∷ back), length-append front back, length-append layout.free (s ∷ []));
        masked = record {
          full = subst (λ l. HaveMasks [] (map mark_of l) (cleared layout.masks s)) (sym same) (subst (λ l. HaveMasks [] l (cleared layout.masks s)) (sym whole) full);
          empty = λ q gone. empty_out q (ap (count_of q) (sym (slots_of_tasks (set layout.slots s other) (front ++ back))) ∙ gone);
        };
        outlined = record {
          room = h.outlined.room;
          each = entry_other layout.slots layout.outlines s other (front ++ back) none (All-append (λ q. IsOutline (get_or layout.slots q no_entry) (outline_in layout.outlines q)) front back
              (All-left (λ q. IsOutline (get_or layout.slots q no_entry) (outline_in layout.outlines q)) front (s ∷ back) h.outlined.each)
              (All-right (λ q. IsOutline (get_or layout.slots q no_entry) (outline_in layout.outlines q)) front (s ∷ back) h.outlined.each).1);
        };
        total = ap total_blocks same ∙ omega (arith, blocks_is);
        few = omega (arith, h.few);
        noted = noted_without is_active layout.outlines front s back layout.free layout.active at out.0 out.1 (omega (arith, h.once s at, count-append s front (s ∷ back), count_of-first s back)) h.taken h.small h.noted;
        counted = counted.0;
      },
      same,
      omega (arith, blocks_is),
      counted.1,
    )
  where
    sum_out : (a : List Held) (x : Held) (b ab axb : List Held) (e : Entry) (n : ℕ) → ab ≡ a ++ b → axb ≡ a ++ x ∷ b → x.entry ≡ e → total_blocks axb ≡ n → total_blocks ab + e.blocks ≡ n
    sum_out a x b ab axb e n i j k t =
        let first : total_blocks ab ≡ total_blocks a + total_blocks b = ap total_blocks i ∙ total-append a b in
        let second : total_blocks axb ≡ total_blocks a + (x.entry.blocks + total_blocks b) = ap total_blocks j ∙ total-append a (x ∷ b) ∙ ap (λ n. total_blocks a + n) (sum_by-cons (λ (h : Held). h.entry.blocks) x b) in
        let third : x.entry.blocks ≡ e.blocks = ap (λ v. v.blocks) k in
        omega (arith, first, second, third, t)

    empty_out : (q : ℕ) → count_of q (front ++ back) ≡ 0 → get_or (cleared layout.masks s) q 0 ≡ 0
    empty_out q gone =
        (elim (q == s) as (λ b. (q == s) ≡ b → get_or (cleared layout.masks s) q 0 ≡ 0) [
          | true ↦ λ i. subst (λ r. get_or (cleared layout.masks s) r 0 ≡ 0) (sym (eqb-true q s i)) (get_or-set_same (map (clear_bit s) layout.masks) s 0 0
              (let at : s < 64 = (All-right (λ q. q < 64) front (s ∷ back) h.taken).0 in omega (arith, at, length-map layout.masks (clear_bit s), h.wide)))
          | false ↦ λ i. get_or-cleared layout.masks s q i ∙ ap (clear_bit s) (h.masked.empty q (
              ap (count_of q) (slots_of_tasks layout.slots (front ++ s ∷ back)) ∙ (let o : count_of q (s ∷ []) ≡ 0 = count_other q s i in
              omega (arith, gone, o, count-append q front (s ∷ back), count-append q front back)))) ∙ and_zero_l (bit_not w64 (1 * 2 ^ s % 2 ^ 64))
        ]) refl

-- ---- a task comes

-- what is kept once a task with this outline and mask lies in a slot, which was the last free one behind these
abbrev with_task : SetInMemory → ℕ → Entry → Outline → ℕ → List ℕ → SetInMemory
with_task layout s e o mask free = record {
  slots = set layout.slots s e;
  outlines = set layout.outlines s o;
  order = layout.order ++ s ∷ [];
  free = free;
  masks = set layout.masks s mask;
  blocks = layout.blocks + e.blocks;
  active = with_slot (is_active o) s layout.active;
  tag_counts = one_more layout.tag_counts e.tag;
}

pub sound_with : (layout : SetInMemory) (free : List ℕ) (s mask : ℕ) (e : Entry) (o : Outline) → IsOutline e o → FitTogether (record layout { free = free ++ s ∷ [] }) → layout.blocks + e.blocks ≤ 32768 → IsMask (map mark_of (tasks_in layout.slots layout.order)) (access_of e) mask →
    FitTogether (with_task layout s e o mask free)
    × (tasks_in (set layout.slots s e) (layout.order ++ s ∷ []) ≡ tasks_in layout.slots layout.order ++ record { slot = s; entry = e } ∷ []) × (s < 64) × (count_of s layout.order ≡ 0)
sound_with layout free s mask e o own h fits is =
    let small : s < 64 = (All-right (λ q. q < 64) free (s ∷ []) h.small).0 in
    let none : count_of s layout.order ≡ 0 = omega (arith, h.once s small, count-append s free (s ∷ []), count_one s) in
    let here : get_or (set layout.slots s e) s no_entry ≡ e = get_or-set_same layout.slots s e no_entry (omega (arith, h.room)) in
    let before : tasks_in (set layout.slots s e) layout.order ≡ tasks_in layout.slots layout.order = tasks_set_other layout.slots s e layout.order none in
    let last : held_in (set layout.slots s e) s ≡ record { slot = s; entry = e } = ap (λ o. record { slot = s; entry = o }) here in
    let tasks : tasks_in (set layout.slots s e) (layout.order ++ s ∷ []) ≡ tasks_in layout.slots layout.order ++ record { slot = s; entry = e } ∷ []
    = map-append (held_in (set layout.slots s e)) layout.order (s ∷ []) ∙ ap (λ l. l ++ held_in (set layout.slots s e) s ∷ []) before ∙ ap (λ x. tasks_in layout.slots layout.order ++ x ∷ []) last in
    let marks : map mark_of (tasks_in layout.slots layout.order ++ record { slot = s; entry = e } ∷ []) ≡ map mark_of (tasks_in layout.slots layout.order) ++ record { slot = s; access = access_of e } ∷ []
    = map-append mark_of (tasks_in layout.slots layout.order) (record { slot = s; entry = e } ∷ []) in (
      record {
        room = length-set layout.slots s e ∙ h.room;
        wide = length-set layout.masks s mask ∙ h.wide;
        taken = All-append (λ q. q < 64) layout.order (s ∷ []) h.taken (small, tt);
        small = All-left (λ q. q < 64) free (s ∷ []) h.small;
        once = λ q lt. omega (arith, h.once q lt, count-append q layout.order (s ∷ []), count-append q free (s ∷ []));
        count = omega (arith, h.count, length-append layout.order (s ∷ []), length-append free (s ∷ []));
        masked = record {
          full = subst (λ l. HaveMasks [] (map mark_of l) (set layout.masks s mask)) (sym tasks) (subst (λ l. HaveMasks [] l (set layout.masks s mask)) (sym marks)
              (are_added (map mark_of (tasks_in layout.slots layout.order)) (record { slot = s; access = access_of e }) layout.masks mask (omega (arith, h.wide)) (has_not layout.slots s layout.order none) h.masked.full is));
          empty = λ q gone. empty_in q (ap (count_of q) (sym (slots_of_tasks (set layout.slots s e) (layout.order ++ s ∷ []))) ∙ gone);
        };
        outlined = record {
          room = length-set layout.outlines s o ∙ h.outlined.room;
          each = All-append (λ q. IsOutline (get_or (set layout.slots s e) q no_entry) (outline_in (set layout.outlines s o) q)) layout.order (s ∷ []) (outline_other layout.slots layout.outlines s e o layout.order none h.outlined.each) (
            subst (λ x. IsOutline x (outline_in (set layout.outlines s o) s)) (sym here)
                (subst (λ p. IsOutline e p) (sym (get_or-set_same layout.outlines s o no_outline (omega (arith, h.outlined.room)))) own),
            tt,
          );
        };
        total = ap total_blocks tasks ∙ omega (arith, total-append (tasks_in layout.slots layout.order) (record { slot = s; entry = e } ∷ []), h.total);
        few = fits;
        noted = noted_with is_active layout.outlines layout.order free s layout.active o small (omega (arith, h.outlined.room)) none (omega (arith, h.once s small, count-append s free (s ∷ []), count_one s)) h.noted;
        counted = subst (λ l. CountLowBytes l (one_more layout.tag_counts e.tag)) (sym tasks) (counted_more (tasks_in layout.slots layout.order) (record { slot = s; entry = e }) layout.tag_counts h.counted);
      },
      tasks,
      small,
      none,
    )
  where
    empty_in : (q : ℕ) → count_of q (layout.order ++ s ∷ []) ≡ 0 → get_or (set layout.masks s mask) q 0 ≡ 0
    empty_in q gone =
        let gone_order : count_of q layout.order ≡ 0 = omega (arith, gone, count-append q layout.order (s ∷ [])) in
        let gone_last : count_of q (s ∷ []) ≡ 0 = omega (arith, gone, count-append q layout.order (s ∷ [])) in
        let other = head_out q s 0 gone_last in
        get_or-set_other layout.masks s q mask 0 (λ same. eqb-false s q other.0 (sym same)) ∙ h.masked.empty q (ap (count_of q) (slots_of_tasks layout.slots layout.order) ∙ gone_order)

-- ---- the steps as the code takes them

pub record Leaves (tasks : List Held) (place : ℕ) (e : Entry) (old new : SetInMemory) : Type 0 where
  pub sound : FitTogether new
  pub rest : tasks_in new.slots new.order ≡ remove tasks place
  pub value : entry_at tasks place ≡ Some e
  pub less : e.blocks ≤ old.blocks
  pub some : 1 ≤ get_or old.tag_counts (low_byte e.tag) 0

-- the entry at a place lies in the slot of that place
pub entry_at_is : (slots : List Entry) (order : List ℕ) (place s : ℕ) (e : Entry) → place < length order → s ≡ get_or order place s → get_or slots s no_entry ≡ e → entry_at (tasks_in slots order) place ≡ Some e
entry_at_is slots order place s e lt at is =
    ap (option_map (λ h. h.entry)) (slice_get-get_or (tasks_in slots order) place (held_in slots s) (omega (arith, length-map order (held_in slots))))
    ∙ ap (λ h. Some h.entry) (get_or-map (held_in slots) order place s)
    ∙ ap (λ q. Some (get_or slots q no_entry)) (sym at)
    ∙ ap Some is

pub leaves : (layout : SetInMemory) (tasks : List Held) (place s : ℕ) (seen other e : Entry) (order' free' masks' tag_counts' : List ℕ) →
    FitTogether layout → tasks_in layout.slots layout.order ≡ tasks → place < length tasks → s ≡ get_or layout.order place s → seen ≡ get_or layout.slots s seen → e ≡ seen →
    order' ≡ remove layout.order place → free' ≡ layout.free ++ s ∷ [] → masks' ≡ cleared layout.masks s → tag_counts' ≡ one_fewer layout.tag_counts e.tag →
    Leaves tasks place e layout (record (without layout s e other order') { free = free'; masks = masks'; tag_counts = tag_counts' })
leaves layout tasks place s seen other e order' free' masks' tag_counts' sound is lt at seen_is e_is order_is free_is masks_is counts_are =
    let within : place < length layout.order = omega (arith, length-map layout.order (held_in layout.slots), ap length is) in
    let small : s < 64 = subst (λ q. q < 64) (sym at) (All-at (λ q. q < 64) layout.order place s within sound.taken) in
    let here : get_or layout.slots s no_entry ≡ e = get_or_default layout.slots s no_entry seen (omega (arith, small, sound.room)) ∙ sym seen_is ∙ sym e_is in
    let order_parts : layout.order ≡ take place layout.order ++ s ∷ drop (suc place) layout.order = parted layout.order place s within ∙ ap (λ q. take place layout.order ++ q ∷ drop (suc place) layout.order) (sym at) in
    let r = sound_without layout (take place layout.order) s (drop (suc place) layout.order) e other (subst (λ l. FitTogether (record layout { order = l })) order_parts sound) here in
    let tasks_is : tasks_in (set layout.slots s other) (remove layout.order place) ≡ remove tasks place = r.1 ∙ remove-map (held_in layout.slots) layout.order place ∙ ap (λ l. remove l place) is in
    record {
      sound = subst (λ l. FitTogether (record (without layout s e other l) { free = free'; masks = masks'; tag_counts = tag_counts' })) (sym order_is)
          (subst (λ l. FitTogether (record (without layout s e other (remove layout.order place)) { free = l; masks = masks'; tag_counts = tag_counts' })) (sym free_is)
          (subst (λ l. FitTogether (record (without layout s e other (remove layout.order place)) { masks = l; tag_counts = tag_counts' })) (sym masks_is)
          (subst (λ l. FitTogether (record (without layout s e other (remove layout.order place)) { tag_counts = l })) (sym counts_are) r.0)));
      rest = ap (tasks_in (set layout.slots s other)) order_is ∙ tasks_is;
      value = ap (λ l. entry_at l place) (sym is) ∙ entry_at_is layout.slots layout.order place s e within at here;
      less = r.2;
      some = r.3;
    }

pub record Comes (old : List Held) (e : Entry) (layout : SetInMemory) : Type 0 where
  pub sound : FitTogether layout
  pub adds : Adds old e (tasks_in layout.slots layout.order)

comes : (layout : SetInMemory) (freed : List ℕ) (s mask : ℕ) (e : Entry) (o : Outline) (old : List Held) (order' : List ℕ) → IsOutline e o →
    FitTogether layout → tasks_in layout.slots layout.order ≡ old → layout.free ≡ freed ++ s ∷ [] → IsMask (map mark_of old) (access_of e) mask → order' ≡ layout.order ++ s ∷ [] → layout.blocks + e.blocks ≤ 32768 →
    Comes old e (record (with_task layout s e o mask freed) { order = order' })
comes layout freed s mask e o old order' own sound is free_is mask_is order_is fits =
    let r = sound_with layout freed s mask e o own (subst (λ l. FitTogether (record layout { free = l })) free_is sound) fits (subst (λ l. IsMask (map mark_of l) (access_of e) mask) (sym is) mask_is) in
    record {
      sound = subst (λ l. FitTogether (record (with_task layout s e o mask freed) { order = l })) (sym order_is) r.0;
      adds = record {
        slot = s;
        small = r.2;
        vacant = vacant_is is r.3;
        last = ap (tasks_in (set layout.slots s e)) order_is ∙ r.1 ∙ ap (λ l. l ++ record { slot = s; entry = e } ∷ []) is;
      };
    }
  where
    vacant_is : tasks_in layout.slots layout.order ≡ old → count_of s layout.order ≡ 0 → count_of s (slots_of old) ≡ 0
    vacant_is i h = ap (λ l. count_of s (slots_of l)) (sym i) ∙ ap (count_of s) (slots_of_tasks layout.slots layout.order) ∙ h

-- the same where the task is read from one place, and lies in another
pub comes_from : (layout : SetInMemory) (freed : List ℕ) (s active' mask : ℕ) (e read put : Entry) (o : Outline) (old : List Held) (order' tag_counts' : List ℕ) → IsOutline read o →
    FitTogether layout → tasks_in layout.slots layout.order ≡ old → layout.free ≡ freed ++ s ∷ [] → IsMask (map mark_of old) (access_of read) mask → order' ≡ layout.order ++ s ∷ [] → layout.blocks + read.blocks ≤ 32768 → read ≡ e → put ≡ e → active' ≡ with_slot (is_active o) s layout.active → tag_counts' ≡ one_more layout.tag_counts read.tag →
    Comes old e (record (with_task layout s put o mask freed) { order = order'; blocks = layout.blocks + read.blocks; active = active'; tag_counts = tag_counts' })
comes_from layout freed s active' mask e read put o old order' tag_counts' own sound is free_is mask_is order_is fits read_is put_is active_is counts_are =
    subst (λ n. Comes old e (record (with_task layout s put o mask freed) { order = order'; blocks = layout.blocks + read.blocks; active = n; tag_counts = tag_counts' })) (sym active_is)
    (subst (λ l. Comes old e (record (with_task layout s put o mask freed) { order = order'; blocks = layout.blocks + read.blocks; tag_counts = l })) (sym counts_are)
    (subst (λ x. Comes old e (record (with_task layout s x o mask freed) { order = order'; blocks = layout.blocks + read.blocks; tag_counts = one_more layout.tag_counts read.tag })) (sym put_is)
    (subst (λ (r : Entry). Comes old e (record (with_task layout s e o mask freed) { order = order'; blocks = layout.blocks + r.blocks; tag_counts = one_more layout.tag_counts r.tag })) (sym read_is)
    (comes layout freed s mask e o old order' (subst (λ (r : Entry). IsOutline r o) read_is own) sound is free_is
    (subst (λ (r : Entry). IsMask (map mark_of old) (access_of r) mask) read_is mask_is) order_is (subst (λ (r : Entry). layout.blocks + r.blocks ≤ 32768) read_is fits)))))

-- no count is greater than 64
pub counts_few : (layout : SetInMemory) (tag : Tag) → FitTogether layout → get_or layout.tag_counts (low_byte tag) 0 ≤ 64
counts_few layout tag h = omega (arith, counted_few (tasks_in layout.slots layout.order) layout.tag_counts tag h.counted, length-map layout.order (held_in layout.slots), h.count)

-- what is noted of tasks is so too once a task has come
pub noted_comes : (holds : Outline → Bool) (layout : SetInMemory) (freed order' : List ℕ) (s noted noted' : ℕ) (o : Outline) → FitTogether layout → layout.free ≡ freed ++ s ∷ [] → order' ≡ layout.order ++ s ∷ [] → noted' ≡ with_slot (holds o) s noted → AreNoted holds layout.outlines layout.order layout.free noted →
    AreNoted holds (set layout.outlines s o) order' freed noted'
noted_comes holds layout freed order' s noted noted' o sound free_is order_is noted_is h =
    let small : s < 64 = (All-right (λ q. q < 64) freed (s ∷ []) (subst (AllByRecursion (λ q. q < 64)) free_is sound.small)).0 in
    let one : count_of s layout.order + (count_of s freed + 1) ≡ 1 = omega (arith, sound.once s small, ap (count_of s) free_is, count-append s freed (s ∷ []), count_one s) in
    subst (λ l. AreNoted holds (set layout.outlines s o) l freed noted') (sym order_is)
    (subst (AreNoted holds (set layout.outlines s o) (layout.order ++ s ∷ []) freed) (sym noted_is)
    (noted_with holds layout.outlines layout.order freed s noted o small (omega (arith, small, sound.outlined.room)) (omega (arith, one)) (omega (arith, one)) (subst (λ l. AreNoted holds layout.outlines layout.order l noted) free_is h)))

-- and once one has left
pub noted_leaves : (holds : Outline → Bool) (layout : SetInMemory) (place s : ℕ) (order' free' : List ℕ) (noted : ℕ) → FitTogether layout → place < length layout.order → s ≡ get_or layout.order place s → order' ≡ remove layout.order place → free' ≡ layout.free ++ s ∷ [] → AreNoted holds layout.outlines layout.order layout.free noted →
    AreNoted holds layout.outlines order' free' (clear_bit s noted)
noted_leaves holds layout place s order' free' noted sound within at order_is free_is h =
    let small : s < 64 = subst (λ q. q < 64) (sym at) (All-at (λ q. q < 64) layout.order place s within sound.taken) in
    let front = take place layout.order in
    let back = drop (suc place) layout.order in
    let parts : layout.order ≡ front ++ s ∷ back = parted layout.order place s within ∙ ap (λ q. front ++ q ∷ back) (sym at) in
    let parted_sound = subst (λ l. FitTogether (record layout { order = l })) parts sound in
    let out = alone layout front s back parted_sound small in
    subst (λ l. AreNoted holds layout.outlines l free' (clear_bit s noted)) (sym order_is)
    (subst (λ l. AreNoted holds layout.outlines (remove layout.order place) l (clear_bit s noted)) (sym free_is)
    (noted_without holds layout.outlines front s back layout.free noted small out.0 out.1 (omega (arith, parted_sound.once s small, count-append s front (s ∷ back), count_of-first s back)) parted_sound.taken sound.small
    (subst (λ l. AreNoted holds layout.outlines l layout.free noted) parts h)))

-- of no task nothing is noted
pub noted_none : (holds : Outline → Bool) (outlines : List Outline) (order free : List ℕ) → order ≡ [] → AllByRecursion (λ q. q < 64) free → AreNoted holds outlines order free 0
noted_none holds outlines order free none small =
    subst (λ l. AreNoted holds outlines l free 0) (sym none) (record { held = tt; vacant = All-weaken (λ q. q < 64) (λ q. bit_at 0 q ≡ 0) (λ q lt. bit_at-zero q) free small })

-- a number that stands at each place of a list
pub get_or-replicate_same : (n q : ℕ) → ◌≡◌ {A = ℕ} (get_or {A = ℕ} (replicate {A = ℕ} n 0) q 0) 0
get_or-replicate_same zero q = refl
get_or-replicate_same (suc n) zero = refl
get_or-replicate_same (suc n) (suc q) = get_or-replicate_same n q

-- slots with nothing in them
pub sound_new : (slots : List Entry) (outlines : List Outline) (free masks order tag_counts : List ℕ) → length outlines ≡ 64 → length slots ≡ 64 → order ≡ [] → masks ≡ replicate 64 0 → tag_counts ≡ replicate 256 0 → length free ≡ 64 → AllByRecursion (λ q. q < 64) free → ((q : ℕ) → q < 64 → count_of q free ≡ 1) →
    FitTogether (record { slots = slots; outlines = outlines; order = order; free = free; masks = masks; blocks = 0; active = 0; tag_counts = tag_counts })
sound_new slots outlines free masks order tag_counts wide room none zeros nothing long small once =
    subst (λ l. FitTogether (record { slots = slots; outlines = outlines; order = l; free = free; masks = masks; blocks = 0; active = 0; tag_counts = tag_counts })) (sym none) (record {
      room = room;
      wide = ap length zeros;
      taken = tt;
      small = small;
      once = λ q lt. omega (arith, once q lt);
      count = omega (arith, long);
      masked = record { full = tt; empty = λ q gone. ap (λ l. get_or l q 0) zeros ∙ get_or-replicate_same 64 q };
      outlined = record { room = wide; each = tt };
      total = refl;
      few = omega arith;
      noted = noted_none is_active outlines [] free refl small;
      counted = record { wide = ap length nothing ∙ length-replicate {A = ℕ} 256 0; each = λ low lt. ap (λ l. get_or l low 0) nothing ∙ get_or-replicate_same 256 low };
    })

-- one more slot is free
pub record FreeUpTo (k : ℕ) (free : List ℕ) : Type 0 where
  pub small : AllByRecursion (λ q. q < 64) free
  pub once : (q : ℕ) → q < k → count_of q free ≡ 1
  pub none : (q : ℕ) → k ≤ q → count_of q free ≡ 0

pub free_more : (k : ℕ) (free free' : List ℕ) → k < 64 → free' ≡ free ++ k ∷ [] → FreeUpTo k free → FreeUpTo (k + 1) free'
free_more k free free' lt is h =
    subst (FreeUpTo (k + 1)) (sym is) (record {
      small = All-append (λ q. q < 64) free (k ∷ []) h.small (lt, tt);
      once = λ q below. ⊎_elim
          (λ here. subst (λ r. count_of r (free ++ k ∷ []) ≡ 1) (sym here) (omega (arith, count-append k free (k ∷ []), count_one k, h.none k (omega arith))))
          (λ less. omega (arith, count-append q free (k ∷ []), h.once q less, other q less))
          (sort q below);
      none = λ q above. omega (arith, count-append q free (k ∷ []), h.none q (omega arith), other_above q above);
    })
  where
    sort : (q : ℕ) → q < k + 1 → (q ≡ k) ⊎ (q < k)
    sort q h = (elim (q == k) as (λ b. (q == k) ≡ b → (q ≡ k) ⊎ (q < k)) [ true ↦ λ e. inl (eqb-true q k e) | false ↦ λ e. inr (let ne = eqb-false q k e in omega arith) ]) refl

    differ : (q : ℕ) → (q ≡ k → ⊥) → (q == k) ≡ false
    differ q h = (elim (q == k) as (λ b. (q == k) ≡ b → b ≡ false) [ true ↦ λ e. absurd (h (eqb-true q k e)) | false ↦ λ e. refl ]) refl

    other : (q : ℕ) → q < k → count_of q (k ∷ []) ≡ 0
    other q h = count_other q k (differ q (λ e. omega arith))

    other_above : (q : ℕ) → k + 1 ≤ q → count_of q (k ∷ []) ≡ 0
    other_above q h = count_other q k (differ q (λ e. omega arith))

-- ---- pages of a task

pub entry_at_or : (slots : List Entry) (order : List ℕ) (place d : ℕ) → place < length order → entry_at (tasks_in slots order) place ≡ Some (get_or slots (get_or order place d) no_entry)
entry_at_or slots order place d lt =
    ap (option_map (λ h. h.entry)) (slice_get-get_or (tasks_in slots order) place (held_in slots d) (omega (arith, length-map order (held_in slots))))
    ∙ ap (λ h. Some h.entry) (get_or-map (held_in slots) order place d)

pub count_at : (order : List ℕ) (k s : ℕ) → k < length order → get_or order k 0 ≡ s → 1 ≤ count_of s order
count_at [] k s lt is = absurd (omega arith)
count_at (q ∷ qs) zero s lt is = let e = eq-eqb q s is in rw e (omega arith)
count_at (q ∷ qs) (suc k) s lt is = let r = count_at qs k s (omega arith) is in omega arith

pub record Changes (tasks : List Held) (place : ℕ) (body : List Block) (layout : SetInMemory) : Type 0 where
  pub sound : FitTogether layout
  pub rest : tasks_in layout.slots layout.order ≡ change_at tasks place (with_body body)

module _ (slots : List Entry) (s : ℕ) (body : List Block) (within : s < length slots) where
  abbrev changed : List Entry
  changed = set slots s (with_body body (held_in slots s)).entry

  there : get_or changed s no_entry ≡ (with_body body (held_in slots s)).entry
  there = get_or-set_same slots s (with_body body (held_in slots s)).entry no_entry within

  -- what is the same of each slot
  same_of : {X : Type 0} (f : ℕ → Entry → X) → f s (with_body body (held_in slots s)).entry ≡ f s (get_or slots s no_entry) → (q : ℕ) → f q (get_or changed q no_entry) ≡ f q (get_or slots q no_entry)
  same_of f here q =
      (elim (q == s) as (λ b. (q == s) ≡ b → f q (get_or changed q no_entry) ≡ f q (get_or slots q no_entry)) [
        | true ↦ λ e. subst (λ r. f r (get_or changed r no_entry) ≡ f r (get_or slots r no_entry)) (sym (eqb-true q s e)) (ap (f s) there ∙ here)
        | false ↦ λ e. ap (f q) (get_or-set_other slots s q (with_body body (held_in slots s)).entry no_entry (eqb-false q s e))
      ]) refl

  outline_same : (o : Outline) (q : ℕ) → IsOutline (get_or slots q no_entry) o → IsOutline (get_or changed q no_entry) o
  outline_same o q =
      (elim (q == s) as (λ b. (q == s) ≡ b → IsOutline (get_or slots q no_entry) o → IsOutline (get_or changed q no_entry) o) [
        | true ↦ λ e is. subst (λ r. IsOutline (get_or changed r no_entry) o) (sym (eqb-true q s e)) (subst (λ x. IsOutline x o) (sym there)
            (outline_with (get_or slots s no_entry) body o (subst (λ r. IsOutline (get_or slots r no_entry) o) (eqb-true q s e) is)))
        | false ↦ λ e is. subst (λ x. IsOutline x o) (sym (get_or-set_other slots s q (with_body body (held_in slots s)).entry no_entry (eqb-false q s e))) is
      ]) refl

  marks_same : (order : List ℕ) → map mark_of (tasks_in changed order) ≡ map mark_of (tasks_in slots order)
  marks_same [] = refl
  marks_same (q ∷ qs) = ap (λ m. m ∷ map mark_of (tasks_in changed qs)) (same_of (λ r o. record { slot = r; access = access_of o }) refl q) ∙ ap (λ l. mark_of (held_in slots q) ∷ l) (marks_same qs)

  counts_same : (low : ℕ) (order : List ℕ) → how_many (has_low_byte low) (tasks_in changed order) ≡ how_many (has_low_byte low) (tasks_in slots order)
  counts_same low [] = refl
  counts_same low (q ∷ qs) =
      ap (λ n. n + how_many (has_low_byte low) (tasks_in changed qs)) (same_of (λ r o. if low_byte o.tag == low then 1 else 0) refl q)
      ∙ ap (λ n. (if has_low_byte low (held_in slots q) then 1 else 0) + n) (counts_same low qs)

  blocks_same : (order : List ℕ) → total_blocks (tasks_in changed order) ≡ total_blocks (tasks_in slots order)
  blocks_same [] = refl
  blocks_same (q ∷ qs) =
      sum_by-cons (λ (h : Held). h.entry.blocks) (held_in changed q) (tasks_in changed qs)
      ∙ ap (λ n. n + total_blocks (tasks_in changed qs)) (same_of (λ r o. o.blocks) refl q)
      ∙ ap (λ n. (held_in slots q).entry.blocks + n) (blocks_same qs)
      ∙ sym (sum_by-cons (λ (h : Held). h.entry.blocks) (held_in slots q) (tasks_in slots qs))

  change_is : (order : List ℕ) (place : ℕ) → place < length order → count_of s order ≤ 1 → get_or order place 0 ≡ s → tasks_in changed order ≡ change_at (tasks_in slots order) place (with_body body)
  change_is [] place lt once is = absurd (omega arith)
  change_is (q ∷ qs) zero lt once is =
      let here = eq-eqb q s is in
      let none : count_of s qs ≡ 0 = rest_none q (count_of s qs) here once in
      let head : held_in changed q ≡ with_body body (held_in slots q) = subst (λ r. held_in changed r ≡ with_body body (held_in slots r)) (sym is) (ap (λ o. record { slot = s; entry = o }) there) in
      ap (λ l. held_in changed q ∷ l) (tasks_set_other slots s (with_body body (held_in slots s)).entry qs none) ∙ ap (λ h. h ∷ tasks_in slots qs) head
    where
      rest_none : (q n : ℕ) → (q == s) ≡ true → (if q == s then 1 else 0) + n ≤ 1 → n ≡ 0
      rest_none q n e h = let h' : (if true then 1 else 0) + n ≤ 1 = subst (λ b. (if b then 1 else 0) + n ≤ 1) e h in omega arith
  change_is (q ∷ qs) (suc k) lt once is =
      let some = count_at qs k s (omega arith) is in
      let r = apart q (count_of s qs) once some in
      ap (λ o. record { slot = q; entry = o } ∷ tasks_in changed qs) (get_or-set_other slots s q (with_body body (held_in slots s)).entry no_entry (eqb-false q s r.0))
      ∙ ap (λ l. held_in slots q ∷ l) (change_is qs k (omega arith) r.1 is)
    where
      apart : (q n : ℕ) → (if q == s then 1 else 0) + n ≤ 1 → 1 ≤ n → ((q == s) ≡ false) × (n ≤ 1)
      apart q n h some = (elim (q == s) as (λ b. (if b then 1 else 0) + n ≤ 1 → (b ≡ false) × (n ≤ 1)) [ true ↦ λ e. absurd (omega arith) | false ↦ λ e. (refl, omega arith) ]) h

-- the slot that was read at the place of a task
pub slot_read : (slots : List Entry) (order : List ℕ) (tasks : List Held) (place slot : ℕ) → tasks_in slots order ≡ tasks → place < length tasks
    → slot ≡ get_or order place slot → slot ≡ get_or order place 0
slot_read slots order tasks place slot is lt read =
    get_or_read_under order place (length order) slot 0 read (omega (arith, length-map order (held_in slots), ap length is, lt)) refl

pub changes : (layout : SetInMemory) (tasks : List Held) (place slot : ℕ) (body : List Block) (slots' : List Entry) → FitTogether layout → tasks_in layout.slots layout.order ≡ tasks → place < length tasks → slot ≡ get_or layout.order place slot →
    slots' ≡ set layout.slots slot (with_body body (held_in layout.slots slot)).entry → Changes tasks place body (record layout { slots = slots' })
changes layout tasks place slot body slots' sound is lt read slots_is =
    let same = slot_read layout.slots layout.order tasks place slot is lt read in
    let s : ℕ = get_or layout.order place 0 in
    let within : place < length layout.order = omega (arith, length-map layout.order (held_in layout.slots), ap length is) in
    let small : s < 64 = All-at (λ q. q < 64) layout.order place 0 within sound.taken in
    let room : s < length layout.slots = omega (arith, small, sound.room) in
    let slots_are : slots' ≡ changed layout.slots s body room = slots_is ∙ ap (λ q. set layout.slots q (with_body body (held_in layout.slots q)).entry) same in
    let new_sound : FitTogether (record layout { slots = changed layout.slots s body room }) = record {
      room = length-set layout.slots s (with_body body (held_in layout.slots s)).entry ∙ sound.room;
      wide = sound.wide;
      taken = sound.taken;
      small = sound.small;
      once = sound.once;
      count = sound.count;
      masked = record {
        full = subst (λ l. HaveMasks [] l layout.masks) (sym (marks_same layout.slots s body room layout.order)) sound.masked.full;
        empty = λ q gone. sound.masked.empty q (ap (count_of q) (slots_of_tasks layout.slots layout.order ∙ sym (slots_of_tasks (changed layout.slots s body room) layout.order)) ∙ gone);
      };
      outlined = record {
        room = sound.outlined.room;
        each = All-weaken (λ q. IsOutline (get_or layout.slots q no_entry) (outline_in layout.outlines q)) (λ q. IsOutline (get_or (changed layout.slots s body room) q no_entry) (outline_in layout.outlines q))
            (λ q. outline_same layout.slots s body room (outline_in layout.outlines q) q) layout.order sound.outlined.each;
      };
      total = blocks_same layout.slots s body room layout.order ∙ sound.total;
      few = sound.few;
      noted = sound.noted;
      counted = record {
        wide = sound.counted.wide;
        each = λ low lt. sound.counted.each low lt ∙ sym (counts_same layout.slots s body room low layout.order);
      };
    } in
    let once : count_of s layout.order ≤ 1 = omega (arith, sound.once s small) in
    record {
      sound = subst (λ l. FitTogether (record layout { slots = l })) (sym slots_are) new_sound;
      rest = ap (λ l. tasks_in l layout.order) slots_are ∙ change_is layout.slots s body room layout.order place within once refl ∙ ap (λ l. change_at l place (with_body body)) is;
    }

pub body_is : (slots : List Entry) (order : List ℕ) (tasks : List Held) (place slot : ℕ) (taken : List Block) → tasks_in slots order ≡ tasks → place < length tasks → slot ≡ get_or order place slot → taken ≡ (get_or slots slot no_entry).body →
    option_map (λ e. e.body) (entry_at tasks place) ≡ Some taken
body_is slots order tasks place slot taken is lt read taken_is =
    ap (λ l. option_map (λ e. e.body) (entry_at l place)) (sym is)
    ∙ ap (option_map (λ e. e.body)) (entry_at_or slots order place 0 (omega (arith, length-map order (held_in slots), ap length is)))
    ∙ ap (λ q. Some (get_or slots q no_entry).body) (sym (slot_read slots order tasks place slot is lt read))
    ∙ ap Some (sym taken_is)

-- no other task lies in the slot of a task
pub slot_alone : (layout : SetInMemory) (tasks : List Held) (place slot : ℕ) → FitTogether layout → tasks_in layout.slots layout.order ≡ tasks → place < length tasks → slot ≡ get_or layout.order place slot →
    (slot < 64) × (count_of slot (slots_of tasks) ≡ 1)
slot_alone layout tasks place slot sound is lt read =
    let same = slot_read layout.slots layout.order tasks place slot is lt read in
    let within : place < length layout.order = omega (arith, length-map layout.order (held_in layout.slots), ap length is) in
    let small : get_or layout.order place 0 < 64 = All-at (λ q. q < 64) layout.order place 0 within sound.taken in
    let once = sound.once (get_or layout.order place 0) small in
    let some = count_at layout.order place (get_or layout.order place 0) within refl in
    let one : count_of (get_or layout.order place 0) layout.order ≡ 1 = omega arith in
    subst (λ q. (q < 64) × (count_of q (slots_of tasks) ≡ 1)) (sym same)
    (small, ap (count_of (get_or layout.order place 0)) (sym (sym (slots_of_tasks layout.slots layout.order) ∙ ap slots_of is)) ∙ one)

-- a slot that none of these has
not_in : (slots : List Entry) (s : ℕ) (order : List ℕ) → count_of s order ≡ 0 → AllByRecursion (λ (other : Held). (s == other.slot) ≡ false) (tasks_in slots order)
not_in slots s [] h = tt
not_in slots s (q ∷ qs) h =
    let out = head_out s q (count_of s qs) h in
    (ne_eqb s q (λ e. eqb-false q s out.0 (sym e)), not_in slots s qs out.1)

-- the slots of all tasks differ
pub own_slots : (slots : List Entry) (order : List ℕ) → AllByRecursion (λ s. count_of s order ≤ 1) order → AreOwnSlots (tasks_in slots order)
unfolding IsDistinct
own_slots slots [] once = tt
own_slots slots (q ∷ qs) once =
    let one : count_of q (q ∷ qs) ≡ 1 + count_of q qs = rw (eq-eqb q q refl) (omega arith) in
    (not_in slots q qs (omega (arith, one, once.0)), own_slots slots qs (All-weaken (λ s. count_of s (q ∷ qs) ≤ 1) (λ s. count_of s qs ≤ 1) (λ s few. fewer s (q == s) few) qs once.1))
  where
    fewer : (s : ℕ) (b : Bool) → (if q == s then 1 else 0) + count_of s qs ≤ 1 → count_of s qs ≤ 1
    fewer s b few = omega (arith, few)

pub own_of : (layout : SetInMemory) (tasks : List Held) → FitTogether layout → tasks_in layout.slots layout.order ≡ tasks → AreOwnSlots tasks
own_of layout tasks sound is =
    subst AreOwnSlots is (own_slots layout.slots layout.order (All-weaken (λ s. s < 64) (λ s. count_of s layout.order ≤ 1) (λ s small. omega (arith, sound.once s small)) layout.order sound.taken))

-- ---- the masks of the tasks, place by place

barred_map : (tasks : List Held) (e : Entry) (q : ℕ) → is_marked (map mark_of tasks) (access_of e) q ≡ is_barred_from tasks e q
barred_map [] e q = refl
barred_map (h ∷ hs) e q = ap (λ b. ((h.slot == q) && conflicts h.entry e) || b) (barred_map hs e q)

masks_from : (earlier tasks : List Held) (masks : List ℕ) (place : ℕ) (held : Held) → HaveMasks (map mark_of earlier) (map mark_of tasks) masks → slice_get tasks place ≡ Some held → (q : ℕ) → q < 64 →
    bit_at (get_or masks held.slot 0) q ≡ bit (is_barred_from (earlier ++ take place tasks) held.entry q)
masks_from earlier [] masks place held are is q lt = cc
masks_from earlier (h ∷ hs) masks zero held are is q lt =
    let same : h ≡ held = cc in
    let here : IsMask (map mark_of earlier) (access_of held.entry) (get_or masks held.slot 0) = subst (λ x. IsMask (map mark_of earlier) (access_of x.entry) (get_or masks x.slot 0)) same are.0 in
    here q lt ∙ ap bit (barred_map earlier held.entry q ∙ ap (λ l. is_barred_from l held.entry q) (sym (append-nil earlier)))
masks_from earlier (h ∷ hs) masks (suc place) held are is q lt =
    masks_from (earlier ++ h ∷ []) hs masks place held (subst (λ l. HaveMasks l (map mark_of hs) masks) (sym (map-append mark_of earlier (h ∷ []))) are.1) is q lt
    ∙ ap (λ l. bit (is_barred_from l held.entry q)) (append_assoc earlier (h ∷ []) (take place hs))

pub are_masks : (tasks tasks' : List Held) (masks : List ℕ) → tasks ≡ tasks' → IsMasked tasks masks → AreMasks tasks' masks
are_masks tasks tasks' masks is masked =
    subst (λ l. AreMasks l masks) is (record { held = λ place held. masks_from [] tasks masks place held masked.full; empty = masked.empty })

-- the pages of the task at a place, once they were changed
pub body-changed : (tasks : List Held) (place : ℕ) (body : List Block) → place < length tasks → option_map (λ e. e.body) (entry_at (change_at tasks place (with_body body)) place) ≡ Some body
body-changed [] place body lt = absurd (omega arith)
body-changed (h ∷ hs) zero body lt = refl
body-changed (h ∷ hs) (suc place) body lt = body-changed hs place body (omega arith)
