-- The slots of the sectors, and their stable blocks.
use Rattle.std.proofs.Common.{◌≡◌, ◌≢◌, refl, sym, subst, ◌∙◌, ap, inl, inr, ◌⊎◌, ℕ, ◌+◌, ◌<◌, zero, suc, Bool, true, false, cond, List, [], ◌∷◌, arith, count_by, is_some, length, Option, Some, None}
use Rattle.std.specs.Prelude.{◌^◌, option_map, replicate, slice_index_or, slice_set, unwrap_or}
use Rattle.std.specs.List.{AllZip}
use Rattle.std.proofs.lemmas.List.{get_or-set_other, get_or-set_same, get_or_default, length-replicate, length-set, set-get_or}
use Rattle.std.proofs.lemmas.List.Folds.{sum_by-replicate}
use Rattle.std.proofs.lemmas.List.Sums.{count_by-le-length, sum_by-set}
use Rattle.std.proofs.lemmas.Slice.Zip.{AllZip-long}
use Rattle.satl_disk.specs.Sectors.{written_stable}
use Rattle.satl_base.specs.declared.block.Block.{Block}
use Rattle.satl_base.specs.Blocks.{zero_block}
use Rattle.satl_base.specs.Lists.{paired}
use Rattle.satl_disk.specs.Layout.{AreSlots, HasSlot, block_at, slot_at, slot_given, stable_at, stable_of}

-- two lists side by side
paired-length : {A B C : Type 0} (f : A → B → C) (xs : List A) (ys : List B) → length xs ≡ length ys → length (paired f xs ys) ≡ length ys
paired-length f [] ys h = h
paired-length f (x ∷ xs) [] h = refl
paired-length f (x ∷ xs) (y ∷ ys) h = ap suc (paired-length f xs ys (omega arith))

pub paired-replicate : {A B C : Type 0} (f : A → B → C) (x : A) (y : B) (n : ℕ) → paired f (replicate n x) (replicate n y) ≡ replicate n (f x y)
paired-replicate f x y zero = refl
paired-replicate f x y (suc n) = ap (λ zs. f x y ∷ zs) (paired-replicate f x y n)

-- where one value of the first list decides
paired-first : {A B C : Type 0} (f : A → B → C) (x : A) (z : C) → ((y : B) → f x y ≡ z) → (ys : List B) (n : ℕ) → n ≡ length ys → paired f (replicate n x) ys ≡ replicate n z
paired-first f x z is [] zero h = refl
paired-first f x z is [] (suc n) h = absurd (omega arith)
paired-first f x z is (y ∷ ys) zero h = absurd (omega arith)
paired-first f x z is (y ∷ ys) (suc n) h = ap (λ a. a ∷ paired f (replicate n x) ys) (is y) ∙ ap (λ zs. z ∷ zs) (paired-first f x z is ys n (omega arith))

paired-set : {A B C : Type 0} (f : A → B → C) (xs : List A) (ys : List B) (place : ℕ) (x : A) (y : B) → paired f (slice_set xs place x) (slice_set ys place y) ≡ slice_set (paired f xs ys) place (f x y)
paired-set f [] ys place x y = refl
paired-set f (a ∷ xs) [] zero x y = refl
paired-set f (a ∷ xs) [] (suc place) x y = refl
paired-set f (a ∷ xs) (b ∷ ys) zero x y = refl
paired-set f (a ∷ xs) (b ∷ ys) (suc place) x y = ap (λ zs. f a b ∷ zs) (paired-set f xs ys place x y)

paired-at : {A B C : Type 0} (f : A → B → C) (xs : List A) (ys : List B) (place : ℕ) (x : A) (y : B) (z : C) → place < length ys → length xs ≡ length ys →
    f (slice_index_or xs place x) (slice_index_or ys place y) ≡ slice_index_or (paired f xs ys) place z
paired-at f [] ys place x y z h size = absurd (omega arith)
paired-at f (a ∷ xs) [] place x y z h size = absurd (omega arith)
paired-at f (a ∷ xs) (b ∷ ys) zero x y z h size = refl
paired-at f (a ∷ xs) (b ∷ ys) (suc place) x y z h size = paired-at f xs ys place x y z (omega arith) (omega arith)

-- a sector takes a slot: one more is taken
taken_more : (slots : List (Option ℕ)) (place k : ℕ) → place < length slots → slot_at slots place ≡ None → count_by is_some (slice_set slots place (Some k)) ≡ suc (count_by is_some slots)
taken_more slots place k h none =
    omega (arith, sum_by-set (λ (s : Option ℕ). cond (is_some s) 1 0) slots place (Some k) None h, ap {B = ℕ} (λ (s : Option ℕ). cond (is_some s) 1 0) none)

none_taken : (n : ℕ) → count_by {X = Option ℕ} is_some (replicate n None) ≡ 0
none_taken n = let none : Option ℕ = None in omega (arith, sum_by-replicate (λ (s : Option ℕ). cond (is_some s) 1 0) n none)

never_slot : (n place k : ℕ) → slot_at (replicate n None) place ≡ Some k → ⊥
never_slot zero place k h = cc
never_slot (suc n) zero k h = cc
never_slot (suc n) (suc place) k h = never_slot n place k h

-- no sector has a slot
pub empty_slots : (n : ℕ) → n < 2 ^ 32 → AreSlots 0 (replicate n None)
empty_slots n few =
    let none : Option ℕ = None in
    record {
      few = omega (arith, length-replicate n none, few);
      count = none_taken n;
      below = λ place k h. absurd (never_slot n place k h);
      apart = λ place other k h g. absurd (never_slot n place k h);
    }

-- whose slot it is after one sector took one
whose : (slots : List (Option ℕ)) (place slot at k : ℕ) → slot_at (slice_set slots place (Some slot)) at ≡ Some k → ((at ≡ place) × (k ≡ slot)) ⊎ (slot_at slots at ≡ Some k)
whose [] place slot at k h = inr h
whose (s ∷ slots) zero slot zero k h = inl (refl, cc)
whose (s ∷ slots) zero slot (suc at) k h = inr h
whose (s ∷ slots) (suc place) slot zero k h = inr h
whose (s ∷ slots) (suc place) slot (suc at) k h = elim (whose slots place slot at k h) [ inl w ↦ inl (ap suc w.0, w.1) | inr e ↦ inr e ]

-- they are slots still after a sector took the next one
slots_more : (used : ℕ) (slots : List (Option ℕ)) → AreSlots used slots → (place : ℕ) → count_by is_some (slice_set slots place (Some used)) ≡ suc (count_by is_some slots) → AreSlots (used + 1) (slice_set slots place (Some used))
slots_more used slots are place more = record {
  few = omega (arith, length-set slots place (Some used), are.few);
  count = omega (arith, more, are.count);
  below = below;
  apart = apart;
}
  where
    below : (at k : ℕ) → slot_at (slice_set slots place (Some used)) at ≡ Some k → k < used + 1
    below at k h = elim (whose slots place used at k h) [ inl w ↦ omega (arith, w.1) | inr e ↦ omega (arith, are.below at k e) ]

    apart : (at other k : ℕ) → slot_at (slice_set slots place (Some used)) at ≡ Some k → slot_at (slice_set slots place (Some used)) other ≡ Some k → other ≡ at
    apart at other k h g = by (whose slots place used at k h) (whose slots place used other k g)
      where
        by : ((at ≡ place) × (k ≡ used)) ⊎ (slot_at slots at ≡ Some k) → ((other ≡ place) × (k ≡ used)) ⊎ (slot_at slots other ≡ Some k) → other ≡ at
        by (inl v) (inl w) = w.0 ∙ sym v.0
        by (inl v) (inr w) = absurd (omega (arith, v.1, are.below other k w))
        by (inr v) (inl w) = absurd (omega (arith, w.1, are.below at k v))
        by (inr v) (inr w) = are.apart at other k v w

-- what is known of the slot that a sector has
pub record OwnSlot (olds : List (Option ℕ)) (place slot : ℕ) : Type 0 where
  pub stays : olds ≡ slice_set olds place (Some slot)
  pub within : slot < length olds
  pub alone : (other : ℕ) → other ≢ place → slot_at olds other ≢ Some slot

-- what is known of the slot that a sector takes, by what is kept from then on
pub record NextSlot (given : List Bool) (numbers : List ℕ) (olds : List (Option ℕ)) (place slot : ℕ) : Type 0 where
  pub slots : paired slot_given given numbers ≡ slice_set olds place (Some slot)
  pub within : slot < length olds
  pub few : slot + 1 < 2 ^ 32
  pub size : length given ≡ length numbers
  pub are : AreSlots (slot + 1) (paired slot_given given numbers)

-- the slots as they are kept (whether a sector was given one, and which), and as they are seen
module _ (given : List Bool) (numbers : List ℕ) {used : ℕ} {olds : List (Option ℕ)} (view : paired slot_given given numbers ≡ olds)
    (kept : (length given ≡ length numbers) × AreSlots used (paired slot_given given numbers)) where
  are : AreSlots used olds
  are = subst (AreSlots used) view kept.1

  pub lengths_are : (length olds ≡ length given) × (length olds ≡ length numbers)
  lengths_are = let both = paired-length slot_given given numbers kept.0 in (omega (arith, both, ap length view, kept.0), omega (arith, both, ap length view))

  -- all are taken back
  module _ {cleared : List Bool} (cleared_is : cleared ≡ replicate (length given) false) where
    pub none_given : paired slot_given cleared numbers ≡ replicate (length olds) None
    none_given =
        ap (λ g. paired slot_given g numbers) cleared_is
        ∙ paired-first slot_given false None (λ y. refl) numbers (length given) kept.0
        ∙ ap (λ k. replicate k None) (sym lengths_are.0)

    pub none_size : length cleared ≡ length numbers
    none_size = let none : Bool = false in ap length cleared_is ∙ length-replicate (length given) none ∙ kept.0

    pub none_are : AreSlots 0 (paired slot_given cleared numbers)
    none_are = subst (AreSlots 0) (sym none_given) (empty_slots (length olds) are.few)

  -- what is read of them at a place
  module _ (place : ℕ) (within : place < length olds) {has : Bool} (has_is : has ≡ slice_index_or given place false) where
    read : (slot : ℕ) → slot ≡ slice_index_or numbers place slot → slot_given has slot ≡ slot_at olds place
    read slot slot_is =
        ap (λ b. slot_given b slot) has_is ∙ ap (slot_given (slice_index_or given place false)) slot_is
        ∙ paired-at slot_given given numbers place false slot None (omega (arith, within, lengths_are.1)) kept.0
        ∙ ap (λ os. slot_at os place) view

    -- a sector that has a slot
    pub own_slot : has ≡ true → {slot : ℕ} → slot ≡ slice_index_or numbers place slot → OwnSlot olds place slot
    own_slot on {slot} slot_is =
        let is : slot_at olds place ≡ Some slot = sym (read slot slot_is) ∙ ap (λ b. slot_given b slot) on in
        record {
          stays = sym (set-get_or olds place None) ∙ ap (slice_set olds place) is;
          within = omega (arith, are.below place slot is, are.count, count_by-le-length is_some olds);
          alone = λ other ne h. ne (are.apart place other slot is h);
        }

    -- a sector that has none
    module _ (off : has ≡ false) where
      pub no_slot : None ≡ slot_at olds place
      no_slot =
          sym (ap (λ b. slot_given b (slice_index_or numbers place 0)) off)
          ∙ read (slice_index_or numbers place 0) (get_or_default numbers place 0 (slice_index_or numbers place 0) (omega (arith, within, lengths_are.1)))

      pub next_slot : {marked : List Bool} → marked ≡ slice_set given place true → NextSlot marked (slice_set numbers place used) olds place used
      next_slot {marked} mark =
          let more = taken_more olds place used within (sym no_slot) in
          let fits : used < length olds = omega (arith, more, are.count, count_by-le-length is_some (slice_set olds place (Some used)), length-set olds place (Some used)) in
          let slots : paired slot_given marked (slice_set numbers place used) ≡ slice_set olds place (Some used) =
          ap (λ g. paired slot_given g (slice_set numbers place used)) mark ∙ paired-set slot_given given numbers place true used ∙ ap (λ os. slice_set os place (Some used)) view in
          record {
            slots = slots;
            within = fits;
            few = omega (arith, fits, are.few);
            size = ap length mark ∙ length-set given place true ∙ kept.0 ∙ sym (length-set numbers place used);
            are = subst (AreSlots (used + 1)) (sym slots) (slots_more used olds are place more);
          }

-- no sector is dirty
pub clean_have : (slots : List (Option ℕ)) (n : ℕ) → n ≡ length slots → AllZip HasSlot (replicate n false) slots
clean_have [] zero h = tt
clean_have [] (suc n) h = absurd (omega arith)
clean_have (s ∷ slots) zero h = absurd (omega arith)
clean_have (s ∷ slots) (suc n) h = (tt, clean_have slots n (omega arith))

pub clean_stables : (kept : List Block) (slots : List (Option ℕ)) (n : ℕ) → n ≡ length slots → paired (stable_of kept) (replicate n false) slots ≡ replicate n None
clean_stables kept slots n h = paired-first (stable_of kept) false None (λ s. refl) slots n h

-- a sector gets clean
cleared_has : (ds : List Bool) (slots : List (Option ℕ)) (place : ℕ) → AllZip HasSlot ds slots → AllZip HasSlot (slice_set ds place false) slots
cleared_has [] [] place h = tt
cleared_has [] (s ∷ slots) place h = h
cleared_has (d ∷ ds) [] place h = absurd h
cleared_has (d ∷ ds) (s ∷ slots) zero h = (tt, h.1)
cleared_has (d ∷ ds) (s ∷ slots) (suc place) h = (h.0, cleared_has ds slots place h.1)

cleared_stable : (kept : List Block) (ds : List Bool) (slots : List (Option ℕ)) (place : ℕ) → paired (stable_of kept) (slice_set ds place false) slots ≡ slice_set (paired (stable_of kept) ds slots) place None
cleared_stable kept [] slots place = refl
cleared_stable kept (d ∷ ds) [] zero = refl
cleared_stable kept (d ∷ ds) [] (suc place) = refl
cleared_stable kept (d ∷ ds) (s ∷ slots) zero = refl
cleared_stable kept (d ∷ ds) (s ∷ slots) (suc place) = ap (λ os. stable_of kept d s ∷ os) (cleared_stable kept ds slots place)

-- a sector gets dirty, and its old block is kept in its slot
kept_has : (ds : List Bool) (slots : List (Option ℕ)) (place slot : ℕ) → AllZip HasSlot ds slots → AllZip HasSlot (slice_set ds place true) (slice_set slots place (Some slot))
kept_has [] [] place slot h = tt
kept_has [] (s ∷ slots) place slot h = absurd h
kept_has (d ∷ ds) [] place slot h = absurd h
kept_has (d ∷ ds) (s ∷ slots) zero slot h = (tt, h.1)
kept_has (d ∷ ds) (s ∷ slots) (suc place) slot h = (h.0, kept_has ds slots place slot h.1)

module _ (kept : List Block) (slot : ℕ) (b : Block) where
  other_same : (dirty : Bool) (s : Option ℕ) → s ≢ Some slot → stable_of (slice_set kept slot b) dirty s ≡ stable_of kept dirty s
  other_same false s ne = refl
  other_same true None ne = refl
  other_same true (Some k) ne = ap Some (get_or-set_other kept slot k b zero_block (λ e. ne (ap Some e)))

  others_same : (ds : List Bool) (slots : List (Option ℕ)) → ((other : ℕ) → slot_at slots other ≢ Some slot) → paired (stable_of (slice_set kept slot b)) ds slots ≡ paired (stable_of kept) ds slots
  others_same [] slots alone = refl
  others_same (d ∷ ds) [] alone = refl
  others_same (d ∷ ds) (s ∷ slots) alone =
      ap (λ o. o ∷ paired (stable_of (slice_set kept slot b)) ds slots) (other_same d s (alone zero))
      ∙ ap (λ os. stable_of kept d s ∷ os) (others_same ds slots (λ other. alone (suc other)))

  kept_stable : (ds : List Bool) (slots : List (Option ℕ)) (place : ℕ) → slot < length kept → place < length slots → length ds ≡ length slots → ((other : ℕ) → other ≢ place → slot_at slots other ≢ Some slot) →
      paired (stable_of (slice_set kept slot b)) (slice_set ds place true) (slice_set slots place (Some slot)) ≡ slice_set (paired (stable_of kept) ds slots) place (Some b)
  kept_stable [] slots place fits h size alone = refl
  kept_stable (d ∷ ds) [] place fits h size alone = absurd (omega arith)
  kept_stable (d ∷ ds) (s ∷ slots) zero fits h size alone =
      ap (λ x. Some x ∷ paired (stable_of (slice_set kept slot b)) ds slots) (get_or-set_same kept slot b zero_block fits)
      ∙ ap (λ os. Some b ∷ os) (others_same ds slots (λ other. alone (suc other) (omega arith)))
  kept_stable (d ∷ ds) (s ∷ slots) (suc place) fits h size alone =
      ap (λ o. o ∷ paired (stable_of (slice_set kept slot b)) (slice_set ds place true) (slice_set slots place (Some slot))) (other_same d s (alone zero (omega arith)))
      ∙ ap (λ os. stable_of kept d s ∷ os) (kept_stable ds slots place fits (omega arith) (omega arith) (λ other ne. alone (suc other) (λ e. ne (omega arith))))

-- the slot of a dirty sector
has_at : (ds : List Bool) (slots : List (Option ℕ)) (place : ℕ) → AllZip HasSlot ds slots → HasSlot (slice_index_or ds place false) (slot_at slots place)
has_at [] [] place h = tt
has_at [] (s ∷ slots) place h = absurd h
has_at (d ∷ ds) [] place h = absurd h
has_at (d ∷ ds) (s ∷ slots) zero h = h.0
has_at (d ∷ ds) (s ∷ slots) (suc place) h = has_at ds slots place h.1

stable_some : (kept : List Block) (dirty : Bool) (s : Option ℕ) (x : Block) → HasSlot dirty s → dirty ≡ true → stable_of kept dirty s ≡ Some (unwrap_or (stable_of kept dirty s) x)
stable_some kept true (Some k) x h is = refl
stable_some kept true None x h is = absurd h
stable_some kept false s x h is = cc

-- the stable blocks as they are kept, and as they are seen
module _ (kept : List Block) (ds : List Bool) (slots : List (Option ℕ)) {olds : List (Option Block)} (view : paired (stable_of kept) ds slots ≡ olds)
    (inside : AllZip HasSlot ds slots × (length kept ≡ length slots)) where
  sizes_are : length ds ≡ length slots
  sizes_are = sym (AllZip-long HasSlot ds slots inside.0)

  pub stables_are : length olds ≡ length slots
  stables_are = sym (ap length view) ∙ paired-length (stable_of kept) ds slots sizes_are

  pub dirties_are : length olds ≡ length ds
  dirties_are = stables_are ∙ sym sizes_are

  -- what is read of them at a place
  module _ (place : ℕ) (within : place < length olds) {dirty : Bool} (dirty_is : dirty ≡ slice_index_or ds place false) where
    stable_is : stable_of kept dirty (slot_at slots place) ≡ stable_at olds place
    stable_is =
        ap (λ d. stable_of kept d (slot_at slots place)) dirty_is
        ∙ paired-at (stable_of kept) ds slots place false None None (omega (arith, within, stables_are)) sizes_are
        ∙ ap (λ os. stable_at os place) view

    pub clean_none : dirty ≡ false → None ≡ stable_at olds place
    clean_none clean = sym (ap (λ d. stable_of kept d (slot_at slots place)) clean) ∙ stable_is

    pub dirty_some : dirty ≡ true → option_map (block_at kept) (slot_at slots place) ≡ stable_at olds place
    dirty_some is = sym (ap (λ d. stable_of kept d (slot_at slots place)) is) ∙ stable_is

    dirty_stays : (x : Block) → dirty ≡ true → olds ≡ slice_set olds place (Some (unwrap_or (stable_at olds place) x))
    dirty_stays x is =
        let has : HasSlot dirty (slot_at slots place) = subst (λ d. HasSlot d (slot_at slots place)) (sym dirty_is) (has_at ds slots place inside.0) in
        sym (set-get_or olds place None)
        ∙ ap (slice_set olds place) (subst (λ o. o ≡ Some (unwrap_or o x)) stable_is (stable_some kept dirty (slot_at slots place) x has is))

    -- a write through the cache
    module _ (x : Block) {cached : Bool} (through : cached ≡ true) where
      pub clean_written : dirty ≡ false → slice_set olds place (Some x) ≡ slice_set olds place (written_stable cached x (stable_at olds place))
      clean_written clean = ap (slice_set olds place) (sym (ap (λ b. written_stable b x None) through) ∙ ap (written_stable cached x) (clean_none clean))

      pub dirty_written : dirty ≡ true → olds ≡ slice_set olds place (written_stable cached x (stable_at olds place))
      dirty_written is = dirty_stays x is ∙ ap (slice_set olds place) (sym (ap (λ b. written_stable b x (stable_at olds place)) through))

  -- all sectors get clean
  module _ {ds2 : List Bool} {slots2 : List (Option ℕ)} (clear : ds2 ≡ replicate (length ds) false) (taken_back : slots2 ≡ replicate (length slots) None) where
    same : length slots2 ≡ length slots
    same = let none : Option ℕ = None in ap length taken_back ∙ length-replicate (length slots) none

    pub all_clear : paired (stable_of kept) ds2 slots2 ≡ replicate (length olds) None
    all_clear =
        ap (λ xs. paired (stable_of kept) xs slots2) clear
        ∙ clean_stables kept slots2 (length ds) (omega (arith, same, sizes_are))
        ∙ ap (λ k. replicate k None) (sym dirties_are)

    pub all_clear_has : AllZip HasSlot ds2 slots2 × (length kept ≡ length slots2)
    all_clear_has = (subst (λ xs. AllZip HasSlot xs slots2) (sym clear) (clean_have slots2 (length ds) (omega (arith, same, sizes_are))), inside.1 ∙ sym same)

  -- a sector gets clean
  module _ (place : ℕ) {ds2 : List Bool} (unmark : ds2 ≡ slice_set ds place false) where
    pub clear_is : paired (stable_of kept) ds2 slots ≡ slice_set olds place None
    clear_is = ap (λ xs. paired (stable_of kept) xs slots) unmark ∙ cleared_stable kept ds slots place ∙ ap (λ os. slice_set os place None) view

    pub clear_has : AllZip HasSlot ds2 slots × (length kept ≡ length slots)
    clear_has = (subst (λ xs. AllZip HasSlot xs slots) (sym unmark) (cleared_has ds slots place inside.0), inside.1)

  -- a clean sector gets dirty
  module _ (place slot : ℕ) (b : Block) {kept2 : List Block} {ds2 : List Bool} {slots2 : List (Option ℕ)}
      (put : kept2 ≡ slice_set kept slot b) (mark : ds2 ≡ slice_set ds place true) (took : slots2 ≡ slice_set slots place (Some slot)) where
    pub keep_is : place < length olds → slot < length slots → ((other : ℕ) → other ≢ place → slot_at slots other ≢ Some slot) → paired (stable_of kept2) ds2 slots2 ≡ slice_set olds place (Some b)
    keep_is within fits alone =
        ap (λ ks. paired (stable_of ks) ds2 slots2) put
        ∙ ap (λ xs. paired (stable_of (slice_set kept slot b)) xs slots2) mark
        ∙ ap (paired (stable_of (slice_set kept slot b)) (slice_set ds place true)) took
        ∙ kept_stable kept slot b ds slots place (omega (arith, fits, inside.1)) (omega (arith, within, stables_are)) sizes_are alone
        ∙ ap (λ os. slice_set os place (Some b)) view

    pub keep_has : AllZip HasSlot ds2 slots2 × (length kept2 ≡ length slots2)
    keep_has = (
      subst (λ xs. AllZip HasSlot xs slots2) (sym mark) (subst (AllZip HasSlot (slice_set ds place true)) (sym took) (kept_has ds slots place slot inside.0)),
      omega (arith, ap length put, length-set kept slot b, ap length took, length-set slots place (Some slot), inside.1),
    )
