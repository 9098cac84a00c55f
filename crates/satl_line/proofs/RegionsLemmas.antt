-- The slots near blocks, as tasks come and go.
use Rattle.std.proofs.Common.{◌≡◌, refl, sym, ◌∙◌, ap, subst, ℕ, suc, zero, ◌+◌, ◌%◌, ◌<◌, ◌≤◌, Bool, true, false, List, [], ◌∷◌, length, get_or, set, arith, bit_and, bit_or, ◌⊎◌, ⊎_elim, inl, inr}
use Rattle.std.specs.Prelude.{MatchBool, not, nat_lt, ◌==◌, ◌||◌, ◌&&◌, remove}
use Rattle.std.specs.Int.{bit_at, w64}
use Rattle.std.specs.List.{AllByRecursion}
use Rattle.std.proofs.lemmas.Bool.{eqb-true, eqb-false, ltb-false, false_from_ne_true, or_parts}
use Rattle.std.proofs.lemmas.List.{get_or-set_same, get_or-set_other}
use Rattle.std.proofs.Math.ListN.{length-set}
use Rattle.std.proofs.lemmas.Nat.Bits.{bit_at_and, bit_at_or, bit_at_set_same, bit_at_set_other, bit_at_clear_other}
use Rattle.satl_line.specs.declared.outline.Outline.{Outline}
use Rattle.satl_line.specs.declared.regions.Regions.{Regions}
use Rattle.satl_line.specs.Layout.{clear_bit, with_slot}
use Rattle.satl_line.specs.Outlines.{spans_meet}
use Rattle.satl_line.specs.Regions.{OutlinesApart, HasMark, IsNear, HasAllNear, is_broad, region_of, stretch_of, with_mark, without_mark}

-- ---- bits

stays_set : (n s q : ℕ) → s < 64 → bit_at n q ≡ 1 → bit_at (with_slot true s n) q ≡ 1
stays_set n s q small one =
    (elim (q == s) as (λ b. (q == s) ≡ b → bit_at (with_slot true s n) q ≡ 1) [
      | true ↦ λ e. subst (λ r. bit_at (with_slot true s n) r ≡ 1) (sym (eqb-true q s e)) (bit_at_set_same w64 n s small)
      | false ↦ λ e. bit_at_set_other w64 n s small q (eqb-false q s e) ∙ one
    ]) refl

-- ---- regions

region_small : (block : ℕ) → region_of block < 256
region_small block = omega arith

-- what one region has does not touch another
module _ (near : List ℕ) (block new : ℕ) (room : length near ≡ 256) where
  abbrev put : List ℕ
  put = set near (region_of block) new

  put_here : (b : ℕ) → (region_of b == region_of block) ≡ true → get_or put (region_of b) 0 ≡ new
  put_here b e = ap (λ r. get_or put r 0) (eqb-true (region_of b) (region_of block) e) ∙ get_or-set_same near (region_of block) new 0 (omega (arith, room, region_small block))

  -- a slot is still in a region, where it is in the one that is put as it was in the one that stood there
  still_in : (b q : ℕ) → (bit_at (get_or near (region_of block) 0) q ≡ 1 → bit_at new q ≡ 1) → HasMark near b q → HasMark put b q
  still_in b q same is =
      (elim (region_of b == region_of block) as (λ x. (region_of b == region_of block) ≡ x → HasMark put b q) [
        | true ↦ λ e. ap (λ n. bit_at n q) (put_here b e) ∙ same (ap (λ r. bit_at (get_or near r 0) q) (sym (eqb-true (region_of b) (region_of block) e)) ∙ is)
        | false ↦ λ e. ap (λ n. bit_at n q) (get_or-set_other near (region_of block) (region_of b) new 0 (eqb-false (region_of b) (region_of block) e)) ∙ is
      ]) refl

pub in_marked : (near : List ℕ) (block s : ℕ) → length near ≡ 256 → s < 64 → HasMark (with_mark near block s) block s
in_marked near block s room small =
    ap (λ n. bit_at n s) (get_or-set_same near (region_of block) (with_slot true s (get_or near (region_of block) 0)) 0 (omega (arith, room, region_small block)))
    ∙ bit_at_set_same w64 (get_or near (region_of block) 0) s small

pub marked_keeps : (near : List ℕ) (block s b q : ℕ) → length near ≡ 256 → s < 64 → HasMark near b q → HasMark (with_mark near block s) b q
marked_keeps near block s b q room small = still_in near block (with_slot true s (get_or near (region_of block) 0)) room b q (stays_set (get_or near (region_of block) 0) s q small)

pub unmarked_keeps : (near : List ℕ) (block s b q : ℕ) → length near ≡ 256 → s < 64 → q < 64 → (q == s) ≡ false → HasMark near b q → HasMark (without_mark near block s) b q
unmarked_keeps near block s b q room small low other =
    still_in near block (clear_bit s (get_or near (region_of block) 0)) room b q
    (λ one. bit_at_clear_other w64 (get_or near (region_of block) 0) s small q low (eqb-false q s other) ∙ one)

-- ---- tasks

either : {X Y X' Y' : Type 0} (b : Bool) → (X → X') → (Y → Y') → MatchBool b X Y → MatchBool b X' Y'
either true f g h = f h
either false f g h = g h

-- a task that was near still is, where its slot is where it was
near_still : (old new : Regions) (q : ℕ) (o : Outline) → (bit_at old.broad q ≡ 1 → bit_at new.broad q ≡ 1) → ((b : ℕ) → HasMark old.near b q → HasMark new.near b q) → IsNear old q o → IsNear new q o
near_still old new q o still stays = either (is_broad o) still (λ both. (stays o.span.first both.0, stays o.span.last both.1))

-- two spans of two stretches each that meet have a stretch in common
in_common : (a a' b b' : ℕ) → a' ≤ a + 1 → b' ≤ b + 1 → a ≤ b' → b ≤ a' → (a ≡ b) ⊎ ((a' ≡ b) ⊎ (a ≡ b'))
in_common a a' b b' short short' le le' =
    (elim (a == b) as (λ x. (a == b) ≡ x → (a ≡ b) ⊎ ((a' ≡ b) ⊎ (a ≡ b'))) [
      | true ↦ λ e. inl (eqb-true a b e)
      | false ↦ λ e.
          (elim (a' == b) as (λ x. (a' == b) ≡ x → (a ≡ b) ⊎ ((a' ≡ b) ⊎ (a ≡ b'))) [
            | true ↦ λ f. inr (inl (eqb-true a' b f))
            | false ↦ λ f. inr (inr (omega (arith, short, short', le, le', eqb-false a b e, eqb-false a' b f)))
          ]) refl
    ]) refl

-- a task is noted, and all others stay so
module _ (old : Regions) (s : ℕ) (o : Outline) (small : s < 64) (room : length old.near ≡ 256) where
  pub broad_noted : is_broad o ≡ true → IsNear (record old { broad = with_slot true s old.broad }) s o
  broad_noted e = rw e (bit_at_set_same w64 old.broad s small)

  pub broad_others : (other : ℕ) (p : Outline) → IsNear old other p → IsNear (record old { broad = with_slot true s old.broad }) other p
  broad_others other p = near_still old (record old { broad = with_slot true s old.broad }) other p (stays_set old.broad s other small) (λ b is. is)

  module _ (near near' : List ℕ) (near_is : near ≡ with_mark old.near o.span.first s) (near'_is : near' ≡ with_mark near o.span.last s) where
    room_still : length near ≡ 256
    room_still = ap length near_is ∙ length-set old.near (region_of o.span.first) _ ∙ room

    pub two_noted : is_broad o ≡ false → IsNear (record old { near = near' }) s o
    two_noted e =
        rw e (
          subst (λ l. HasMark l o.span.first s) (sym near'_is) (marked_keeps near o.span.last s o.span.first s room_still small (subst (λ l. HasMark l o.span.first s) (sym near_is) (in_marked old.near o.span.first s room small))),
          subst (λ l. HasMark l o.span.last s) (sym near'_is) (in_marked near o.span.last s room_still small),
        )

    pub two_others : (other : ℕ) (p : Outline) → IsNear old other p → IsNear (record old { near = near' }) other p
    two_others other p =
        near_still old (record old { near = near' }) other p (λ is. is)
        (λ b is. subst (λ l. HasMark l b other) (sym near'_is) (marked_keeps near o.span.last s b other room_still small (subst (λ l. HasMark l b other) (sym near_is) (marked_keeps old.near o.span.first s b other room small is))))

-- a task is forgotten, and those in other slots stay noted
pub forgotten_others : (old : Regions) (s first last : ℕ) (near near' : List ℕ) → s < 64 → length old.near ≡ 256 → near ≡ without_mark old.near first s → near' ≡ without_mark near last s → (other : ℕ) (p : Outline) → other < 64 → (other == s) ≡ false → IsNear old other p → IsNear (record { near = near'; broad = clear_bit s old.broad }) other p
forgotten_others old s first last near near' small room near_is near'_is other p low apart =
    let room_still : length near ≡ 256 = ap length near_is ∙ length-set old.near (region_of first) _ ∙ room in
    near_still old (record { near = near'; broad = clear_bit s old.broad }) other p
    (λ one. bit_at_clear_other w64 old.broad s small other low (eqb-false other s apart) ∙ one)
    (λ b is. subst (λ l. HasMark l b other) (sym near'_is) (unmarked_keeps near last s b other room_still small low apart (subst (λ l. HasMark l b other) (sym near_is) (unmarked_keeps old.near first s b other room small low apart is))))

-- ---- the slots beside a task

-- both bounds of a span of at most two stretches
module _ (near : List ℕ) (q : ℕ) (p : Outline) (none : bit_at (get_or near (region_of p.span.first) 0) q ≡ 0) (none' : bit_at (get_or near (region_of p.span.last) 0) q ≡ 0) where
  -- a block whose stretch has one of the bounds is in no region with the slot
  not_in : (b c : ℕ) → bit_at (get_or near (region_of c) 0) q ≡ 0 → stretch_of b ≡ stretch_of c → HasMark near b q → ◌≡◌ {A = ℕ} 0 1
  not_in b c zero_there same is = sym zero_there ∙ ap (λ n. bit_at (get_or near (n % 256) 0) q) (sym same) ∙ is

  pub spans_apart : (o : Outline) → nat_lt (stretch_of o.span.first + 1) (stretch_of o.span.last) ≡ false → nat_lt (stretch_of p.span.first + 1) (stretch_of p.span.last) ≡ false → HasMark near o.span.first q → HasMark near o.span.last q → spans_meet o.span p.span ≡ false
  spans_apart o short short' is is' =
      false_from_ne_true (spans_meet o.span p.span) (λ meet.
      let both = meeting (nat_lt p.span.last o.span.first) (nat_lt o.span.last p.span.first) meet in
      let le = ltb-false p.span.last o.span.first both.0 in
      let le' = ltb-false o.span.last p.span.first both.1 in
      let shared = in_common (stretch_of o.span.first) (stretch_of o.span.last) (stretch_of p.span.first) (stretch_of p.span.last)
      (ltb-false (stretch_of o.span.first + 1) (stretch_of o.span.last) short) (ltb-false (stretch_of p.span.first + 1) (stretch_of p.span.last) short')
      (omega (arith, le)) (omega (arith, le')) in
      let never : ◌≡◌ {A = ℕ} 0 1 = ⊎_elim (λ e. not_in o.span.first p.span.first none e is) (λ r. ⊎_elim (λ e. not_in o.span.last p.span.first none e is') (λ e. not_in o.span.first p.span.last none' e is) r) shared in
      absurd (omega (arith, never)))
    where
      meeting : (a b : Bool) → (not a && not b) ≡ true → (a ≡ false) × (b ≡ false)
      meeting false false h = (refl, refl)
      meeting false true h = absurd cc
      meeting true b h = absurd cc

-- those of some slots that are near
pub near_beside : (regions : Regions) (p : Outline) (some these : ℕ) → is_broad p ≡ false → these ≡ bit_and some (bit_or regions.broad (bit_or (get_or regions.near (region_of p.span.first) 0) (get_or regions.near (region_of p.span.last) 0))) → HasAllNear regions p some these
near_beside regions p some these narrow is = λ slot other lt near one none.
    let marks = bit_or (get_or regions.near (region_of p.span.first) 0) (get_or regions.near (region_of p.span.last) 0) in
    let both = bit_at_and some (bit_or regions.broad marks) slot in
    let bits = bit_at_or regions.broad marks slot in
    let bits' = bit_at_or (get_or regions.near (region_of p.span.first) 0) (get_or regions.near (region_of p.span.last) 0) slot in
    let zero_bit = ap (λ n. bit_at n slot) (sym is) ∙ none in
    by other slot (is_broad other) refl near (omega (arith, both, bits, bits', zero_bit, one)) (omega (arith, both, bits, bits', zero_bit, one)) (omega (arith, both, bits, bits', zero_bit, one))
  where
    by : (o : Outline) (q : ℕ) (b : Bool) → is_broad o ≡ b → MatchBool b (bit_at regions.broad q ≡ 1) (HasMark regions.near o.span.first q × HasMark regions.near o.span.last q) →
        bit_at regions.broad q ≡ 0 → bit_at (get_or regions.near (region_of p.span.first) 0) q ≡ 0 → bit_at (get_or regions.near (region_of p.span.last) 0) q ≡ 0 → OutlinesApart o p
    by o q true e one none none' none'' = absurd (omega (arith, one, none))
    by o q false e both none none' none'' =
        let own = or_parts o.alone _ e in
        let own' = or_parts p.alone _ narrow in
        record {
          alone = ap (λ x. x || p.alone) own.0 ∙ own'.0;
          spans = spans_apart regions.near q p none' none'' o own.1 own'.1 both.0 both.1;
        }

-- ---- tasks in their slots

pub all_removed : {X : Type 0} (P : X → Type 0) (xs : List X) (place : ℕ) → AllByRecursion P xs → AllByRecursion P (remove xs place)
all_removed P [] zero all = tt
all_removed P [] (suc place) all = tt
all_removed P (x ∷ xs) zero all = all.1
all_removed P (x ∷ xs) (suc place) all = (all.0, all_removed P xs place all.1)
