-- What is outstanding, and what it may be.
use Rattle.std.proofs.Common.{inl, inr, ◌≡◌, refl, ap, subst, arith, cond, ℕ, ◌≤◌, ◌≢◌, zero, suc, Bool, true, false, List, [], ◌∷◌, Some, map, length}
use Rattle.std.proofs.lemmas.Bool.{eqb-true}
use Rattle.std.specs.Prelude.{◌||◌}
use Rattle.std.specs.List.{AllByRecursion, AllZip, find, list_any}
use Rattle.satl_base.specs.Cells.{Cell}
use Rattle.satl_base.specs.Lists.{IsIn, how_many, remove_first, change_at}
use Rattle.satl_base.proofs.ListsLemmas.{count_removed, find_passes}
use Rattle.satl_regs.specs.Sectors.{IsLeftBehind}
use Rattle.satl_drive.specs.Queue.{is_tagged}
use Rattle.satl_drive.specs.State.{Outstanding}

-- what is found is there
pub found_any : {X : Type 0} (p : X → Bool) (xs : List X) (y : X) → find p xs ≡ Some y → list_any p xs ≡ true
found_any p [] y h = absurd cc
found_any p (x ∷ xs) y h =
    elim (p x) as (λ b. cond b (Some x) (find p xs) ≡ Some y → (b || list_any p xs) ≡ true)
    [ true ↦ λ k. refl | false ↦ λ k. found_any p xs y k ] h

-- a command of one tag has no other
pub other_tag : (tag other : ℕ) (q : Outstanding) → other ≢ tag → is_tagged tag q ≡ true → how_many (is_tagged other) (q ∷ []) ≡ 0
other_tag tag other q apart is = go (is_tagged other q) refl
  where
    go : (b : Bool) → is_tagged other q ≡ b → how_many (is_tagged other) (q ∷ []) ≡ 0
    go true same = absurd (apart (omega (arith, eqb-true q.command.tag other same, eqb-true q.command.tag tag is)))
    go false same = rw (same) refl

-- once a command has left, the others are as many as before
pub others_counted : (tag other : ℕ) (q : Outstanding) (old : List Outstanding) → other ≢ tag → find (is_tagged tag) old ≡ Some q
    → how_many (is_tagged other) (remove_first (is_tagged tag) old) ≡ how_many (is_tagged other) old
others_counted tag other q old apart found =
    omega (arith, count_removed (is_tagged tag) (is_tagged other) old q found, other_tag tag other q apart (find_passes (is_tagged tag) old q found))

-- behind the last cell nothing changes
pub change_behind : (f : Cell → Cell) (cells : List Cell) (lba : ℕ) → length cells ≤ lba → change_at cells lba f ≡ cells
change_behind f [] lba h = refl
change_behind f (c ∷ cs) zero h = absurd (omega (arith, h))
change_behind f (c ∷ cs) (suc lba) h = ap (λ l. c ∷ l) (change_behind f cs lba (omega (arith, h)))

-- cells that were written back give the same blocks after a loss of power
pub left_as_read : (old new : List Cell) → AllByRecursion (λ c. c.may ≡ c.now ∷ []) old → AllZip IsLeftBehind old new → map (λ c. c.now) new ≡ map (λ c. c.now) old
left_as_read [] [] w h = refl
left_as_read [] (d ∷ ds) w h = absurd h
left_as_read (c ∷ cs) [] w h = absurd h
left_as_read (c ∷ cs) (d ∷ ds) w h = rw (one (subst (IsIn d.now) w.0 h.0.one), left_as_read cs ds w.1 h.1) refl
  where
    one : IsIn d.now (c.now ∷ []) → d.now ≡ c.now
    one (inl same) = same
    one (inr none) = absurd none
