-- Ranges that meet, and the sectors that they have in common.
use Rattle.std.proofs.Common.{◌≡◌, ⊎_elim, inl, inr, sym, ap, ◌∙◌, refl, arith, Bool, true, List, [], ◌∷◌, ℕ, ◌+◌, max, min, lt-ltb, ltb-true}
use Rattle.std.specs.Prelude.{◌||◌}
use Rattle.std.specs.List.{list_any}
use Rattle.std.proofs.lemmas.Bool.{or_right}
use Rattle.satl_base.specs.declared.block.Range.{Range}
use Rattle.satl_base.specs.Lists.{IsIn}
use Rattle.satl_line.specs.Conflict.{any_meet, ranges_meet}
use Rattle.satl_base.specs.Blocks.{lies_in}
use Rattle.satl_laws.proofs.Seen.{by_test, within_from, within_to}

-- one of a list that passes a test
record Passes {X : Type 0} (p : X → Bool) (xs : List X) : Type 0 where
  of : X
  among : IsIn of xs
  passes : p of ≡ true

passes_any : {X : Type 0} (p : X → Bool) (xs : List X) → list_any p xs ≡ true → Passes p xs
passes_any p [] h = absurd cc
passes_any p (x ∷ xs) h =
    by_test (λ b. (b || list_any p xs) ≡ true → Passes p (x ∷ xs)) (p x)
    (λ hit k. record { of = x; among = inl refl; passes = hit })
    (λ miss k. let r = passes_any p xs k in record { of = r.of; among = inr r.among; passes = r.passes })
    h

-- what passes is among them
pub any_passes : {X : Type 0} (p : X → Bool) (xs : List X) (x : X) → IsIn x xs → p x ≡ true → list_any p xs ≡ true
any_passes p [] x i h = elim i [ ]
any_passes p (y ∷ ys) x i h = ⊎_elim (λ same. ap (λ b. b || list_any p ys) (ap p (sym same) ∙ h)) (λ later. or_right (p y) (list_any p ys) (any_passes p ys x later h)) i

-- whether a sector lies in a range
abbrev pub has : ℕ → Range → Bool
has x range = lies_in range.lba range.count x

-- two ranges meet at the higher of their first sectors
meets_at : (a b : Range) → ranges_meet a b ≡ true → (has (max a.lba b.lba) a ≡ true) × (has (max a.lba b.lba) b ≡ true)
meets_at a b h =
    let lt = ltb-true (max a.lba b.lba) (min (a.lba + a.count) (b.lba + b.count)) h in
    (within_to a.lba a.count (max a.lba b.lba) (omega arith) (omega (arith, lt)), within_to b.lba b.count (max a.lba b.lba) (omega arith) (omega (arith, lt)))

-- and ranges that have a sector meet
pub meets : (a b : Range) (x : ℕ) → has x a ≡ true → has x b ≡ true → ranges_meet a b ≡ true
meets a b x h k =
    let p = within_from a.lba a.count x h in
    let q = within_from b.lba b.count x k in
    lt-ltb (max a.lba b.lba) (min (a.lba + a.count) (b.lba + b.count)) (omega (arith, p.0, p.1, q.0, q.1))

-- a sector in ranges of both lists
pub record Common (ranges others : List Range) : Type 0 where
  pub at : ℕ
  pub here : list_any (has at) ranges ≡ true
  pub there : list_any (has at) others ≡ true

pub common : (ranges others : List Range) → any_meet ranges others ≡ true → Common ranges others
common ranges others h =
    let b = passes_any (λ other. list_any (λ range. ranges_meet range other) ranges) others h in
    let a = passes_any (λ range. ranges_meet range b.of) ranges b.passes in
    let m = meets_at a.of b.of a.passes in
    record {
      at = max (a.of).lba (b.of).lba;
      here = any_passes (has (max (a.of).lba (b.of).lba)) ranges a.of a.among m.0;
      there = any_passes (has (max (a.of).lba (b.of).lba)) others b.of b.among m.1;
    }

pub common_meets : (ranges others : List Range) (x : ℕ) → list_any (has x) ranges ≡ true → list_any (has x) others ≡ true → any_meet ranges others ≡ true
common_meets ranges others x h k =
    let a = passes_any (has x) ranges h in
    let b = passes_any (has x) others k in
    any_passes (λ other. list_any (λ range. ranges_meet range other) ranges) others b.of b.among
    (any_passes (λ range. ranges_meet range b.of) ranges a.of a.among (meets a.of b.of x a.passes b.passes))
