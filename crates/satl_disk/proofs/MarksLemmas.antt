-- The marks of places, by the rounds in which they were marked.
use Rattle.std.proofs.Common.{◌≡◌, refl, sym, ◌∙◌, ap, ℕ, ◌<◌, ◌≤◌, zero, suc, Bool, true, false, List, [], ◌∷◌, arith, length, eq-eqb}
use Rattle.std.specs.Prelude.{◌==◌, replicate, slice_set}
use Rattle.std.specs.List.{All}
use Rattle.std.proofs.lemmas.Bool.{ne_eqb}
use Rattle.std.proofs.lemmas.List.{length-map}
use Rattle.satl_disk.specs.Layout.{marked_in}

marked-set : (round : ℕ) (rounds : List ℕ) (place r : ℕ) → marked_in round (slice_set rounds place r) ≡ slice_set (marked_in round rounds) place (r == round)
marked-set round [] place r = refl
marked-set round (x ∷ rounds) zero r = refl
marked-set round (x ∷ rounds) (suc place) r = ap (λ bs. (x == round) ∷ bs) (marked-set round rounds place r)

-- a place is marked
pub marked-mark : (round : ℕ) (rounds : List ℕ) (place : ℕ) → marked_in round (slice_set rounds place round) ≡ slice_set (marked_in round rounds) place true
marked-mark round rounds place = marked-set round rounds place round ∙ ap (slice_set (marked_in round rounds) place) (eq-eqb round round refl)

-- a place is unmarked
pub marked-unmark : (round : ℕ) (rounds : List ℕ) (place : ℕ) → 1 ≤ round → marked_in round (slice_set rounds place 0) ≡ slice_set (marked_in round rounds) place false
marked-unmark round rounds place some = marked-set round rounds place 0 ∙ ap (slice_set (marked_in round rounds) place) (ne_eqb 0 round (λ e. omega (arith, e, some)))

-- in a round behind all of them no place is marked
marked-behind : (round : ℕ) (rounds : List ℕ) → All (λ r. r < round) rounds → marked_in round rounds ≡ replicate (length rounds) false
marked-behind round [] all = refl
marked-behind round (r ∷ rounds) all =
    ap (λ b. b ∷ marked_in round rounds) (ne_eqb r round (λ e. omega (arith, e, all 0 r (omega arith))))
    ∙ ap (λ bs. false ∷ bs) (marked-behind round rounds (λ k d less. all (suc k) d (omega arith)))

pub marked-none : (n : ℕ) → marked_in 1 (replicate n 0) ≡ replicate n false
marked-none zero = refl
marked-none (suc n) = ap (λ bs. false ∷ bs) (marked-none n)

-- all places are unmarked, as the marks were seen
module _ (round : ℕ) (rounds : List ℕ) (marks : List Bool) (view : marked_in round rounds ≡ marks) where
  as_many : length rounds ≡ length marks
  as_many = sym (length-map rounds (λ r. r == round)) ∙ ap length view

  pub next_round : (next : ℕ) → round < next → All (λ r. r ≤ round) rounds → marked_in next rounds ≡ replicate (length marks) false
  next_round next later all = marked-behind next rounds (λ k d less. omega (arith, later, all k d less)) ∙ ap (λ n. replicate n false) as_many

  pub first_round : (blank : List ℕ) (n : ℕ) → n ≡ length rounds → blank ≡ replicate n 0 → marked_in 1 blank ≡ replicate (length marks) false
  first_round blank n size is = ap (marked_in 1) is ∙ marked-none n ∙ ap (λ k. replicate k false) (size ∙ as_many)
