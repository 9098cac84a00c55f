-- A list is what stands at each of its places.
use Rattle.std.proofs.Common.{◌≡◌, ℕ, zero, suc, ◌+◌, List, [], ◌∷◌, length, refl, sym, ap, ◌∙◌, add-one, ◌<◌, arith}
use Rattle.std.specs.Prelude.{slice_index}
use Rattle.satl_base.specs.Places.{places}

pub places_ext : (n i : ℕ) (f g : ℕ → ℕ) → ((k : ℕ) → f k ≡ g k) → places i n f ≡ places i n g
places_ext zero i f g h = refl
places_ext (suc n) i f g h = rw (h i, places_ext n (i + 1) f g h) refl

pub places_shift : (n i : ℕ) (f : ℕ → ℕ) → places (i + 1) n f ≡ places i n (λ k. f (k + 1))
places_shift zero i f = refl
places_shift (suc n) i f = rw (places_shift n (i + 1) f) refl

pub by_places : (bs : List ℕ) → bs ≡ places 0 (length bs) (slice_index bs)
by_places [] = refl
by_places (b ∷ bs) =
    let shifted : places (0 + 1) (length bs) (slice_index (b ∷ bs)) ≡ places 0 (length bs) (λ k. slice_index (b ∷ bs) (k + 1)) = places_shift (length bs) 0 (slice_index (b ∷ bs)) in
    let same : places 0 (length bs) (slice_index bs) ≡ places 0 (length bs) (λ k. slice_index (b ∷ bs) (k + 1)) = places_ext (length bs) 0 (slice_index bs) (λ k. slice_index (b ∷ bs) (k + 1)) (λ k. rw add-one refl) in
    ap (λ (r : List ℕ). b ∷ r) (by_places bs ∙ same ∙ sym shifted)

-- what stands at the places below a bound is enough
pub places-below : (n i : ℕ) (f g : ℕ → ℕ) → ((k : ℕ) → k < i + n → f k ≡ g k) → places i n f ≡ places i n g
places-below zero i f g h = refl
places-below (suc n) i f g h = rw (h i (omega arith), places-below n (i + 1) f g (λ k lt. h k (omega arith))) refl
