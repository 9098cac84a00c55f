-- A list is its own text.
use Rattle.std.proofs.Common.{◌≡◌, ℕ, ◌+◌, ◌-◌, List, [], ◌∷◌, length, refl, sym, ap, ◌∙◌, inl, inr, arith}
use Rattle.std.specs.Prelude.{slice_index, nat_le, true}
use Rattle.std.proofs.lemmas.Bool.{cases_lt, lt-ltb, le-ltb, le-leb}
use Rattle.std.proofs.lemmas.List.{get_or_past}
use Rattle.satl_base.specs.Places.{text, at_place, places, laid}
use Rattle.satl_base.proofs.PlacesLemmas.{places_ext, by_places}

at_place-text : (bs : List ℕ) (k : ℕ) → at_place (text 0 bs ∷ []) k ≡ slice_index bs k
at_place-text bs k =
    let from_first : nat_le 0 k ≡ true = le-leb 0 k (omega arith) in
    let end : 0 + length bs ≡ length bs = omega arith in
    elim (cases_lt k (length bs)) [
      | inl lt ↦ let here : k - 0 ≡ k = omega arith in rw (from_first, end, lt-ltb k (length bs) lt, here) refl
      | inr le ↦ rw (from_first, end, get_or_past bs k 0 le, le-ltb k (length bs) le) refl
    ]

pub laid-text : (n : ℕ) (bs : List ℕ) → length bs ≡ n → bs ≡ laid n (text 0 bs ∷ [])
laid-text n bs e = by_places bs ∙ ap (λ (m : ℕ). places 0 m (slice_index bs)) e ∙ places_ext n 0 (slice_index bs) (at_place (text 0 bs ∷ [])) (λ k. sym (at_place-text bs k))
