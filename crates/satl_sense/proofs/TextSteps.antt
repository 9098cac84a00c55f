-- Texts that are cut, padded and compared.
use Rattle.std.proofs.Common.{◌≡◌, ℕ, zero, suc, ◌+◌, ◌-◌, ◌<◌, ◌≤◌, List, ◌++◌, length, get_or, take, drop, refl, sym, ap, ◌∙◌, inl, inr, arith, length-append, length-drop}
use Rattle.std.specs.Prelude.{slice_index, replicate}
use Rattle.std.proofs.lemmas.Bool.{cases_lt}
use Rattle.std.proofs.lemmas.List.{get_or_past, get_or-take, get_or_append_left, get_or-append_right, get_or-drop, length-take, length-replicate}
use Rattle.satl_base.specs.Places.{places}
use Rattle.satl_base.proofs.PlacesLemmas.{by_places, places-below}

zeros : (m k : ℕ) → slice_index (replicate m 0) k ≡ 0
zeros zero k = refl
zeros (suc m) zero = refl
zeros (suc m) (suc k) = zeros m k

-- the front of a text with zeros behind it
pub padded-places : (m n : ℕ) (part text : List ℕ) → part ≡ take n text → n ≤ m → n ≤ length text → (n < m → n ≡ length text) → part ++ drop n (replicate m 0) ≡ places 0 m (slice_index text)
padded-places m n part text is fits within ends =
    let blank : List ℕ = replicate m 0 in
    let whole : List ℕ = part ++ drop n blank in
    let shown : length part ≡ n = ap length is ∙ length-take n text ∙ omega arith in
    let size : length whole ≡ m = omega (arith, length-append part (drop n blank), length-drop n blank, length-replicate {A = ℕ} m 0) in
    let byte : (k : ℕ) → k < m → slice_index whole k ≡ slice_index text k = λ k below.
    elim (cases_lt k n) [
      | inl lt ↦ let inside : k < length part = omega arith in get_or_append_left part (drop n blank) 0 k inside ∙ ap (λ (l : List ℕ). get_or l k 0) is ∙ get_or-take n text k 0 lt
      | inr le ↦
          let short : n ≡ length text = ends (omega arith) in
          get_or-append_right part (drop n blank) n k 0 shown le ∙ get_or-drop n blank (k - n) 0 ∙ zeros m (n + (k - n)) ∙ sym (get_or_past text k 0 (omega arith))
    ] in
    by_places whole ∙ ap (λ (j : ℕ). places 0 j (slice_index whole)) size ∙ places-below m 0 (slice_index whole) (slice_index text) (λ k lt. byte k (omega arith))
