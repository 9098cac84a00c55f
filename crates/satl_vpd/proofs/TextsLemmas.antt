-- Texts word by word.
use Rattle.std.proofs.Common.{◌≡◌, ℕ, zero, suc, ◌+◌, ◌-◌, ◌*◌, ◌≤◌, List, [], ◌∷◌, ◌++◌, refl, ap, sym, ◌∙◌, arith, append_assoc}
use Rattle.std.specs.Prelude.{slice_index}
use Rattle.satl_vpd.specs.Texts.{high_bytes_first}

-- one word more
pub high_bytes_first-end : (n first : ℕ) (d : List ℕ) →
    high_bytes_first (suc n) first d ≡ high_bytes_first n first d ++ (slice_index d (2 * (first + n) + 1) ∷ slice_index d (2 * (first + n)) ∷ [])
high_bytes_first-end zero first d = let e : first + 0 ≡ first = omega arith in rw e refl
high_bytes_first-end (suc n) first d =
    let e : first + suc n ≡ (first + 1) + n = omega arith in
    rw (e, high_bytes_first-end n (first + 1) d) refl

-- a text with the two characters of its next word
pub word_more : (first word : ℕ) (d text one two : List ℕ) → first ≤ word → text ≡ high_bytes_first (word - first) first d →
    one ≡ text ++ slice_index d (2 * word + 1) ∷ [] → two ≡ one ++ slice_index d (2 * word) ∷ [] → two ≡ high_bytes_first (word + 1 - first) first d
word_more first word d text one two h is p q =
    let next : word + 1 - first ≡ suc (word - first) = omega arith in
    let here : first + (word - first) ≡ word = omega arith in
    let pair : List ℕ = slice_index d (2 * word + 1) ∷ slice_index d (2 * word) ∷ [] in
    let joined : two ≡ text ++ pair = q ∙ ap (λ (l : List ℕ). l ++ slice_index d (2 * word) ∷ []) p ∙ append_assoc text (slice_index d (2 * word + 1) ∷ []) (slice_index d (2 * word) ∷ []) in
    let more : high_bytes_first (suc (word - first)) first d ≡ high_bytes_first (word - first) first d ++ pair =
    high_bytes_first-end (word - first) first d ∙ ap (λ (w : ℕ). high_bytes_first (word - first) first d ++ (slice_index d (2 * w + 1) ∷ slice_index d (2 * w) ∷ [])) here in
    joined ∙ ap (λ (l : List ℕ). l ++ pair) is ∙ sym more ∙ ap (λ (n : ℕ). high_bytes_first n first d) (sym next)
