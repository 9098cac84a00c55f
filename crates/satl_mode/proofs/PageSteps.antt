-- One byte more by a table.
use Rattle.std.proofs.Common.{◌≡◌, ℕ, zero, suc, ◌+◌, List, [], ◌∷◌, ◌++◌, refl, sym, ap, ◌∙◌, arith}
use Rattle.std.proofs.lemmas.List.{append_assoc}
use Rattle.satl_base.specs.Places.{places}

places_push : (n i : ℕ) (f : ℕ → ℕ) → places i (suc n) f ≡ places i n f ++ f (i + n) ∷ []
places_push zero i f = let e : i + 0 ≡ i = omega arith in rw e refl
places_push (suc n) i f =
    let e : (i + 1) + n ≡ i + suc n = omega arith in
    ap (λ (r : List ℕ). f i ∷ r) (places_push n (i + 1) f ∙ ap (λ (k : ℕ). places (i + 1) n f ++ f k ∷ []) e)

pub pushed : (new text old : List ℕ) (n b : ℕ) (f : ℕ → ℕ) → new ≡ text ++ b ∷ [] → b ≡ f n → text ≡ old ++ places 0 n f → new ≡ old ++ places 0 (n + 1) f
pushed new text old n b f push is so_far =
    let zero_first : 0 + n ≡ n = omega arith in
    let one_more : n + 1 ≡ suc n = omega arith in
    let all : places 0 (n + 1) f ≡ places 0 n f ++ b ∷ [] = ap (λ (k : ℕ). places 0 k f) one_more ∙ places_push n 0 f ∙ ap (λ (k : ℕ). places 0 n f ++ f k ∷ []) zero_first ∙ ap (λ (c : ℕ). places 0 n f ++ c ∷ []) (sym is) in
    push ∙ ap (λ (t : List ℕ). t ++ b ∷ []) so_far ∙ append_assoc old (places 0 n f) (b ∷ []) ∙ ap (λ (t : List ℕ). old ++ t) (sym all)
