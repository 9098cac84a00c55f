-- A text is itself, and six words are plain.
use Rattle.std.proofs.Common.{◌≡◌, ◌∙◌, refl, sym, ap, ℕ, true, false, List, [], ◌∷◌, Option, Some, None, length, map, eqb, rules, arith, slice_index_or, Global}
use Rattle.std.specs.Prelude.{not, IfSome}
use Rattle.std.specs.Cmp.Lexicographic.{pointwise}
use Rattle.std.specs.declared.rc.RcStr.{RcStr}
use Rattle.std.specs.Rc.{rc_str_bytes}
use Rattle.satl_words.specs.declared.modes.Mode.{Mode}
use Rattle.satl_words.specs.Plain.{ArePlain, IsInRange, plain_words}

same : (xs : List ℕ) → pointwise eqb xs xs ≡ true
same [] = refl
same (x ∷ xs) = let rest = same xs in search rules

pub differs : (xs : List ℕ) → true ≡ not (pointwise eqb xs xs) → ⊥
differs xs bad = let no : true ≡ false = bad ∙ ap not (same xs) in absurd cc

-- six words of which five are known are plain where those behind the first are
pub six : (r : Option Mode) (ws : List (RcStr Global)) (a b c d e : RcStr Global) → length ws ≡ 6
    → a ≡ slice_index_or ws 1 a → b ≡ slice_index_or ws 2 b → c ≡ slice_index_or ws 3 c → d ≡ slice_index_or ws 4 d → e ≡ slice_index_or ws 5 e
    → IfSome r (λ mode. IsInRange mode × (plain_words mode ≡ rc_str_bytes a ∷ rc_str_bytes b ∷ rc_str_bytes c ∷ rc_str_bytes d ∷ rc_str_bytes e ∷ []))
    → IfSome r (λ mode. IsInRange mode × ArePlain (map rc_str_bytes ws) mode)
six None ws a b c d e long at_1 at_2 at_3 at_4 at_5 x = tt
six (Some mode) [] a b c d e long at_1 at_2 at_3 at_4 at_5 x = absurd (omega (arith, long))
six (Some mode) (w0 ∷ []) a b c d e long at_1 at_2 at_3 at_4 at_5 x = absurd (omega (arith, long))
six (Some mode) (w0 ∷ w1 ∷ []) a b c d e long at_1 at_2 at_3 at_4 at_5 x = absurd (omega (arith, long))
six (Some mode) (w0 ∷ w1 ∷ w2 ∷ []) a b c d e long at_1 at_2 at_3 at_4 at_5 x = absurd (omega (arith, long))
six (Some mode) (w0 ∷ w1 ∷ w2 ∷ w3 ∷ []) a b c d e long at_1 at_2 at_3 at_4 at_5 x = absurd (omega (arith, long))
six (Some mode) (w0 ∷ w1 ∷ w2 ∷ w3 ∷ w4 ∷ []) a b c d e long at_1 at_2 at_3 at_4 at_5 x = absurd (omega (arith, long))
six (Some mode) (w0 ∷ w1 ∷ w2 ∷ w3 ∷ w4 ∷ w5 ∷ []) a b c d e long at_1 at_2 at_3 at_4 at_5 x = (x.0, (rc_str_bytes w0, ap (λ l. rc_str_bytes w0 ∷ l) (all ∙ sym x.1)))
  where
    all : map rc_str_bytes (w1 ∷ w2 ∷ w3 ∷ w4 ∷ w5 ∷ []) ≡ map rc_str_bytes (a ∷ b ∷ c ∷ d ∷ e ∷ [])
    all =
        let one : a ≡ w1 = at_1 in
        let two : b ≡ w2 = at_2 in
        let three : c ≡ w3 = at_3 in
        let four : d ≡ w4 = at_4 in
        let five : e ≡ w5 = at_5 in
        let same : w1 ∷ w2 ∷ w3 ∷ w4 ∷ w5 ∷ [] ≡ a ∷ b ∷ c ∷ d ∷ e ∷ [] = cc in
        ap (map rc_str_bytes) same
six (Some mode) (w0 ∷ w1 ∷ w2 ∷ w3 ∷ w4 ∷ w5 ∷ w6 ∷ ws) a b c d e long at_1 at_2 at_3 at_4 at_5 x = absurd (omega (arith, long))
