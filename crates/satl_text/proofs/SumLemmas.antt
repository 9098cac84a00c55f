-- Sums over pieces.
use Rattle.std.proofs.Common.{◌≡◌, ◌+◌, ℕ, List, ◌++◌, ◌∙◌, ap}
use Rattle.std.specs.Prelude.{sum}
use Rattle.std.proofs.lemmas.List.Sums.{sum_by-append}

-- a piece's bytes, and those of the others
pub sum_more : {it : List ℕ} (piece rest : List ℕ) → it ≡ piece ++ rest → sum it ≡ sum piece + sum rest
sum_more piece rest is = ap (λ (xs : List ℕ). sum xs) is ∙ sum_by-append (λ x. x) piece rest
