-- Reads that fail before all was taken.
use Rattle.std.proofs.Common.{◌≡◌, ℕ, ◌+◌, ◌<◌, ◌≤◌, List, ◌++◌, length, take, Option, Some, None, ◌∙◌, ap, sym, subst, arith}
use Rattle.std.proofs.Math.Seq.{take-append-add}
use Rattle.satl_io.specs.Known.{Took}
use Rattle.satl_io.proofs.Joined.{Took-more}
use Rattle.satl_frame.specs.Pulls.{FewerThan}

-- after bytes that were taken
pub fewer_after : {a b c : Option (List ℕ)} {taken : List ℕ} {n : List ℕ → ℕ} (total : List ℕ → ℕ) → Took a b taken →
    ((rest : List ℕ) → length taken + n rest ≤ total (taken ++ rest)) → FewerThan b c n → FewerThan a c total
fewer_after {a = None} total took sum fewer = record { known = tt }
fewer_after {a = Some input} {b = None} total took sum fewer = absurd took.known
fewer_after {a = Some input} {b = Some rest} {c} {taken} {n} total took sum fewer =
    let count = length taken + fewer.known.0 in
    let front : take count input ≡ taken ++ take fewer.known.0 rest = ap (λ (xs : List ℕ). take count xs) took.known ∙ take-append-add taken rest fewer.known.0 in
    let less : count < total input = omega (arith, sum rest, fewer.known.1, ap total took.known) in
    let all : Took (Some input) c (taken ++ take fewer.known.0 rest) = Took-more took fewer.known.2 in
    record { known = (count, less, subst (λ (xs : List ℕ). Took (Some input) c xs) (sym front) all) }

-- fewer than fewer
pub fewer_weaker : {a c : Option (List ℕ)} {n : List ℕ → ℕ} (m : List ℕ → ℕ) → ((input : List ℕ) → n input ≤ m input) → FewerThan a c n → FewerThan a c m
fewer_weaker {a = None} m less fewer = record { known = tt }
fewer_weaker {a = Some input} m less fewer = record { known = (fewer.known.0, omega (arith, less input, fewer.known.1), fewer.known.2) }
