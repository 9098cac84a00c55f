-- Bytes that are given piece by piece.
use Rattle.std.specs.Prelude.{ℕ, ◌≡◌, ◌<◌, min, List, [], ◌++◌, length, Option, MatchOption}
use Rattle.std.specs.Borrow.{Bor}

-- a piece off the front of some bytes: 512 of them, or all where there are fewer, but one at least; the rest stays
-- (profile)
abbrev pub IsPiece : List ℕ → List ℕ → List ℕ → Type 0
IsPiece bytes piece rest = (bytes ≡ piece ++ rest) × (length piece ≡ min 512 (length bytes)) × (0 < length piece)

-- a call gave the first piece of the bytes that were left, or none where none was left (profile)
abbrev pub GivesPiece : List ℕ → Option (Bor (List ℕ)) → List ℕ → Type 0
GivesPiece bytes given rest = MatchOption given ((bytes ≡ []) × (rest ≡ [])) (λ piece. IsPiece bytes piece.now rest)
