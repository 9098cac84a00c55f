-- Hexadecimal digits of bytes that come piece by piece.
use Rattle.std.proofs.Common.{◌≡◌, ℕ, ◌/◌, ◌%◌, List, [], ◌∷◌, ◌++◌, slice_index, Option, refl, ◌∙◌, ap, sym}
use Rattle.std.proofs.lemmas.List.{append-nil}
use Rattle.hex.specs.Hex.{encode_with, encode_lower, lower_digits}
use Rattle.satl_io.specs.Known.{WrotePart}
use Rattle.satl_io.proofs.Joined.{WrotePart-front}
use Rattle.satl_frame.specs.Gathering.{Gathers}
use Rattle.satl_frame.proofs.GatheringLemmas.{Gathers-more, piece_failed}
use Rattle.satl_text.specs.Lines.{hex_bytes}

encode_with-append : (t xs ys : List ℕ) → encode_with t (xs ++ ys) ≡ encode_with t xs ++ encode_with t ys
unfolding encode_with
encode_with-append t [] ys = refl
encode_with-append t (x ∷ xs) ys = ap (λ (zs : List ℕ). slice_index t (x / 16) ∷ slice_index t (x % 16) ∷ zs) (encode_with-append t xs ys)

pub encode_lower-append : (xs ys : List ℕ) → encode_lower (xs ++ ys) ≡ encode_lower xs ++ encode_lower ys
encode_lower-append xs ys = encode_with-append lower_digits xs ys

pub encode_lower-nil : encode_lower [] ≡ []
unfolding encode_with
encode_lower-nil = refl

-- a piece more
pub digits_more : {a b c : Option (List ℕ)} {g g' g'' : List ℕ} (front piece : List ℕ) → Gathers a b g g' (encode_lower front) → Gathers b c g' g'' (encode_lower piece) →
    Gathers a c g g'' (encode_lower (front ++ piece))
digits_more front piece p q = rw (encode_lower-append front piece) (Gathers-more p q)

-- a failure at a piece
pub digits_failed : {a b c : Option (List ℕ)} {g g' : List ℕ} (front piece rest all : List ℕ) → Gathers a b g g' (encode_lower front) → WrotePart b c (g' ++ encode_lower piece) →
    (front ++ piece) ++ rest ≡ all → WrotePart a c (g ++ encode_lower all)
digits_failed front piece rest all p part is =
    piece_failed (encode_lower piece) (encode_lower rest) (encode_lower all) p part
    (ap (λ (xs : List ℕ). xs ++ encode_lower rest) (sym (encode_lower-append front piece)) ∙ sym (encode_lower-append (front ++ piece) rest) ∙ ap encode_lower is)

-- a failure at digits
pub digits_part : {a b : Option (List ℕ)} (g bytes : List ℕ) → WrotePart a b (g ++ encode_lower bytes) → WrotePart a b (g ++ hex_bytes bytes)
digits_part g [] part =
    let none : g ++ encode_lower [] ≡ g = ap (λ (xs : List ℕ). g ++ xs) encode_lower-nil ∙ append-nil g in
    WrotePart-front (hex_bytes []) (rw none at part)
digits_part g (x ∷ bytes) part = part
