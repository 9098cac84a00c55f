-- Numbers as bytes, there and back.
use Rattle.std.proofs.Common.{◌≡◌, ℕ, zero, suc, ◌^◌, ◌<◌, List, [], ◌∷◌, length, get_or, ap, arith}
use Rattle.std.specs.Int.{byte_at, w64, from_be_bytes}
use Rattle.byteorder.specs.Endian.{big_from, big_bytes}
use Rattle.byteorder.specs.Numbers.{big_number-reads_back, length-bytes_high_first}

-- what is written in so many bytes is read back
pub back_2 : (n : ℕ) → n < 2 ^ 16 → big_from 0 2 (big_bytes 2 n) ≡ n
back_2 n h = big_number-reads_back 2 n [] h

pub back_4 : (n : ℕ) → n < 2 ^ 32 → big_from 0 4 (big_bytes 4 n) ≡ n
back_4 n h = big_number-reads_back 4 n [] h

pub back_6 : (n : ℕ) → n < 2 ^ 48 → from_be_bytes w64 (0 ∷ 0 ∷ byte_at 5 n ∷ byte_at 4 n ∷ byte_at 3 n ∷ byte_at 2 n ∷ byte_at 1 n ∷ byte_at 0 n ∷ []) ≡ n
back_6 n h = omega arith

pub back_8 : (n : ℕ) → n < 2 ^ 64 → big_from 0 8 (big_bytes 8 n) ≡ n
back_8 n h = big_number-reads_back 8 n [] h

pub length_big : (w n : ℕ) → length (big_bytes w n) ≡ w
length_big w n = length-bytes_high_first w n

-- what stands at a place of equal lists is equal
pub head_at : (i : ℕ) (xs ys : List ℕ) → xs ≡ ys → get_or xs i 0 ≡ get_or ys i 0
head_at i xs ys e = ap (λ (l : List ℕ). get_or l i 0) e

-- lists of a few bytes
pub fits_2 : (a b : ℕ) → a < 256 → b < 256 → (i : ℕ) → get_or (a ∷ b ∷ []) i 0 < 256
fits_2 a b p q zero = p
fits_2 a b p q (suc zero) = q
fits_2 a b p q (suc (suc i)) = omega arith

pub fits_8 : (a b c d e f g h : ℕ) → a < 256 → b < 256 → c < 256 → d < 256 → e < 256 → f < 256 → g < 256 → h < 256 → (i : ℕ) → get_or (a ∷ b ∷ c ∷ d ∷ e ∷ f ∷ g ∷ h ∷ []) i 0 < 256
fits_8 a b c d e f g h p0 p1 p2 p3 p4 p5 p6 p7 zero = p0
fits_8 a b c d e f g h p0 p1 p2 p3 p4 p5 p6 p7 (suc zero) = p1
fits_8 a b c d e f g h p0 p1 p2 p3 p4 p5 p6 p7 (suc (suc zero)) = p2
fits_8 a b c d e f g h p0 p1 p2 p3 p4 p5 p6 p7 (suc (suc (suc zero))) = p3
fits_8 a b c d e f g h p0 p1 p2 p3 p4 p5 p6 p7 (suc (suc (suc (suc zero)))) = p4
fits_8 a b c d e f g h p0 p1 p2 p3 p4 p5 p6 p7 (suc (suc (suc (suc (suc zero))))) = p5
fits_8 a b c d e f g h p0 p1 p2 p3 p4 p5 p6 p7 (suc (suc (suc (suc (suc (suc zero)))))) = p6
fits_8 a b c d e f g h p0 p1 p2 p3 p4 p5 p6 p7 (suc (suc (suc (suc (suc (suc (suc zero))))))) = p7
fits_8 a b c d e f g h p0 p1 p2 p3 p4 p5 p6 p7 (suc (suc (suc (suc (suc (suc (suc (suc i)))))))) = omega arith
