-- The bytes of whole blocks.
use Rattle.std.proofs.Common.{◌≡◌, refl, ◌∙◌, ap, sym, arith, inl, inr, ℕ, zero, suc, ◌+◌, ◌-◌, ◌*◌, ◌<◌, ◌≤◌, min, List, [], ◌∷◌, ◌++◌, length, take, drop, reverse, get_or}
use Rattle.std.proofs.lemmas.Bool.{cases_lt}
use Rattle.std.proofs.lemmas.List.{append-nil, length-append, length-map, length-take, length-take-le, map_more, reverse-append, take-append-le, take_all}
use Rattle.std.proofs.Math.Seq.{take-append-add}
use Rattle.std.specs.Simd.{first_chunks}
use Rattle.satl_base.specs.declared.block.Block.{Block}
use Rattle.satl_base.specs.Blocks.{AreWhole, bytes_of, blocks_from, first_bytes}
use Rattle.satl_base.specs.Pieces.{IsPiece}

pub length-bytes_of : (vs : List Block) → AreWhole vs → length (bytes_of vs) ≡ 512 * length vs
length-bytes_of [] whole = refl
length-bytes_of (v ∷ vs) whole = omega (arith, length-append v.bytes (bytes_of vs), whole.0, length-bytes_of vs whole.1)

-- as many chunks as were asked for, also where the bytes are too few
length-first_chunks : (n k : ℕ) (xs : List ℕ) → length (first_chunks n k xs) ≡ k
length-first_chunks n zero xs = refl
length-first_chunks n (suc k) xs = ap suc (length-first_chunks n k (drop n xs))

-- the first of more chunks are fewer chunks
take-first_chunks : (i n k : ℕ) (xs : List ℕ) → i ≤ k → take i (first_chunks n k xs) ≡ first_chunks n i xs
take-first_chunks zero n k xs few = refl
take-first_chunks (suc i) n zero xs few = absurd (omega arith)
take-first_chunks (suc i) n (suc k) xs few = ap (λ chunks. take n xs ∷ chunks) (take-first_chunks i n k (drop n xs) (omega arith))

pub length-blocks_from : (n : ℕ) (bytes : List ℕ) → length (blocks_from n bytes) ≡ n
length-blocks_from n bytes = length-map (first_chunks 512 n bytes) _ ∙ length-first_chunks 512 n bytes

-- one block more of the bytes comes first where the order is turned round
pub blocks_from-turned : (i k : ℕ) (bytes : List ℕ) → i < k →
    reverse (blocks_from (i + 1) bytes) ≡ record { bytes = get_or (first_chunks 512 k bytes) i [] } ∷ reverse (blocks_from i bytes)
blocks_from-turned i k bytes less =
    let chunks : List (List ℕ) = first_chunks 512 k bytes in
    let more : blocks_from (i + 1) bytes ≡ blocks_from i bytes ++ record { bytes = get_or chunks i [] } ∷ [] =
    rw (← take-first_chunks (i + 1) 512 k bytes (omega arith), ← take-first_chunks i 512 k bytes (omega arith))
    (map_more _ chunks i [] (omega (arith, length-first_chunks 512 k bytes))) in
    rw more (reverse-append (blocks_from i bytes) (record { bytes = get_or chunks i [] } ∷ []))

-- the first bytes of blocks stand in the first one and in those behind it
first_bytes-cons : (n : ℕ) (b : Block) (bs : List Block) → length b.bytes ≡ 512 → first_bytes n (b ∷ bs) ≡ take (min n 512) b.bytes ++ first_bytes (n - min n 512) bs
first_bytes-cons n b bs size = elim (cases_lt n 512) [
  | inl l ↦
      let e : min n 512 ≡ n = omega arith in
      let none : n - n ≡ 0 = omega arith in
      rw (e, none) (take-append-le n b.bytes (bytes_of bs) (omega arith) ∙ sym (append-nil (take n b.bytes)))
  | inr g ↦
      let e : min n 512 ≡ 512 = omega arith in
      let sum : n ≡ length b.bytes + (n - 512) = omega arith in
      rw e (ap (λ (k : ℕ). take k (b.bytes ++ bytes_of bs)) sum ∙ take-append-add b.bytes (bytes_of bs) (n - 512)
      ∙ ap (λ xs. xs ++ take (n - 512) (bytes_of bs)) (sym (take_all 512 b.bytes (omega arith))))
]

-- a piece is as long as it can be
piece_size : (n : ℕ) (bytes rest : List ℕ) → 0 < n → length bytes ≡ 512 → length rest ≤ n - min n 512 →
    (length (take (min n 512) bytes) ≡ min 512 (length (take (min n 512) bytes ++ rest))) × (0 < length (take (min n 512) bytes))
piece_size n bytes rest some size few =
    let long = length-take-le (min n 512) bytes (omega arith) in
    let all = length-append (take (min n 512) bytes) rest in
    (omega arith, omega arith)

-- the first block gives a piece of the bytes that are left, and the others hold the rest
pub block_gives_piece : (n count : ℕ) (all bytes : List ℕ) (b : Block) (bs it : List Block) → first_bytes n it ≡ all → it ≡ b ∷ bs → bytes ≡ b.bytes → length b.bytes ≡ 512 → count ≡ min n 512 → 0 < n →
    IsPiece all (take count bytes) (first_bytes (n - count) bs)
block_gives_piece n count all bytes b bs it whole is same size counted some =
    let joins : all ≡ take (min n 512) b.bytes ++ first_bytes (n - min n 512) bs = sym whole ∙ ap (λ (l : List Block). first_bytes n l) is ∙ first_bytes-cons n b bs size in
    let sizes = piece_size n b.bytes (first_bytes (n - min n 512) bs) some size (omega (arith, length-take (n - min n 512) (bytes_of bs))) in
    rw (same, counted) (joins, rw joins sizes.0, sizes.1)
