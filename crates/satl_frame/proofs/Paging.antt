-- Bytes in pages.
use Rattle.std.proofs.Common.{◌≡◌, ℕ, zero, suc, ◌+◌, ◌-◌, ◌*◌, ◌/◌, ◌%◌, ◌<◌, ◌≤◌, min, List, [], ◌∷◌, ◌++◌, length, take, drop, reverse, replicate, refl, ◌∙◌, ap, sym, arith, append_assoc, inl, inr, Option}
use Rattle.std.proofs.lemmas.Bool.{cases_lt}
use Rattle.std.proofs.lemmas.List.{take-append-drop, length-drop, length-append, length-take-le, length-replicate, length-reverse, reverse-append, reverse-reverse, take-append-le, drop-append-le, take_all, take_at, append-nil, replicate-append-replicate, drop-replicate, take-replicate, nil_from_length, length-take, drop_all}
use Rattle.std.proofs.Math.Seq.{take-append-add, drop-append-add}
use Rattle.std.specs.List.{AllByRecursion}
use Rattle.satl_base.specs.declared.block.Block.{Block}
use Rattle.satl_base.specs.Blocks.{blocks_from, bytes_of, zero_bytes}
use Rattle.satl_io.proofs.Joined.{Took-more, Took-none}
use Rattle.satl_frame.specs.DataPages.{page_count, padded_block, pages_from, pages_of}
use Rattle.satl_frame.specs.Pulls.{FilledInReverse}

-- 512 bytes are a block
pub whole_block : (xs bytes : List ℕ) → 512 ≤ length xs → bytes ≡ take 512 xs → record { bytes = bytes } ≡ padded_block xs
unfolding padded_block
whole_block xs bytes l e =
    let none : 512 - length xs ≡ 0 = omega arith in
    let same : bytes ≡ take 512 xs ++ replicate (512 - length xs) 0 = e ∙ sym (append-nil (take 512 xs)) ∙ ap (λ k. take 512 xs ++ replicate k 0) (sym none) in
    ap (λ (b : List ℕ). record { bytes = b }) same

-- whole blocks of the bytes are pages of them
pub pages_from-blocks : (n : ℕ) (xs : List ℕ) → 512 * n ≤ length xs → blocks_from n xs ≡ pages_from n xs
unfolding pages_from
pages_from-blocks zero xs l = refl
pages_from-blocks (suc n) xs l =
    rw (whole_block xs (take 512 xs) (omega arith) refl, pages_from-blocks n (drop 512 xs) (omega (arith, length-drop 512 xs))) refl

pub length-pages_from : (n : ℕ) (xs : List ℕ) → length (pages_from n xs) ≡ n
unfolding pages_from
length-pages_from zero xs = refl
length-pages_from (suc n) xs = ap suc (length-pages_from n (drop 512 xs))

pub length-pages_of : (xs : List ℕ) → length (pages_of xs) ≡ page_count (length xs)
unfolding pages_of
length-pages_of xs = length-pages_from (page_count (length xs)) xs

take-pages_from : (m n : ℕ) (xs : List ℕ) → take m (pages_from n xs) ≡ pages_from (min m n) xs
unfolding pages_from
take-pages_from zero n xs = let e : min 0 n ≡ 0 = omega arith in rw e refl
take-pages_from (suc m) zero xs = let e : min (suc m) 0 ≡ 0 = omega arith in rw e refl
take-pages_from (suc m) (suc n) xs =
    let e : min (suc m) (suc n) ≡ suc (min m n) = omega arith in
    rw e (ap (λ bs. padded_block xs ∷ bs) (take-pages_from m n (drop 512 xs)))

-- zeros behind the bytes change nothing
padded_zeros : (xs : List ℕ) (k : ℕ) → padded_block (xs ++ replicate k 0) ≡ padded_block xs
unfolding padded_block
padded_zeros xs k = ap (λ (b : List ℕ). record { bytes = b }) (elim (cases_lt (length xs) 512) [
  | inl l ↦ short l
  | inr g ↦ long g
])
  where
    counted : length (xs ++ replicate k 0) ≡ length xs + k
    counted = length-append xs (replicate k 0) ∙ ap (λ n. length xs + n) (length-replicate k 0)

    long : 512 ≤ length xs → take 512 (xs ++ replicate k 0) ++ replicate (512 - length (xs ++ replicate k 0)) 0 ≡ take 512 xs ++ replicate (512 - length xs) 0
    long g =
        let none : 512 - length (xs ++ replicate k 0) ≡ 512 - length xs = omega (arith, counted) in
        rw (none, take-append-le 512 xs (replicate k 0) g) refl

    short : length xs < 512 → take 512 (xs ++ replicate k 0) ++ replicate (512 - length (xs ++ replicate k 0)) 0 ≡ take 512 xs ++ replicate (512 - length xs) 0
    short l =
        let all : take 512 xs ≡ xs = take_all 512 xs (omega arith) in
        let at : 512 ≡ length xs + (512 - length xs) = omega arith in
        let front : take 512 (xs ++ replicate k 0) ≡ xs ++ replicate (min k (512 - length xs)) 0 =
        ap (λ (n : ℕ). take {A = ℕ} n (xs ++ replicate k 0)) at ∙ take-append-add {A = ℕ} xs (replicate k 0) (512 - length xs) ∙ ap (λ (ys : List ℕ). xs ++ ys) (take_zeros (512 - length xs) k) in
        let rest : min k (512 - length xs) + (512 - length (xs ++ replicate k 0)) ≡ 512 - length xs = omega (arith, counted) in
        rw (front, all) (append_assoc xs (replicate (min k (512 - length xs)) 0) (replicate (512 - length (xs ++ replicate k 0)) 0)
        ∙ ap (λ ys. xs ++ ys) (replicate-append-replicate (min k (512 - length xs)) (512 - length (xs ++ replicate k 0)) 0 ∙ ap (λ n. replicate n 0) rest))
      where
        take_zeros : (m n : ℕ) → take {A = ℕ} m (replicate n 0) ≡ replicate (min n m) 0
        take_zeros m n = elim (cases_lt n m) [
          | inl l ↦ let e : min n m ≡ n = omega arith in rw e (take_all {A = ℕ} m (replicate n 0) (omega (arith, length-replicate {A = ℕ} n 0)))
          | inr g ↦ let e : min n m ≡ m = omega arith in rw e (take-replicate m n 0 g)
        ]

pub pages_from-zeros : (n : ℕ) (xs : List ℕ) (k : ℕ) → pages_from n (xs ++ replicate k 0) ≡ pages_from n xs
unfolding pages_from
pages_from-zeros zero xs k = refl
pages_from-zeros (suc n) xs k =
    let first : padded_block (xs ++ replicate k 0) ≡ padded_block xs = padded_zeros xs k in
    let next : pages_from n (drop 512 (xs ++ replicate k 0)) ≡ pages_from n (drop 512 xs) = elim (cases_lt (length xs) 512) [
      | inl l ↦ ap (pages_from n) (beyond l) ∙ pages_from-zeros n [] (k - (512 - length xs)) ∙ ap (pages_from n) (sym (drop_all 512 xs (omega arith)))
      | inr g ↦ ap (pages_from n) (drop-append-le 512 xs (replicate k 0) g) ∙ pages_from-zeros n (drop 512 xs) k
    ] in
    rw (first, next) refl
  where
    beyond : length xs < 512 → drop 512 (xs ++ replicate k 0) ≡ replicate (k - (512 - length xs)) 0
    beyond l =
        let at : 512 ≡ length xs + (512 - length xs) = omega arith in
        ap (λ (n : ℕ). drop {A = ℕ} n (xs ++ replicate k 0)) at ∙ drop-append-add xs (replicate k 0) (512 - length xs) ∙ drop-replicate (512 - length xs) k 0

padded_front : (xs ys : List ℕ) → 512 ≤ length xs → padded_block (xs ++ ys) ≡ padded_block xs
unfolding padded_block
padded_front xs ys l =
    let none : 512 - length (xs ++ ys) ≡ 512 - length xs = omega (arith, length-append xs ys) in
    rw (none, take-append-le 512 xs ys l) refl

-- whole pages, and others behind them
pages_from-append : (q n : ℕ) (xs ys : List ℕ) → length xs ≡ 512 * q → pages_from (q + n) (xs ++ ys) ≡ pages_from q xs ++ pages_from n ys
unfolding pages_from
pages_from-append zero n xs ys l = let none : xs ≡ [] = nil_from_length xs (omega arith) in rw none (ap (λ k. pages_from k ys) (omega arith))
pages_from-append (suc q) n xs ys l =
    let first : padded_block (xs ++ ys) ≡ padded_block xs = padded_front xs ys (omega arith) in
    let behind : drop 512 (xs ++ ys) ≡ drop 512 xs ++ ys = drop-append-le 512 xs ys (omega arith) in
    let count : suc q + n ≡ suc (q + n) = omega arith in
    rw (count, first, behind) (ap (λ bs. padded_block xs ∷ bs) (pages_from-append q n (drop 512 xs) ys (omega (arith, length-drop 512 xs))))

pub pages_of-append : (q : ℕ) (xs ys : List ℕ) → length xs ≡ 512 * q → pages_of (xs ++ ys) ≡ pages_of xs ++ pages_of ys
unfolding pages_of
pages_of-append q xs ys l =
    let front : page_count (length xs) ≡ q = omega arith in
    let all : page_count (length (xs ++ ys)) ≡ q + page_count (length ys) = omega (arith, length-append xs ys) in
    rw (all, front) (pages_from-append q (page_count (length ys)) xs ys l)

-- pages that were filled and put in reverse before others
pub pages_placed : (n : ℕ) (buffer : List ℕ) (done done' : List Block) → 512 * n ≤ length buffer →
    done' ≡ reverse (blocks_from n buffer) ++ done → reverse done' ≡ reverse done ++ pages_from n buffer
pages_placed n buffer done done' long put =
    rw put (reverse-append (reverse (blocks_from n buffer)) done
    ∙ ap (λ bs. reverse done ++ bs) (reverse-reverse (blocks_from n buffer) ∙ pages_from-blocks n buffer long))

-- a chunk whose front was filled, with zeros up to the end of its last page
pub chunk_placed : (count m : ℕ) (chunk behind buffer : List ℕ) → length chunk ≡ count →
    buffer ≡ (chunk ++ zero_bytes (512 * page_count count - count)) ++ behind → pages_from (min (page_count count) m) buffer ≡ take m (pages_of chunk)
unfolding pages_from pages_of
chunk_placed count m chunk behind buffer size is =
    let n : ℕ = page_count count in
    let filled : List ℕ = chunk ++ replicate (512 * n - count) 0 in
    let whole : length filled ≡ 512 * n = omega (arith, length-append chunk (replicate (512 * n - count) 0), length-replicate {A = ℕ} (512 * n - count) 0) in
    let sum : n ≡ n + 0 = omega arith in
    let front : pages_from n buffer ≡ pages_from (page_count (length chunk)) chunk =
    ap (pages_from n) is ∙ ap (λ k. pages_from k (filled ++ behind)) sum ∙ pages_from-append n 0 filled behind whole ∙ append-nil (pages_from n filled)
    ∙ pages_from-zeros n chunk (512 * n - count) ∙ ap (λ k. pages_from (page_count k) chunk) (sym size) in
    let same : min n m ≡ min m n = omega arith in
    ap (λ k. pages_from k buffer) same ∙ sym (take-pages_from m n buffer) ∙ ap (take m) front

-- whole pages at the front of bytes, where so many pages are free
pub pages_ahead : (n room : ℕ) (ahead : List ℕ) → 512 * n ≤ length ahead → n ≤ room → pages_from n ahead ≡ take room (pages_of (take (512 * n) ahead))
unfolding pages_from pages_of
pages_ahead n room ahead within few =
    let front = take (512 * n) ahead in
    let size : length front ≡ 512 * n = length-take-le (512 * n) ahead within in
    let count : page_count (length front) ≡ n = omega (arith, size) in
    let sum : n ≡ n + 0 = omega arith in
    ap (pages_from n) (sym (take-append-drop (512 * n) ahead)) ∙ ap (λ k. pages_from k (front ++ drop (512 * n) ahead)) sum
    ∙ pages_from-append n 0 front (drop (512 * n) ahead) size ∙ append-nil (pages_from n front)
    ∙ sym (take_all room (pages_from n front) (omega (arith, length-pages_from n front, few))) ∙ ap (λ k. take room (pages_from k front)) (sym count)

-- the bytes of pages
bytes_of-pages_from : (n : ℕ) (xs : List ℕ) → length xs ≤ 512 * n → bytes_of (pages_from n xs) ≡ xs ++ replicate (512 * n - length xs) 0
unfolding pages_from padded_block
bytes_of-pages_from zero xs l =
    let none : xs ≡ [] = nil_from_length xs (omega arith) in rw none refl
bytes_of-pages_from (suc n) xs l =
    let next : bytes_of (pages_from n (drop 512 xs)) ≡ drop 512 xs ++ replicate (512 * n - length (drop 512 xs)) 0 =
    bytes_of-pages_from n (drop 512 xs) (omega (arith, length-drop 512 xs)) in
    rw next (elim (cases_lt (length xs) 512) [
      | inl less ↦ short less
      | inr more ↦ long more
    ])
  where
    short : length xs < 512 → (take 512 xs ++ replicate (512 - length xs) 0) ++ (drop 512 xs ++ replicate (512 * n - length (drop 512 xs)) 0) ≡ xs ++ replicate (512 * suc n - length xs) 0
    short less =
        let all : take 512 xs ≡ xs = take_all 512 xs (omega arith) in
        let rest : drop 512 xs ≡ [] = drop_all 512 xs (omega arith) in
        let count : 512 * n - length (drop 512 xs) ≡ 512 * n = omega (arith, length-drop 512 xs) in
        let sum : (512 - length xs) + 512 * n ≡ 512 * suc n - length xs = omega arith in
        rw (count, rest, all) (append_assoc xs (replicate (512 - length xs) 0) (replicate (512 * n) 0)
        ∙ ap (λ ys. xs ++ ys) (replicate-append-replicate (512 - length xs) (512 * n) 0 ∙ ap (λ k. replicate k 0) sum))

    long : 512 ≤ length xs → (take 512 xs ++ replicate (512 - length xs) 0) ++ (drop 512 xs ++ replicate (512 * n - length (drop 512 xs)) 0) ≡ xs ++ replicate (512 * suc n - length xs) 0
    long more =
        let none : 512 - length xs ≡ 0 = omega arith in
        let count : 512 * n - length (drop 512 xs) ≡ 512 * suc n - length xs = omega (arith, length-drop 512 xs) in
        rw (count, none, append-nil (take 512 xs)) (sym (append_assoc (take 512 xs) (drop 512 xs) (replicate (512 * suc n - length xs) 0))
        ∙ ap (λ ys. ys ++ replicate (512 * suc n - length xs) 0) (take-append-drop 512 xs))

-- the bytes stand at the front of their pages, and zeros behind them
pub bytes_of-pages_of : (xs : List ℕ) → bytes_of (pages_of xs) ≡ xs ++ replicate (512 * page_count (length xs) - length xs) 0
unfolding pages_of
bytes_of-pages_of xs = bytes_of-pages_from (page_count (length xs)) xs (omega arith)

pub first_bytes-pages_of : (n : ℕ) (xs : List ℕ) → length xs ≡ n → take n (bytes_of (pages_of xs)) ≡ xs
first_bytes-pages_of n xs l =
    rw (bytes_of-pages_of xs) (take_at xs (replicate (512 * page_count (length xs) - length xs) 0) n l)

-- a front of two lists of pages
take-both : {X : Type 0} (n : ℕ) (xs ys : List X) → take n (xs ++ ys) ≡ take n xs ++ take (n - length xs) ys
take-both zero xs ys = let e : 0 - length xs ≡ 0 = omega arith in rw e refl
take-both (suc n) [] ys = let e : suc n ≡ suc n - 0 = omega arith in ap (λ k. take k ys) e
take-both (suc n) (x ∷ xs) ys = let e : suc n - suc (length xs) ≡ n - length xs = omega arith in rw e (ap (λ zs. x ∷ zs) (take-both n xs ys))

-- pages filled behind pages
pub filled_more : {a b c : Option (List ℕ)} {at count room left : ℕ} {old done done' : List Block} → FilledInReverse a b at room old done
    → at % 512 ≡ 0 → left + length done ≡ room + length old → FilledInReverse b c count left done done' → FilledInReverse a c (at + count) room old done'
filled_more {a} {b} {c} {at} {count} {room} {left} {old} {done} {done'} first aligned all more =
    let before = pages_of first.taken in
    let whole : length first.taken ≡ 512 * (at / 512) = omega (arith, first.size, aligned) in
    let filled : length done ≡ length old + length (take room before) =
    sym (length-reverse done) ∙ ap length first.placed ∙ length-append (reverse old) (take room before) ∙ ap (λ n. n + length (take room before)) (length-reverse old) in
    let rest : left ≡ room - length before = omega (arith, all, filled, length-take room before) in
    let both : take room before ++ take left (pages_of more.taken) ≡ take room (pages_of (first.taken ++ more.taken)) =
    rw (pages_of-append (at / 512) first.taken more.taken whole, take-both room before (pages_of more.taken), ← rest) refl in
    record {
      taken = first.taken ++ more.taken;
      took = Took-more first.took more.took;
      size = length-append first.taken more.taken ∙ omega (arith, first.size, more.size);
      placed = more.placed ∙ ap (λ bs. bs ++ take left (pages_of more.taken)) first.placed
          ∙ append_assoc (reverse old) (take room before) (take left (pages_of more.taken)) ∙ ap (λ bs. reverse old ++ bs) both;
    }

pub nothing_placed : (room : ℕ) (done : List Block) → done ≡ [] → reverse done ≡ take room (pages_of [])
unfolding pages_of pages_from
nothing_placed zero done e = rw e refl
nothing_placed (suc room) done e = rw e refl

pub nothing_filled : (a : Option (List ℕ)) (room : ℕ) (old : List Block) → FilledInReverse a a 0 room old old
unfolding pages_of pages_from
nothing_filled a zero old = record { taken = []; took = Took-none a; size = refl; placed = sym (append-nil (reverse old)) }
nothing_filled a (suc room) old = record { taken = []; took = Took-none a; size = refl; placed = sym (append-nil (reverse old)) }

-- as many pages as were free, where no more were lent than the bytes need
pub pages_free : (free n : ℕ) (taken : List ℕ) (pages : List Block) → length taken ≡ n → pages ≡ take (min (page_count n) free) (pages_of taken) → pages ≡ take free (pages_of taken)
pages_free free n taken pages size is =
    let count : length (pages_of taken) ≡ page_count n = length-pages_of taken ∙ ap page_count size in
    is ∙ elim (cases_lt free (page_count n)) [
      | inl l ↦ let e : min (page_count n) free ≡ free = omega arith in ap (λ k. take k (pages_of taken)) e
      | inr g ↦ let e : min (page_count n) free ≡ page_count n = omega arith in
          rw e (take_all (page_count n) (pages_of taken) (omega arith) ∙ sym (take_all free (pages_of taken) (omega arith)))
    ]

-- a page lies behind each that was lent
pub all_filled : (lent n : ℕ) (taken : List ℕ) (pages : List Block) → length taken ≡ n → lent ≤ page_count n → pages ≡ take lent (pages_of taken) → length pages ≡ lent
all_filled lent n taken pages size few is =
    ap length is ∙ length-take-le lent (pages_of taken) (omega (arith, length-pages_of taken ∙ ap page_count size))

-- a whole block is one page of its bytes, and whole blocks are the pages of theirs
pub one_page : (b : Block) → length b.bytes ≡ 512 → pages_of b.bytes ≡ b ∷ []
unfolding pages_of pages_from
one_page b size = rw size (ap (λ (p : Block). p ∷ []) (sym (whole_block b.bytes b.bytes (omega arith) (sym (take_all 512 b.bytes (omega arith))))))

pub pages_of-bytes_of : (bs : List Block) → AllByRecursion (λ (b : Block). length b.bytes ≡ 512) bs → pages_of (bytes_of bs) ≡ bs
unfolding pages_of pages_from
pages_of-bytes_of [] whole = refl
pages_of-bytes_of (b ∷ bs) whole = pages_of-append 1 b.bytes (bytes_of bs) whole.0 ∙ (ap (λ (ps : List Block). ps ++ pages_of (bytes_of bs)) (one_page b whole.0) ∙ ap (λ (ps : List Block). b ∷ ps) (pages_of-bytes_of bs whole.1))
