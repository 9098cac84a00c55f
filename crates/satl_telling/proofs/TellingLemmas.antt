-- Bytes in pages of the pool.
use Rattle.std.proofs.Common.{◌≡◌, sym, ap, ◌∙◌, arith, ℕ, suc, ◌-◌, ◌*◌, ◌≤◌, min, List, [], ◌∷◌, ◌++◌, length, take, drop, replicate, inl, inr}
use Rattle.std.proofs.lemmas.Bool.{cases_lt}
use Rattle.std.proofs.lemmas.List.{drop-drop, drop-replicate, length-drop, take_all}
use Rattle.satl_base.specs.declared.block.Block.{Block}
use Rattle.satl_frame.specs.DataPages.{page_count, padded_block, pages_from, pages_of}
use Rattle.satl_frame.proofs.Paging.{length-pages_of}

-- the first 512 bytes
front : (bytes : List ℕ) → take (min (length bytes) 512) bytes ≡ take 512 bytes
front bytes = elim (cases_lt 512 (length bytes)) [
  | inl l ↦ let most : min (length bytes) 512 ≡ 512 = omega arith in ap (λ n. take n bytes) most
  | inr g ↦ take_all (min (length bytes) 512) bytes (omega arith) ∙ sym (take_all 512 bytes (omega arith))
]

-- a block of zeros with bytes at its front
pub padded_is : (n : ℕ) (bytes new : List ℕ) → n ≡ min (length bytes) 512 → new ≡ take n bytes → record { bytes = new ++ drop n (replicate 512 0) } ≡ padded_block bytes
unfolding padded_block
padded_is n bytes new is same =
    ap (λ (b : List ℕ). record { bytes = b })
    (ap (λ xs. xs ++ drop n (replicate 512 0)) (same ∙ (ap (λ k. take k bytes) is ∙ front bytes))
    ∙ ap (λ zeros. take 512 bytes ++ zeros) (drop-replicate n 512 0 ∙ ap (λ k. replicate k 0) (omega (arith, is))))

-- no page yet
pub none_placed : (bytes : List ℕ) (left : ℕ) (done : List Block) → left ≡ page_count (length bytes) → done ≡ [] → done ≡ pages_from (page_count (length bytes) - left) (drop (512 * left) bytes)
unfolding pages_from
none_placed bytes left done is empty = let none : page_count (length bytes) - left ≡ 0 = omega (arith, is) in rw none empty

-- one page more before the others
pub one_placed : (bytes : List ℕ) (left next : ℕ) (done new : List Block) (block : Block) → left ≤ page_count (length bytes) → left ≡ suc next → done ≡ pages_from (page_count (length bytes) - left) (drop (512 * left) bytes) → block ≡ padded_block (take (length bytes - 512 * next) (drop (512 * next) bytes)) → new ≡ block ∷ done
    → new ≡ pages_from (page_count (length bytes) - next) (drop (512 * next) bytes)
unfolding pages_from
one_placed bytes left next done new block within is placed block_is more =
    let count : page_count (length bytes) - next ≡ suc (page_count (length bytes) - left) = omega (arith, within, is) in
    let further : drop (512 * left) bytes ≡ drop 512 (drop (512 * next) bytes) = ap (λ k. drop k bytes) (omega (arith, is)) ∙ sym (drop-drop 512 (512 * next) bytes) in
    let rest : take (length bytes - 512 * next) (drop (512 * next) bytes) ≡ drop (512 * next) bytes = take_all (length bytes - 512 * next) (drop (512 * next) bytes) (omega (arith, length-drop (512 * next) bytes)) in
    rw count (more ∙ (ap (λ b. b ∷ done) (block_is ∙ ap padded_block rest) ∙ ap (λ bs. padded_block (drop (512 * next) bytes) ∷ bs) (placed ∙ ap (pages_from (page_count (length bytes) - left)) further)))

-- all pages
pub all_placed : (bytes : List ℕ) (left : ℕ) (done : List Block) → left ≡ 0 → done ≡ pages_from (page_count (length bytes) - left) (drop (512 * left) bytes) → done ≡ pages_of bytes
unfolding pages_of
all_placed bytes left done none placed =
    let count : page_count (length bytes) - left ≡ page_count (length bytes) = omega (arith, none) in
    let start : 512 * left ≡ 0 = omega (arith, none) in
    placed ∙ (ap (λ n. pages_from n (drop (512 * left) bytes)) count ∙ ap (λ k. pages_from (page_count (length bytes)) (drop k bytes)) start)

-- pages hold the bytes that were put into them
pub pages_hold : (bytes : List ℕ) (body : List Block) → body ≡ pages_of bytes → length bytes ≤ 512 * length body
pages_hold bytes body is = let count = ap length is ∙ length-pages_of bytes in omega (arith, count)
