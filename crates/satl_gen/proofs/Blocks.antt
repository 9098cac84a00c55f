-- Blocks whose bytes are all the same.
use Rattle.std.proofs.Common.{◌≡◌, ◌<◌, ℕ, zero, suc, ◌+◌, ◌-◌, ◌*◌, ◌%◌, List, [], ◌∷◌, ◌++◌, length, refl, ◌∙◌, ap, sym, arith}
use Rattle.std.proofs.lemmas.List.{length-append, length-replicate, take_all}
use Rattle.satl_base.specs.declared.block.Block.{Block}
use Rattle.satl_base.specs.Blocks.{bytes_of, first_bytes}
use Rattle.satl_frame.specs.DataPages.{pages_from, pages_of}
use Rattle.satl_frame.proofs.Paging.{pages_of-append, one_page}
use Rattle.satl_gen.specs.Generated.{block_full_of, rising_blocks}

pub length-block_of : (value : ℕ) → length (block_full_of value).bytes ≡ 512
unfolding block_full_of
length-block_of value = length-replicate 512 (value % 256)

-- the first block, and the others
pub rising_blocks-next : (n value : ℕ) → 0 < n → rising_blocks n value ≡ block_full_of value ∷ rising_blocks (n - 1) (value + 1)
unfolding rising_blocks
rising_blocks-next zero value some = absurd (omega arith)
rising_blocks-next (suc n) value some = let less : suc n - 1 ≡ n = omega arith in rw less refl

pub rising_blocks-none : (n value : ℕ) → n ≡ 0 → rising_blocks n value ≡ []
unfolding rising_blocks
rising_blocks-none zero value none = refl
rising_blocks-none (suc n) value none = absurd (omega arith)

pub length-blocks : (n value : ℕ) → length (bytes_of (rising_blocks n value)) ≡ 512 * n
unfolding rising_blocks
length-blocks zero value = refl
length-blocks (suc n) value = length-append (block_full_of value).bytes (bytes_of (rising_blocks n (value + 1))) ∙ omega (arith, length-block_of value, length-blocks n (value + 1))

-- they are all of their bytes
pub first_blocks : (n value : ℕ) → first_bytes (512 * n) (rising_blocks n value) ≡ bytes_of (rising_blocks n value)
first_blocks n value = take_all (512 * n) (bytes_of (rising_blocks n value)) (omega (arith, length-blocks n value))

-- they are the pages of their bytes
pub blocks_are_pages : (n value : ℕ) → rising_blocks n value ≡ pages_of (bytes_of (rising_blocks n value))
unfolding rising_blocks pages_of pages_from
blocks_are_pages zero value = refl
blocks_are_pages (suc n) value =
    ap (λ (bs : List Block). block_full_of value ∷ bs) (blocks_are_pages n (value + 1))
    ∙ sym (pages_of-append 1 (block_full_of value).bytes (bytes_of (rising_blocks n (value + 1))) (length-block_of value)
    ∙ ap (λ (bs : List Block). bs ++ pages_of (bytes_of (rising_blocks n (value + 1)))) (one_page (block_full_of value) (length-block_of value)))
