-- Data-out in pages (profile).
use Rattle.std.specs.Prelude.{ℕ, zero, suc, ◌+◌, ◌-◌, ◌/◌, List, [], ◌∷◌, ◌++◌, length, take, drop, replicate}
use Rattle.satl_base.specs.declared.block.Block.{Block}

-- how many pages n bytes fill
abbrev pub page_count : ℕ → ℕ
page_count n = (n + 511) / 512

-- the first 512 bytes, and zeros for those that are missing
unfoldable pub padded_block : List ℕ → Block
padded_block given = record { bytes = take 512 given ++ replicate (512 - length given) 0 }

-- the bytes in n pages, 512 in each
unfoldable pub pages_from : ℕ → List ℕ → List Block
pages_from zero given = []
pages_from (suc n) given = padded_block given ∷ pages_from n (drop 512 given)

-- the bytes in the fewest pages that hold them; what is left of the last page is zero
unfoldable pub pages_of : List ℕ → List Block
pages_of given = pages_from (page_count (length given)) given
