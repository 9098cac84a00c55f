-- How the pages of a pool are counted.
use Rattle.std.specs.Prelude.{ℕ, ◌+◌, List, length, sum_by}
use Rattle.satl_base.specs.declared.block.Block.{Block}

-- how many pages of a pool are free, and how many are out (profile)
pub record Counts : Type 0 where
  pub free : ℕ
  pub out : ℕ

-- the number of a pool: each of its pages is free or out (profile)
abbrev pub number_of : Counts → ℕ
number_of counts = counts.free + counts.out

-- how many pages lists of pages have together (profile)
abbrev pub pages_in : List (List Block) → ℕ
pages_in lists = sum_by length lists
