-- A write through a borrowed block.
use Rattle.std.specs.Borrow.{Lends, MutBor, Fml}
use Rattle.satl_base.specs.declared.block.Block.{Block}
use Rattle.satl_base.specs.contracts.block.Block.{the_row as block_row}
use Rattle.satl_base.specs.contracts.pages.Page.{the_row as page_row}

-- a page ends as the last block that was written through the result (profile)
abbrev pub LendsBlock : MutBor Block → MutBor Block → Fml
LendsBlock s r = Lends page_row block_row s r (λ w. w)
