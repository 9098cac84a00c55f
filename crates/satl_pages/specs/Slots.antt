-- The slots of a drive's tags.
use Rattle.std.specs.Prelude.{ℕ, List, Option, Some, slice_get, slice_set}
use Rattle.std.specs.Option.{option_flatten}
use Rattle.std.specs.Borrow.{LendsIf, MutBor, Fml}
use Rattle.satl_base.specs.declared.block.Block.{Block}
use Rattle.satl_base.specs.contracts.pages.Pages.{the_row as pages_row}
use Rattle.satl_pages.specs.contracts.dma.Dma.{the_row as dma_row}

-- what the slot of a tag holds: None where it is empty, or where there is no such slot (profile)
abbrev pub pages_at : List (Option (List Block)) → ℕ → Option (List Block)
pages_at slots tag = option_flatten (slice_get slots tag)

-- the slots end with the pages last written behind the reference in the tag's slot, where that is filled (profile)
abbrev pub LendsPages : MutBor (List (Option (List Block))) → ℕ → Option (MutBor (List Block)) → Fml
LendsPages slots tag lent = LendsIf dma_row pages_row slots lent (λ pages. slice_set slots.now tag (Some pages)) slots.now
