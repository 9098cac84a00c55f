use Rattle.std.proofs.Common.{◌≡◌, ◌+◌, length}
use Rattle.satl_pages.specs.Counts.{pages_in}
use Rattle.satl_pages.proofs.stock.join.Given as goal

abbrev pub invariant-loop-piece : goal.invariant-loop-piece
invariant-loop-piece l = pages_in l.pieces.items + length l.others ≡ pages_in l.fn.pieces.items + length l.fn.others

abbrev pub decreases-loop-piece : goal.decreases-loop-piece
decreases-loop-piece l = length l.pieces.items
