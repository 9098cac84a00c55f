use Rattle.std.proofs.Common.{◌≡◌, false, take}
use Rattle.std.specs.Prelude.{nat_eq}
use Rattle.std.specs.Cmp.Lexicographic.{pointwise}
use Rattle.std.specs.List.{list_any}
use Rattle.satl_audit.specs.Kept.{block_of}
use Rattle.satl_audit.proofs.content.find_block.Given as goal

abbrev pub invariant-loop-content : goal.invariant-loop-content
invariant-loop-content l = list_any (λ c. pointwise nat_eq l.given (block_of l.input c).bytes) (take l.content-index l.contents) ≡ false
