-- A chain of pages as a list.
use Rattle.std.specs.Prelude.{List, [], ◌∷◌}
use Rattle.satl_base.specs.declared.block.Block.{Block}
use Rattle.satl_base.specs.declared.chain.Chain.{Chain}
use Rattle.satl_base.specs.declared.chain.Chain.TheVariants.{End, More'}

-- the blocks of a chain, in order (profile)
abbrev pub blocks_of : Chain → List Block
blocks_of End = []
blocks_of (More' p block next) = block ∷ blocks_of next
