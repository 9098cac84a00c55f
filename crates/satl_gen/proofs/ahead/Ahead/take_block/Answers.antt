use Rattle.std.proofs.Common.{ap, arith, length}
use Rattle.satl_gen.proofs.Blocks.{length-block_of}
use Rattle.satl_gen.proofs.Steps.{block_taken}
use Rattle.satl_gen.proofs.ahead.Ahead.take_block.Goals as goal

pub returns-clause-bytes : goal.returns-clause-bytes
returns-clause-bytes c = block_taken c.args.self.now.blocks c.args.self.now.value c.block_piece-piece.result.items _ c.requires c.block_piece-piece.ensures

pub returns-clause-some : goal.returns-clause-some
returns-clause-some c = omega (arith, ap length c.block_piece-piece.ensures, length-block_of c.args.self.now.value)
