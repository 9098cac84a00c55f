use Rattle.std.proofs.Common.{arith}
use Rattle.satl_base.proofs.BlocksLemmas.{block_gives_piece}
use Rattle.satl_base.proofs.pages.PiecesIterator.next.Goals as goal

pub returns-clause-steps : goal.returns-clause-steps
returns-clause-steps c =
    block_gives_piece c.self.inside.left c.min-count.result c.args.self.now c.as_bytes-bytes.result.now c.in_ok-next.field-0.now c.next.new.self _
    c.self.view_is c.in_ok-next.ensures.steps c.as_bytes-bytes.ensures.value c.as_bytes-bytes.ensures.size c.min-count.ensures (omega (arith, c.if-self-eq0.false))
