use Rattle.std.proofs.Common.{arith}
use Rattle.satl_line.proofs.PassedLemmas.{begins_behind}
use Rattle.satl_line.proofs.passed.Passed.start.Goals as goal

pub returns-then-self-slots-eq0-clause-same : goal.returns-then-self-slots-eq0-clause-same
returns-then-self-slots-eq0-clause-same c =
    begins_behind c.args.order.now c.args.self c.args.from c.args.slots c.requires.passed c.requires.small (omega (arith, c.ranges.slots.fits)) c.if-from-self.true c.if-self-slots-eq0.true
