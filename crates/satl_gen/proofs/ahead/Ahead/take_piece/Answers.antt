use Rattle.std.proofs.Common.{arith}
use Rattle.satl_gen.proofs.Steps.{burst_taken, end_taken, nothing_left}
use Rattle.satl_gen.proofs.ahead.Ahead.take_piece.Goals as goal

pub returns-in-Some-clause-bytes : goal.returns-in-Some-clause-bytes
returns-in-Some-clause-bytes c =
    burst_taken c.args.self.now.blocks c.args.self.now.value c.in-Some.number c.args.self.now.burst c.burst_piece.result.items _ (omega (arith, c.if-self-gt0.false)) c.in-Some.is c.burst_piece.ensures

pub returns-then-self-clause-end : goal.returns-then-self-clause-end
returns-then-self-clause-end c _ =
    nothing_left c.args.self.now.blocks c.args.self.now.value c.args.self.now.burst c.args.self.now.ended _ (omega (arith, c.if-self-gt0.false)) c.in_default.is c.if-self.true

pub returns-clause-bytes : goal.returns-clause-bytes
returns-clause-bytes c =
    end_taken c.args.self.now.blocks c.args.self.now.value c.args.self.now.burst c.args.self.now.ended c.args.self.now.requests c.args.self.now.next c.args.self.now.generator c.piece_of.result.items
    (omega (arith, c.if-self-gt0.false)) c.in_default.is c.if-self.false (omega (arith, c.if-self-gt0-2.false)) c.piece_of.ensures
