use Rattle.std.proofs.Common.{ap, arith, length}
use Rattle.satl_gen.proofs.Steps.{request_step}
use Rattle.satl_gen.proofs.ahead.Ahead.take_request.Goals as goal

pub returns-clause-bytes : goal.returns-clause-bytes
returns-clause-bytes c =
    let old = c.args.self.now in
    request_step old.blocks old.value old.burst old.ended old.requests old.next old.generator c.drawn-draw.new.generator c.drawn-draw.result c.request_piece.result.items
    c.sent_blocks-self.result c.from-self.result c.burst_behind-self.result c.requires.blocks c.requires.burst c.requires.ended c.requires.some (omega (arith, old.numbered))
    c.drawn-draw.ensures.value c.drawn-draw.ensures.rest c.request_piece.ensures c.sent_blocks-self.ensures c.from-self.ensures c.burst_behind-self.ensures

pub returns-clause-some : goal.returns-clause-some
returns-clause-some c = omega (arith, ap length c.request_piece.ensures)
