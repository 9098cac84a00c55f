use Rattle.std.proofs.Common.{arith, ◌∙◌, sym}
use Rattle.satl_audit.proofs.PendEffects.{pends_begin, pends_end, pends_turn}
use Rattle.satl_audit.proofs.effects.pend_blocks.Goals as goal

pub loop-i-preserved : goal.loop-i-preserved
loop-i-preserved c = record {
  size = c.in_ok-pending.ensures.length ∙ c.loop-i.invariant.size;
  rest = λ input cached x less.
      c.loop-i.invariant.rest input cached x less
      ∙ pends_turn input cached x c.args.range.lba c.args.at c.loop-i.i c.args.range.count c.loop-i.sectors c.pending.new.self c.loop-i-test.true
      (omega (arith, c.loop-i-test.true, c.requires.within, c.loop-i.invariant.size)) c.in_ok-pending.ensures.pending;
}

pub returns-clause-pends : goal.returns-clause-pends
returns-clause-pends c = λ input cached x less.
    sym (pends_begin input cached x c.args.range.lba c.args.at c.args.range.count c.args.sectors.now ∙ c.loop-i.invariant.rest input cached x less ∙ pends_end input cached x c.args.range.lba c.args.at c.loop-i.i c.args.range.count c.loop-i.sectors c.loop-i-test.false)
