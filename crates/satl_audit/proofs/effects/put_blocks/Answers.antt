use Rattle.std.proofs.Common.{arith, ◌∙◌, sym}
use Rattle.satl_audit.proofs.PutEffects.{puts_begin, puts_end, puts_turn}
use Rattle.satl_audit.proofs.effects.put_blocks.Goals as goal

pub loop-i-preserved : goal.loop-i-preserved
loop-i-preserved c = record {
  size = c.in_ok-put.ensures.length ∙ c.loop-i.invariant.size;
  rest = λ input x less.
      c.loop-i.invariant.rest input x less
      ∙ puts_turn input c.args.put.now.cached x c.args.put.now.range.lba c.args.put.now.at c.loop-i.i c.args.put.now.range.count c.loop-i.sectors c.put.new.self c.loop-i-test.true
      (omega (arith, c.loop-i-test.true, c.requires.within, c.loop-i.invariant.size)) c.in_ok-put.ensures.put;
}

pub returns-clause-puts : goal.returns-clause-puts
returns-clause-puts c = λ input x less.
    sym (puts_begin input c.args.put.now.cached x c.args.put.now.range.lba c.args.put.now.at c.args.put.now.range.count c.args.sectors.now ∙ c.loop-i.invariant.rest input x less ∙ puts_end input c.args.put.now.cached x c.args.put.now.range.lba c.args.put.now.at c.loop-i.i c.args.put.now.range.count c.loop-i.sectors c.loop-i-test.false)
