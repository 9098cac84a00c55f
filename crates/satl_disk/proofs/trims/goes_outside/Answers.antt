use Rattle.std.proofs.Common.{◌<◌, arith, sym, ◌∙◌}
use Rattle.satl_disk.proofs.TrimsLemmas.{ranges_hit, ranges_miss}
use Rattle.satl_disk.proofs.trims.goes_outside.Goals as goal

pub returns-then-block_goes_outside : goal.returns-then-block_goes_outside
returns-then-block_goes_outside c =
    let more : c.loop-block.i < c.args.blocks = omega arith in
    ranges_hit _ c.args.blocks c.loop-block.i c.in-Some.block.now c.loop-block.block-iterator c.next.new.self _ more c.in-Some.ensures.steps c.loop-block.invariant.left (sym c.block_goes_outside.ensures ∙ c.if-block_goes_outside.true)

pub loop-block-preserved : goal.loop-block-preserved
loop-block-preserved c =
    let more : c.loop-block.i < c.args.blocks = omega arith in
    record {
      within = omega arith;
      left = ranges_miss _ c.args.blocks c.loop-block.i c.in-Some.block.now c.loop-block.block-iterator c.next.new.self _ more c.in-Some.ensures.steps c.loop-block.invariant.left (sym c.block_goes_outside.ensures ∙ c.if-block_goes_outside.false);
    }
