use Rattle.std.proofs.Common.{◌<◌, arith}
use Rattle.satl_disk.proofs.SectorsLemmas.{blocks_step}
use Rattle.satl_disk.proofs.sectors.Sectors.put_blocks.Goals as goal

pub loop-block-preserved : goal.loop-block-preserved
loop-block-preserved c =
    let more : c.loop-block.i < c.args.count = omega arith in
    record {
      size = omega arith;
      within = omega arith;
      put = blocks_step c.args.mask c.args.cached c.loop-block.i c.args.lba c.args.count c.in-Some.block.now c.loop-block.block-iterator c.next.new.self c.loop-block.self c.write_taken.new.self _ more c.in-Some.ensures.steps c.write_taken.ensures.value c.loop-block.invariant.put;
    }
