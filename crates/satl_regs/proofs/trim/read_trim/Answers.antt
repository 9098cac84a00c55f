use Rattle.std.proofs.Common.{arith}
use Rattle.satl_regs.proofs.Trims.{starts, reads_next, reads_all}
use Rattle.satl_regs.proofs.trim.read_trim.Goals as goal

pub loop-place-init : goal.loop-place-init
loop-place-init c = (rw c.new-out.ensures (starts c.args.block.now.bytes), rw c.new-out.ensures (omega arith))

pub loop-place-preserved : goal.loop-place-preserved
loop-place-preserved c = (
  reads_next c.loop-place.place c.args.block.now.bytes c.entry_in-entry.result c.loop-place.out.items c.push_used.new.ranges.items c.loop-place-test.true c.entry_in-entry.ensures c.push_used.ensures.items c.loop-place.invariant.0,
  let h = c.push_used.ensures.len in let k = c.loop-place.invariant.1 in omega arith,
)

pub returns : goal.returns
returns c = reads_all c.loop-place.place c.args.block.now.bytes c.loop-place.out.items c.loop-place-test.false c.loop-place.invariant.0
