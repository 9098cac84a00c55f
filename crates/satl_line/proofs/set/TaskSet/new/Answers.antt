use Rattle.std.proofs.Common.{ap, arith, length}
use Rattle.satl_line.specs.Outlines.{is_of_alone}
use Rattle.satl_line.proofs.AmongLemmas.{taken_none}
use Rattle.satl_line.proofs.BarredLemmas.{barred_none}
use Rattle.satl_line.proofs.NearLemmas.{near_none}
use Rattle.satl_line.proofs.SlotsLemmas.{free_more, noted_none, sound_new}
use Rattle.satl_line.proofs.set.TaskSet.new.Goals as goal

pub loop-slot-preserved : goal.loop-slot-preserved
loop-slot-preserved c = record {
  slots = omega (arith, c.in-Ok.ensures.len, c.loop-slot.invariant.slots);
  room = omega (arith, c.in-Ok.ensures.capacity, c.loop-slot.invariant.room);
  free = omega (arith, c.push-in-loop-slot.ensures.len, c.loop-slot.invariant.free);
  up_to = free_more c.loop-slot.slot c.loop-slot.free.items c.push-in-loop-slot.new.self.items c.loop-slot-test.true c.push-in-loop-slot.ensures.items c.loop-slot.invariant.up_to;
}

pub invariant_of-result : goal.invariant_of-result
invariant_of-result c = (
  sound_new c.loop-slot.slots.items c.no_outlines.result c.loop-slot.free.items c.no_masks.result c.new-2.result c.no_counts.result (ap length c.no_outlines.ensures) (omega (arith, c.loop-slot.invariant.slots)) c.new-2.ensures c.no_masks.ensures c.no_counts.ensures (omega (arith, c.loop-slot.invariant.free))
      c.loop-slot.invariant.up_to.small (λ q lt. c.loop-slot.invariant.up_to.once q (omega arith)),
  c.none.ensures c.new-2.result,
  near_none c.none-2.result c.no_outlines.result c.new-2.result c.none-2.ensures c.new-2.ensures,
  taken_none c.new-2.result c.new-2.ensures,
  barred_none c.no_masks.result c.no_masks.ensures,
  noted_none is_of_alone c.no_outlines.result c.new-2.result c.loop-slot.free.items c.new-2.ensures c.loop-slot.invariant.up_to.small,
)
