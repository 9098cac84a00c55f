use Rattle.satl_line.specs.Conflict.{conflicts}
use Rattle.satl_line.specs.Layout.{held_in}
use Rattle.satl_line.proofs.AmongLemmas.{fewer_left, looked_more}
use Rattle.satl_line.proofs.set.mask_against.Goals as goal

pub loop-rest-smaller : goal.loop-rest-smaller
loop-rest-smaller c = fewer_left c.loop-rest.rest c.lowest_slot-slot.result c.lowest_slot-slot.ensures.small c.lowest_slot-slot.ensures.among

pub loop-rest-preserved : goal.loop-rest-preserved
loop-rest-preserved c =
    looked_more (λ q. conflicts (held_in c.args.slots.now q).entry c.args.entry.now) c.args.among c.loop-rest.rest c.loop-rest.mask _ c.lowest_slot-slot.result c.conflicts_in-conflicting.result
    c.lowest_slot-slot.ensures.small c.lowest_slot-slot.ensures.among c.conflicts_in-conflicting.ensures c.with_slot-mask.ensures c.loop-rest.invariant
