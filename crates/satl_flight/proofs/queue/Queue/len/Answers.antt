use Rattle.std.proofs.Common.{ap, arith, subst}
use Rattle.satl_line.specs.Tasks.{AreOwnSlots, total_blocks}
use Rattle.satl_drive.specs.State.{DriveState}
use Rattle.satl_flight.specs.Lending.{Waiting}
use Rattle.satl_flight.specs.Queueing.{IsQueued, IsSlotted}
use Rattle.satl_flight.proofs.QueueLemmas.{own-whole, slotted, total-whole}
use Rattle.satl_flight.proofs.queue.Queue.len.Goals as goal

pub returns-clause-blocks : goal.returns-clause-blocks
returns-clause-blocks c =
    let same = ap (λ (w : Waiting). total_blocks w.tasks) c.self.view_is in
    let whole = total-whole c.self.inside.flight c.self.inside.dma c.self.inside.set in
    omega (arith, same, whole, c.len.ensures.blocks)

pub returns-clause-own : goal.returns-clause-own
returns-clause-own c = subst (λ (w : Waiting). AreOwnSlots w.tasks) c.self.view_is (own-whole c.self.inside.flight c.self.inside.dma c.self.inside.set c.len.ensures.own)

pub returns-clause-slotted : goal.returns-clause-slotted
returns-clause-slotted c =
    subst (λ (w : Waiting). (d : DriveState) → IsQueued w d → IsSlotted d.outstanding w.slots) c.self.view_is
    (λ d tie. slotted c.self.inside.flight c.self.inside.dma c.self.inside.set d c.self.invariant tie)
