use Rattle.std.proofs.Common.{ap, sym, ◌∙◌}
use Rattle.std.specs.Prelude.{slice_get}
use Rattle.satl_line.specs.Tasks.{slots_of}
use Rattle.satl_flight.specs.Flown.{is_outstanding}
use Rattle.satl_flight.specs.Lending.{Waiting}
use Rattle.satl_flight.proofs.LendingLemmas.{whole-slots, slots-get}
use Rattle.satl_flight.proofs.queue.Queue.is_outstanding.Goals as goal

pub returns : goal.returns
returns c = λ h stands.
    let in_slot = ap (λ l. slice_get l c.args.place) (ap (λ (w : Waiting). slots_of w.tasks) (sym c.self.view_is) ∙ whole-slots c.self.inside.flight c.self.inside.dma c.self.inside.set) ∙ c.slot_of.ensures.value in
    c.holds_slot.ensures ∙ (ap (is_outstanding c.self.inside.flight) (sym (slots-get c.args.self.now.tasks c.args.place h c.slot_of.result stands in_slot)) ∙ ap (λ (w : Waiting). is_outstanding w.flying h.slot) c.self.view_is)
