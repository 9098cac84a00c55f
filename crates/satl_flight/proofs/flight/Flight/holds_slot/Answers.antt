use Rattle.std.proofs.Common.{ap, sym, ◌∙◌, le-ltb}
use Rattle.satl_flight.specs.Flown.{is_outstanding}
use Rattle.satl_flight.proofs.TagsLemmas.{none_outstanding, told_by_bit}
use Rattle.satl_flight.proofs.flight.Flight.holds_slot.Goals as goal

pub returns-then-slot-lt64 : goal.returns-then-slot-lt64
returns-then-slot-lt64 c =
    told_by_bit c.self.inside.held c.self.inside.flying c.args.slot c.has_slot.result c.self.invariant.3 c.has_slot.ensures ∙ ap (λ fs. is_outstanding fs c.args.slot) c.self.view_is

pub returns-else-slot-lt64 : goal.returns-else-slot-lt64
returns-else-slot-lt64 c =
    le-ltb c.args.slot 64 c.if-slot-lt64.false ∙ sym (none_outstanding c.self.inside.flying c.args.slot c.self.invariant.2 c.if-slot-lt64.false) ∙ ap (λ fs. is_outstanding fs c.args.slot) c.self.view_is
