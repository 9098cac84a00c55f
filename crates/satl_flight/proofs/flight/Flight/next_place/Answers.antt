use Rattle.std.proofs.Common.{subst, ◌≤◌, ◌<◌}
use Rattle.std.specs.Prelude.{◌==◌, IfSome, bit_or}
use Rattle.std.specs.Int.{bit_at}
use Rattle.std.proofs.lemmas.List.{length-map}
use Rattle.satl_line.specs.Tasks.{Held, slots_of}
use Rattle.satl_flight.specs.Settled.{NeedsIssue}
use Rattle.satl_flight.proofs.LaunchingLemmas.{needs_issue, needs_none}
use Rattle.satl_flight.proofs.ZipLemmas.{is_within}
use Rattle.satl_flight.proofs.flight.Flight.next_place.Goals as goal

pub returns-clause-within : goal.returns-clause-within
returns-clause-within c =
    subst (λ n. IfSome c.first_outside.result (λ place. (c.args.from ≤ place) × (place < n))) (length-map c.args.set.now (λ (h : Held). h.slot))
    (is_within (λ slot. bit_at (bit_or c.self.inside.held c.barred.result) slot == 0) (slots_of c.args.set.now) c.args.from c.first_outside.result c.first_outside.ensures.value)

pub returns-clause-passed : goal.returns-clause-passed
returns-clause-passed c = λ place behind before.
    subst (λ fs. NeedsIssue fs c.args.set.now place → ⊥) c.self.view_is
    (needs_none c.self.inside.held c.barred.result c.self.inside.flying c.args.set.now c.args.from c.first_outside.result c.self.invariant.3 c.barred.ensures c.first_outside.ensures.value place behind before)

pub returns-clause-found : goal.returns-clause-found
returns-clause-found c =
    subst (λ fs. IfSome c.first_outside.result (NeedsIssue fs c.args.set.now)) c.self.view_is
    (needs_issue c.self.inside.held c.barred.result c.self.inside.flying c.args.set.now c.args.from c.first_outside.result c.self.invariant.3 c.barred.ensures c.first_outside.ensures.value)
