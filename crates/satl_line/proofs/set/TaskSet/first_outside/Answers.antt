use Rattle.std.proofs.Common.{ap, sym, ◌∙◌}
use Rattle.satl_line.specs.Tasks.{slots_of}
use Rattle.satl_line.proofs.PassedLemmas.{found_from, none_outside}
use Rattle.satl_line.proofs.SlotsLemmas.{slots_of_tasks}
use Rattle.satl_line.proofs.set.TaskSet.first_outside.Goals as goal

pub returns-then-self-slots-eq0-clause-value : goal.returns-then-self-slots-eq0-clause-value
returns-then-self-slots-eq0-clause-value c =
    sym (none_outside c.self.inside.order (slots_of c.args.self.now) c.self.inside.taken c.args.slots c.args.from (sym (slots_of_tasks c.self.inside.slots.items c.self.inside.order) ∙ ap slots_of c.self.view_is)
    c.self.invariant.3 c.self.invariant.0.taken c.ranges.slots.fits c.if-self-slots-eq0.true)

pub returns-then-from-eq0-clause-value : goal.returns-then-from-eq0-clause-value
returns-then-from-eq0-clause-value c =
    found_from c.self.inside.order c.as_slice.result.now c.as_slice-2.result.now (slots_of c.args.self.now) c.args.from c.start-start.result c.args.slots c.first_outside-found.result c.first_outside-found.ensures c.as_slice.ensures c.as_slice-2.ensures
    (sym (slots_of_tasks c.self.inside.slots.items c.self.inside.order) ∙ ap slots_of c.self.view_is) c.start-start.ensures.same

pub returns-else-from-eq0-clause-value : goal.returns-else-from-eq0-clause-value
returns-else-from-eq0-clause-value c =
    found_from c.self.inside.order c.as_slice.result.now c.as_slice-2.result.now (slots_of c.args.self.now) c.args.from c.start-start.result c.args.slots c.first_outside-found.result c.first_outside-found.ensures c.as_slice.ensures c.as_slice-2.ensures
    (sym (slots_of_tasks c.self.inside.slots.items c.self.inside.order) ∙ ap slots_of c.self.view_is) c.start-start.ensures.same
