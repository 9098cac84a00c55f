use Rattle.std.proofs.Common.{◌∙◌, sym, inl, inr, subst, arith}
use Rattle.std.specs.List.{AllByRecursion}
use Rattle.satl_line.specs.Regions.{MayLeaveOut}
use Rattle.satl_line.proofs.AmongLemmas.{active_taken, all_have_tasks}
use Rattle.satl_line.proofs.NearLemmas.{are_left_out}
use Rattle.satl_line.proofs.set.TaskSet.candidates.Goals as goal

pub returns-then-is_active-clause-taken : goal.returns-then-is_active-clause-taken
returns-then-is_active-clause-taken c =
    all_have_tasks c.self.inside.slots.items c.self.inside.order c.args.self.now c.beside.result c.self.inside.taken c.self.view_is c.beside.ensures.within
    (λ q lt. omega (arith, c.self.invariant.3 q lt))

pub returns-else-is_active-clause-taken : goal.returns-else-is_active-clause-taken
returns-else-is_active-clause-taken c =
    all_have_tasks c.self.inside.slots.items c.self.inside.order c.args.self.now c.beside-else-is_active.result c.self.inside.active c.self.view_is c.beside-else-is_active.ensures.within
    (λ q lt. active_taken c.self.inside.outlines c.self.inside.order c.self.inside.free.items c.self.inside.active q (c.self.invariant.0.once q lt) c.self.invariant.0.noted)

pub returns-then-is_active-clause-others : goal.returns-then-is_active-clause-others
returns-then-is_active-clause-others c =
    subst (AllByRecursion (MayLeaveOut c.args.entry.now c.beside.result)) c.self.view_is
    (are_left_out c.self.inside.slots.items c.self.inside.outlines c.self.inside.order c.self.inside.free.items c.self.inside.taken c.self.inside.active c.self.inside.regions c.args.entry.now c.args.outline.now c.beside.result
    c.self.invariant.0.outlined.each c.self.invariant.0.noted c.self.invariant.2 c.self.invariant.3 c.self.invariant.0.taken c.requires (inl c.beside.ensures.apart))

pub returns-else-is_active-clause-others : goal.returns-else-is_active-clause-others
returns-else-is_active-clause-others c =
    subst (AllByRecursion (MayLeaveOut c.args.entry.now c.beside-else-is_active.result)) c.self.view_is
    (are_left_out c.self.inside.slots.items c.self.inside.outlines c.self.inside.order c.self.inside.free.items c.self.inside.taken c.self.inside.active c.self.inside.regions c.args.entry.now c.args.outline.now c.beside-else-is_active.result
    c.self.invariant.0.outlined.each c.self.invariant.0.noted c.self.invariant.2 c.self.invariant.3 c.self.invariant.0.taken c.requires (inr (sym c.is_active.ensures ∙ c.if-is_active.false, c.beside-else-is_active.ensures.apart)))
