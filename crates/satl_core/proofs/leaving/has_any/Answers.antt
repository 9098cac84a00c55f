use Rattle.std.proofs.Common.{arith, sym, ◌∙◌, ◌+◌}
use Rattle.satl_core.specs.Leaving.{is_within}
use Rattle.satl_core.proofs.LeavingLemmas.{any_here, any_next, within_bare}
use Rattle.satl_core.proofs.leaving.has_any.Goals as goal

pub returns-then-is_within : goal.returns-then-is_within
returns-then-is_within c =
    sym (c.loop-place.invariant ∙ any_here (is_within c.args.scope.now) (within_bare c.args.scope.now) c.args.queue.now.tasks c.loop-place.place c.entry.result.now c.entry.ensures (sym c.is_within.ensures ∙ c.if-is_within.true))

pub loop-place-preserved : goal.loop-place-preserved
loop-place-preserved c =
    c.loop-place.invariant ∙ any_next (is_within c.args.scope.now) (within_bare c.args.scope.now) c.args.queue.now.tasks c.loop-place.place (c.loop-place.place + 1) c.entry.result.now (omega arith) c.entry.ensures (sym c.is_within.ensures ∙ c.if-is_within.false)
