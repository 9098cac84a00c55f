use Rattle.std.proofs.Common.{◌≤◌, sym, ap, subst, length}
use Rattle.satl_line.specs.Tasks.{total_blocks}
use Rattle.satl_core.specs.Layer.{Layer}
use Rattle.satl_core.proofs.CutLemmas.{holds_by}
use Rattle.satl_core.proofs.HeldLemmas.{held_is}
use Rattle.satl_core.proofs.satl.Satl.overlaps.Goals as goal

pub returns-then-is_for_unit-clause-holds : goal.returns-then-is_for_unit-clause-holds
returns-then-is_for_unit-clause-holds c = λ can few short.
    holds_by c.args.request.now _ _ _ _ _ _ _ can (ap (λ (l : Layer). l.free) c.self.view_is) (ap (λ (l : Layer). l.out) c.self.view_is) c.self.invariant.held c.self.invariant.all (held_is c.self.inside.identity c.self.inside.queue.tasks c.self.invariant.kept)
    (subst (λ (l : Layer). total_blocks l.tasks ≤ 32768) (sym c.self.view_is) few) (subst (λ (l : Layer). length l.tasks ≤ 64) (sym c.self.view_is) short)

pub returns-else-is_for_unit-clause-holds : goal.returns-else-is_for_unit-clause-holds
returns-else-is_for_unit-clause-holds c = λ can few short.
    holds_by c.args.request.now _ _ _ _ _ _ _ can (ap (λ (l : Layer). l.free) c.self.view_is) (ap (λ (l : Layer). l.out) c.self.view_is) c.self.invariant.held c.self.invariant.all (held_is c.self.inside.identity c.self.inside.queue.tasks c.self.invariant.kept)
    (subst (λ (l : Layer). total_blocks l.tasks ≤ 32768) (sym c.self.view_is) few) (subst (λ (l : Layer). length l.tasks ≤ 64) (sym c.self.view_is) short)
