use Rattle.std.proofs.Common.{arith, sym, ap, subst, ◌∙◌}
use Rattle.std.specs.List.{AllByRecursion}
use Rattle.satl_core.specs.Layer.{IsKept, held_pages}
use Rattle.satl_core.proofs.BenchingLemmas.{anew_by}
use Rattle.satl_core.proofs.LeavingLemmas.{left_none}
use Rattle.satl_core.proofs.satl.Satl.start_anew.Goals as goal

pub invariant_of-self : goal.invariant_of-self
invariant_of-self c =
    record {
      held = omega (arith, c.drop_tasks.ensures.out, c.self.invariant.held, ap held_pages c.forget.ensures.same);
      all = omega (arith, c.drop_tasks.ensures.out, c.drop_tasks.ensures.free, c.self.invariant.all);
      kept = subst (AllByRecursion (IsKept c.self.inside.identity)) (sym (c.drop_tasks.ensures.others ∙ left_none c.forget.new.self.tasks)) tt;
      identity_is = c.self.invariant.identity_is;
    }

pub returns-clause-anew : goal.returns-clause-anew
returns-clause-anew c =
    let i = c.self.inside in
    anew_by i.identity i.modes c.defaults-self-inside.result i.started i.down i.attentions c.powered_on-self-inside.result i.queue c.drop_tasks.new.queue i.pool c.drop_tasks.new.pool c.args.self.now c.self.view_is c.defaults-self-inside.ensures c.powered_on-self-inside.ensures
    (c.drop_tasks.ensures.others ∙ left_none c.forget.new.self.tasks) (c.drop_tasks.ensures.flying ∙ c.forget.ensures.emptied)
