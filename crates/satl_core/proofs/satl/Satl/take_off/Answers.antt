use Rattle.std.proofs.Common.{◌≡◌, ◌≢◌, arith, refl, sym, ap, subst, ◌∙◌, [], length, true, false}
use Rattle.std.specs.Prelude.{not}
use Rattle.std.specs.List.{AllByRecursion}
use Rattle.satl_line.specs.Tasks.{Held}
use Rattle.satl_base.proofs.ListsLemmas.{All-filter}
use Rattle.satl_core.specs.Layer.{IsKept, Layer, Tied}
use Rattle.satl_core.specs.Calling.{OnlyIssues}
use Rattle.satl_core.specs.Leaving.{AreWaiting, is_within}
use Rattle.satl_core.proofs.AgreeingLemmas.{works_flying}
use Rattle.satl_core.proofs.HeldLemmas.{filter_fewer}
use Rattle.satl_core.proofs.QueuedLemmas.{works_so}
use Rattle.satl_core.proofs.TakingLemmas.{agrees_left, dropped_layer, rest_left, still_idle, waiting_removed}
use Rattle.satl_core.proofs.TieLemmas.{layer_of}
use Rattle.satl_core.proofs.satl.Satl.take_off.Goals as goal

pub cut_off-requires-clause-some : goal.cut_off-requires-clause-some
cut_off-requires-clause-some g c = subst (λ (l : Layer). l.flying ≢ []) c.self.view_is (c.has_outstanding.ensures.flying c.if-has_outstanding.true)

pub returns-then-has_outstanding-clause-unasked : goal.returns-then-has_outstanding-clause-unasked
returns-then-has_outstanding-clause-unasked g c = λ down.
    let up = (works_so c.args.self.now (works_flying c.args.self.now c.requires.tied.used (cut_off-requires-clause-some g c.before))).0 in
    let no : true ≡ false = sym down ∙ up in absurd cc

pub returns-then-has_outstanding-clause-uncalled : goal.returns-then-has_outstanding-clause-uncalled
returns-then-has_outstanding-clause-uncalled g c = λ down.
    let up = (works_so c.args.self.now (works_flying c.args.self.now c.requires.tied.used (cut_off-requires-clause-some g c.before))).0 in
    let no : true ≡ false = sym down ∙ up in absurd cc

pub invariant_of-self : goal.invariant_of-self
invariant_of-self g c =
    record {
      held = omega (arith, c.drop_tasks.ensures.out, c.self.invariant.held);
      all = omega (arith, c.drop_tasks.ensures.out, c.drop_tasks.ensures.free, c.self.invariant.all);
      kept = subst (AllByRecursion (IsKept c.self.inside.identity)) (sym c.drop_tasks.ensures.others) (All-filter (IsKept c.self.inside.identity) (λ h. not (is_within c.args.scope.now h.entry)) c.self.inside.queue.tasks c.self.invariant.kept);
      identity_is = c.self.invariant.identity_is;
    }

pub refill-requires-clause-agrees : goal.refill-requires-clause-agrees
refill-requires-clause-agrees g c =
    let i = c.self.inside in
    let tied = subst (λ l. Tied l (g.D.Drive.state c.args.drive.now)) (sym c.self.view_is) c.requires.tied in
    agrees_left c.args.scope.now (layer_of i.identity i.modes i.started i.down i.attentions i.queue i.pool) (layer_of i.identity i.modes i.started i.down i.attentions c.drop_tasks.new.queue c.drop_tasks.new.pool) (g.D.Drive.state c.args.drive.now)
    (dropped_layer i.identity i.modes i.started i.down i.attentions (is_within c.args.scope.now) i.queue c.drop_tasks.new.queue i.pool c.drop_tasks.new.pool c.drop_tasks.ensures.others c.drop_tasks.ensures.flying c.drop_tasks.ensures.slots)
    (c.has_outstanding.ensures.none c.if-has_outstanding.false) tied.agrees

pub refill-requires-clause-still : goal.refill-requires-clause-still
refill-requires-clause-still g c =
    let i = c.self.inside in
    let tied = subst (λ l. Tied l (g.D.Drive.state c.args.drive.now)) (sym c.self.view_is) c.requires.tied in
    still_idle c.args.scope.now (layer_of i.identity i.modes i.started i.down i.attentions i.queue i.pool) (layer_of i.identity i.modes i.started i.down i.attentions c.drop_tasks.new.queue c.drop_tasks.new.pool)
    (dropped_layer i.identity i.modes i.started i.down i.attentions (is_within c.args.scope.now) i.queue c.drop_tasks.new.queue i.pool c.drop_tasks.new.pool c.drop_tasks.ensures.others c.drop_tasks.ensures.flying c.drop_tasks.ensures.slots) tied.used

pub refill-requires-clause-room : goal.refill-requires-clause-room
refill-requires-clause-room g c =
    let few = filter_fewer (λ (h : Held). not (is_within c.args.scope.now h.entry)) c.self.inside.queue.tasks in
    omega (arith, few, ap length c.drop_tasks.ensures.others, ap (λ (l : Layer). length l.tasks) c.self.view_is, c.requires.room)

pub returns-clause-removes : goal.returns-clause-removes
returns-clause-removes g c =
    let i = c.self.inside in
    waiting_removed c.args.scope.now (layer_of i.identity i.modes i.started i.down i.attentions i.queue i.pool) _ (layer_of i.identity i.modes i.started i.down i.attentions c.drop_tasks.new.queue c.drop_tasks.new.pool) c.refill.new.self (g.D.Drive.state c.args.drive.now) (g.D.Drive.state c.refill.new.drive) c.args.replies.now c.refill.new.replies c.self.view_is
    (dropped_layer i.identity i.modes i.started i.down i.attentions (is_within c.args.scope.now) i.queue c.drop_tasks.new.queue i.pool c.drop_tasks.new.pool c.drop_tasks.ensures.others c.drop_tasks.ensures.flying c.drop_tasks.ensures.slots) c.refill.ensures.refills

pub returns-clause-rest : goal.returns-clause-rest
returns-clause-rest g c =
    let i = c.self.inside in
    let few = filter_fewer (λ (h : Held). not (is_within c.args.scope.now h.entry)) i.queue.tasks in
    rest_left c.args.scope.now (layer_of i.identity i.modes i.started i.down i.attentions i.queue i.pool) _ (layer_of i.identity i.modes i.started i.down i.attentions c.drop_tasks.new.queue c.drop_tasks.new.pool) _ _ _ c.self.view_is refl
    (omega (arith, c.drop_tasks.ensures.out, c.self.invariant.held)) (omega (arith, few, ap length c.drop_tasks.ensures.others)) c.refill.ensures.rest

pub returns-then-has_outstanding-clause-resets : goal.returns-then-has_outstanding-clause-resets
returns-then-has_outstanding-clause-resets g c = λ up. record {
  none = λ waiting. absurd (c.has_outstanding.ensures.some c.if-has_outstanding.true (subst (λ (l : Layer). AreWaiting (is_within c.args.scope.now) l.flying l.tasks) (sym c.self.view_is) waiting));
  some = λ no. c.cut_off.ensures.issues up;
}

pub returns-clause-resets : goal.returns-clause-resets
returns-clause-resets g c = λ up. record {
  none = λ waiting. subst (λ fs. OnlyIssues fs c.args.steps.now c.refill.new.self c.refill.new.steps) (c.drop_tasks.ensures.flying ∙ ap (λ (l : Layer). l.flying) c.self.view_is) (c.refill.ensures.issues up);
  some = λ no. absurd (no (subst (λ (l : Layer). AreWaiting (is_within c.args.scope.now) l.flying l.tasks) c.self.view_is (c.has_outstanding.ensures.none c.if-has_outstanding.false)));
}
