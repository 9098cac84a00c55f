use Rattle.std.proofs.Common.{◌≡◌, ◌≢◌, ◌≤◌, arith, refl, sym, ap, subst, ◌∙◌, [], length, true, false}
use Rattle.std.specs.Prelude.{not}
use Rattle.std.specs.List.{AllByRecursion}
use Rattle.satl_line.specs.Tasks.{Held}
use Rattle.satl_base.proofs.ListsLemmas.{All-filter}
use Rattle.satl_core.specs.Layer.{IsKept, IsSoundLayer, Layer, Tied, held_pages}
use Rattle.satl_core.specs.Calling.{OnlyIssues}
use Rattle.satl_core.specs.Leaving.{is_within}
use Rattle.satl_core.proofs.AgreeingLemmas.{quietly_down, tied_lost, works_flying}
use Rattle.satl_core.proofs.HeldLemmas.{filter_fewer}
use Rattle.satl_core.proofs.RefillLemmas.{lost_layer, lost_rest}
use Rattle.satl_core.proofs.TakingLemmas.{cut_agrees, cut_lost, cut_removed, dropped_layer, rest_left}
use Rattle.satl_core.proofs.TieLemmas.{layer_of, queue_changed}
use Rattle.satl_core.proofs.satl.Satl.cut_off.Given as given
use Rattle.satl_core.proofs.satl.Satl.cut_off.Goals as goal
use Rattle.satl_core.proofs.satl.Satl.cut_off.Goals.{After-drop_tasks}

-- ---- tasks were dropped

sound_left : (g : given.Over) (c : After-drop_tasks g) → IsSoundLayer c.self.inside.identity c.drop_tasks.new.queue.tasks c.drop_tasks.new.pool
sound_left g c = record {
  held = omega (arith, c.drop_tasks.ensures.out, c.self.invariant.held, ap held_pages c.cut-cut.ensures.same);
  all = omega (arith, c.drop_tasks.ensures.out, c.drop_tasks.ensures.free, c.self.invariant.all);
  kept = subst (AllByRecursion (IsKept c.self.inside.identity)) (sym c.drop_tasks.ensures.others) (All-filter (IsKept c.self.inside.identity) (λ h. not (is_within c.args.scope.now h.entry)) c.cut-cut.new.self.tasks (subst (AllByRecursion (IsKept c.self.inside.identity)) (sym c.cut-cut.ensures.same) c.self.invariant.kept));
  identity_is = c.self.invariant.identity_is;
}

fewer_left : (g : given.Over) (c : After-drop_tasks g) → length c.drop_tasks.new.queue.tasks ≤ length c.self.inside.queue.tasks
fewer_left g c =
    let few = filter_fewer (λ (h : Held). not (is_within c.args.scope.now h.entry)) c.cut-cut.new.self.tasks in
    omega (arith, few, ap length c.drop_tasks.ensures.others, ap length c.cut-cut.ensures.same)

pub invariant_of-self : goal.invariant_of-self
invariant_of-self g c = sound_left g (goal.at.invariant_of-self g c).After-drop_tasks

pub invariant_of-self-in-Err : goal.invariant_of-self-in-Err
invariant_of-self-in-Err g c = sound_left g (goal.at.invariant_of-self-in-Err g c).After-drop_tasks

pub refill-requires-clause-agrees : goal.refill-requires-clause-agrees
refill-requires-clause-agrees g c =
    let i = c.self.inside in
    let tied = subst (λ l. Tied l (g.D.Drive.state c.args.drive.now)) (sym c.self.view_is) c.requires.tied in
    let was = layer_of i.identity i.modes i.started i.down i.attentions i.queue i.pool in
    let cut = layer_of i.identity i.modes i.started i.down i.attentions c.cut-cut.new.self i.pool in
    cut_agrees c.args.scope.now was _ cut (layer_of i.identity i.modes i.started i.down i.attentions c.drop_tasks.new.queue c.drop_tasks.new.pool) was _ (g.D.Drive.state c.cut-cut.new.drive) c.self.view_is (works_flying was tied.used (subst (λ (l : Layer). l.flying ≢ []) (sym c.self.view_is) c.requires.some)) c.requires.tied.agrees
    (queue_changed i.identity i.modes i.started i.down i.attentions i.queue c.cut-cut.new.self i.pool c.cut-cut.ensures.same ∙ ap (λ fs. record was { flying = fs; slots = cut.slots }) c.cut-cut.ensures.emptied)
    (dropped_layer i.identity i.modes i.started i.down i.attentions (is_within c.args.scope.now) c.cut-cut.new.self c.drop_tasks.new.queue i.pool c.drop_tasks.new.pool c.drop_tasks.ensures.others c.drop_tasks.ensures.flying c.drop_tasks.ensures.slots)
    c.in-Ok.ensures.ok c.in-Ok.ensures.fit

pub refill-requires-clause-room : goal.refill-requires-clause-room
refill-requires-clause-room g c =
    let few = fewer_left g (goal.at.refill-requires-clause-room g c).After-drop_tasks in
    omega (arith, few, ap (λ (l : Layer). length l.tasks) c.self.view_is, c.requires.room)

pub lose-requires-clause-room : goal.lose-requires-clause-room
lose-requires-clause-room g c =
    let few = fewer_left g (goal.at.lose-requires-clause-room g c).After-drop_tasks in
    omega (arith, few, ap (λ (l : Layer). length l.tasks) c.self.view_is, c.requires.room)

pub returns-in-Ok-clause-removes : goal.returns-in-Ok-clause-removes
returns-in-Ok-clause-removes g c =
    let i = c.self.inside in
    let tied = subst (λ l. Tied l (g.D.Drive.state c.args.drive.now)) (sym c.self.view_is) c.requires.tied in
    let was = layer_of i.identity i.modes i.started i.down i.attentions i.queue i.pool in
    let cut = layer_of i.identity i.modes i.started i.down i.attentions c.cut-cut.new.self i.pool in
    cut_removed c.args.scope.now was _ cut (layer_of i.identity i.modes i.started i.down i.attentions c.drop_tasks.new.queue c.drop_tasks.new.pool) c.refill.new.self _ (g.D.Drive.state c.cut-cut.new.drive) c.self.view_is (works_flying was tied.used (subst (λ (l : Layer). l.flying ≢ []) (sym c.self.view_is) c.requires.some)) c.requires.tied.agrees
    (queue_changed i.identity i.modes i.started i.down i.attentions i.queue c.cut-cut.new.self i.pool c.cut-cut.ensures.same ∙ ap (λ fs. record was { flying = fs; slots = cut.slots }) c.cut-cut.ensures.emptied)
    (dropped_layer i.identity i.modes i.started i.down i.attentions (is_within c.args.scope.now) c.cut-cut.new.self c.drop_tasks.new.queue i.pool c.drop_tasks.new.pool c.drop_tasks.ensures.others c.drop_tasks.ensures.flying c.drop_tasks.ensures.slots)
    (g.D.Drive.state c.refill.new.drive) c.args.replies.now c.refill.new.replies c.in-Ok.ensures.ok c.refill.ensures.refills

pub returns-in-Ok-clause-rest : goal.returns-in-Ok-clause-rest
returns-in-Ok-clause-rest g c =
    let i = c.self.inside in
    rest_left c.args.scope.now (layer_of i.identity i.modes i.started i.down i.attentions i.queue i.pool) _ (layer_of i.identity i.modes i.started i.down i.attentions c.drop_tasks.new.queue c.drop_tasks.new.pool) _ _ _ c.self.view_is refl
    (omega (arith, c.drop_tasks.ensures.out, ap held_pages c.cut-cut.ensures.same, c.self.invariant.held)) (fewer_left g (goal.at.returns-in-Ok-clause-rest g c).After-drop_tasks) c.refill.ensures.rest

pub returns-in-Err-clause-removes : goal.returns-in-Err-clause-removes
returns-in-Err-clause-removes g c =
    let i = c.self.inside in
    let tied = subst (λ l. Tied l (g.D.Drive.state c.args.drive.now)) (sym c.self.view_is) c.requires.tied in
    let was = layer_of i.identity i.modes i.started i.down i.attentions i.queue i.pool in
    let cut = layer_of i.identity i.modes i.started i.down i.attentions c.cut-cut.new.self i.pool in
    cut_lost c.args.scope.now was _ cut (layer_of i.identity i.modes i.started i.down i.attentions c.drop_tasks.new.queue c.drop_tasks.new.pool) c.lose.new.self _ (g.D.Drive.state c.cut-cut.new.drive) c.self.view_is (works_flying was tied.used (subst (λ (l : Layer). l.flying ≢ []) (sym c.self.view_is) c.requires.some)) c.requires.tied.agrees
    (queue_changed i.identity i.modes i.started i.down i.attentions i.queue c.cut-cut.new.self i.pool c.cut-cut.ensures.same ∙ ap (λ fs. record was { flying = fs; slots = cut.slots }) c.cut-cut.ensures.emptied)
    (dropped_layer i.identity i.modes i.started i.down i.attentions (is_within c.args.scope.now) c.cut-cut.new.self c.drop_tasks.new.queue i.pool c.drop_tasks.new.pool c.drop_tasks.ensures.others c.drop_tasks.ensures.flying c.drop_tasks.ensures.slots)
    c.args.replies.now c.lose.new.replies c.in-Err.ensures.err c.lose.ensures.stays c.lose.ensures.answers

pub returns-in-Err-clause-tied : goal.returns-in-Err-clause-tied
returns-in-Err-clause-tied g c =
    let i = c.self.inside in
    let d = g.D.Drive.state c.args.drive.now in
    let tied = subst (λ l. Tied l d) (sym c.self.view_is) c.requires.tied in
    tied_lost (layer_of i.identity i.modes i.started i.down i.attentions i.queue i.pool) _ d _ (quietly_down i.queue.tasks d _ c.in-Err.ensures.err (c.in-Err.ensures.fit tied.agrees.fit))
    (lost_layer (layer_of i.identity i.modes i.started i.down i.attentions i.queue i.pool) (layer_of i.identity i.modes i.started i.down i.attentions c.drop_tasks.new.queue c.drop_tasks.new.pool) _ refl (c.drop_tasks.ensures.flying ∙ c.in-Err.ensures.emptied) c.lose.ensures.stays) tied.agrees

pub returns-in-Err-clause-rest : goal.returns-in-Err-clause-rest
returns-in-Err-clause-rest g c =
    let i = c.self.inside in
    lost_rest (layer_of i.identity i.modes i.started i.down i.attentions i.queue i.pool) _ _ _ _ c.drop_tasks.new.queue.tasks c.self.view_is
    (lost_layer (layer_of i.identity i.modes i.started i.down i.attentions i.queue i.pool) (layer_of i.identity i.modes i.started i.down i.attentions c.drop_tasks.new.queue c.drop_tasks.new.pool) _ refl (c.drop_tasks.ensures.flying ∙ c.in-Err.ensures.emptied) c.lose.ensures.stays)
    (omega (arith, ap (λ (x : Layer). x.out) c.lose.ensures.stays, c.drop_tasks.ensures.out, ap held_pages c.cut-cut.ensures.same, c.self.invariant.held)) c.lose.ensures.answers c.lose.ensures.writable

pub returns-in-Ok-clause-issues : goal.returns-in-Ok-clause-issues
returns-in-Ok-clause-issues g c = λ up.
    subst (λ n. OnlyIssues [] n c.refill.new.self c.refill.new.steps) c.cut-cut.ensures.step
    (subst (λ fs. OnlyIssues fs c.cut-cut.new.steps c.refill.new.self c.refill.new.steps) (c.drop_tasks.ensures.flying ∙ c.cut-cut.ensures.emptied) (c.refill.ensures.issues up))

pub returns-in-Err-clause-issues : goal.returns-in-Err-clause-issues
returns-in-Err-clause-issues g c = λ up. let no : true ≡ false = sym (ap (λ (l : Layer). l.down) c.lose.ensures.stays) ∙ up in absurd cc
