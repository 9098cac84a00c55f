use Rattle.std.proofs.Common.{arith, refl, sym, ap, subst, ◌∙◌, ◌++◌, length}
use Rattle.satl_direct.specs.Quiet.{Around}
use Rattle.satl_direct.specs.Run.{Manages, MayLose}
use Rattle.satl_core.specs.Layer.{Layer, Tied, view}
use Rattle.satl_core.specs.Calling.{ResetsFor}
use Rattle.satl_core.specs.Leaving.{is_within}
use Rattle.satl_core.specs.Managing.{effect}
use Rattle.satl_core.specs.Refilling.{Removes}
use Rattle.satl_core.proofs.CallingLemmas.{resets_alike}
use Rattle.satl_core.proofs.CountedLemmas.{tasks_seen}
use Rattle.satl_core.proofs.ManagingLemmas.{managed_around, posted_tied}
use Rattle.satl_core.proofs.TieLemmas.{layer_of}
use Rattle.satl_core.proofs.satl.Satl.manage.Goals as goal

pub take_off-requires-clause-tied : goal.take_off-requires-clause-tied
take_off-requires-clause-tied g c =
    let i = c.self.inside in
    let was = layer_of i.identity i.modes i.started i.down i.attentions i.queue i.pool in
    posted_tied c.decide-effect.result.posts was (layer_of i.identity i.modes i.started i.down c.post.new.attentions i.queue i.pool) (g.D.Drive.state c.args.drive.now) (ap (λ lists. record was { attentions = lists }) c.post.ensures)
    (subst (λ l. Tied l (g.D.Drive.state c.args.drive.now)) (sym c.self.view_is) c.requires.tied)

pub take_off-requires-clause-room : goal.take_off-requires-clause-room
take_off-requires-clause-room g c =
    let count = tasks_seen c.args.self.now.tasks in
    omega (arith, count, c.requires.tied.agrees.valid.few, ap length c.requires.empty, ap (λ (l : Layer). length l.tasks) c.self.view_is)

pub returns-clause-manages : goal.returns-clause-manages
returns-clause-manages g c =
    let i = c.self.inside in
    let was = layer_of i.identity i.modes i.started i.down i.attentions i.queue i.pool in
    let d = g.D.Drive.state c.args.drive.now in
    let new = view c.take_off.new.self (g.D.Drive.state c.take_off.new.drive) in
    subst (λ l. Around (MayLose (Manages c.args.manage.now c.decide-effect.result.response)) (view l d) c.take_off.new.replies new) c.self.view_is
    (subst (λ r. Around (MayLose (Manages c.args.manage.now c.decide-effect.result.response)) (view was d) r new) (sym (c.take_off.ensures.removes.behind ∙ ap (λ r. r ++ c.take_off.ensures.removes.more) c.requires.empty))
    (managed_around c.args.manage.now c.decide-effect.result was d c.take_off.ensures.removes.more new c.decide-effect.ensures
    (subst (λ lists. Around (MayLose (Removes (is_within c.decide-effect.result.goes))) (record (view was d) { attentions = lists }) c.take_off.ensures.removes.more new) c.post.ensures c.take_off.ensures.removes.step)))

pub returns-clause-resets : goal.returns-clause-resets
returns-clause-resets g c = λ up.
    let i = c.self.inside in
    subst (λ (l : Layer). ResetsFor (is_within (effect c.args.manage.now l.tasks).goes) l c.args.steps.now c.take_off.new.self c.take_off.new.steps) c.self.view_is
    (subst (λ e. ResetsFor (is_within (Rattle.satl_core.specs.declared.managing.Effect.Effect.goes e)) (layer_of i.identity i.modes i.started i.down i.attentions i.queue i.pool) c.args.steps.now c.take_off.new.self c.take_off.new.steps) c.decide-effect.ensures
    (resets_alike _ _ (layer_of i.identity i.modes i.started i.down c.post.new.attentions i.queue i.pool) _ _ _ refl refl (c.take_off.ensures.resets up)))
