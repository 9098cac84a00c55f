use Rattle.std.proofs.Common.{length, ◌≡◌, ◌≤◌, arith, refl, sym, ap, subst, ◌∙◌, ◌∷◌, [], true}
use Rattle.satl_identify.proofs.Judging.{capacity_bounds}
use Rattle.satl_line.specs.Tasks.{total_blocks}
use Rattle.satl_direct.specs.Arrival.{Arrives}
use Rattle.satl_direct.specs.Quiet.{Around}
use Rattle.satl_direct.specs.Run.{MayLose}
use Rattle.satl_core.specs.declared.submitting.AtOnce.TheVariants as at_once
use Rattle.satl_core.specs.Calling.{ResetsFor}
use Rattle.satl_core.specs.declared.leaving.Scope.TheVariants as scopes
use Rattle.satl_core.specs.Layer.{Layer, view}
use Rattle.satl_core.specs.Leaving.{is_within}
use Rattle.satl_core.specs.Submitting.{is_overlapping, reply_at_once}
use Rattle.satl_core.proofs.ArrivalLemmas.{held_by_is}
use Rattle.satl_core.proofs.CallingLemmas.{resets_alike}
use Rattle.satl_core.proofs.CountedLemmas.{few_tasks}
use Rattle.satl_core.proofs.HeldLemmas.{held_is}
use Rattle.satl_core.proofs.OverlapLemmas.{overlap_around}
use Rattle.satl_core.proofs.TieLemmas.{layer_of}
use Rattle.satl_core.proofs.satl.Satl.overlap.Goals as goal

pub answer_at_once-requires-clause-capacity : goal.answer_at_once-requires-clause-capacity
answer_at_once-requires-clause-capacity g c = (capacity_bounds c.self.inside.identity c.self.invariant.identity_is).0

pub answer_at_once-requires-clause-room : goal.answer_at_once-requires-clause-room
answer_at_once-requires-clause-room g c =
    let blocks : total_blocks c.self.inside.queue.tasks ≤ 32768 = subst (λ (l : Layer). total_blocks l.tasks ≤ 32768) (sym c.self.view_is) (subst (λ n. n ≤ 32768) (held_by_is c.args.self.now.tasks) c.requires.tied.agrees.valid.blocks) in
    let held = held_is c.self.inside.identity c.self.inside.queue.tasks c.self.invariant.kept in
    let few : length c.self.inside.queue.tasks ≤ 64 = subst (λ (l : Layer). length l.tasks ≤ 64) (sym c.self.view_is) (few_tasks c.args.self.now.tasks c.requires.tied.agrees.valid.few) in
    let out = ap (λ (l : Layer). l.out) c.self.view_is in
    omega (arith, blocks, few, held, out, c.requires.can.pages, c.self.invariant.all, c.self.invariant.held)

pub returns-clause-around : goal.returns-clause-around
returns-clause-around g c = λ whole cut.
    let i = c.self.inside in
    let was = layer_of i.identity i.modes i.started i.down i.attentions i.queue i.pool in
    subst (λ (l : Layer). Around (MayLose (Arrives whole)) (view l (g.D.Drive.state c.args.drive.now)) c.take_off.new.replies (view c.take_off.new.self (g.D.Drive.state c.take_off.new.drive))) c.self.view_is
    (overlap_around was (g.D.Drive.state c.args.drive.now) whole c.args.request (view c.take_off.new.self (g.D.Drive.state c.take_off.new.drive)) c.answer_at_once.new.replies c.take_off.new.replies (ap (λ (l : Layer). l.down) c.self.view_is ∙ c.requires.tied.agrees.mark) cut
    (subst (λ (l : Layer). is_overlapping l.tasks c.args.request ≡ true) (sym c.self.view_is) c.requires.overlaps) (c.answer_at_once.ensures.reply ∙ ap (λ sense. reply_at_once i.identity i.modes c.args.request (at_once.Check sense) ∷ []) c.overlapped.ensures) c.take_off.ensures.removes)

pub returns-clause-resets : goal.returns-clause-resets
returns-clause-resets g c = λ up.
    let i = c.self.inside in
    subst (λ (l : Layer). ResetsFor (is_within (scopes.OfNexus c.args.request.nexus)) l c.args.steps.now c.take_off.new.self c.take_off.new.steps) c.self.view_is
    (resets_alike _ _ (layer_of i.identity i.modes i.started i.down i.attentions i.queue c.answer_at_once.new.pool) _ _ _ refl refl (c.take_off.ensures.resets up))
