use Rattle.std.proofs.Common.{◌≡◌, ◌≢◌, arith, refl, sym, ap, subst, ◌∙◌, [], ◌++◌, length, true, false}
use Rattle.satl_line.specs.Tasks.{Held}
use Rattle.satl_core.specs.Layer.{Layer, Tied, reply_pages}
use Rattle.std.proofs.lemmas.List.{length-map}
use Rattle.satl_direct.specs.Senses.{link_lost}
use Rattle.satl_core.specs.declared.turning.Ending.TheVariants as endings
use Rattle.std.specs.Prelude.{not}
use Rattle.satl_core.specs.Turning.{ended_reply, ending_by, lost_replies}
use Rattle.satl_flight.specs.Leaving.{AreLeft}
use Rattle.satl_core.proofs.AgreeingLemmas.{works_flying}
use Rattle.satl_core.proofs.CallingLemmas.{told_end}
use Rattle.satl_core.proofs.CountedLemmas.{kept_rose}
use Rattle.satl_core.proofs.EndingLemmas.{some_count, some_tasks, ended_as, ended_count, ended_kept, ended_pages, ended_unflushed, flight_loses, flight_tied, others_kept, queued_agrees, queued_ends}
use Rattle.satl_core.proofs.HeldLemmas.{alike_count, alike_held, alike_kept, pushed}
use Rattle.satl_core.proofs.RefillLemmas.{lost_layer}
use Rattle.satl_core.proofs.TieLemmas.{layer_of}
use Rattle.satl_core.proofs.TurningLemmas.{entry_few, lost_pages, one_pages, one_writable}
use Rattle.satl_core.proofs.satl.Satl.end_queued.Goals as goal

pub end_task-requires-clause-held : goal.end_task-requires-clause-held
end_task-requires-clause-held g c =
    let pages = ended_pages _ _ _ _ (ended_as _ _ _ _ _ c.entry_mut-task.ensures.value c.in-Ok.ensures.ok) in
    omega (arith, pages, c.self.invariant.held)

pub end_task-requires-clause-few : goal.end_task-requires-clause-few
end_task-requires-clause-few g c = entry_few c.self.inside.identity c.entry_mut-task.result.now (ended_kept _ _ _ _ (ended_as _ _ _ _ _ c.entry_mut-task.ensures.value c.in-Ok.ensures.ok) c.self.inside.identity c.self.invariant.kept)

pub invariant_of-self : goal.invariant_of-self
invariant_of-self g c =
    let pages = ended_pages _ _ _ _ (ended_as _ _ _ _ _ c.entry_mut-task.ensures.value c.in-Ok.ensures.ok) in
    record {
      held = omega (arith, pages, c.self.invariant.held, c.end_task.ensures.out);
      all = omega (arith, c.self.invariant.all, c.end_task.ensures.out, c.end_task.ensures.free);
      kept = others_kept _ _ _ _ (ended_as _ _ _ _ _ c.entry_mut-task.ensures.value c.in-Ok.ensures.ok) c.self.inside.identity c.self.invariant.kept;
      identity_is = c.self.invariant.identity_is;
    }

pub invariant_of-self-in-Err : goal.invariant_of-self-in-Err
invariant_of-self-in-Err g c =
    record {
      held = omega (arith, c.self.invariant.held, alike_held c.self.inside.queue.tasks c.settle_one.new.self.tasks c.in-Err.ensures.alike);
      all = c.self.invariant.all;
      kept = alike_kept c.self.inside.identity c.self.inside.queue.tasks c.settle_one.new.self.tasks c.in-Err.ensures.alike c.self.invariant.kept;
      identity_is = c.self.invariant.identity_is;
    }

pub lose-requires-clause-room : goal.lose-requires-clause-room
lose-requires-clause-room g c =
    let count = alike_count c.self.inside.queue.tasks c.settle_one.new.self.tasks c.in-Err.ensures.alike in
    omega (arith, count, ap length c.requires.empty, ap (λ (l : Layer). length l.tasks) c.self.view_is, c.requires.few)

pub returns-in-Ok-clause-ends : goal.returns-in-Ok-clause-ends
returns-in-Ok-clause-ends g c =
    let i = c.self.inside in
    let was = layer_of i.identity i.modes i.started i.down i.attentions i.queue i.pool in
    let tied = subst (λ l. Tied l (g.D.Drive.state c.args.drive.now)) (sym c.self.view_is) c.requires.tied in
    queued_ends was c.args.self.now (layer_of i.identity i.modes i.started i.down i.attentions c.settle_one.new.self c.end_task.new.pool) (g.D.Drive.state c.args.drive.now) (g.D.Drive.state c.settle_one.new.drive) c.in-Ok.error c.entry_mut-task.result.now c.self.view_is
    (works_flying was tied.used (subst (λ (l : Layer). l.flying ≢ []) (sym c.self.view_is) c.requires.one)) c.requires.tied.agrees (ended_as _ _ _ _ _ c.entry_mut-task.ensures.value c.in-Ok.ensures.ok) refl
    c.args.replies.now c.push.new.self c.end_task.result c.ending_by-ending.result c.requires.empty c.push.ensures c.end_task.ensures.reply (c.ending_by-ending.ensures ∙ ap (λ b. ending_by (not b) c.in-Ok.error) c.is_read.ensures)

pub returns-in-Ok-clause-agrees : goal.returns-in-Ok-clause-agrees
returns-in-Ok-clause-agrees g c =
    let i = c.self.inside in
    let was = layer_of i.identity i.modes i.started i.down i.attentions i.queue i.pool in
    let tied = subst (λ l. Tied l (g.D.Drive.state c.args.drive.now)) (sym c.self.view_is) c.requires.tied in
    queued_agrees was c.args.self.now (layer_of i.identity i.modes i.started i.down i.attentions c.settle_one.new.self c.end_task.new.pool) (g.D.Drive.state c.args.drive.now) (g.D.Drive.state c.settle_one.new.drive) c.in-Ok.error c.entry_mut-task.result.now c.self.view_is
    (works_flying was tied.used (subst (λ (l : Layer). l.flying ≢ []) (sym c.self.view_is) c.requires.one)) c.requires.tied.agrees (ended_as _ _ _ _ _ c.entry_mut-task.ensures.value c.in-Ok.ensures.ok) refl c.in-Ok.ensures.fit

pub returns-in-Ok-clause-pages : goal.returns-in-Ok-clause-pages
returns-in-Ok-clause-pages g c =
    let held = ended_pages _ _ _ _ (ended_as _ _ _ _ _ c.entry_mut-task.ensures.value c.in-Ok.ensures.ok) in
    let pages = one_pages c.args.replies.now c.push.new.self c.end_task.result c.requires.empty c.push.ensures in
    let view = ap (λ (l : Layer). l.out) c.self.view_is in
    omega (arith, held, pages, view, c.requires.all_in, c.self.invariant.held, c.end_task.ensures.out)

pub returns-in-Ok-clause-writable : goal.returns-in-Ok-clause-writable
returns-in-Ok-clause-writable g c =
    let kept = ended_kept _ _ _ _ (ended_as _ _ _ _ _ c.entry_mut-task.ensures.value c.in-Ok.ensures.ok) c.self.inside.identity c.self.invariant.kept in
    one_writable c.args.replies.now c.push.new.self c.end_task.result c.entry_mut-task.result.now c.ending_by-ending.result c.self.inside.modes.d_sense c.requires.empty c.push.ensures c.end_task.ensures.reply (entry_few c.self.inside.identity c.entry_mut-task.result.now kept) kept.expected

pub returns-in-Ok-clause-fewer : goal.returns-in-Ok-clause-fewer
returns-in-Ok-clause-fewer g c =
    let count = ended_count _ _ _ _ (ended_as _ _ _ _ _ c.entry_mut-task.ensures.value c.in-Ok.ensures.ok) in
    omega (arith, count, ap (λ (l : Layer). length l.tasks) c.self.view_is)

pub returns-in-Ok-clause-room : goal.returns-in-Ok-clause-room
returns-in-Ok-clause-room g c =
    let count = ended_count _ _ _ _ (ended_as _ _ _ _ _ c.entry_mut-task.ensures.value c.in-Ok.ensures.ok) in
    let more = pushed c.args.replies.now c.push.new.self c.end_task.result c.push.ensures in
    omega (arith, count, more, ap length c.requires.empty, ap (λ (l : Layer). length l.tasks) c.self.view_is, c.requires.few)

pub returns-in-Ok-clause-unflushed : goal.returns-in-Ok-clause-unflushed
returns-in-Ok-clause-unflushed g c = λ flushed.
    let i = c.self.inside in
    let tied = subst (λ l. Tied l (g.D.Drive.state c.args.drive.now)) (sym c.self.view_is) c.requires.tied in
    absurd (ended_unflushed _ _ _ _ (ended_as _ _ _ _ _ c.entry_mut-task.ensures.value c.in-Ok.ensures.ok) (layer_of i.identity i.modes i.started i.down i.attentions i.queue i.pool) c.ending_by-ending.result c.args.replies.now c.push.new.self c.end_task.result refl tied.agrees c.requires.empty c.push.ensures c.end_task.ensures.reply
    (subst (λ (l : Layer). Rattle.satl_core.specs.Flushed.IsFlushed l.tasks c.push.new.self) (sym c.self.view_is) flushed))

pub returns-in-Err-clause-ends : goal.returns-in-Err-clause-ends
returns-in-Err-clause-ends g c =
    let i = c.self.inside in
    let was = layer_of i.identity i.modes i.started i.down i.attentions i.queue i.pool in
    let tied = subst (λ l. Tied l (g.D.Drive.state c.args.drive.now)) (sym c.self.view_is) c.requires.tied in
    flight_loses was c.args.self.now c.lose.new.self (g.D.Drive.state c.args.drive.now) (g.D.Drive.state c.settle_one.new.drive) c.settle_one.new.self.tasks c.args.replies.now c.lose.new.replies c.self.view_is
    (works_flying was tied.used (subst (λ (l : Layer). l.flying ≢ []) (sym c.self.view_is) c.requires.one)) c.requires.tied.agrees
    (some_tasks was (g.D.Drive.state c.args.drive.now) tied.agrees (subst (λ (l : Layer). l.flying ≢ []) (sym c.self.view_is) c.requires.one)) c.in-Err.ensures.err c.in-Err.ensures.alike
    (lost_layer was (layer_of i.identity i.modes i.started i.down i.attentions c.settle_one.new.self i.pool) c.lose.new.self refl c.in-Err.ensures.emptied c.lose.ensures.stays) c.requires.empty c.lose.ensures.answers

pub returns-in-Err-clause-agrees : goal.returns-in-Err-clause-agrees
returns-in-Err-clause-agrees g c =
    let i = c.self.inside in
    let was = layer_of i.identity i.modes i.started i.down i.attentions i.queue i.pool in
    (flight_tied was c.args.self.now c.lose.new.self (g.D.Drive.state c.args.drive.now) (g.D.Drive.state c.settle_one.new.drive) c.self.view_is c.requires.tied.agrees c.in-Err.ensures.err c.in-Err.ensures.fit
    (lost_layer was (layer_of i.identity i.modes i.started i.down i.attentions c.settle_one.new.self i.pool) c.lose.new.self refl c.in-Err.ensures.emptied c.lose.ensures.stays)).agrees

pub returns-in-Err-clause-kept : goal.returns-in-Err-clause-kept
returns-in-Err-clause-kept g c = kept_rose _ _ _ _ c.in-Err.ensures.err.rose (ap (λ (x : Rattle.satl_drive.specs.State.DriveState). x.unplugs) c.in-Err.ensures.err.stays) (ap (λ (x : Rattle.satl_drive.specs.State.DriveState). x.orders) c.in-Err.ensures.err.stays) c.in-Err.ensures.err.deep

pub returns-in-Err-clause-pages : goal.returns-in-Err-clause-pages
returns-in-Err-clause-pages g c =
    let i = c.self.inside in
    let none = lost_pages i.modes.d_sense c.settle_one.new.self.tasks in
    let all = ap reply_pages (c.lose.ensures.answers ∙ ap (λ r. r ++ lost_replies i.modes.d_sense c.settle_one.new.self.tasks) c.requires.empty) in
    omega (arith, none, all, ap (λ (l : Layer). l.out) c.lose.ensures.stays, alike_held i.queue.tasks c.settle_one.new.self.tasks c.in-Err.ensures.alike, ap (λ (l : Layer). l.out) c.self.view_is, c.requires.all_in)

pub returns-in-Err-clause-fewer : goal.returns-in-Err-clause-fewer
returns-in-Err-clause-fewer g c =
    let none = ap (λ (l : Layer). length l.tasks) c.lose.ensures.stays in
    omega (arith, none, some_count c.args.self.now (g.D.Drive.state c.args.drive.now) c.requires.tied.agrees c.requires.one)

pub returns-in-Err-clause-room : goal.returns-in-Err-clause-room
returns-in-Err-clause-room g c =
    let i = c.self.inside in
    let all = ap length (c.lose.ensures.answers ∙ ap (λ r. r ++ lost_replies i.modes.d_sense c.settle_one.new.self.tasks) c.requires.empty) in
    omega (arith, all, length-map c.settle_one.new.self.tasks (λ (h : Held). ended_reply h.entry (endings.Check link_lost) i.modes.d_sense), ap (λ (l : Layer). length l.tasks) c.lose.ensures.stays, alike_count i.queue.tasks c.settle_one.new.self.tasks c.in-Err.ensures.alike, ap (λ (l : Layer). length l.tasks) c.self.view_is, c.requires.few)

pub returns-in-Ok-clause-polls : goal.returns-in-Ok-clause-polls
returns-in-Ok-clause-polls g c = λ up. record {
  error = c.in-Ok.error;
  told = told_end c.in-Ok.error c.args.replies.now c.push.new.self c.end_task.result c.entry_mut-task.result.now c.ending_by-ending.result (not c.is_read.result) c.self.inside.modes.d_sense c.requires.empty c.push.ensures c.end_task.ensures.reply c.ending_by-ending.ensures;
  left = subst (λ (l : Layer). AreLeft c.in-Ok.error l.flying c.settle_one.new.self.flying) c.self.view_is c.in-Ok.ensures.left;
  cost = c.in-Ok.ensures.cost;
}

pub returns-in-Err-clause-polls : goal.returns-in-Err-clause-polls
returns-in-Err-clause-polls g c = λ up. let no : true ≡ false = sym (ap (λ (l : Layer). l.down) c.lose.ensures.stays) ∙ up in absurd cc
