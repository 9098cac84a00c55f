use Rattle.std.proofs.Common.{◌≡◌, ◌≤◌, ◌+◌, inl, inr, arith, refl, sym, ap, subst, ◌∙◌, [], ◌∷◌, ◌++◌, Some, length, map, true}
use Rattle.std.proofs.lemmas.List.{length-append, length-map}
use Rattle.std.specs.List.{AllByRecursion}
use Rattle.satl_base.specs.declared.reply.Reply.{Reply}
use Rattle.satl_line.specs.Tasks.{Held, entries_of}
use Rattle.satl_direct.specs.Senses.{link_lost}
use Rattle.satl_direct.specs.Tasks.{task_of}
use Rattle.satl_direct.specs.Valid.{AreOwn}
use Rattle.satl_direct.proofs.Naming.{none_of_each, own_first}
use Rattle.satl_core.specs.declared.turning.Ending.TheVariants as endings
use Rattle.satl_core.specs.Calling.{calls_of_first, calls_of_task, is_first_unready, is_unready}
use Rattle.satl_core.specs.Flushed.{IsFlushed}
use Rattle.satl_core.specs.Layer.{IsKept, IsTask, Layer, Tied, view}
use Rattle.satl_core.specs.Refilling.{EndsOne}
use Rattle.satl_core.specs.Turning.{data_in, ended_reply, lost_replies, task_on}
use Rattle.satl_core.proofs.AgreeingLemmas.{alone_down, capacity_is, tied_lost}
use Rattle.satl_core.proofs.ArrivalLemmas.{held_by_is}
use Rattle.satl_core.proofs.CallingLemmas.{first_turn, first_unready, unready_stays, unready_stopped}
use Rattle.satl_core.proofs.MediumLemmas.{can_carry}
use Rattle.satl_core.proofs.CountedLemmas.{few_tasks, kept_rose, kept_same}
use Rattle.satl_core.proofs.DeviceLemmas.{first_tasks, seen}
use Rattle.satl_core.proofs.EndingLemmas.{alone_deepens, alone_loses, first_alone, nothing_out}
use Rattle.satl_core.proofs.FlushedLemmas.{first_flush, flush_done}
use Rattle.satl_core.proofs.HeldLemmas.{IsFirst, IsKeptEntry, held_is, first_count, first_kept, first_of, first_pages, pushed}
use Rattle.satl_core.proofs.RefillLemmas.{lost_layer}
use Rattle.satl_core.proofs.ServedLemmas.{checked_reply, first_ends, task_unasked}
use Rattle.satl_core.proofs.TieLemmas.{has_as_noted, layer_of}
use Rattle.satl_core.proofs.TurningLemmas.{all_pages, entry_few, lost_all_writable, lost_pages, one_pages, one_writable}
use Rattle.satl_core.proofs.ValidLemmas.{agrees_rest, wanted_cache, wanted_look}
use Rattle.satl_pages.specs.Counts.{Counts}
use Rattle.satl_core.proofs.satl.Satl.end_first.Given as given
use Rattle.satl_core.proofs.satl.Satl.end_first.Goals as goal
use Rattle.satl_core.proofs.satl.Satl.end_first.Goals.{After-entry_mut-task}

-- ---- the first task is taken off

is_first : (g : given.Over) (c : After-entry_mut-task g) → IsFirst c.self.inside.queue.tasks c.entry_mut-task.result.now c.remove.new.self.tasks
is_first g c = first_of c.self.inside.queue.tasks c.remove.new.self.tasks c.entry_mut-task.result.now (c.remove.ensures.value ∙ ap Some (sym c.entry_mut-task.ensures.value)) c.remove.ensures.others

both_kept : (g : given.Over) (c : After-entry_mut-task g) → IsKeptEntry c.self.inside.identity c.entry_mut-task.result.now × AllByRecursion (IsKept c.self.inside.identity) c.remove.new.self.tasks
both_kept g c = first_kept c.self.inside.identity c.self.inside.queue.tasks c.remove.new.self.tasks c.entry_mut-task.result.now c.self.invariant.kept (is_first g c)

-- whether it is refused on a stopped unit, and how many drive calls it takes
is_refused : (g : given.Over) (c : After-entry_mut-task g) → is_first_unready c.args.self.now.started c.args.self.now.tasks ≡ true → is_unready c.self.inside.started c.entry_mut-task.result.now.command ≡ true
is_refused g c unready =
    let i = c.self.inside in
    sym (first_unready i.started i.queue.tasks c.remove.new.self.tasks c.entry_mut-task.result.now (is_first g c)) ∙ subst (λ (l : Layer). is_first_unready l.started l.tasks ≡ true) (sym c.self.view_is) unready

calls_are : (g : given.Over) (c : After-entry_mut-task g) → calls_of_task c.self.inside.started c.entry_mut-task.result.now.command ≡ calls_of_first c.args.self.now.started c.args.self.now.tasks
calls_are g c =
    let i = c.self.inside in
    subst (λ (l : Layer). calls_of_task i.started c.entry_mut-task.result.now.command ≡ calls_of_first l.started l.tasks) c.self.view_is
    (sym (first_turn i.started i.queue.tasks c.remove.new.self.tasks c.entry_mut-task.result.now (is_first g c)))

pub run_task-requires-clause-free : goal.run_task-requires-clause-free
run_task-requires-clause-free g c =
    let agrees = c.requires.tied.agrees in
    record { idle = nothing_out c.args.self.now (g.D.Drive.state c.args.drive.now) agrees c.requires.idle; no_error = agrees.queue.no_error; fit = agrees.fit }

pub run_task-requires-clause-task : goal.run_task-requires-clause-task
run_task-requires-clause-task g c =
    let tied = subst (λ l. Tied l (g.D.Drive.state c.args.drive.now)) (sym c.self.view_is) c.requires.tied in
    let kept = both_kept g (goal.at.run_task-requires-clause-task g c).After-entry_mut-task in
    subst (λ n. IsTask n c.entry_mut-task.result.now.command c.entry_mut-task.result.now.blocks) (sym (capacity_is _ _ tied.agrees)) kept.0.task

pub run_task-requires-clause-alone : goal.run_task-requires-clause-alone
run_task-requires-clause-alone g c =
    let i = c.self.inside in
    let was = layer_of i.identity i.modes i.started i.down i.attentions i.queue i.pool in
    let tied = subst (λ l. Tied l (g.D.Drive.state c.args.drive.now)) (sym c.self.view_is) c.requires.tied in
    let first = is_first g (goal.at.run_task-requires-clause-alone g c).After-entry_mut-task in
    let kept = both_kept g (goal.at.run_task-requires-clause-alone g c).After-entry_mut-task in
    first_alone was c.remove.new.self.tasks c.entry_mut-task.result.now tied.used (subst (λ (l : Layer). l.flying ≡ []) (sym c.self.view_is) c.requires.idle) first kept.0

pub run_task-requires-clause-may : goal.run_task-requires-clause-may
run_task-requires-clause-may g c =
    let tied = subst (λ l. Tied l (g.D.Drive.state c.args.drive.now)) (sym c.self.view_is) c.requires.tied in
    let kept = both_kept g (goal.at.run_task-requires-clause-may g c).After-entry_mut-task in
    let noted = has_as_noted _ (g.D.Drive.state c.args.drive.now) tied.agrees in
    record {
      cache = wanted_cache c.self.inside.identity c.self.inside.modes c.wanted_by-wanted.result c.entry_mut-task.result.now.change _ noted.cache c.wanted_by-wanted.ensures tied.agrees.valid.modes kept.0.change;
      look = wanted_look c.self.inside.identity c.self.inside.modes c.wanted_by-wanted.result c.entry_mut-task.result.now.change _ noted.look c.wanted_by-wanted.ensures tied.agrees.valid.modes kept.0.change;
    }

pub run_task-requires-clause-carry : goal.run_task-requires-clause-carry
run_task-requires-clause-carry g c =
    let d = g.D.Drive.state c.args.drive.now in
    let tied = subst (λ l. Tied l d) (sym c.self.view_is) c.requires.tied in
    let kept = both_kept g (goal.at.run_task-requires-clause-carry g c).After-entry_mut-task in
    can_carry c.self.inside.identity c.entry_mut-task.result.now d kept.0 (sym (capacity_is _ d tied.agrees)) (sym (capacity_is _ d tied.agrees) ∙ sym tied.agrees.fit.sectors) (has_as_noted _ d tied.agrees).trim

pub run_task-requires-clause-room : goal.run_task-requires-clause-room
run_task-requires-clause-room g c =
    let valid = (subst (λ l. Tied l (g.D.Drive.state c.args.drive.now)) (sym c.self.view_is) c.requires.tied).agrees.valid in
    let held = held_is c.self.inside.identity c.self.inside.queue.tasks c.self.invariant.kept in
    let out = ap (λ (l : Layer). l.out) c.self.view_is in
    omega (arith, held, out, c.requires.all_in, subst (λ n. n ≤ 32768) (held_by_is c.self.inside.queue.tasks) valid.blocks, few_tasks c.self.inside.queue.tasks valid.few, c.self.invariant.all, c.self.invariant.held)

pub end_task-requires-clause-held : goal.end_task-requires-clause-held
end_task-requires-clause-held g c =
    let first = is_first g (goal.at.end_task-requires-clause-held g c).After-entry_mut-task in
    let held = first_pages c.self.inside.queue.tasks c.remove.new.self.tasks c.entry_mut-task.result.now first in
    omega (arith, held, c.run_task.ensures.size, c.self.invariant.held, ap (λ (p : Counts). p.out) c.run_task.ensures.pool)

pub end_task-requires-clause-few : goal.end_task-requires-clause-few
end_task-requires-clause-few g c =
    let kept = both_kept g (goal.at.end_task-requires-clause-few g c).After-entry_mut-task in
    subst (λ n. n ≤ 4096) (sym c.run_task.ensures.size) (entry_few c.self.inside.identity c.entry_mut-task.result.now kept.0)

pub invariant_of-self : goal.invariant_of-self
invariant_of-self g c =
    let first = is_first g (goal.at.invariant_of-self g c).After-entry_mut-task in
    let held = first_pages c.self.inside.queue.tasks c.remove.new.self.tasks c.entry_mut-task.result.now first in
    record {
      held = omega (arith, held, c.run_task.ensures.size, c.self.invariant.held, ap (λ (p : Counts). p.out) c.run_task.ensures.pool, c.end_task.ensures.out);
      all = omega (arith, c.run_task.ensures.size, c.self.invariant.all, ap (λ (p : Counts). p.out) c.run_task.ensures.pool, c.end_task.ensures.out, ap (λ (p : Counts). p.free) c.run_task.ensures.pool, c.end_task.ensures.free);
      kept = (both_kept g (goal.at.invariant_of-self g c).After-entry_mut-task).1;
      identity_is = c.self.invariant.identity_is;
    }

pub end_task-requires-in-Err-clause-held : goal.end_task-requires-in-Err-clause-held
end_task-requires-in-Err-clause-held g c =
    let first = is_first g (goal.at.end_task-requires-in-Err-clause-held g c).After-entry_mut-task in
    let held = first_pages c.self.inside.queue.tasks c.remove.new.self.tasks c.entry_mut-task.result.now first in
    omega (arith, held, c.run_task.ensures.size, c.self.invariant.held, ap (λ (p : Counts). p.out) c.run_task.ensures.pool)

pub end_task-requires-in-Err-clause-few : goal.end_task-requires-in-Err-clause-few
end_task-requires-in-Err-clause-few g c =
    let kept = both_kept g (goal.at.end_task-requires-in-Err-clause-few g c).After-entry_mut-task in
    subst (λ n. n ≤ 4096) (sym c.run_task.ensures.size) (entry_few c.self.inside.identity c.entry_mut-task.result.now kept.0)

pub invariant_of-self-in-Err : goal.invariant_of-self-in-Err
invariant_of-self-in-Err g c =
    let first = is_first g (goal.at.invariant_of-self-in-Err g c).After-entry_mut-task in
    let held = first_pages c.self.inside.queue.tasks c.remove.new.self.tasks c.entry_mut-task.result.now first in
    record {
      held = omega (arith, held, c.run_task.ensures.size, c.self.invariant.held, ap (λ (p : Counts). p.out) c.run_task.ensures.pool, c.end_task-in-Err.ensures.out);
      all = omega (arith, c.run_task.ensures.size, c.self.invariant.all, ap (λ (p : Counts). p.out) c.run_task.ensures.pool, c.end_task-in-Err.ensures.out, ap (λ (p : Counts). p.free) c.run_task.ensures.pool, c.end_task-in-Err.ensures.free);
      kept = (both_kept g (goal.at.invariant_of-self-in-Err g c).After-entry_mut-task).1;
      identity_is = c.self.invariant.identity_is;
    }

pub returns-in-Ok-clause-ends : goal.returns-in-Ok-clause-ends
returns-in-Ok-clause-ends g c =
    let i = c.self.inside in
    let was = layer_of i.identity i.modes i.started i.down i.attentions i.queue i.pool in
    let d = g.D.Drive.state c.args.drive.now in
    let d' = g.D.Drive.state c.run_task.new.drive in
    let tied = subst (λ l. Tied l d) (sym c.self.view_is) c.requires.tied in
    let first = is_first g (goal.at.returns-in-Ok-clause-ends g c).After-entry_mut-task in
    let new = seen i.identity c.modes_after-modes.result c.started_after-self-inside.result c.post.new.attentions (map task_of (entries_of c.remove.new.self.tasks)) d' in
    let kept = both_kept g (goal.at.returns-in-Ok-clause-ends g c).After-entry_mut-task in
    let carry = can_carry i.identity c.entry_mut-task.result.now d kept.0 (sym (capacity_is _ d tied.agrees)) (sym (capacity_is _ d tied.agrees) ∙ sym tied.agrees.fit.sectors) (has_as_noted _ d tied.agrees).trim in
    inl (
      c.end_task.result,
      c.push.ensures ∙ ap (λ l. l ++ c.end_task.result ∷ []) c.requires.empty,
      subst (λ r. EndsOne (view c.args.self.now d) r new) (sym (c.end_task.ensures.reply ∙ ap (λ t. ended_reply t c.in-Ok.ending i.modes.d_sense) c.run_task.ensures.task))
          (subst (λ l. EndsOne (view l d) (ended_reply (record c.entry_mut-task.result.now { body = c.run_task.new.task.body }) c.in-Ok.ending i.modes.d_sense) new) c.self.view_is
          (first_ends was c.remove.new.self.tasks c.entry_mut-task.result.now d d' c.self.invariant.kept first tied.agrees carry c.in-Ok.ending c.run_task.new.task c.started_after-self-inside.result c.wanted_by-wanted.result c.modes_after-modes.result c.change_posting-posting.result c.post.new.attentions
          c.wanted_by-wanted.ensures c.in-Ok.ensures.ends c.started_after-self-inside.ensures c.modes_after-modes.ensures c.change_posting-posting.ensures c.post.ensures)),
    )

pub returns-in-Ok-clause-agrees : goal.returns-in-Ok-clause-agrees
returns-in-Ok-clause-agrees g c =
    let i = c.self.inside in
    let was = layer_of i.identity i.modes i.started i.down i.attentions i.queue i.pool in
    let d = g.D.Drive.state c.args.drive.now in
    let tied = subst (λ l. Tied l d) (sym c.self.view_is) c.requires.tied in
    let first = is_first g (goal.at.returns-in-Ok-clause-agrees g c).After-entry_mut-task in
    let kept = both_kept g (goal.at.returns-in-Ok-clause-agrees g c).After-entry_mut-task in
    let new = layer_of i.identity c.modes_after-modes.result c.started_after-self-inside.result i.down c.post.new.attentions c.remove.new.self c.end_task.new.pool in
    agrees_rest was new c.wanted_by-wanted.result c.change_posting-posting.result c.remove.new.self.tasks c.entry_mut-task.result.now c.in-Ok.ending d (g.D.Drive.state c.run_task.new.drive) first kept.0 (task_unasked i.down i.started c.wanted_by-wanted.result _ _ c.in-Ok.ending c.in-Ok.ensures.ends) c.modes_after-modes.ensures c.post.ensures
    c.in-Ok.ensures.up c.in-Ok.ensures.cache c.in-Ok.ensures.look c.run_task.ensures.stays
    (ap (λ fs. record new { flying = fs }) (c.remove.ensures.flying ∙ subst (λ (l : Layer). l.flying ≡ []) (sym c.self.view_is) c.requires.idle)) tied.agrees

pub returns-in-Ok-clause-kept : goal.returns-in-Ok-clause-kept
returns-in-Ok-clause-kept g c =
    kept_same c.args.self.now _ _ _ (c.in-Ok.ensures.up ∙ (ap (λ (l : Layer). l.down) c.self.view_is ∙ c.requires.tied.agrees.mark)) c.in-Ok.ensures.faults c.run_task.ensures.stays.unplugs c.run_task.ensures.stays.orders
    (alone_deepens c.args.self.now _ _ c.requires.tied.agrees c.requires.idle c.run_task.ensures.stays)

pub returns-in-Ok-clause-pages : goal.returns-in-Ok-clause-pages
returns-in-Ok-clause-pages g c =
    let first = is_first g (goal.at.returns-in-Ok-clause-pages g c).After-entry_mut-task in
    let held = first_pages c.self.inside.queue.tasks c.remove.new.self.tasks c.entry_mut-task.result.now first in
    let pages = one_pages c.args.replies.now c.push.new.self c.end_task.result c.requires.empty c.push.ensures in
    let view = ap (λ (l : Layer). l.out) c.self.view_is in
    omega (arith, held, pages, view, c.run_task.ensures.size, c.requires.all_in, c.self.invariant.held, ap (λ (p : Counts). p.out) c.run_task.ensures.pool, c.end_task.ensures.out)

pub returns-in-Ok-clause-writable : goal.returns-in-Ok-clause-writable
returns-in-Ok-clause-writable g c =
    let kept = both_kept g (goal.at.returns-in-Ok-clause-writable g c).After-entry_mut-task in
    one_writable c.args.replies.now c.push.new.self c.end_task.result (record c.entry_mut-task.result.now { body = c.run_task.new.task.body }) c.in-Ok.ending c.self.inside.modes.d_sense c.requires.empty c.push.ensures (c.end_task.ensures.reply ∙ ap (λ t. ended_reply t c.in-Ok.ending c.self.inside.modes.d_sense) c.run_task.ensures.task) (subst (λ n. n ≤ 4096) (sym c.run_task.ensures.size) (entry_few c.self.inside.identity c.entry_mut-task.result.now kept.0)) kept.0.expected

pub returns-in-Ok-clause-flushed : goal.returns-in-Ok-clause-flushed
returns-in-Ok-clause-flushed g c = λ flushed quiet.
    let i = c.self.inside in
    let first = is_first g (goal.at.returns-in-Ok-clause-flushed g c).After-entry_mut-task in
    let tied = subst (λ (l : Layer). Tied l (g.D.Drive.state c.args.drive.now)) (sym c.self.view_is) c.requires.tied in
    let own = none_of_each _ _ (own_first _ _ (subst AreOwn (first_tasks i.queue.tasks c.remove.new.self.tasks c.entry_mut-task.result.now first) tied.agrees.valid.own)) in
    let done = first_flush i.queue.tasks c.remove.new.self.tasks c.entry_mut-task.result.now (record c.entry_mut-task.result.now { body = c.run_task.new.task.body }) c.in-Ok.ending i.modes.d_sense c.args.replies.now c.push.new.self c.end_task.result first refl refl own c.requires.empty c.push.ensures (c.end_task.ensures.reply ∙ ap (λ t. ended_reply t c.in-Ok.ending c.self.inside.modes.d_sense) c.run_task.ensures.task)
    (subst (λ (l : Layer). IsFlushed l.tasks c.push.new.self) (sym c.self.view_is) flushed) in
    flush_done i.down i.started c.wanted_by-wanted.result (task_on c.entry_mut-task.result.now (g.D.Drive.state c.args.drive.now)) (task_on c.run_task.new.task (g.D.Drive.state c.run_task.new.drive)) c.in-Ok.ending done.flush done.good c.in-Ok.ensures.ends

pub returns-in-Err-clause-ends : goal.returns-in-Err-clause-ends
returns-in-Err-clause-ends g c =
    let i = c.self.inside in
    let was = layer_of i.identity i.modes i.started i.down i.attentions i.queue i.pool in
    let d = g.D.Drive.state c.args.drive.now in
    let d' = g.D.Drive.state c.run_task.new.drive in
    let tied = subst (λ l. Tied l d) (sym c.self.view_is) c.requires.tied in
    let first = is_first g (goal.at.returns-in-Err-clause-ends g c).After-entry_mut-task in
    inr (
      alone_loses was c.args.self.now c.lose.new.self c.remove.new.self.tasks c.entry_mut-task.result.now d d' c.self.invariant.kept first tied.agrees c.self.view_is c.link_lost.result c.args.replies.now c.push-in-Err.new.self c.lose.new.replies c.end_task-in-Err.result
          (lost_layer was (layer_of i.identity i.modes i.started i.down i.attentions c.remove.new.self c.end_task-in-Err.new.pool) c.lose.new.self refl (c.remove.ensures.flying ∙ subst (λ (l : Layer). l.flying ≡ []) (sym c.self.view_is) c.requires.idle) c.lose.ensures.stays)
          c.in-Err.ensures.lost c.requires.empty c.push-in-Err.ensures c.lose.ensures.answers (c.end_task-in-Err.ensures.reply ∙ (ap (λ t. ended_reply t c.link_lost.result c.self.inside.modes.d_sense) c.run_task.ensures.task ∙ checked_reply c.entry_mut-task.result.now c.run_task.new.task.body c.link_lost.result link_lost c.self.inside.modes.d_sense c.link_lost.ensures)) c.link_lost.ensures,
      c.in-Err.ensures.lost.lost.down,
    )

pub returns-in-Err-clause-agrees : goal.returns-in-Err-clause-agrees
returns-in-Err-clause-agrees g c =
    let i = c.self.inside in
    let was = layer_of i.identity i.modes i.started i.down i.attentions i.queue i.pool in
    let d = g.D.Drive.state c.args.drive.now in
    let tied = subst (λ l. Tied l d) (sym c.self.view_is) c.requires.tied in
    (tied_lost was c.lose.new.self d (g.D.Drive.state c.run_task.new.drive) (alone_down d (g.D.Drive.state c.run_task.new.drive) c.run_task.ensures.stays c.in-Err.ensures.lost.lost.down tied.agrees.fit)
    (lost_layer was (layer_of i.identity i.modes i.started i.down i.attentions c.remove.new.self c.end_task-in-Err.new.pool) c.lose.new.self refl (c.remove.ensures.flying ∙ subst (λ (l : Layer). l.flying ≡ []) (sym c.self.view_is) c.requires.idle) c.lose.ensures.stays) tied.agrees).agrees

pub returns-in-Err-clause-kept : goal.returns-in-Err-clause-kept
returns-in-Err-clause-kept g c =
    kept_rose c.args.self.now _ _ _ c.in-Err.ensures.lost.lost.rose c.run_task.ensures.stays.unplugs c.run_task.ensures.stays.orders (alone_deepens c.args.self.now _ _ c.requires.tied.agrees c.requires.idle c.run_task.ensures.stays)

pub returns-in-Err-clause-pages : goal.returns-in-Err-clause-pages
returns-in-Err-clause-pages g c =
    let first = is_first g (goal.at.returns-in-Err-clause-pages g c).After-entry_mut-task in
    let held = first_pages c.self.inside.queue.tasks c.remove.new.self.tasks c.entry_mut-task.result.now first in
    let pages = all_pages c.args.replies.now c.push-in-Err.new.self c.lose.new.replies (lost_replies c.self.inside.modes.d_sense c.remove.new.self.tasks) c.end_task-in-Err.result c.requires.empty c.push-in-Err.ensures c.lose.ensures.answers in
    let lost = lost_pages c.self.inside.modes.d_sense c.remove.new.self.tasks in
    let none = ap (λ (r : Reply). length r.body) c.end_task-in-Err.ensures.reply ∙ ap (λ e. length (data_in e c.run_task.new.task.command c.run_task.new.task.body)) c.link_lost.ensures in
    let view = ap (λ (l : Layer). l.out) c.self.view_is in
    omega (arith, held, pages, lost, none, view, c.run_task.ensures.size, ap (λ (l : Layer). l.out) c.lose.ensures.stays, c.requires.all_in, c.self.invariant.held, ap (λ (p : Counts). p.out) c.run_task.ensures.pool, c.end_task-in-Err.ensures.out)

pub returns-in-Err-clause-writable : goal.returns-in-Err-clause-writable
returns-in-Err-clause-writable g c =
    let kept = both_kept g (goal.at.returns-in-Err-clause-writable g c).After-entry_mut-task in
    lost_all_writable c.args.replies.now c.push-in-Err.new.self c.lose.new.replies c.end_task-in-Err.result c.entry_mut-task.result.now c.link_lost.result c.self.inside.modes.d_sense c.self.inside.identity c.remove.new.self.tasks c.requires.empty c.push-in-Err.ensures c.lose.ensures.answers
    (c.end_task-in-Err.ensures.reply ∙ (ap (λ t. ended_reply t c.link_lost.result c.self.inside.modes.d_sense) c.run_task.ensures.task ∙ checked_reply c.entry_mut-task.result.now c.run_task.new.task.body c.link_lost.result link_lost c.self.inside.modes.d_sense c.link_lost.ensures)) c.link_lost.ensures kept.0.expected kept.1

pub returns-in-Err-clause-room : goal.returns-in-Err-clause-room
returns-in-Err-clause-room g c =
    let first = is_first g (goal.at.returns-in-Err-clause-room g c).After-entry_mut-task in
    let count = first_count c.self.inside.queue.tasks c.remove.new.self.tasks c.entry_mut-task.result.now first in
    let one = pushed c.args.replies.now c.push-in-Err.new.self c.end_task-in-Err.result c.push-in-Err.ensures in
    let all = ap length c.lose.ensures.answers ∙ length-append c.push-in-Err.new.self (lost_replies c.self.inside.modes.d_sense c.remove.new.self.tasks) in
    omega (arith, all, one, count, length-map c.remove.new.self.tasks (λ (h : Held). ended_reply h.entry (endings.Check link_lost) c.self.inside.modes.d_sense), ap length c.requires.empty, ap (λ (l : Layer). length l.tasks) c.lose.ensures.stays, ap (λ (l : Layer). length l.tasks) c.self.view_is, c.requires.few)

pub returns-in-Ok-clause-unready : goal.returns-in-Ok-clause-unready
returns-in-Ok-clause-unready g c = λ unready.
    let i = c.self.inside in
    let command = c.entry_mut-task.result.now.command in
    let refused = is_refused g (goal.at.returns-in-Ok-clause-unready g c).After-entry_mut-task unready in
    (c.run_task.ensures.unready refused, c.started_after-self-inside.ensures ∙ (unready_stays command c.in-Ok.ending i.started refused ∙ unready_stopped i.started command refused))

pub returns-in-Ok-clause-first_calls : goal.returns-in-Ok-clause-first_calls
returns-in-Ok-clause-first_calls g c =
    subst (λ n. c.run_task.new.steps ≤ c.args.steps.now + n) (calls_are g (goal.at.returns-in-Ok-clause-first_calls g c).After-entry_mut-task) c.run_task.ensures.calls

pub returns-in-Ok-clause-steps : goal.returns-in-Ok-clause-steps
returns-in-Ok-clause-steps g c = c.run_task.ensures.steps

pub returns-in-Err-clause-unready : goal.returns-in-Err-clause-unready
returns-in-Err-clause-unready g c = λ unready.
    let i = c.self.inside in
    let command = c.entry_mut-task.result.now.command in
    let refused = is_refused g (goal.at.returns-in-Err-clause-unready g c).After-entry_mut-task unready in
    (c.run_task.ensures.unready refused, ap (λ (l : Layer). l.started) c.lose.ensures.stays ∙ unready_stopped i.started command refused)

pub returns-in-Err-clause-first_calls : goal.returns-in-Err-clause-first_calls
returns-in-Err-clause-first_calls g c =
    subst (λ n. c.run_task.new.steps ≤ c.args.steps.now + n) (calls_are g (goal.at.returns-in-Err-clause-first_calls g c).After-entry_mut-task) c.run_task.ensures.calls

pub returns-in-Err-clause-steps : goal.returns-in-Err-clause-steps
returns-in-Err-clause-steps g c = c.run_task.ensures.steps
