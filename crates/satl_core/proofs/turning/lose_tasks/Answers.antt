use Rattle.std.proofs.Common.{◌≤◌, refl, arith, sym, ap, ◌∙◌, Some, length, ◌++◌, ◌∷◌, []}
use Rattle.satl_core.specs.Turning.{data_in, ended_reply}
use Rattle.satl_base.specs.declared.reply.Reply.{Reply}
use Rattle.satl_line.specs.declared.entry.Entry.{Entry}
use Rattle.satl_flight.specs.Flown.{is_outstanding}
use Rattle.satl_core.proofs.HeldLemmas.{first_all, first_count, first_lost, first_of, first_pages, pushed}
use Rattle.satl_core.proofs.turning.lose_tasks.Goals as goal

pub loop-preserved : goal.loop-preserved
loop-preserved c =
    let first = first_of c.loop.queue.tasks c.remove.new.self.tasks c.entry_mut.result.now (c.remove.ensures.value ∙ ap Some (sym c.entry_mut.ensures.value)) c.remove.ensures.others in
    let count = first_count c.loop.queue.tasks c.remove.new.self.tasks c.entry_mut.result.now first in
    let pages = first_pages c.loop.queue.tasks c.remove.new.self.tasks c.entry_mut.result.now first in
    let more = pushed c.loop.replies c.push.new.self c.end_task.result c.push.ensures in
    let none = ap (λ (r : Reply). length r.body) c.end_task.ensures.reply ∙ ap (λ e. length (data_in e c.entry_mut.result.now.command c.entry_mut.result.now.body)) c.link_lost.ensures in
    record {
      count = omega (arith, count, c.loop.invariant.count);
      idle = c.remove.ensures.flying ∙ c.loop.invariant.idle;
      few = (first_all (λ (e : Entry). length e.body ≤ 4096) c.loop.queue.tasks c.remove.new.self.tasks c.entry_mut.result.now c.loop.invariant.few first).1;
      answers = first_lost c.args.descriptor c.loop.queue.tasks c.remove.new.self.tasks c.entry_mut.result.now c.loop.replies c.push.new.self _ first c.loop.invariant.answers
          (c.push.ensures ∙ ap (λ r. c.loop.replies ++ r ∷ []) (c.end_task.ensures.reply ∙ ap (λ e. ended_reply c.entry_mut.result.now e c.args.descriptor) c.link_lost.ensures));
      room = omega (arith, count, more, c.loop.invariant.room);
      free = omega (arith, pages, none, c.end_task.ensures.free, c.loop.invariant.free);
      out = omega (arith, pages, none, c.end_task.ensures.out, c.loop.invariant.out);
      same = refl;
    }

pub remove-requires-clause-waits : goal.remove-requires-clause-waits
remove-requires-clause-waits c = λ h stands. ap (λ fs. is_outstanding fs h.slot) c.loop.invariant.idle
