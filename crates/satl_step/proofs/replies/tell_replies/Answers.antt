use Rattle.std.proofs.Common.{arith, ap, drop, length, subst, sym, ◌≡◌, ◌∙◌, ◌∷◌}
use Rattle.std.specs.List.{AllByRecursion}
use Rattle.satl_frame.specs.Output.{IsWritable}
use Rattle.satl_core.specs.Layer.{reply_pages}
use Rattle.satl_core.proofs.HeldLemmas.{reply_pages_cons}
use Rattle.satl_step.proofs.TallyLemmas.{stays_on}
use Rattle.satl_base.proofs.OutcomeLemmas.{any_err}
use Rattle.satl_step.proofs.TellingLemmas.{data_of_first, so_far_more, so_far_stops}
use Rattle.satl_step.proofs.replies.tell_replies.Goals as goal

pub tell_reply-requires : goal.tell_reply-requires
tell_reply-requires g c = (subst (AllByRecursion IsWritable) c.first.ensures c.loop.invariant.writable).0

pub recycle-requires : goal.recycle-requires
recycle-requires g c =
    omega (
      arith,
      data_of_first c.loop.replies (drop 1 c.loop.replies) c.first.result.now c.remove_first.result c.first.ensures c.remove_first.ensures.data,
      ap reply_pages c.first.ensures,
      reply_pages_cons c.first.result.now (drop 1 c.loop.replies),
      c.loop.invariant.pages,
    )

pub loop-preserved : goal.loop-preserved
loop-preserved g c =
    let is : c.loop.replies ≡ c.first.result.now ∷ c.remove_first.new.self = c.first.ensures ∙ ap (λ l. c.first.result.now ∷ l) (sym c.remove_first.ensures.rest) in
    let count = ap length is in
    let pages = ap reply_pages is in
    let size = data_of_first c.loop.replies (drop 1 c.loop.replies) c.first.result.now c.remove_first.result c.first.ensures c.remove_first.ensures.data in
    record {
      count = omega (arith, count, c.loop.invariant.count);
      writable = (subst (AllByRecursion IsWritable) is c.loop.invariant.writable).1;
      pages = omega (arith, pages, size, reply_pages_cons c.first.result.now c.remove_first.new.self, c.loop.invariant.pages, c.recycle.ensures.out);
      stays = stays_on c.args.satl.now c.loop.satl c.recycle.new.self _ _ c.loop.invariant.stays c.recycle.ensures.given;
      told = so_far_more g.T.Teller.told g.T.Teller.behind _ _ _ c.loop.replies c.remove_first.new.self _ c.first.result.now c.loop.invariant.told is c.in_ok-tell_reply.ensures.all c.in_ok-tell_reply.ensures.next;
      later = omega (arith, c.loop.invariant.later, c.in_ok-tell_reply.ensures.cause.later);
    }

pub returns-in_err-tell_reply-clause-part : goal.returns-in_err-tell_reply-clause-part
returns-in_err-tell_reply-clause-part g c =
    any_err c.from_residual.result _ (so_far_stops g.T.Teller.told g.T.Teller.behind _ (record { teller = c.loop.teller; written = g.K.Sink.written c.loop.sink }) _ c.loop.replies (drop 1 c.loop.replies) _ c.first.result.now c.loop.invariant.told c.first.ensures c.in_err-tell_reply.ensures.part)
