use Rattle.std.proofs.Common.{arith, refl, sym, ap, subst, ◌∙◌, length}
use Rattle.satl_flight.proofs.ZipLemmas.{All-remove}
use Rattle.satl_core.proofs.HeldLemmas.{at_place}
use Rattle.satl_core.specs.Layer.{held_pages}
use Rattle.satl_core.specs.Leaving.{AreWaiting, is_within, left_by}
use Rattle.satl_core.proofs.LeavingLemmas.{AreOthers, all_looked_at, bare_goes, count_removed, left_removed, others_removed, pages_removed, seen_passes, within_bare}
use Rattle.satl_core.proofs.leaving.drop_tasks.Goals as goal

pub remove-requires-clause-waits : goal.remove-requires-clause-waits
remove-requires-clause-waits c = λ h stands.
    at_place _ c.loop-place.queue.tasks c.loop-place.place h c.loop-place.invariant.waiting stands
    (seen_passes (is_within c.args.scope.now) (within_bare c.args.scope.now) c.loop-place.queue.tasks c.loop-place.place c.entry.result.now _ h c.entry.ensures stands (sym c.is_within.ensures ∙ c.if-not-is_within.false))

pub give-requires : goal.give-requires
give-requires c =
    let pages = pages_removed c.loop-place.queue.tasks c.loop-place.place c.remove.new.task c.remove.ensures.value in
    omega (arith, pages, ap length c.take_body.ensures.value, c.loop-place.invariant.out, c.requires.held)

pub loop-place-preserved : goal.loop-place-preserved
loop-place-preserved c =
    let pages = pages_removed c.loop-place.queue.tasks c.loop-place.place c.remove.new.task c.remove.ensures.value in
    let count = count_removed c.loop-place.queue.tasks c.loop-place.place c.remove.new.task c.remove.ensures.value in
    let goes = bare_goes (is_within c.args.scope.now) (within_bare c.args.scope.now) c.loop-place.queue.tasks c.loop-place.place c.entry.result.now c.remove.new.task c.entry.ensures c.remove.ensures.value (sym c.is_within.ensures ∙ c.if-not-is_within.false) in
    let left = ap held_pages c.remove.ensures.others in
    let body = ap length c.take_body.ensures.value in
    let still = ap length c.remove.ensures.others in
    record {
      within = omega (arith, count, still, c.loop-place-test.true, c.len.ensures.value);
      same = ap (left_by (is_within c.args.scope.now)) c.remove.ensures.others ∙ (left_removed (is_within c.args.scope.now) c.loop-place.queue.tasks c.loop-place.place c.remove.new.task c.remove.ensures.value goes ∙ c.loop-place.invariant.same);
      front = subst (AreOthers (is_within c.args.scope.now) c.loop-place.place) (sym c.remove.ensures.others) (others_removed (is_within c.args.scope.now) c.loop-place.queue.tasks c.loop-place.place c.loop-place.invariant.front);
      waiting = subst (λ fs. AreWaiting (is_within c.args.scope.now) fs c.remove.new.self.tasks) (sym c.remove.ensures.flying)
          (subst (AreWaiting (is_within c.args.scope.now) c.loop-place.queue.flying) (sym c.remove.ensures.others) (All-remove _ c.loop-place.queue.tasks c.loop-place.place c.loop-place.invariant.waiting));
      flying = c.remove.ensures.flying ∙ c.loop-place.invariant.flying;
      slots = c.remove.ensures.slots ∙ c.loop-place.invariant.slots;
      free = omega (arith, pages, body, left, c.give.ensures.free, c.loop-place.invariant.free);
      out = omega (arith, pages, body, left, c.give.ensures.out, c.loop-place.invariant.out);
      scope = refl;
    }

pub returns-clause-others : goal.returns-clause-others
returns-clause-others c = all_looked_at (is_within c.args.scope.now) c.args.queue.now.tasks c.loop-place.queue.tasks c.loop-place.place (omega (arith, c.loop-place-test.false, c.len.ensures.value)) c.loop-place.invariant.same c.loop-place.invariant.front
