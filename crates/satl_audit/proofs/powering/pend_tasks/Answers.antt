use Rattle.std.proofs.Common.{arith, sym, ap, ◌∙◌, subst, ◌<◌, ◌++◌}
use Rattle.std.proofs.lemmas.List.{append-nil}
use Rattle.satl_audit.specs.Guesses.{blocks_at}
use Rattle.satl_audit.specs.Kept.{known_sector_at}
use Rattle.satl_audit.proofs.PendingPlaces.{shown_all, shown_none}
use Rattle.satl_audit.proofs.powering.pend_tasks.Goals as goal

pub loop-place-preserved : goal.loop-place-preserved
loop-place-preserved c =
    let i = c.loop-place.invariant in
    record {
      size = c.in_ok-pend_task.ensures.length ∙ i.size;
      pends = λ identity input x less. i.pends identity input x less ∙ c.in_ok-pend_task.ensures.pends identity input x (subst (λ n. x < n) (sym i.size) less);
    }

pub returns-clause-pends : goal.returns-clause-pends
returns-clause-pends c = λ identity input x less.
    let old = (known_sector_at input c.args.sectors.now x).may in
    sym (ap (λ l. old ++ blocks_at x l) (shown_all identity input c.args.waiting.now)
    ∙ c.loop-place.invariant.pends identity input x less
    ∙ ap (λ l. (known_sector_at input c.loop-place.sectors x).may ++ blocks_at x l) (shown_none identity input c.args.waiting.now c.loop-place.place (omega (arith, c.loop-place-test.false, c.len-place-end.ensures.value)))
    ∙ append-nil (known_sector_at input c.loop-place.sectors x).may)
