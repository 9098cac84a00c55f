use Rattle.std.proofs.Common.{◌≡◌, arith, sym, ◌∙◌, ◌+◌, true, false}
use Rattle.satl_core.specs.Leaving.{is_within}
use Rattle.satl_core.proofs.LeavingLemmas.{seen_passes, some_held, stands, wait_next, waits_at, within_bare}
use Rattle.satl_core.proofs.leaving.has_outstanding.Goals as goal
use Rattle.satl_core.proofs.leaving.has_outstanding.Goals.{else-is_within-via-else-is_within, else-is_within-via-then-is_within+else-is_outstanding}

pub returns-then-is_outstanding-clause-flying : goal.returns-then-is_outstanding-clause-flying
returns-then-is_outstanding-clause-flying c =
    let held = stands c.args.queue.now.tasks c.loop-place.place (omega (arith, c.loop-place-test.true, c.loop-place.auto.place-end, c.len-place-end.ensures.value)) in
    λ is none. some_held c.args.queue.now.flying held.0.slot (sym (c.is_outstanding.ensures held.0 held.1) ∙ c.if-is_outstanding.true) none

pub returns-then-is_outstanding-clause-some : goal.returns-then-is_outstanding-clause-some
returns-then-is_outstanding-clause-some c = λ is waiting.
    let q = c.args.queue.now in
    let p = is_within c.args.scope.now in
    let held = stands q.tasks c.loop-place.place (omega (arith, c.loop-place-test.true, c.loop-place.auto.place-end, c.len-place-end.ensures.value)) in
    let goes = seen_passes p (within_bare c.args.scope.now) q.tasks c.loop-place.place c.entry.result.now true held.0 c.entry.ensures held.1 (sym c.is_within.ensures ∙ c.if-is_within.true) in
    let out = sym (c.is_outstanding.ensures held.0 held.1) ∙ c.if-is_outstanding.true in
    let no : true ≡ false = sym out ∙ waits_at p q.flying q.tasks c.loop-place.place held.0 waiting held.1 goes in absurd cc

pub loop-place-preserved : goal.loop-place-preserved
loop-place-preserved c =
    elim c.else-is_within.branch [
      | else-is_within-via-then-is_within+else-is_outstanding w ↦
          wait_next (is_within c.args.scope.now) (within_bare c.args.scope.now) c.args.queue.now.flying c.args.queue.now.tasks c.loop-place.place (c.loop-place.place + 1) c.entry.result.now w.is_outstanding.result (omega arith) c.entry.ensures
          (λ go h at. w.is_outstanding.ensures h at) (λ go. w.if-is_outstanding.false) c.loop-place.invariant
      | else-is_within-via-else-is_within w ↦
          wait_next (is_within c.args.scope.now) (within_bare c.args.scope.now) c.args.queue.now.flying c.args.queue.now.tasks c.loop-place.place (c.loop-place.place + 1) c.entry.result.now false (omega arith) c.entry.ensures
          (λ go. let no : true ≡ false = sym go ∙ (sym c.is_within.ensures ∙ w.if-is_within.false) in absurd cc) (λ go. let no : true ≡ false = sym go ∙ (sym c.is_within.ensures ∙ w.if-is_within.false) in absurd cc) c.loop-place.invariant
    ]
