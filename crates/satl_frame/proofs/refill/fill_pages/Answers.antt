use Rattle.std.proofs.Common.{rules, ◌≡◌, ◌+◌, ◌*◌, length, refl, arith, ap, subst}
use Rattle.satl_frame.proofs.Paging.{filled_more, nothing_filled}
use Rattle.satl_frame.proofs.Stopping.{fewer_after}
use Rattle.satl_frame.specs.Pulls.{FilledInReverse}
use Rattle.satl_frame.proofs.refill.fill_pages.Goals as goal

pub loop-at-init : goal.loop-at-init
loop-at-init g c = record {
  filled = nothing_filled _ (length c.args.todo.now) c.args.done.now;
  within = omega arith;
  aligned = λ _. refl;
  unwaited = λ w. w;
  same = omega (arith, ap length c.requires.none);
  later = omega arith;
}

pub loop-at-preserved-then-pages-gt0 : goal.loop-at-preserved-then-pages-gt0
loop-at-preserved-then-pages-gt0 g c =
    let before = c.loop-at.invariant in
    let known = c.in_ok-pages.ensures in
    let aligned = before.aligned c.loop-at-test.true in
    record {
      filled = filled_more before.filled aligned (omega (arith, before.same, ap length c.requires.none)) known.placed;
      within = omega (arith, known.within);
      aligned = λ more. omega (arith, aligned);
      unwaited = λ _. known.unwaited c.if-pages-gt0.true;
      same = omega (arith, known.same, before.same);
      later = omega (arith, known.causes.later, before.later);
    }

pub loop-at-preserved : goal.loop-at-preserved
loop-at-preserved g c =
    let before = c.loop-at.invariant in
    let known = c.in_ok-pages.ensures in
    let more = c.in_ok-pull_chunk.ensures in
    let aligned = before.aligned c.loop-at-test.true in
    let none : c.loop-at.at + 512 * c.in_ok-pages.pages ≡ c.loop-at.at = omega (arith, c.if-pages-gt0.false) in
    let source = g.S.Source.left c.args.source.now in
    let first = filled_more before.filled aligned (omega (arith, before.same, ap length c.requires.none)) known.placed in
    let still = subst (λ n. FilledInReverse source (g.S.Source.left c.take_ahead.new.source) n (length c.args.todo.now) c.args.done.now c.take_ahead.new.done) none first in
    record {
      filled = filled_more still aligned (omega (arith, known.same, before.same, ap length c.requires.none)) more.placed;
      within = omega (arith, c.min-count.ensures);
      aligned = λ left. omega (arith, c.min-count.ensures, aligned);
      unwaited = λ _. more.unwaited (omega (arith, c.min-count.ensures, c.loop-at-test.true));
      same = omega (arith, more.same, known.same, before.same);
      later = omega (arith, more.causes.later, known.causes.later, before.later);
    }

pub returns-in_err-pages-clause-stopped : goal.returns-in_err-pages-clause-stopped
returns-in_err-pages-clause-stopped g c = λ e.
    let before = c.loop-at.invariant in
    fewer_after (λ _. c.args.len) before.filled.took (λ rest. omega (arith, before.filled.size, c.loop-at-test.true)) (c.take_ahead.ensures.stopped (search rules))

pub returns-in_err-pull_chunk-clause-stopped : goal.returns-in_err-pull_chunk-clause-stopped
returns-in_err-pull_chunk-clause-stopped g c = λ e.
    let before = c.loop-at.invariant in
    let known = c.in_ok-pages.ensures.placed in
    let first = fewer_after (λ _. c.min-count.result) known.took (λ rest. omega (arith, known.size, c.if-pages-gt0.false)) (c.pull_chunk.ensures.stopped (search rules)) in
    fewer_after (λ _. c.args.len) before.filled.took (λ rest. omega (arith, before.filled.size, c.loop-at-test.true, c.min-count.ensures)) first
