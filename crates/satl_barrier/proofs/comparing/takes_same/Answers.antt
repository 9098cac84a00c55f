use Rattle.std.proofs.Common.{◌≡◌, ◌+◌, ◌-◌, suc, sym, arith}
use Rattle.satl_base.proofs.Booleans.{opposite_false, opposite_true}
use Rattle.satl_barrier.proofs.ComparingLemmas.{all_more, each_more, next_differs, next_same, none_same, read_length, rest_more, wanted_length}
use Rattle.satl_barrier.proofs.comparing.takes_same.Goals as goal

pub returns-then-ne-clause-same : goal.returns-then-ne-clause-same
returns-then-ne-clause-same c =
    let left : c.args.count - c.loop.counter ≡ suc (c.args.count - (c.loop.counter + 1)) = omega (arith, c.loop-test.true) in
    let next = next_differs c.loop.wanted c.loop.read _ _ _ _ (omega (arith, left, c.loop.invariant.more)) (omega (arith, left, c.loop.invariant.room)) c.next.ensures.steps c.next-in-loop.ensures.steps (sym (opposite_true _ _ c.ne.ensures c.if-ne.true)) in
    (λ e. absurd cc, λ same. absurd (none_same (c.args.count - c.loop.counter) (c.args.count - (c.loop.counter + 1)) c.loop.wanted c.loop.read left next c.loop.invariant.each same))

pub loop-preserved : goal.loop-preserved
loop-preserved c =
    let left : c.args.count - c.loop.counter ≡ suc (c.args.count - (c.loop.counter + 1)) = omega (arith, c.loop-test.true) in
    let next = next_same c.loop.wanted c.loop.read c.next.new.self c.next-in-loop.new.self _ _ (omega (arith, left, c.loop.invariant.more)) (omega (arith, left, c.loop.invariant.room)) c.next.ensures.steps c.next-in-loop.ensures.steps (sym (opposite_false _ _ c.ne.ensures c.if-ne.false)) in
    record {
      all = all_more (c.args.count - c.loop.counter) (c.args.count - (c.loop.counter + 1)) c.loop.wanted c.loop.read c.next.new.self c.next-in-loop.new.self left next c.loop.invariant.all;
      each = each_more (c.args.count - c.loop.counter) (c.args.count - (c.loop.counter + 1)) c.loop.wanted c.loop.read c.next.new.self c.next-in-loop.new.self left next c.loop.invariant.each;
      rest = rest_more (c.args.count - c.loop.counter) (c.args.count - (c.loop.counter + 1)) c.loop.wanted c.next.new.self c.loop.read c.next-in-loop.new.self _ left next c.loop.invariant.rest;
      more = omega (arith, left, c.loop.invariant.more, wanted_length _ _ _ _ next);
      room = omega (arith, left, c.loop.invariant.room, read_length _ _ _ _ next);
    }
