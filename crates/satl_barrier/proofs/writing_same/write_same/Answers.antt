use Rattle.std.proofs.Common.{◌≡◌, ◌+◌, ◌-◌, min, ap, ◌∙◌, arith, length}
use Rattle.std.proofs.lemmas.Result.{err_from_is_err_and}
use Rattle.std.proofs.lemmas.List.{length-replicate}
use Rattle.satl_base.specs.declared.block.Range.{Range}
use Rattle.satl_barrier.proofs.FinishingLemmas.{done_by}
use Rattle.satl_barrier.proofs.WritingSameLemmas.{piece_done, piece_lost, piece_stays, piece_stopped}
use Rattle.satl_barrier.proofs.writing_same.write_same.Goals as goal

pub returns-in_err-stopped-clause-lost : goal.returns-in_err-stopped-clause-lost
returns-in_err-stopped-clause-lost g c =
    let p = err_from_is_err_and c.from_residual.result c.from_residual.ensures.1 in
    rw p.1 (piece_lost c.args.range c.args.block.now c.next_piece-next.result c.loop-done.scratch (length c.args.scratch.now) c.loop-done.done _ _ _
    c.next_piece-next.ensures (omega (arith, c.loop-done-test.true)) c.loop-done.invariant.filled c.requires.room c.loop-done.invariant.so_far c.in_err-stopped.ensures.lost)

pub returns-in_err-stopped-clause-stays : goal.returns-in_err-stopped-clause-stays
returns-in_err-stopped-clause-stays g c = piece_stays c.args.range c.args.block.now c.next_piece-next.result c.loop-done.scratch (length c.args.scratch.now) c.loop-done.done _ _ _
    c.next_piece-next.ensures (omega (arith, c.loop-done-test.true)) c.loop-done.invariant.filled c.requires.room c.loop-done.invariant.so_far c.in_err-stopped.ensures.stays

pub loop-done-preserved : goal.loop-done-preserved
loop-done-preserved g c =
    let count : c.next_piece-next.result.count ≡ min 64 (c.args.range.count - c.loop-done.done) = ap (λ (r : Range). r.count) c.next_piece-next.ensures in
    let before = c.loop-done.invariant.aligned (omega (arith, c.loop-done-test.true)) in
    let step : c.write_piece.new.steps ≡ c.loop-done.steps + 1 = c.in_ok-stopped.ensures.step in
    record {
      within = omega (arith, count, c.loop-done-test.true);
      filled = c.in_ok-stopped.ensures.same ∙ c.loop-done.invariant.filled;
      free = c.in_ok-stopped.ensures.stays.free;
      so_far = piece_done c.args.range c.args.block.now c.next_piece-next.result c.loop-done.scratch (length c.args.scratch.now) c.loop-done.done _ _ _
          c.next_piece-next.ensures (omega (arith, c.loop-done-test.true)) c.loop-done.invariant.filled c.requires.room c.loop-done.invariant.so_far (done_by _ _ _ _ _ c.in-Done.is c.in_ok-stopped.ensures.finishes) c.in_ok-stopped.ensures.stays;
      aligned = λ more. omega (arith, count, before, step, more);
      few = omega (arith, before, step, c.loop-done-test.true);
    }

pub returns-in_default : goal.returns-in_default
returns-in_default g c =
    let before = c.loop-done.invariant.aligned (omega (arith, c.loop-done-test.true)) in
    let step : c.write_piece.new.steps ≡ c.loop-done.steps + 1 = c.in_ok-stopped.ensures.step in
    record {
      finishes = piece_stopped c.args.range c.args.block.now c.next_piece-next.result c.loop-done.scratch (length c.args.scratch.now) c.loop-done.done _ _ _
          c.next_piece-next.ensures (omega (arith, c.loop-done-test.true)) c.loop-done.invariant.filled c.requires.room c.loop-done.invariant.so_far c.in_ok-stopped.stopped c.in_default.not-Done c.in_ok-stopped.ensures.finishes;
      lost = tt;
      stays = piece_stays c.args.range c.args.block.now c.next_piece-next.result c.loop-done.scratch (length c.args.scratch.now) c.loop-done.done _ _ _
          c.next_piece-next.ensures (omega (arith, c.loop-done-test.true)) c.loop-done.invariant.filled c.requires.room c.loop-done.invariant.so_far c.in_ok-stopped.ensures.stays;
      size = c.in_ok-stopped.ensures.size ∙ ap length c.loop-done.invariant.filled ∙ length-replicate (length c.args.scratch.now) c.args.block.now;
      steps = omega (arith, before, step, c.loop-done-test.true);
    }
