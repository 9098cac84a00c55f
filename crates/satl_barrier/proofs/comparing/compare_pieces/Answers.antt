use Rattle.std.proofs.Common.{◌≡◌, ◌+◌, ◌-◌, ◌∙◌, ap, arith, min, refl, sym, take}
use Rattle.std.proofs.lemmas.Result.{err_from_is_err_and}
use Rattle.satl_base.specs.declared.block.Range.{Range}
use Rattle.satl_base.specs.Cells.{nows}
use Rattle.satl_barrier.proofs.ComparingLemmas.{dropped_on, same_on}
use Rattle.satl_barrier.proofs.FinishingLemmas.{done_by, flawed_by, garbled_by}
use Rattle.satl_barrier.proofs.VerifyingLemmas.{all_differ, all_same, behind, read_all, read_done, read_flawed, read_garbled, read_lost, read_part, read_stays}
use Rattle.satl_barrier.proofs.comparing.compare_pieces.Goals as goal

pub returns-in_err-read_piece-clause-lost : goal.returns-in_err-read_piece-clause-lost
returns-in_err-read_piece-clause-lost g c =
    let p = err_from_is_err_and c.from_residual.result c.from_residual.ensures.1 in
    rw p.1 (read_lost _ _ _ _ _ _ (behind _ _ _ c.loop-done-test.true c.next_piece-next.ensures) c.loop-done.invariant.so_far c.in_err-read_piece.ensures.lost)

pub returns-in_err-read_piece-clause-stays : goal.returns-in_err-read_piece-clause-stays
returns-in_err-read_piece-clause-stays g c = read_stays _ _ _ _ _ _ (behind _ _ _ c.loop-done-test.true c.next_piece-next.ensures) c.loop-done.invariant.so_far c.in_err-read_piece.ensures.stays

pub returns-in-Flawed-clause-compares : goal.returns-in-Flawed-clause-compares
returns-in-Flawed-clause-compares g c = read_flawed _ _ _ _ _ _ (behind _ _ _ c.loop-done-test.true c.next_piece-next.ensures) c.loop-done.invariant.so_far c.in-Flawed.lba (flawed_by _ _ _ _ _ _ c.in-Flawed.is c.in_ok-read_piece.ensures.finishes)

pub returns-in-Flawed-clause-stays : goal.returns-in-Flawed-clause-stays
returns-in-Flawed-clause-stays g c = read_stays _ _ _ _ _ _ (behind _ _ _ c.loop-done-test.true c.next_piece-next.ensures) c.loop-done.invariant.so_far c.in_ok-read_piece.ensures.stays

pub returns-in-Garbled-clause-compares : goal.returns-in-Garbled-clause-compares
returns-in-Garbled-clause-compares g c = read_garbled _ _ _ _ _ _ (behind _ _ _ c.loop-done-test.true c.next_piece-next.ensures) c.loop-done.invariant.so_far c.requires.clean (garbled_by _ _ _ _ _ c.in-Garbled.is c.in_ok-read_piece.ensures.finishes)

pub returns-in-Garbled-clause-stays : goal.returns-in-Garbled-clause-stays
returns-in-Garbled-clause-stays g c = read_stays _ _ _ _ _ _ (behind _ _ _ c.loop-done-test.true c.next_piece-next.ensures) c.loop-done.invariant.so_far c.in_ok-read_piece.ensures.stays

pub returns-then-not-takes_same-clause-compares : goal.returns-then-not-takes_same-clause-compares
returns-then-not-takes_same-clause-compares g c = (
  all_differ c.args.blocks.now c.loop-done.done c.next_piece-next.result.count (nows (g.D.Drive.state c.args.drive.now).cells c.args.range.lba c.args.range.count) c.loop-done.wanted _ c.read_piece.new.pages
      (c.in_ok-read_piece.ensures.blocks c.in-Done.is)
      (read_part _ _ _ _ _ (g.D.Drive.state c.read_piece.new.drive) (behind _ _ _ c.loop-done-test.true c.next_piece-next.ensures) c.loop-done.invariant.so_far)
      c.loop-done.invariant.wanted
      (λ same. let set = c.if-not-takes_same.ensures.same.1 same in cc),
  read_all _ _ _ _ _ _ (behind _ _ _ c.loop-done-test.true c.next_piece-next.ensures) c.loop-done.invariant.so_far c.requires.clean (done_by _ _ _ _ _ c.in-Done.is c.in_ok-read_piece.ensures.finishes),
)

pub returns-then-not-takes_same-clause-stays : goal.returns-then-not-takes_same-clause-stays
returns-then-not-takes_same-clause-stays g c = read_stays _ _ _ _ _ _ (behind _ _ _ c.loop-done-test.true c.next_piece-next.ensures) c.loop-done.invariant.so_far c.in_ok-read_piece.ensures.stays

pub loop-done-preserved : goal.loop-done-preserved
loop-done-preserved g c =
    let count : c.next_piece-next.result.count ≡ min 64 (c.args.range.count - c.loop-done.done) = ap (λ (r : Range). r.count) c.next_piece-next.ensures in
    let before = c.loop-done.invariant.aligned c.loop-done-test.true in
    let step : c.read_piece.new.steps ≡ c.loop-done.steps + 1 = c.in_ok-read_piece.ensures.step in
    record {
      within = omega (arith, count, c.loop-done-test.true);
      free = c.in_ok-read_piece.ensures.stays.free;
      so_far = read_done _ _ _ _ _ _ (behind _ _ _ c.loop-done-test.true c.next_piece-next.ensures) c.loop-done.invariant.so_far
          (done_by _ _ _ _ _ c.in-Done.is c.in_ok-read_piece.ensures.finishes) c.in_ok-read_piece.ensures.stays;
      same = same_on c.loop-done.done c.next_piece-next.result.count (nows (g.D.Drive.state c.args.drive.now).cells c.args.range.lba c.args.range.count) c.args.blocks.now c.loop-done.invariant.same
          (sym (read_part _ _ _ _ _ (g.D.Drive.state c.read_piece.new.drive) (behind _ _ _ c.loop-done-test.true c.next_piece-next.ensures) c.loop-done.invariant.so_far) ∙ (sym (c.in_ok-read_piece.ensures.blocks c.in-Done.is)
          ∙ (c.if-not-takes_same.ensures.same.0 refl ∙ ap (take c.next_piece-next.result.count) c.loop-done.invariant.wanted)));
      wanted = dropped_on c.loop-done.done c.next_piece-next.result.count c.args.blocks.now c.loop-done.wanted c.takes_same.new.wanted c.loop-done.invariant.wanted (c.if-not-takes_same.ensures.rest refl);
      room = c.in_ok-read_piece.ensures.size ∙ c.loop-done.invariant.room;
      aligned = λ more. omega (arith, count, before, step, more);
      few = omega (arith, before, step, c.loop-done-test.true);
    }

pub returns-clause-compares : goal.returns-clause-compares
returns-clause-compares g c = all_same c.args.range c.args.blocks.now c.loop-done.done _ _ c.requires.reached.some c.requires.reached.within c.requires.all (omega (arith, c.loop-done-test.false, c.loop-done.invariant.within)) c.loop-done.invariant.so_far c.loop-done.invariant.same
