use Rattle.std.proofs.Common.{◌≡◌, ◌+◌, ◌*◌, ◌-◌, ◌<◌, ◌≤◌, length, replicate}
use Rattle.satl_barrier.specs.Finishing.{pieces_of, writing_same}
use Rattle.satl_barrier.specs.Leaving.{IsFree}
use Rattle.satl_barrier.proofs.PiecesLemmas.{IsSoFar, head}
use Rattle.satl_barrier.proofs.writing_same.write_same.Given as goal

abbrev pub invariant-loop-done : goal.invariant-loop-done
invariant-loop-done g l =
    let old = g.D.Drive.state l.fn.drive in
    let now = g.D.Drive.state l.drive in
    record {
      within : l.done ≤ l.range.count;
      filled : l.scratch ≡ replicate (length l.fn.scratch) l.block;
      free : IsFree now;
      so_far : IsSoFar (writing_same (head l.range l.done) l.block old) old now;
      aligned : l.done < l.range.count → l.fn.steps * 64 + l.done ≡ l.steps * 64;
      few : l.steps ≤ l.fn.steps + pieces_of l.range.count;
    }

abbrev pub decreases-loop-done : goal.decreases-loop-done
decreases-loop-done g l = l.range.count - l.done
