use Rattle.std.proofs.Common.{◌≡◌, ◌+◌, ◌*◌, ◌-◌, ◌<◌, ◌≤◌, drop, length, take}
use Rattle.satl_base.specs.Cells.{nows}
use Rattle.satl_barrier.specs.Finishing.{pieces_of, verifying_range}
use Rattle.satl_barrier.specs.Leaving.{IsFree}
use Rattle.satl_barrier.proofs.PiecesLemmas.{IsSoFar, head}
use Rattle.satl_barrier.proofs.comparing.compare_pieces.Given as goal

abbrev pub invariant-loop-done : goal.invariant-loop-done
invariant-loop-done g l =
    let old = g.D.Drive.state l.fn.drive in
    let now = g.D.Drive.state l.drive in
    record {
      within : l.done ≤ l.range.count;
      free : IsFree now;
      so_far : IsSoFar (verifying_range (head l.range l.done)) old now;
      same : take l.done (nows old.cells l.range.lba l.range.count) ≡ take l.done l.blocks;
      wanted : l.wanted ≡ drop l.done l.blocks;
      room : length l.scratch ≡ length l.fn.scratch;
      aligned : l.done < l.range.count → l.fn.steps * 64 + l.done ≡ l.steps * 64;
      few : l.steps ≤ l.fn.steps + pieces_of l.range.count;
    }

abbrev pub decreases-loop-done : goal.decreases-loop-done
decreases-loop-done g l = l.range.count - l.done
