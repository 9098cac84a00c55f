use Rattle.std.proofs.Common.{◌≡◌, ◌-◌, ◌≤◌, length}
use Rattle.satl_io.specs.Known.{Took}
use Rattle.satl_record.proofs.container.read_bytes.Given as goal

abbrev pub invariant-loop-piece : goal.invariant-loop-piece
invariant-loop-piece g l = record {
  took : Took (g.S.Source.left l.fn.source) (g.S.Source.left l.source) l.bytes.items;
  few : length l.bytes.items ≤ l.count;
  later : g.S.Source.faults l.fn.source ≤ g.S.Source.faults l.source;
  size : length l.piece ≡ 4096;
}

abbrev pub decreases-loop-piece : goal.decreases-loop-piece
decreases-loop-piece g l = l.count - length l.bytes.items
