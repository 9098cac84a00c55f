use Rattle.std.proofs.Common.{◌≤◌, ◌-◌, replicate}
use Rattle.satl_frame.specs.Gathering.{Gathers}
use Rattle.satl_usb.proofs.wire.gather_zeros.Given as goal

abbrev pub invariant-loop-left : goal.invariant-loop-left
invariant-loop-left g l = record {
  few : l.left ≤ l.fn.count;
  gathers : Gathers (g.K.Sink.written l.fn.sink) (g.K.Sink.written l.sink) l.fn.gathered l.gathered (replicate (l.fn.count - l.left) 0);
  later : g.K.Sink.faults l.fn.sink ≤ g.K.Sink.faults l.sink;
}

abbrev pub decreases-loop-left : goal.decreases-loop-left
decreases-loop-left g l = l.left
