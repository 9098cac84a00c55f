use Rattle.std.proofs.Common.{◌≡◌, ◌≤◌, ◌-◌, []}
use Rattle.satl_base.specs.Limits.{input_limit}
use Rattle.satl_core.specs.Layer.{Tied}
use Rattle.satl_step.specs.Runs.{stand_of}
use Rattle.satl_serve.specs.Moments.{spot}
use Rattle.satl_usb.proofs.BridgeLemmas.{Going}
use Rattle.satl_usb.proofs.bridge.serve_items.Given as goal

abbrev pub invariant-items : goal.invariant-items
invariant-items g l = record {
  tied : Tied l.satl (g.D.Drive.state l.drive);
  all_in : l.satl.out ≡ 0;
  none : l.replies ≡ [];
  idle : l.satl.tasks ≡ [];
  near : l.offset ≤ input_limit;
  going : Going input_limit (spot (g.S.Source.left l.fn.source) (g.S.Source.waited l.fn.source) (g.K.Sink.written l.fn.sink) (stand_of l.fn.satl (g.D.Drive.state l.fn.drive) l.fn.steps)) (spot (g.S.Source.left l.source) (g.S.Source.waited l.source) (g.K.Sink.written l.sink) (stand_of l.satl (g.D.Drive.state l.drive) l.steps)) l.kept l.offset;
  read_later : g.S.Source.faults l.fn.source ≤ g.S.Source.faults l.source;
  write_later : g.K.Sink.faults l.fn.sink ≤ g.K.Sink.faults l.sink;
}

-- each item takes the reader further towards its limit
abbrev pub decreases-items : goal.decreases-items
decreases-items g l = input_limit - l.offset
