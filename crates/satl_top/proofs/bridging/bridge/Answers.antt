use Rattle.satl_base.specs.Limits.{input_limit}
use Rattle.satl_serve.specs.Moments.{Moment, moment, sink_state, source_state}
use Rattle.satl_top.proofs.BridgingLemmas.{bridge_causes, bridge_completes, bridge_ends, bridge_refuses}
use Rattle.satl_top.proofs.bridging.bridge.Goals as goal

pub returns-in-Ok : goal.returns-in-Ok
returns-in-Ok g c = record {
  ends = c.in-Ok.ensures.bridged;
  causes = tt;
  refused = λ fault refused. absurd (c.in-Ok.ensures.refused fault refused);
  complete = c.in-Ok.ensures.complete;
  unplugs = c.in-Ok.ensures.unplugs;
  orders = c.in-Ok.ensures.orders;
}

pub returns-in-Err : goal.returns-in-Err
returns-in-Err g c =
    let before : Moment = moment (source_state (g.S.Source.left c.args.source.now) (g.S.Source.waited c.args.source.now) (g.S.Source.faults c.args.source.now)) (sink_state (g.K.Sink.written c.args.sink.now) (g.K.Sink.faults c.args.sink.now)) c.args.steps.now (g.D.Drive.state c.args.drive.now) in
    let after : Moment = moment (source_state (g.S.Source.left c.serve_usb.new.source) (g.S.Source.waited c.serve_usb.new.source) (g.S.Source.faults c.serve_usb.new.source)) (sink_state (g.K.Sink.written c.serve_usb.new.sink) (g.K.Sink.faults c.serve_usb.new.sink)) c.serve_usb.new.steps (g.D.Drive.state c.serve_usb.new.drive) in
    let e = c.in-Err.ensures in
    record {
      ends = bridge_ends before after c.in-Err.fault c.from.result c.from.ensures input_limit e.stopped;
      causes = bridge_causes before after c.in-Err.fault c.from.result c.from.ensures e.causes;
      refused = λ refusal refused. bridge_refuses before after c.in-Err.fault c.from.result c.from.ensures refusal (e.refused refusal refused);
      complete = λ items input well. bridge_completes before after c.in-Err.fault c.from.result c.from.ensures (e.complete items input well);
      unplugs = e.unplugs;
      orders = e.orders;
    }
