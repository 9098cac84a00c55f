use Rattle.satl_base.specs.Limits.{input_limit}
use Rattle.satl_serve.specs.Moments.{Moment, moment, sink_state, source_state}
use Rattle.satl_serve.proofs.ServingLemmas.{with_totals}
use Rattle.satl_top.proofs.LoadLemmas.{refusal_ends}
use Rattle.satl_top.proofs.StatusLemmas.{fault_causes, fault_completes, fault_ends}
use Rattle.satl_top.proofs.top.serve_input.Goals as goal

pub returns-in-Ok : goal.returns-in-Ok
returns-in-Ok g c =
    let before : Moment = moment (source_state (g.S.Source.left c.args.source.now) (g.S.Source.waited c.args.source.now) (g.S.Source.faults c.args.source.now)) (sink_state (g.K.Sink.written c.args.sink.now) (g.K.Sink.faults c.args.sink.now)) c.args.steps.now (g.D.Drive.state c.args.drive.now) in
    let after : Moment = moment (source_state (g.S.Source.left c.serve_uncounted.new.source) (g.S.Source.waited c.serve_uncounted.new.source) (g.S.Source.faults c.serve_uncounted.new.source)) (sink_state (g.K.Sink.written c.serve_uncounted.new.sink) (g.K.Sink.faults c.serve_uncounted.new.sink)) c.serve_uncounted.new.steps (g.D.Drive.state c.serve_uncounted.new.drive) in
    record {
      ends = with_totals c.args.form input_limit before after c.in-Ok.ensures.served;
      causes = tt;
      refused = λ fault refused. absurd (c.in-Ok.ensures.says.refused fault refused);
      complete = c.in-Ok.ensures.says.complete;
    }

pub returns-in-Err : goal.returns-in-Err
returns-in-Err g c =
    let before : Moment = moment (source_state (g.S.Source.left c.args.source.now) (g.S.Source.waited c.args.source.now) (g.S.Source.faults c.args.source.now)) (sink_state (g.K.Sink.written c.args.sink.now) (g.K.Sink.faults c.args.sink.now)) c.args.steps.now (g.D.Drive.state c.args.drive.now) in
    let after : Moment = moment (source_state (g.S.Source.left c.serve_uncounted.new.source) (g.S.Source.waited c.serve_uncounted.new.source) (g.S.Source.faults c.serve_uncounted.new.source)) (sink_state (g.K.Sink.written c.serve_uncounted.new.sink) (g.K.Sink.faults c.serve_uncounted.new.sink)) c.serve_uncounted.new.steps (g.D.Drive.state c.serve_uncounted.new.drive) in
    let says = c.in-Err.ensures.says in
    record {
      ends = fault_ends c.args.form input_limit before after c.in-Err.fault c.from.result c.from.ensures says.stopped;
      causes = fault_causes before after c.in-Err.fault c.from.result c.from.ensures says.causes;
      refused = λ refusal refused. refusal_ends refusal c.in-Err.fault c.from.result c.from.ensures (says.refused refusal refused);
      complete = λ fs rest good well. fault_completes rest before after c.in-Err.fault c.from.result c.from.ensures (says.complete fs rest good well);
    }
