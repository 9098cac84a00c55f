use Rattle.std.proofs.Common.{refl}
use Rattle.std.proofs.lemmas.Result.{IfOk-weaker}
use Rattle.satl_base.specs.Limits.{input_limit}
use Rattle.satl_serve.specs.Moments.{moment, sink_state, source_state}
use Rattle.satl_serve.proofs.CompletenessLemmas.{says_closed, says_opened}
use Rattle.satl_serve.proofs.ServingLemmas.{serves_by}
use Rattle.satl_serve.proofs.serving.serve_by.Goals as goal

pub returns-clause-served : goal.returns-clause-served
returns-clause-served g c = IfOk-weaker c.serve_opened-served.result _ _ (serves_by c.args.form input_limit (moment (source_state (g.S.Source.left c.args.source.now) (g.S.Source.waited c.args.source.now) (g.S.Source.faults c.args.source.now)) (sink_state (g.K.Sink.written c.args.sink.now) (g.K.Sink.faults c.args.sink.now)) c.args.steps.now (g.D.Drive.state c.args.drive.now)) (moment (source_state (g.S.Source.left c.serve_opened-served.new.source) (g.S.Source.waited c.serve_opened-served.new.source) (g.S.Source.faults c.serve_opened-served.new.source)) (sink_state (g.K.Sink.written c.serve_opened-served.new.sink) (g.K.Sink.faults c.serve_opened-served.new.sink)) c.serve_opened-served.new.steps (g.D.Drive.state c.serve_opened-served.new.drive)) (g.D.Drive.state c.open.new.drive) c.open.new.steps c.in_ok-satl.satl c.serve_opened-served.new.satl c.in_ok-satl.ensures.opened c.in_ok-satl.ensures.steps c.serve_opened-served.ensures.tied (c.see_queue.ensures.ties (g.D.Drive.state c.serve_opened-served.new.drive) c.serve_opened-served.ensures.tied) g.T.Teller.behind c.args.teller.now c.serve_opened-served.new.teller) c.serve_opened-served.ensures.whole

pub returns-clause-says : goal.returns-clause-says
returns-clause-says g c = says_opened c.args.form input_limit (moment (source_state (g.S.Source.left c.args.source.now) (g.S.Source.waited c.args.source.now) (g.S.Source.faults c.args.source.now)) (sink_state (g.K.Sink.written c.args.sink.now) (g.K.Sink.faults c.args.sink.now)) c.args.steps.now (g.D.Drive.state c.args.drive.now)) (moment (source_state (g.S.Source.left c.serve_opened-served.new.source) (g.S.Source.waited c.serve_opened-served.new.source) (g.S.Source.faults c.serve_opened-served.new.source)) (sink_state (g.K.Sink.written c.serve_opened-served.new.sink) (g.K.Sink.faults c.serve_opened-served.new.sink)) c.serve_opened-served.new.steps (g.D.Drive.state c.serve_opened-served.new.drive)) (g.D.Drive.state c.open.new.drive) c.open.new.steps c.in_ok-satl.satl c.serve_opened-served.new.satl c.in_ok-satl.ensures.opened c.in_ok-satl.ensures.steps c.serve_opened-served.ensures.tied (c.see_queue.ensures.ties (g.D.Drive.state c.serve_opened-served.new.drive) c.serve_opened-served.ensures.tied) c.serve_opened-served.result (IfOk-weaker c.serve_opened-served.result _ _ (λ requests ran. ran.to_end) c.serve_opened-served.ensures.whole) c.serve_opened-served.ensures.stopped c.serve_opened-served.ensures.causes

pub returns-in_err-satl-clause-says : goal.returns-in_err-satl-clause-says
returns-in_err-satl-clause-says g c = says_closed (moment (source_state (g.S.Source.left c.args.source.now) (g.S.Source.waited c.args.source.now) (g.S.Source.faults c.args.source.now)) (sink_state (g.K.Sink.written c.args.sink.now) (g.K.Sink.faults c.args.sink.now)) c.args.steps.now (g.D.Drive.state c.args.drive.now)) (moment (source_state (g.S.Source.left c.args.source.now) (g.S.Source.waited c.args.source.now) (g.S.Source.faults c.args.source.now)) (sink_state (g.K.Sink.written c.args.sink.now) (g.K.Sink.faults c.args.sink.now)) c.open.new.steps (g.D.Drive.state c.open.new.drive)) _ c.in_err-satl.ensures.cause c.args.form input_limit c.from_residual.result _ c.from_residual.ensures.1 (λ e is. is) (record { read = refl; waits = refl; wrote = refl; undisturbed = c.in_err-satl.ensures.alone; nows = c.open.ensures.nows; unplugs = c.open.ensures.unplugs; orders = c.open.ensures.orders; one_call = c.open.ensures.steps })
