use Rattle.std.proofs.Common.{ap, arith, length}
use Rattle.std.proofs.lemmas.Result.{IfErr-weaker, on_ok_weaker}
use Rattle.satl_base.specs.Limits.{input_limit}
use Rattle.satl_serve.specs.Moments.{moment, sink_state, source_state}
use Rattle.satl_usb.proofs.CompletenessLemmas.{all_complete}
use Rattle.satl_usb.proofs.OpeningLemmas.{serves_whole, stops}
use Rattle.satl_usb.proofs.bridge.serve_usb.Goals as goal

pub returns-clause-bridged : goal.returns-clause-bridged
returns-clause-bridged g c = on_ok_weaker c.serve_items-served.result (serves_whole input_limit (moment (source_state (g.S.Source.left c.args.source.now) (g.S.Source.waited c.args.source.now) (g.S.Source.faults c.args.source.now)) (sink_state (g.K.Sink.written c.args.sink.now) (g.K.Sink.faults c.args.sink.now)) c.args.steps.now (g.D.Drive.state c.args.drive.now)) (moment (source_state (g.S.Source.left c.serve_items-served.new.source) (g.S.Source.waited c.serve_items-served.new.source) (g.S.Source.faults c.serve_items-served.new.source)) (sink_state (g.K.Sink.written c.serve_items-served.new.sink) (g.K.Sink.faults c.serve_items-served.new.sink)) c.serve_items-served.new.steps (g.D.Drive.state c.serve_items-served.new.drive)) (g.D.Drive.state c.open.new.drive) c.open.new.steps c.in_ok-satl.satl c.serve_items-served.new.satl c.in_ok-satl.ensures.opened c.in_ok-satl.ensures.steps c.serve_items-served.ensures.tied (c.see_queue.ensures.ties (g.D.Drive.state c.serve_items-served.new.drive) c.serve_items-served.ensures.tied) (let none = ap length c.requires.idle in omega (arith, none))) c.serve_items-served.ensures.bridges.whole

pub returns-clause-stopped : goal.returns-clause-stopped
returns-clause-stopped g c = IfErr-weaker c.serve_items-served.result _ _ (λ fault. stops input_limit (moment (source_state (g.S.Source.left c.args.source.now) (g.S.Source.waited c.args.source.now) (g.S.Source.faults c.args.source.now)) (sink_state (g.K.Sink.written c.args.sink.now) (g.K.Sink.faults c.args.sink.now)) c.args.steps.now (g.D.Drive.state c.args.drive.now)) (moment (source_state (g.S.Source.left c.serve_items-served.new.source) (g.S.Source.waited c.serve_items-served.new.source) (g.S.Source.faults c.serve_items-served.new.source)) (sink_state (g.K.Sink.written c.serve_items-served.new.sink) (g.K.Sink.faults c.serve_items-served.new.sink)) c.serve_items-served.new.steps (g.D.Drive.state c.serve_items-served.new.drive)) (g.D.Drive.state c.open.new.drive) c.open.new.steps c.in_ok-satl.satl c.serve_items-served.new.satl c.in_ok-satl.ensures.opened c.in_ok-satl.ensures.steps c.serve_items-served.ensures.tied (c.see_queue.ensures.ties (g.D.Drive.state c.serve_items-served.new.drive) c.serve_items-served.ensures.tied) fault) c.serve_items-served.ensures.bridges.stopped

pub returns-clause-complete : goal.returns-clause-complete
returns-clause-complete g c = λ items input well. all_complete input_limit _ _ (moment (source_state (g.S.Source.left c.args.source.now) (g.S.Source.waited c.args.source.now) (g.S.Source.faults c.args.source.now)) (sink_state (g.K.Sink.written c.args.sink.now) (g.K.Sink.faults c.args.sink.now)) c.args.steps.now (g.D.Drive.state c.args.drive.now)) (moment (source_state (g.S.Source.left c.serve_items-served.new.source) (g.S.Source.waited c.serve_items-served.new.source) (g.S.Source.faults c.serve_items-served.new.source)) (sink_state (g.K.Sink.written c.serve_items-served.new.sink) (g.K.Sink.faults c.serve_items-served.new.sink)) c.serve_items-served.new.steps (g.D.Drive.state c.serve_items-served.new.drive)) items input well c.serve_items-served.result c.serve_items-served.ensures.bridges.whole c.serve_items-served.ensures.bridges.stopped c.serve_items-served.ensures.causes
