use Rattle.std.proofs.Common.{ap, inl, refl}
use Rattle.satl_frame.specs.Reading.{Reading}
use Rattle.satl_step.specs.Events.{scene_of}
use Rattle.satl_step.specs.Runs.{stand_of}
use Rattle.satl_serve.specs.Moments.{sink_state, source_state}
use Rattle.satl_serve.specs.Stopping.{RanTo}
use Rattle.satl_serve.proofs.RunLemmas.{in_magic, stop_cause, stopped, whole}
use Rattle.satl_serve.proofs.ServingLemmas.{any_write}
use Rattle.satl_serve.proofs.serving.serve_opened.Goals as goal

pub returns-in_err-tell_beginning-clause-stopped : goal.returns-in_err-tell_beginning-clause-stopped
returns-in_err-tell_beginning-clause-stopped g c =
    any_write (RanTo c.args.form _ _ _) c.from_residual.result _ c.from_residual.ensures.1 (λ e is. is)
    (inl (in_magic c.args.form (g.S.Source.left c.args.source.now) (g.S.Source.waited c.args.source.now) _ _ c.args.satl.now (stand_of c.args.satl.now (g.D.Drive.state c.args.drive.now) c.args.steps.now) c.requires.idle refl c.in_err-tell_beginning.ensures.part))

pub returns-in-Ok-clause-whole : goal.returns-in-Ok-clause-whole
returns-in-Ok-clause-whole g c = whole g.T.Teller.told g.T.Teller.behind c.args.form (g.K.Sink.written c.args.sink.now) (record { reader = c.new-reader.result; left = g.S.Source.left c.args.source.now; waited = g.S.Source.waited c.args.source.now; scene = scene_of c.args.satl.now (g.D.Drive.state c.args.drive.now) c.args.steps.now c.args.teller.now (g.K.Sink.written c.tell_beginning.new.sink) }) (record { reader = c.serve_frames.new.reader; left = g.S.Source.left c.serve_frames.new.source; waited = g.S.Source.waited c.serve_frames.new.source; scene = scene_of c.serve_frames.new.satl (g.D.Drive.state c.serve_frames.new.drive) c.serve_frames.new.steps c.serve_frames.new.teller (g.K.Sink.written c.serve_frames.new.sink) }) c.in-Ok.requests c.requires.deep (record { limit = ap (λ (r : Reading). r.limit) c.new-reader.ensures; newest = ap (λ (r : Reading). r.newest) c.new-reader.ensures; tells = c.requires.tells; magic = c.in_ok-tell_beginning.ensures.all }) c.in-Ok.ensures.ran.ended

pub returns-in-Err-clause-stopped : goal.returns-in-Err-clause-stopped
returns-in-Err-clause-stopped g c =
    stopped g.T.Teller.told g.T.Teller.behind c.args.form (g.K.Sink.written c.args.sink.now) (record { reader = c.new-reader.result; left = g.S.Source.left c.args.source.now; waited = g.S.Source.waited c.args.source.now; scene = scene_of c.args.satl.now (g.D.Drive.state c.args.drive.now) c.args.steps.now c.args.teller.now (g.K.Sink.written c.tell_beginning.new.sink) }) (record { reader = c.serve_frames.new.reader; left = g.S.Source.left c.serve_frames.new.source; waited = g.S.Source.waited c.serve_frames.new.source; scene = scene_of c.serve_frames.new.satl (g.D.Drive.state c.serve_frames.new.drive) c.serve_frames.new.steps c.serve_frames.new.teller (g.K.Sink.written c.serve_frames.new.sink) })
    (sink_state (g.K.Sink.written c.serve_frames.new.sink) (g.K.Sink.faults c.serve_frames.new.sink)) (sink_state (g.K.Sink.written c.tell_stop.new.sink) (g.K.Sink.faults c.tell_stop.new.sink)) c.tell_stop.result c.in-Err.stop refl (record { limit = ap (λ (r : Reading). r.limit) c.new-reader.ensures; newest = ap (λ (r : Reading). r.newest) c.new-reader.ensures; tells = c.requires.tells; magic = c.in_ok-tell_beginning.ensures.all }) c.in-Err.ensures.ran.stopped c.tell_stop.ensures

pub returns-in-Err-clause-causes : goal.returns-in-Err-clause-causes
returns-in-Err-clause-causes g c =
    stop_cause c.args.form (source_state (g.S.Source.left c.args.source.now) (g.S.Source.waited c.args.source.now) (g.S.Source.faults c.args.source.now)) (source_state (g.S.Source.left c.serve_frames.new.source) (g.S.Source.waited c.serve_frames.new.source) (g.S.Source.faults c.serve_frames.new.source)) (sink_state (g.K.Sink.written c.args.sink.now) (g.K.Sink.faults c.args.sink.now)) (sink_state (g.K.Sink.written c.tell_beginning.new.sink) (g.K.Sink.faults c.tell_beginning.new.sink)) (sink_state (g.K.Sink.written c.serve_frames.new.sink) (g.K.Sink.faults c.serve_frames.new.sink)) (sink_state (g.K.Sink.written c.tell_stop.new.sink) (g.K.Sink.faults c.tell_stop.new.sink)) c.tell_stop.result c.in-Err.stop c.in_ok-tell_beginning.ensures.cause.later c.in-Err.ensures.causes c.tell_stop.ensures c.serve_frames.ensures.later
