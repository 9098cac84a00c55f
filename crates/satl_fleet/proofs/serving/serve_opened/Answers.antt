use Rattle.std.proofs.Common.{ap, inl, refl, vec_len}
use Rattle.satl_frame.specs.Reading.{Reading}
use Rattle.satl_serve.specs.Moments.{sink_state, source_state}
use Rattle.satl_serve.specs.declared.telling.Form.TheVariants.{Frames}
use Rattle.satl_serve.proofs.RunLemmas.{stop_cause}
use Rattle.satl_serve.proofs.ServingLemmas.{any_write}
use Rattle.satl_fleet.specs.Loop.{loop_state}
use Rattle.satl_fleet.specs.Rounds.{stage}
use Rattle.satl_fleet.specs.Stopping.{RanTo}
use Rattle.satl_fleet.specs.Serving.{target}
use Rattle.satl_fleet.proofs.StoppingLemmas.{in_magic, stopped, whole}
use Rattle.satl_fleet.proofs.TargetLemmas.{keeps_same}
use Rattle.satl_fleet.proofs.serving.serve_opened.Goals as goal

pub returns-in_err-write_frame-clause-stopped : goal.returns-in_err-write_frame-clause-stopped
returns-in_err-write_frame-clause-stopped g c =
    any_write (RanTo _ _ _ _) c.from_residual.result _ c.from_residual.ensures.1 (λ e is. is)
    (inl (in_magic (vec_len c.args.units.now) (g.S.Source.left c.args.source.now) (g.S.Source.waited c.args.source.now) (g.K.Sink.written c.args.sink.now) _ (target g.D.Drive.state c.args.units.now c.args.drives.now) c.args.steps.now c.requires.opened.idle c.in_err-write_frame.ensures.part))

pub returns-in_err-write_frame-clause-keeps : goal.returns-in_err-write_frame-clause-keeps
returns-in_err-write_frame-clause-keeps g c = keeps_same (target g.D.Drive.state c.args.units.now c.args.drives.now) c.requires.opened.has

pub returns-in-Ok-clause-whole : goal.returns-in-Ok-clause-whole
returns-in-Ok-clause-whole g c = whole (vec_len c.args.units.now) (g.K.Sink.written c.args.sink.now) (loop_state c.first_only-reader.result (g.S.Source.left c.args.source.now) (g.S.Source.waited c.args.source.now) (stage (target g.D.Drive.state c.args.units.now c.args.drives.now) (g.K.Sink.written c.write_frame.new.sink)) c.args.steps.now) (record { limit = ap (λ (r : Reading). r.limit) c.first_only-reader.ensures; newest = ap (λ (r : Reading). r.newest) c.first_only-reader.ensures; magic = c.in_ok-write_frame.ensures.all }) (loop_state c.serve_frames.new.reader (g.S.Source.left c.serve_frames.new.source) (g.S.Source.waited c.serve_frames.new.source) (stage (target g.D.Drive.state c.serve_frames.new.units c.serve_frames.new.drives) (g.K.Sink.written c.serve_frames.new.sink)) c.serve_frames.new.steps) c.in-Ok.ensures.ended

pub returns-in-Err-clause-stopped : goal.returns-in-Err-clause-stopped
returns-in-Err-clause-stopped g c =
    stopped (vec_len c.args.units.now) (g.K.Sink.written c.args.sink.now) (loop_state c.first_only-reader.result (g.S.Source.left c.args.source.now) (g.S.Source.waited c.args.source.now) (stage (target g.D.Drive.state c.args.units.now c.args.drives.now) (g.K.Sink.written c.write_frame.new.sink)) c.args.steps.now) (record { limit = ap (λ (r : Reading). r.limit) c.first_only-reader.ensures; newest = ap (λ (r : Reading). r.newest) c.first_only-reader.ensures; magic = c.in_ok-write_frame.ensures.all }) (loop_state c.serve_frames.new.reader (g.S.Source.left c.serve_frames.new.source) (g.S.Source.waited c.serve_frames.new.source) (stage (target g.D.Drive.state c.serve_frames.new.units c.serve_frames.new.drives) (g.K.Sink.written c.serve_frames.new.sink)) c.serve_frames.new.steps) (sink_state (g.K.Sink.written c.serve_frames.new.sink) (g.K.Sink.faults c.serve_frames.new.sink)) (sink_state (g.K.Sink.written c.tell_stop.new.sink) (g.K.Sink.faults c.tell_stop.new.sink)) c.tell_stop.result c.in-Err.stop refl c.in-Err.ensures.stopped c.tell_stop.ensures

pub returns-in-Err-clause-causes : goal.returns-in-Err-clause-causes
returns-in-Err-clause-causes g c =
    stop_cause Frames (source_state (g.S.Source.left c.args.source.now) (g.S.Source.waited c.args.source.now) (g.S.Source.faults c.args.source.now)) (source_state (g.S.Source.left c.serve_frames.new.source) (g.S.Source.waited c.serve_frames.new.source) (g.S.Source.faults c.serve_frames.new.source)) (sink_state (g.K.Sink.written c.args.sink.now) (g.K.Sink.faults c.args.sink.now)) (sink_state (g.K.Sink.written c.write_frame.new.sink) (g.K.Sink.faults c.write_frame.new.sink)) (sink_state (g.K.Sink.written c.serve_frames.new.sink) (g.K.Sink.faults c.serve_frames.new.sink)) (sink_state (g.K.Sink.written c.tell_stop.new.sink) (g.K.Sink.faults c.tell_stop.new.sink)) c.tell_stop.result c.in-Err.stop c.in_ok-write_frame.ensures.cause.later c.in-Err.ensures.causes c.tell_stop.ensures c.serve_frames.ensures.later
