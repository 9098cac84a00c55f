use Rattle.std.proofs.Common.{◌≡◌, ◌≤◌, ◌-◌, [], None}
use Rattle.satl_core.specs.Layer.{Tied}
use Rattle.satl_step.specs.Events.{scene_of}
use Rattle.satl_step.specs.Loop.{Going, loop_state, place_offset}
use Rattle.satl_step.proofs.frames_loop.serve_frames.Given as goal

abbrev pub invariant-frames : goal.invariant-frames
invariant-frames g l = record {
  tied : Tied l.satl (g.D.Drive.state l.drive);
  all_in : l.satl.out ≡ 0;
  none : l.replies ≡ [];
  fresh : l.reader.refused ≡ None;
  going : Going g.T.Teller.told g.T.Teller.behind (loop_state l.fn.reader (g.S.Source.left l.fn.source) (g.S.Source.waited l.fn.source) (scene_of l.fn.satl (g.D.Drive.state l.fn.drive) l.fn.steps l.fn.teller (g.K.Sink.written l.fn.sink))) (loop_state l.reader (g.S.Source.left l.source) (g.S.Source.waited l.source) (scene_of l.satl (g.D.Drive.state l.drive) l.steps l.teller (g.K.Sink.written l.sink))) l.requests;
  read_later : g.S.Source.faults l.fn.source ≤ g.S.Source.faults l.source;
  write_later : g.K.Sink.faults l.fn.sink ≤ g.K.Sink.faults l.sink;
}

-- each frame takes the reader further towards its limit
abbrev pub decreases-frames : goal.decreases-frames
decreases-frames g l = l.reader.limit - place_offset l.reader.place
