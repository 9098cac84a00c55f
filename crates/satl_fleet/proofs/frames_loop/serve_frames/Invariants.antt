use Rattle.std.proofs.Common.{◌≡◌, ◌≤◌, ◌-◌, None, vec_len}
use Rattle.satl_pages.specs.Counts.{number_of}
use Rattle.satl_step.specs.Loop.{place_offset}
use Rattle.satl_fleet.specs.Loop.{Going, loop_state}
use Rattle.satl_fleet.specs.Rounds.{stage}
use Rattle.satl_fleet.specs.Serving.{CanServe, target}
use Rattle.satl_fleet.proofs.frames_loop.serve_frames.Given as goal

abbrev pub invariant-frames : goal.invariant-frames
invariant-frames g l = record {
  units : vec_len l.units ≡ vec_len l.fn.units;
  drives : vec_len l.drives ≡ vec_len l.fn.drives;
  serve : CanServe (target g.D.Drive.state l.units l.drives) l.replies;
  number : number_of l.pool ≡ 4096;
  all_in : l.pool.out ≡ 0;
  fresh : l.reader.refused ≡ None;
  going : Going (vec_len l.fn.units) (loop_state l.fn.reader (g.S.Source.left l.fn.source) (g.S.Source.waited l.fn.source) (stage (target g.D.Drive.state l.fn.units l.fn.drives) (g.K.Sink.written l.fn.sink)) l.fn.steps) (loop_state l.reader (g.S.Source.left l.source) (g.S.Source.waited l.source) (stage (target g.D.Drive.state l.units l.drives) (g.K.Sink.written l.sink)) l.steps);
  read_later : g.S.Source.faults l.fn.source ≤ g.S.Source.faults l.source;
  write_later : g.K.Sink.faults l.fn.sink ≤ g.K.Sink.faults l.sink;
}

-- each frame takes the reader further towards its limit
abbrev pub decreases-frames : goal.decreases-frames
decreases-frames g l = l.reader.limit - place_offset l.reader.place
