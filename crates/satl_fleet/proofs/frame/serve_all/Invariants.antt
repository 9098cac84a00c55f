use Rattle.std.proofs.Common.{◌≡◌, ℕ, ◌≤◌, ◌+◌, ◌*◌, vec_len}
use Rattle.satl_step.specs.Runs.{calls_of}
use Rattle.satl_fleet.specs.Rounds.{CallsNoneAt, stage}
use Rattle.satl_fleet.specs.Serving.{CanServe, calls_due, target}
use Rattle.satl_fleet.specs.Shared.{frame_of}
use Rattle.satl_fleet.proofs.RoundLemmas.{DoneTo}
use Rattle.satl_fleet.proofs.frame.serve_all.Given as goal

abbrev pub invariant-loop-k : goal.invariant-loop-k
invariant-loop-k g l = record {
  units : vec_len l.units ≡ vec_len l.initial.units;
  drives : vec_len l.drives ≡ vec_len l.initial.drives;
  serve : CanServe (target g.D.Drive.state l.units l.drives) l.replies;
  done : DoneTo (frame_of l.event) l.k (stage (target g.D.Drive.state l.initial.units l.initial.drives) (g.K.Sink.written l.initial.sink)) (stage (target g.D.Drive.state l.units l.drives) (g.K.Sink.written l.sink));
  calls : calls_due (target g.D.Drive.state l.units l.drives) l.steps ≤ calls_due (target g.D.Drive.state l.initial.units l.initial.drives) l.initial.steps + l.k * calls_of (frame_of l.event);
  uncalled : ((k : ℕ) → CallsNoneAt k (frame_of l.event) (target g.D.Drive.state l.initial.units l.initial.drives).units) → l.steps ≡ l.initial.steps;
  later : g.K.Sink.faults l.initial.sink ≤ g.K.Sink.faults l.sink;
}
