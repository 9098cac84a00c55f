use Rattle.std.proofs.Common.{◌≡◌, ◌≤◌, ◌-◌, [], length}
use Rattle.satl_core.specs.Layer.{Tied}
use Rattle.satl_step.specs.Events.{TurnsTold, scene_of}
use Rattle.satl_step.proofs.turns.serve_turns.Given as goal

abbrev pub invariant-loop : goal.invariant-loop
invariant-loop g l = record {
  tied : Tied l.satl (g.D.Drive.state l.drive);
  all_in : l.satl.out ≡ 0;
  none : l.replies ≡ [];
  turns : TurnsTold g.T.Teller.told g.T.Teller.behind l.counter (scene_of l.initial.satl (g.D.Drive.state l.initial.drive) l.initial.steps l.initial.teller (g.K.Sink.written l.initial.sink)) (scene_of l.satl (g.D.Drive.state l.drive) l.steps l.teller (g.K.Sink.written l.sink));
  fewer : length l.satl.tasks ≤ length l.initial.satl.tasks - l.counter;
  later : g.K.Sink.faults l.initial.sink ≤ g.K.Sink.faults l.sink;
}
