use Rattle.std.proofs.Common.{arith, refl, false}
use Rattle.std.proofs.lemmas.Result.{on_ok_weaker, on_err_weaker}
use Rattle.satl_core.proofs.CountedLemmas.{tasks_seen}
use Rattle.satl_step.specs.Events.{scene_of}
use Rattle.satl_fleet.proofs.UnitLemmas.{counted_so, unit_did, unit_did_in_part}
use Rattle.satl_fleet.proofs.unit.serve_unit.Goals as goal

pub returns-clause-done : goal.returns-clause-done
returns-clause-done g c = λ whole is. on_ok_weaker c.serve_event-served.result (λ done. unit_did c.args.satl.now c.serve_event-served.new.satl (g.D.Drive.state c.args.drive.now) (g.D.Drive.state c.serve_event-served.new.drive) c.args.steps.now c.serve_event-served.new.steps c.args.event whole is c.args.unit (record { unit = c.args.unit; named = false }) c.serve_event-served.new.teller refl (g.K.Sink.written c.args.sink.now) (g.K.Sink.written c.serve_event-served.new.sink) done) c.serve_event-served.ensures.done.whole

pub returns-clause-part : goal.returns-clause-part
returns-clause-part g c = λ whole is. on_err_weaker c.serve_event-served.result (λ done. unit_did_in_part c.args.satl.now c.serve_event-served.new.satl (g.D.Drive.state c.args.drive.now) (g.D.Drive.state c.serve_event-served.new.drive) c.args.steps.now c.serve_event-served.new.steps c.args.event whole is c.args.unit (record { unit = c.args.unit; named = false }) c.serve_event-served.new.teller refl (g.K.Sink.written c.args.sink.now) (g.K.Sink.written c.serve_event-served.new.sink) done) c.serve_event-served.ensures.done.part

pub returns-clause-calls : goal.returns-clause-calls
returns-clause-calls g c = omega (arith, (counted_so c.args.event (scene_of c.args.satl.now (g.D.Drive.state c.args.drive.now) c.args.steps.now (record { unit = c.args.unit; named = false }) (g.K.Sink.written c.args.sink.now)) (scene_of c.serve_event-served.new.satl (g.D.Drive.state c.serve_event-served.new.drive) c.serve_event-served.new.steps c.serve_event-served.new.teller (g.K.Sink.written c.serve_event-served.new.sink)) c.serve_event-served.result c.serve_event-served.ensures.done).calls, tasks_seen c.args.satl.now.tasks, tasks_seen c.serve_event-served.new.satl.tasks)

pub returns-clause-tied : goal.returns-clause-tied
returns-clause-tied g c = record { tied = c.serve_event-served.ensures.leaves.tied; queue = c.see_queue.ensures.ties (g.D.Drive.state c.serve_event-served.new.drive) c.serve_event-served.ensures.leaves.tied }

pub returns-clause-uncalled : goal.returns-clause-uncalled
returns-clause-uncalled g c = (counted_so c.args.event (scene_of c.args.satl.now (g.D.Drive.state c.args.drive.now) c.args.steps.now (record { unit = c.args.unit; named = false }) (g.K.Sink.written c.args.sink.now)) (scene_of c.serve_event-served.new.satl (g.D.Drive.state c.serve_event-served.new.drive) c.serve_event-served.new.steps c.serve_event-served.new.teller (g.K.Sink.written c.serve_event-served.new.sink)) c.serve_event-served.result c.serve_event-served.ensures.done).uncalled
