use Rattle.std.proofs.Common.{ap, arith, map}
use Rattle.std.proofs.lemmas.Result.{on_ok_weaker, on_err_weaker}
use Rattle.satl_line.specs.Tasks.{entries_of}
use Rattle.satl_direct.specs.Tasks.{task_of}
use Rattle.satl_step.specs.Events.{scene_of}
use Rattle.satl_step.proofs.ServingLemmas.{ends_in_part, leaves_some}
use Rattle.satl_usb.proofs.ServingLemmas.{exchanged, first_fails, no_tasks, turn_ends}
use Rattle.satl_usb.proofs.serving.serve_item.Goals as goal

pub serve_event-requires-2 : goal.serve_event-requires-2
serve_event-requires-2 g c = record { can = record { tied = c.serve_event.ensures.leaves.tied; can = c.in_ok-serve_event.ensures.leaves.all_in; none = c.in_ok-serve_event.ensures.leaves.none } }

pub returns-in_err-serve_event-clause-exchanged : goal.returns-in_err-serve_event-clause-exchanged
returns-in_err-serve_event-clause-exchanged g c =
    ends_in_part _ _ _ _ c.from_residual.result _ c.from_residual.ensures.1 (first_fails g.T.Teller.told g.T.Teller.behind c.args.request
    (scene_of c.args.satl.now (g.D.Drive.state c.args.drive.now) c.args.steps.now c.args.teller.now (g.K.Sink.written c.args.sink.now))
    (scene_of c.serve_event.new.satl (g.D.Drive.state c.serve_event.new.drive) c.serve_event.new.steps c.serve_event.new.teller (g.K.Sink.written c.serve_event.new.sink))
    (ap (λ t. map task_of (entries_of t)) c.requires.idle) c.in_err-serve_event.ensures.done.part)

pub returns-in_err-serve_event-clause-leaves : goal.returns-in_err-serve_event-clause-leaves
returns-in_err-serve_event-clause-leaves g c = leaves_some _ _ _ c.from_residual.result _ c.from_residual.ensures.1 c.serve_event.ensures.leaves.tied c.in_err-serve_event.ensures.leaves.kept c.in_err-serve_event.ensures.leaves.writable

pub returns-clause-exchanged : goal.returns-clause-exchanged
returns-clause-exchanged g c =
    turn_ends g.T.Teller.told g.T.Teller.behind c.args.request
    (scene_of c.args.satl.now (g.D.Drive.state c.args.drive.now) c.args.steps.now c.args.teller.now (g.K.Sink.written c.args.sink.now))
    (scene_of c.serve_event.new.satl (g.D.Drive.state c.serve_event.new.drive) c.serve_event.new.steps c.serve_event.new.teller (g.K.Sink.written c.serve_event.new.sink))
    (scene_of c.serve_event-2.new.satl (g.D.Drive.state c.serve_event-2.new.drive) c.serve_event-2.new.steps c.serve_event-2.new.teller (g.K.Sink.written c.serve_event-2.new.sink))
    c.serve_event-2.result (ap (λ t. map task_of (entries_of t)) c.requires.idle) c.in_ok-serve_event.ensures.done.whole c.serve_event-2.ensures.done

pub returns-clause-idle : goal.returns-clause-idle
returns-clause-idle g c =
    on_ok_weaker c.serve_event-2.result (λ turn. no_tasks c.serve_event-2.new.satl.tasks (exchanged g.T.Teller.told g.T.Teller.behind c.args.request
    (scene_of c.args.satl.now (g.D.Drive.state c.args.drive.now) c.args.steps.now c.args.teller.now (g.K.Sink.written c.args.sink.now))
    (scene_of c.serve_event.new.satl (g.D.Drive.state c.serve_event.new.drive) c.serve_event.new.steps c.serve_event.new.teller (g.K.Sink.written c.serve_event.new.sink))
    (scene_of c.serve_event-2.new.satl (g.D.Drive.state c.serve_event-2.new.drive) c.serve_event-2.new.steps c.serve_event-2.new.teller (g.K.Sink.written c.serve_event-2.new.sink))
    (ap (λ t. map task_of (entries_of t)) c.requires.idle) c.in_ok-serve_event.ensures.done.whole turn).both.none) c.serve_event-2.ensures.done.whole

pub returns-clause-cause : goal.returns-clause-cause
returns-clause-cause g c = record {
  later = omega (arith, c.serve_event.ensures.cause.later, c.serve_event-2.ensures.cause.later);
  failed = on_err_weaker c.serve_event-2.result (λ rose. omega (arith, rose, c.serve_event.ensures.cause.later)) c.serve_event-2.ensures.cause.failed;
}
