use Rattle.std.proofs.Common.{ap, arith, map, sym, ◌∙◌}
use Rattle.satl_frame.specs.Reading.{Reading}
use Rattle.satl_line.specs.Tasks.{entries_of}
use Rattle.satl_direct.specs.Tasks.{task_of}
use Rattle.satl_core.specs.Layer.{Layer, view}
use Rattle.satl_step.specs.Events.{scene_of}
use Rattle.satl_step.specs.Loop.{loop_state}
use Rattle.satl_step.proofs.LoopLemmas.{can_take, ended, going_more, going_start, lent, nearer, part_more, refused}
use Rattle.satl_step.proofs.TallyLemmas.{tied_lent}
use Rattle.satl_step.proofs.frames_loop.serve_frames.Goals as goal

pub frames-init : goal.frames-init
frames-init g c = record {
  tied = c.requires.tied;
  all_in = c.requires.all_in;
  none = c.new-replies.ensures;
  fresh = c.requires.fresh;
  going = going_start g.T.Teller.told g.T.Teller.behind (loop_state c.args.reader.now (g.S.Source.left c.args.source.now) (g.S.Source.waited c.args.source.now) (scene_of c.args.satl.now (g.D.Drive.state c.args.drive.now) c.args.steps.now c.args.teller.now (g.K.Sink.written c.args.sink.now))) c.requires.unread (ap (λ t. map task_of (entries_of t)) c.requires.idle);
  read_later = omega arith;
  write_later = omega arith;
}

pub serve_event-requires : goal.serve_event-requires
serve_event-requires g c = record {
  can = record {
    tied = tied_lent c.frames.satl c.next.new.lender (g.D.Drive.state c.frames.drive) c.in-Ok.ensures.lent.rest c.frames.invariant.tied;
    can = can_take _ _ _ c.next.new.lender.free c.frames.satl.out c.next.new.lender.out c.in-Ok.frame _ _ c.in-Ok.ensures.gave c.frames.invariant.all_in c.in-Ok.ensures.lent.free c.in-Ok.ensures.lent.out;
    none = c.frames.invariant.none;
  };
}

pub frames-smaller : goal.frames-smaller
frames-smaller g c = nearer c.in-Ok.ensures.gave

pub returns-in-Err-serve_event-clause-ran : goal.returns-in-Err-serve_event-clause-ran
returns-in-Err-serve_event-clause-ran g c =
    let same = ap (λ (l : Layer). view l (g.D.Drive.state c.frames.drive)) c.in-Ok.ensures.lent.rest in
    record {
      ended = tt;
      stopped = part_more g.T.Teller.told g.T.Teller.behind (loop_state c.args.reader.now (g.S.Source.left c.args.source.now) (g.S.Source.waited c.args.source.now) (scene_of c.args.satl.now (g.D.Drive.state c.args.drive.now) c.args.steps.now c.args.teller.now (g.K.Sink.written c.args.sink.now))) (loop_state c.frames.reader (g.S.Source.left c.frames.source) (g.S.Source.waited c.frames.source) (scene_of c.next.new.lender (g.D.Drive.state c.frames.drive) c.frames.steps c.frames.teller (g.K.Sink.written c.frames.sink))) _ c.frames.requests 0 _ c.in-Ok.frame
          (lent g.T.Teller.told g.T.Teller.behind (loop_state c.args.reader.now (g.S.Source.left c.args.source.now) (g.S.Source.waited c.args.source.now) (scene_of c.args.satl.now (g.D.Drive.state c.args.drive.now) c.args.steps.now c.args.teller.now (g.K.Sink.written c.args.sink.now))) (loop_state c.frames.reader (g.S.Source.left c.frames.source) (g.S.Source.waited c.frames.source) (scene_of c.frames.satl (g.D.Drive.state c.frames.drive) c.frames.steps c.frames.teller (g.K.Sink.written c.frames.sink))) (view c.next.new.lender (g.D.Drive.state c.frames.drive)) c.frames.requests same c.frames.invariant.going)
          c.in-Ok.ensures.gave c.in-Err-serve_event.ensures.done.part c.in-Ok.ensures.unwaited;
    }

pub returns-then-last-clause-ran : goal.returns-then-last-clause-ran
returns-then-last-clause-ran g c =
    let same = ap (λ (l : Layer). view l (g.D.Drive.state c.frames.drive)) c.in-Ok.ensures.lent.rest in
    record {
      ended = ended g.T.Teller.told g.T.Teller.behind (loop_state c.args.reader.now (g.S.Source.left c.args.source.now) (g.S.Source.waited c.args.source.now) (scene_of c.args.satl.now (g.D.Drive.state c.args.drive.now) c.args.steps.now c.args.teller.now (g.K.Sink.written c.args.sink.now))) (loop_state c.frames.reader (g.S.Source.left c.frames.source) (g.S.Source.waited c.frames.source) (scene_of c.next.new.lender (g.D.Drive.state c.frames.drive) c.frames.steps c.frames.teller (g.K.Sink.written c.frames.sink))) _ c.frames.requests c.count_request-counted.result _ c.in-Ok.frame (sym c.is_end-last.ensures ∙ c.if-last.true)
          (lent g.T.Teller.told g.T.Teller.behind (loop_state c.args.reader.now (g.S.Source.left c.args.source.now) (g.S.Source.waited c.args.source.now) (scene_of c.args.satl.now (g.D.Drive.state c.args.drive.now) c.args.steps.now c.args.teller.now (g.K.Sink.written c.args.sink.now))) (loop_state c.frames.reader (g.S.Source.left c.frames.source) (g.S.Source.waited c.frames.source) (scene_of c.frames.satl (g.D.Drive.state c.frames.drive) c.frames.steps c.frames.teller (g.K.Sink.written c.frames.sink))) (view c.next.new.lender (g.D.Drive.state c.frames.drive)) c.frames.requests same c.frames.invariant.going)
          c.in-Ok.ensures.gave c.in-Ok-serve_event.ensures.done.whole c.count_request-counted.ensures c.in-Ok.ensures.unwaited;
      stopped = tt;
    }

pub frames-preserved : goal.frames-preserved
frames-preserved g c =
    let same = ap (λ (l : Layer). view l (g.D.Drive.state c.frames.drive)) c.in-Ok.ensures.lent.rest in
    let new = c.in-Ok.ensures.gave.new_is in
    record {
      tied = c.serve_event.ensures.leaves.tied;
      all_in = c.in-Ok-serve_event.ensures.leaves.all_in;
      none = c.in-Ok-serve_event.ensures.leaves.none;
      fresh = ap (λ (r : Reading). r.refused) new ∙ c.frames.invariant.fresh;
      going = going_more g.T.Teller.told g.T.Teller.behind (loop_state c.args.reader.now (g.S.Source.left c.args.source.now) (g.S.Source.waited c.args.source.now) (scene_of c.args.satl.now (g.D.Drive.state c.args.drive.now) c.args.steps.now c.args.teller.now (g.K.Sink.written c.args.sink.now))) (loop_state c.frames.reader (g.S.Source.left c.frames.source) (g.S.Source.waited c.frames.source) (scene_of c.next.new.lender (g.D.Drive.state c.frames.drive) c.frames.steps c.frames.teller (g.K.Sink.written c.frames.sink))) _ c.frames.requests c.count_request-counted.result _ c.in-Ok.frame (sym c.is_end-last.ensures ∙ c.if-last.false)
          (lent g.T.Teller.told g.T.Teller.behind (loop_state c.args.reader.now (g.S.Source.left c.args.source.now) (g.S.Source.waited c.args.source.now) (scene_of c.args.satl.now (g.D.Drive.state c.args.drive.now) c.args.steps.now c.args.teller.now (g.K.Sink.written c.args.sink.now))) (loop_state c.frames.reader (g.S.Source.left c.frames.source) (g.S.Source.waited c.frames.source) (scene_of c.frames.satl (g.D.Drive.state c.frames.drive) c.frames.steps c.frames.teller (g.K.Sink.written c.frames.sink))) (view c.next.new.lender (g.D.Drive.state c.frames.drive)) c.frames.requests same c.frames.invariant.going)
          c.in-Ok.ensures.gave c.in-Ok-serve_event.ensures.done.whole c.count_request-counted.ensures;
      read_later = omega (arith, c.frames.invariant.read_later, (c.in-Ok.ensures.causes c.frames.invariant.fresh).later);
      write_later = omega (arith, c.frames.invariant.write_later, c.serve_event.ensures.cause.later);
    }

pub returns-in-Err-clause-ran : goal.returns-in-Err-clause-ran
returns-in-Err-clause-ran g c =
    let same = ap (λ (l : Layer). view l (g.D.Drive.state c.frames.drive)) c.in-Err.ensures.lent.rest in
    record {
      ended = tt;
      stopped = refused g.T.Teller.told g.T.Teller.behind (loop_state c.args.reader.now (g.S.Source.left c.args.source.now) (g.S.Source.waited c.args.source.now) (scene_of c.args.satl.now (g.D.Drive.state c.args.drive.now) c.args.steps.now c.args.teller.now (g.K.Sink.written c.args.sink.now))) (loop_state c.frames.reader (g.S.Source.left c.frames.source) (g.S.Source.waited c.frames.source) (scene_of c.next.new.lender (g.D.Drive.state c.frames.drive) c.frames.steps c.frames.teller (g.K.Sink.written c.frames.sink))) c.frames.requests c.next.new.self (g.S.Source.left c.next.new.source) (g.S.Source.waited c.next.new.source) c.in-Err.fault
          (lent g.T.Teller.told g.T.Teller.behind (loop_state c.args.reader.now (g.S.Source.left c.args.source.now) (g.S.Source.waited c.args.source.now) (scene_of c.args.satl.now (g.D.Drive.state c.args.drive.now) c.args.steps.now c.args.teller.now (g.K.Sink.written c.args.sink.now))) (loop_state c.frames.reader (g.S.Source.left c.frames.source) (g.S.Source.waited c.frames.source) (scene_of c.frames.satl (g.D.Drive.state c.frames.drive) c.frames.steps c.frames.teller (g.K.Sink.written c.frames.sink))) (view c.next.new.lender (g.D.Drive.state c.frames.drive)) c.frames.requests same c.frames.invariant.going)
          (c.in-Err.ensures.blames c.frames.invariant.fresh) (c.in-Err.ensures.awaits c.frames.invariant.fresh) c.in-Err.ensures.keeps;
    }

pub returns-in-Err-clause-tied : goal.returns-in-Err-clause-tied
returns-in-Err-clause-tied g c = tied_lent c.frames.satl c.next.new.lender (g.D.Drive.state c.frames.drive) c.in-Err.ensures.lent.rest c.frames.invariant.tied
