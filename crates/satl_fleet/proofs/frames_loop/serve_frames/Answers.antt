use Rattle.std.proofs.Common.{◌≡◌, ap, arith, map, refl, subst, sym, vec_len, ◌∙◌}
use Rattle.satl_frame.specs.Reading.{Reading}
use Rattle.satl_fleet.specs.Loop.{loop_state}
use Rattle.satl_fleet.specs.Rounds.{NoneCalls, RoundDone, RoundInPart, frame_calls, stage}
use Rattle.satl_fleet.specs.Serving.{target}
use Rattle.satl_fleet.specs.Units.{unit_states}
use Rattle.satl_step.proofs.LoopLemmas.{nearer}
use Rattle.satl_fleet.proofs.LoopLemmas.{can_route, ended, going_more, going_start, is_whole, part_more, refused}
use Rattle.satl_fleet.proofs.SpotLemmas.{length_states}
use Rattle.satl_fleet.proofs.TargetLemmas.{all_tied}
use Rattle.satl_fleet.proofs.frames_loop.serve_frames.Goals as goal

pub frames-init : goal.frames-init
frames-init g c = record {
  units = refl;
  drives = refl;
  serve = record { has = c.requires.opened.has; none = c.new-replies.ensures };
  number = c.requires.pool;
  all_in = c.requires.all_in;
  fresh = c.requires.fresh;
  going = going_start (vec_len c.args.units.now) (loop_state c.args.reader.now (g.S.Source.left c.args.source.now) (g.S.Source.waited c.args.source.now) (stage (target g.D.Drive.state c.args.units.now c.args.drives.now) (g.K.Sink.written c.args.sink.now)) c.args.steps.now) c.requires.unread c.requires.opened.idle;
  read_later = omega arith;
  write_later = omega arith;
}

pub serve_frame-requires-clause-can : goal.serve_frame-requires-clause-can
serve_frame-requires-clause-can g c =
    let pages : c.frames.pool.free ≡ 4096 = omega (arith, c.frames.invariant.number, c.frames.invariant.all_in) in
    can_route c.in-Ok.ensures.gave pages

pub frames-smaller : goal.frames-smaller
frames-smaller g c = nearer c.in-Ok.ensures.gave

pub returns-in-Err-serve_frame-clause-stopped : goal.returns-in-Err-serve_frame-clause-stopped
returns-in-Err-serve_frame-clause-stopped g c =
    let pages : c.frames.pool.free ≡ 4096 = omega (arith, c.frames.invariant.number, c.frames.invariant.all_in) in
    let allowed = ap (λ n. frame_calls n c.in-Ok.frame) c.frames.invariant.units in
    let uncalled = subst (λ n. NoneCalls n c.in-Ok.frame (target g.D.Drive.state c.frames.units c.frames.drives).units → c.serve_frame.new.steps ≡ c.frames.steps) c.frames.invariant.units c.serve_frame.ensures.uncalled in
    let has = c.frames.invariant.serve.has in
    let long = length_states g.D.Drive.state c.frames.units.items c.frames.drives.items (omega (arith, has.same, c.frames.units.ok.0, c.frames.drives.ok.0)) in
    part_more (vec_len c.args.units.now) (loop_state c.args.reader.now (g.S.Source.left c.args.source.now) (g.S.Source.waited c.args.source.now) (stage (target g.D.Drive.state c.args.units.now c.args.drives.now) (g.K.Sink.written c.args.sink.now)) c.args.steps.now) (loop_state c.frames.reader (g.S.Source.left c.frames.source) (g.S.Source.waited c.frames.source) (stage (target g.D.Drive.state c.frames.units c.frames.drives) (g.K.Sink.written c.frames.sink)) c.frames.steps) (loop_state c.next.new.self (g.S.Source.left c.next.new.source) (g.S.Source.waited c.next.new.source) (stage (target g.D.Drive.state c.serve_frame.new.units c.serve_frame.new.drives) (g.K.Sink.written c.serve_frame.new.sink)) c.serve_frame.new.steps) c.frames.pool.free c.in-Ok.frame c.frames.invariant.going c.in-Ok.ensures.gave (is_whole c.in-Ok.ensures.gave pages) (omega (arith, c.serve_frame.ensures.calls, allowed)) uncalled (omega (arith, long, c.frames.units.ok.0, c.frames.invariant.units)) (subst (λ n. RoundInPart n c.in-Ok.frame (stage (target g.D.Drive.state c.frames.units c.frames.drives) (g.K.Sink.written c.frames.sink)) (stage (target g.D.Drive.state c.serve_frame.new.units c.serve_frame.new.drives) (g.K.Sink.written c.serve_frame.new.sink))) c.frames.invariant.units c.in-Err-serve_frame.ensures.part) c.in-Ok.ensures.unwaited

pub returns-then-last-clause-ended : goal.returns-then-last-clause-ended
returns-then-last-clause-ended g c =
    let pages : c.frames.pool.free ≡ 4096 = omega (arith, c.frames.invariant.number, c.frames.invariant.all_in) in
    let allowed = ap (λ n. frame_calls n c.in-Ok.frame) c.frames.invariant.units in
    let uncalled = subst (λ n. NoneCalls n c.in-Ok.frame (target g.D.Drive.state c.frames.units c.frames.drives).units → c.serve_frame.new.steps ≡ c.frames.steps) c.frames.invariant.units c.serve_frame.ensures.uncalled in
    let has = c.frames.invariant.serve.has in
    let long = length_states g.D.Drive.state c.frames.units.items c.frames.drives.items (omega (arith, has.same, c.frames.units.ok.0, c.frames.drives.ok.0)) in
    ended (vec_len c.args.units.now) (loop_state c.args.reader.now (g.S.Source.left c.args.source.now) (g.S.Source.waited c.args.source.now) (stage (target g.D.Drive.state c.args.units.now c.args.drives.now) (g.K.Sink.written c.args.sink.now)) c.args.steps.now) (loop_state c.frames.reader (g.S.Source.left c.frames.source) (g.S.Source.waited c.frames.source) (stage (target g.D.Drive.state c.frames.units c.frames.drives) (g.K.Sink.written c.frames.sink)) c.frames.steps) (loop_state c.next.new.self (g.S.Source.left c.next.new.source) (g.S.Source.waited c.next.new.source) (stage (target g.D.Drive.state c.serve_frame.new.units c.serve_frame.new.drives) (g.K.Sink.written c.serve_frame.new.sink)) c.serve_frame.new.steps) c.frames.pool.free c.in-Ok.frame c.frames.invariant.going c.in-Ok.ensures.gave (is_whole c.in-Ok.ensures.gave pages) (omega (arith, c.serve_frame.ensures.calls, allowed)) uncalled (omega (arith, long, c.frames.units.ok.0, c.frames.invariant.units)) (subst (λ n. RoundDone n c.in-Ok.frame (stage (target g.D.Drive.state c.frames.units c.frames.drives) (g.K.Sink.written c.frames.sink)) (stage (target g.D.Drive.state c.serve_frame.new.units c.serve_frame.new.drives) (g.K.Sink.written c.serve_frame.new.sink))) c.frames.invariant.units c.in-Ok-serve_frame.ensures.done) (sym c.is_end-last.ensures ∙ c.if-last.true) c.in-Ok.ensures.unwaited

pub frames-preserved : goal.frames-preserved
frames-preserved g c =
    let pages : c.frames.pool.free ≡ 4096 = omega (arith, c.frames.invariant.number, c.frames.invariant.all_in) in
    let allowed = ap (λ n. frame_calls n c.in-Ok.frame) c.frames.invariant.units in
    let uncalled = subst (λ n. NoneCalls n c.in-Ok.frame (target g.D.Drive.state c.frames.units c.frames.drives).units → c.serve_frame.new.steps ≡ c.frames.steps) c.frames.invariant.units c.serve_frame.ensures.uncalled in
    let has = c.frames.invariant.serve.has in
    let long = length_states g.D.Drive.state c.frames.units.items c.frames.drives.items (omega (arith, has.same, c.frames.units.ok.0, c.frames.drives.ok.0)) in
    let new = c.in-Ok.ensures.gave.new_is in
    record {
      units = c.serve_frame.ensures.keeps.layers ∙ c.frames.invariant.units;
      drives = c.serve_frame.ensures.keeps.drives ∙ c.frames.invariant.drives;
      serve = c.in-Ok-serve_frame.ensures.ready;
      number = omega (arith, c.serve_frame.ensures.number, c.in-Ok.ensures.lent.free, c.in-Ok.ensures.lent.out, c.frames.invariant.number);
      all_in = c.in-Ok-serve_frame.ensures.all_in;
      fresh = ap (λ (r : Reading). r.refused) new ∙ c.frames.invariant.fresh;
      going = going_more (vec_len c.args.units.now) (loop_state c.args.reader.now (g.S.Source.left c.args.source.now) (g.S.Source.waited c.args.source.now) (stage (target g.D.Drive.state c.args.units.now c.args.drives.now) (g.K.Sink.written c.args.sink.now)) c.args.steps.now) (loop_state c.frames.reader (g.S.Source.left c.frames.source) (g.S.Source.waited c.frames.source) (stage (target g.D.Drive.state c.frames.units c.frames.drives) (g.K.Sink.written c.frames.sink)) c.frames.steps) (loop_state c.next.new.self (g.S.Source.left c.next.new.source) (g.S.Source.waited c.next.new.source) (stage (target g.D.Drive.state c.serve_frame.new.units c.serve_frame.new.drives) (g.K.Sink.written c.serve_frame.new.sink)) c.serve_frame.new.steps) c.frames.pool.free c.in-Ok.frame c.frames.invariant.going c.in-Ok.ensures.gave (is_whole c.in-Ok.ensures.gave pages) (omega (arith, c.serve_frame.ensures.calls, allowed)) uncalled (omega (arith, long, c.frames.units.ok.0, c.frames.invariant.units)) (subst (λ n. RoundDone n c.in-Ok.frame (stage (target g.D.Drive.state c.frames.units c.frames.drives) (g.K.Sink.written c.frames.sink)) (stage (target g.D.Drive.state c.serve_frame.new.units c.serve_frame.new.drives) (g.K.Sink.written c.serve_frame.new.sink))) c.frames.invariant.units c.in-Ok-serve_frame.ensures.done) (sym c.is_end-last.ensures ∙ c.if-last.false);
      read_later = omega (arith, c.frames.invariant.read_later, (c.in-Ok.ensures.causes c.frames.invariant.fresh).later);
      write_later = omega (arith, c.frames.invariant.write_later, c.serve_frame.ensures.cause.later);
    }

pub returns-in-Err-clause-stopped : goal.returns-in-Err-clause-stopped
returns-in-Err-clause-stopped g c =
    refused (vec_len c.args.units.now) (loop_state c.args.reader.now (g.S.Source.left c.args.source.now) (g.S.Source.waited c.args.source.now) (stage (target g.D.Drive.state c.args.units.now c.args.drives.now) (g.K.Sink.written c.args.sink.now)) c.args.steps.now) (loop_state c.frames.reader (g.S.Source.left c.frames.source) (g.S.Source.waited c.frames.source) (stage (target g.D.Drive.state c.frames.units c.frames.drives) (g.K.Sink.written c.frames.sink)) c.frames.steps) c.next.new.self (g.S.Source.left c.next.new.source) (g.S.Source.waited c.next.new.source) c.in-Err.fault c.frames.invariant.going (c.in-Err.ensures.blames c.frames.invariant.fresh) (c.in-Err.ensures.awaits c.frames.invariant.fresh)

pub returns-in-Err-clause-keeps : goal.returns-in-Err-clause-keeps
returns-in-Err-clause-keeps g c = record { tied = all_tied (unit_states c.frames.units.items (map g.D.Drive.state c.frames.drives.items)) c.frames.invariant.serve.has.ready; layers = c.frames.invariant.units; drives = c.frames.invariant.drives }

pub returns-in-Err-serve_frame-clause-keeps : goal.returns-in-Err-serve_frame-clause-keeps
returns-in-Err-serve_frame-clause-keeps g c = record { tied = c.serve_frame.ensures.keeps.tied; layers = c.serve_frame.ensures.keeps.layers ∙ c.frames.invariant.units; drives = c.serve_frame.ensures.keeps.drives ∙ c.frames.invariant.drives }

pub returns-then-last-clause-keeps : goal.returns-then-last-clause-keeps
returns-then-last-clause-keeps g c = record { tied = c.serve_frame.ensures.keeps.tied; layers = c.serve_frame.ensures.keeps.layers ∙ c.frames.invariant.units; drives = c.serve_frame.ensures.keeps.drives ∙ c.frames.invariant.drives }
