use Rattle.std.proofs.Common.{arith, refl, ◌∙◌, map}
use Rattle.std.proofs.Common.{add-mul}
use Rattle.satl_step.specs.Runs.{calls_of}
use Rattle.satl_base.proofs.OutcomeLemmas.{any_err}
use Rattle.satl_fleet.specs.Rounds.{stage}
use Rattle.satl_fleet.specs.Serving.{target}
use Rattle.satl_fleet.specs.Shared.{frame_of}
use Rattle.satl_fleet.specs.Units.{unit_states}
use Rattle.satl_fleet.proofs.RoundLemmas.{done_all, done_next, done_none, done_part, none_left}
use Rattle.satl_fleet.proofs.SpotLemmas.{length_states}
use Rattle.satl_fleet.proofs.TargetLemmas.{all_tied}
use Rattle.satl_fleet.proofs.frame.serve_all.Goals as goal

pub loop-k-init : goal.loop-k-init
loop-k-init g c = record {
  units = refl;
  drives = refl;
  serve = c.requires.serve;
  done = done_none (frame_of c.args.event.now) (stage (target g.D.Drive.state c.args.units.now c.args.drives.now) (g.K.Sink.written c.args.sink.now));
  calls = omega arith;
  uncalled = λ none. refl;
  later = omega arith;
}

pub loop-k-preserved : goal.loop-k-preserved
loop-k-preserved g c =
    let product = add-mul c.loop-k.k 1 (calls_of (frame_of c.args.event.now)) in
    record {
      units = c.serve_at.ensures.keeps.layers ∙ c.loop-k.invariant.units;
      drives = c.serve_at.ensures.keeps.drives ∙ c.loop-k.invariant.drives;
      serve = c.in_ok-serve_at.ensures.ready;
      done = done_next (frame_of c.args.event.now) c.loop-k.k _ (stage (target g.D.Drive.state c.loop-k.units c.loop-k.drives) (g.K.Sink.written c.loop-k.sink)) (stage (target g.D.Drive.state c.serve_at.new.units c.serve_at.new.drives) (g.K.Sink.written c.serve_at.new.sink)) c.loop-k.invariant.done c.in_ok-serve_at.ensures.done;
      calls = omega (arith, c.loop-k.invariant.calls, c.serve_at.ensures.calls, product);
      uncalled = λ none. c.serve_at.ensures.uncalled (none_left c.loop-k.invariant.done none) ∙ c.loop-k.invariant.uncalled none;
      later = omega (arith, c.loop-k.invariant.later, c.serve_at.ensures.cause.later);
    }

pub returns-in_err-serve_at-clause-part : goal.returns-in_err-serve_at-clause-part
returns-in_err-serve_at-clause-part g c = any_err c.from_residual.result _ (done_part (frame_of c.args.event.now) c.loop-k.k _ (stage (target g.D.Drive.state c.loop-k.units c.loop-k.drives) (g.K.Sink.written c.loop-k.sink)) (stage (target g.D.Drive.state c.serve_at.new.units c.serve_at.new.drives) (g.K.Sink.written c.serve_at.new.sink)) c.loop-k.invariant.done c.in_err-serve_at.ensures.part)

pub returns-clause-done : goal.returns-clause-done
returns-clause-done g c =
    let long = length_states g.D.Drive.state c.args.units.now.items c.args.drives.now.items (omega (arith, c.requires.serve.has.same, c.args.units.now.ok.0, c.args.drives.now.ok.0)) in
    done_all (frame_of c.args.event.now) c.loop-k.k (stage (target g.D.Drive.state c.args.units.now c.args.drives.now) (g.K.Sink.written c.args.sink.now)) (stage (target g.D.Drive.state c.loop-k.units c.loop-k.drives) (g.K.Sink.written c.loop-k.sink)) (omega (arith, long, c.args.units.now.ok.0, c.loop-k-test.false)) c.loop-k.invariant.done

pub returns-clause-keeps : goal.returns-clause-keeps
returns-clause-keeps g c = record { tied = all_tied (unit_states c.loop-k.units.items (map g.D.Drive.state c.loop-k.drives.items)) c.loop-k.invariant.serve.has.ready; layers = c.loop-k.invariant.units; drives = c.loop-k.invariant.drives }

pub returns-in_err-serve_at-clause-keeps : goal.returns-in_err-serve_at-clause-keeps
returns-in_err-serve_at-clause-keeps g c = record { tied = c.serve_at.ensures.keeps.tied; layers = c.serve_at.ensures.keeps.layers ∙ c.loop-k.invariant.units; drives = c.serve_at.ensures.keeps.drives ∙ c.loop-k.invariant.drives }

pub returns-in_err-serve_at-clause-uncalled : goal.returns-in_err-serve_at-clause-uncalled
returns-in_err-serve_at-clause-uncalled g c = λ none. c.serve_at.ensures.uncalled (none_left c.loop-k.invariant.done none) ∙ c.loop-k.invariant.uncalled none
