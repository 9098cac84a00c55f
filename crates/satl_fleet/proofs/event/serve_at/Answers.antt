use Rattle.std.proofs.Common.{arith, ap, subst, vec_len, ◌≡◌}
use Rattle.satl_core.specs.Layer.{view}
use Rattle.satl_core.specs.Turning.{turn_calls}
use Rattle.satl_step.specs.Events.{CallsNone}
use Rattle.satl_step.specs.Runs.{calls_of}
use Rattle.std.proofs.lemmas.Result.{on_ok_weaker, on_err_weaker}
use Rattle.satl_base.proofs.OutcomeLemmas.{on_both}
use Rattle.satl_fleet.proofs.EventLemmas.{calls_there, did_at, did_at_in_part, none_here, ready_here, serves_there, keeps_there}
use Rattle.satl_fleet.proofs.SharedLemmas.{can_take_again, whole_again}
use Rattle.satl_fleet.specs.Shared.{frame_of}
use Rattle.satl_fleet.proofs.event.serve_at.Goals as goal

pub serve_unit-requires : goal.serve_unit-requires
serve_unit-requires g c = record {
  can = record {
    tied = (ready_here g.D.Drive.state c.args.units.now.items c.args.drives.now.items c.args.k c.index_mut-satl.result.now c.index_mut-drive.result.now (omega (arith, c.requires.within, c.args.units.now.ok.0)) (omega (arith, c.requires.within, c.requires.serve.has.same, c.args.drives.now.ok.0)) c.index_mut-satl.ensures.value c.index_mut-drive.ensures.value c.requires.serve.has.ready).tied.tied;
    can = can_take_again c.args.event.now c.index_mut-satl.result.now.free c.index_mut-satl.result.now.out c.again-frame.result c.again-frame.ensures (ready_here g.D.Drive.state c.args.units.now.items c.args.drives.now.items c.args.k c.index_mut-satl.result.now c.index_mut-drive.result.now (omega (arith, c.requires.within, c.args.units.now.ok.0)) (omega (arith, c.requires.within, c.requires.serve.has.same, c.args.drives.now.ok.0)) c.index_mut-satl.ensures.value c.index_mut-drive.ensures.value c.requires.serve.has.ready).all_in;
    none = c.requires.serve.none;
  };
}

pub returns-clause-done : goal.returns-clause-done
returns-clause-done g c = on_ok_weaker c.serve_unit.result (λ u. did_at g.D.Drive.state c.args.units.now.items c.args.drives.now.items c.args.k c.index_mut-satl.result.now c.index_mut-drive.result.now (omega (arith, c.requires.within, c.args.units.now.ok.0)) (omega (arith, c.requires.within, c.requires.serve.has.same, c.args.drives.now.ok.0)) c.index_mut-satl.ensures.value c.index_mut-drive.ensures.value c.serve_unit.new.satl c.serve_unit.new.drive (vec_len c.args.units.now) (vec_len c.args.drives.now) (frame_of c.args.event.now) (g.K.Sink.written c.args.sink.now) (g.K.Sink.written c.serve_unit.new.sink) u) (c.serve_unit.ensures.done (frame_of c.args.event.now) (whole_again c.args.event.now c.again-frame.result c.again-frame.ensures))

pub returns-clause-part : goal.returns-clause-part
returns-clause-part g c = on_err_weaker c.serve_unit.result (λ u. did_at_in_part g.D.Drive.state c.args.units.now.items c.args.drives.now.items c.args.k c.index_mut-satl.result.now c.index_mut-drive.result.now (omega (arith, c.requires.within, c.args.units.now.ok.0)) (omega (arith, c.requires.within, c.requires.serve.has.same, c.args.drives.now.ok.0)) c.index_mut-satl.ensures.value c.index_mut-drive.ensures.value c.serve_unit.new.satl c.serve_unit.new.drive (vec_len c.args.units.now) (vec_len c.args.drives.now) (frame_of c.args.event.now) (g.K.Sink.written c.args.sink.now) (g.K.Sink.written c.serve_unit.new.sink) u) (c.serve_unit.ensures.part (frame_of c.args.event.now) (whole_again c.args.event.now c.again-frame.result c.again-frame.ensures))

pub returns-clause-ready : goal.returns-clause-ready
returns-clause-ready g c = on_both c.serve_unit.result _ _ _ (λ all_in none. serves_there g.D.Drive.state c.args.units.now.items c.args.drives.now.items c.args.k c.index_mut-satl.result.now c.index_mut-drive.result.now (omega (arith, c.requires.within, c.args.units.now.ok.0)) (omega (arith, c.requires.within, c.requires.serve.has.same, c.args.drives.now.ok.0)) c.index_mut-satl.ensures.value c.index_mut-drive.ensures.value c.serve_unit.new.satl c.serve_unit.new.drive (vec_len c.args.units.now) (vec_len c.args.drives.now) c.serve_unit.new.replies c.requires.serve.has c.serve_unit.ensures.tied all_in none) c.serve_unit.ensures.all_in c.serve_unit.ensures.none

pub returns-clause-keeps : goal.returns-clause-keeps
returns-clause-keeps g c = keeps_there g.D.Drive.state c.args.units.now.items c.args.drives.now.items c.args.k c.index_mut-satl.result.now c.index_mut-drive.result.now (omega (arith, c.requires.within, c.args.units.now.ok.0)) (omega (arith, c.requires.within, c.requires.serve.has.same, c.args.drives.now.ok.0)) c.index_mut-satl.ensures.value c.index_mut-drive.ensures.value c.serve_unit.new.satl c.serve_unit.new.drive (vec_len c.args.units.now) (vec_len c.args.drives.now) c.requires.serve.has.ready c.serve_unit.ensures.tied

pub returns-clause-calls : goal.returns-clause-calls
returns-clause-calls g c =
    let allowed = ap calls_of c.again-frame.ensures in
    calls_there g.D.Drive.state c.args.units.now.items c.args.drives.now.items c.args.k c.index_mut-satl.result.now c.index_mut-drive.result.now (omega (arith, c.requires.within, c.args.units.now.ok.0)) (omega (arith, c.requires.within, c.requires.serve.has.same, c.args.drives.now.ok.0)) c.index_mut-satl.ensures.value c.index_mut-drive.ensures.value c.serve_unit.new.satl c.serve_unit.new.drive turn_calls c.args.steps.now c.serve_unit.new.steps (calls_of (frame_of c.args.event.now)) (omega (arith, c.serve_unit.ensures.calls, allowed))

pub returns-clause-uncalled : goal.returns-clause-uncalled
returns-clause-uncalled g c = λ none.
    subst (λ e. CallsNone e (view c.index_mut-satl.result.now (g.D.Drive.state c.index_mut-drive.result.now)) → c.serve_unit.new.steps ≡ c.args.steps.now) c.again-frame.ensures c.serve_unit.ensures.uncalled
    (none_here g.D.Drive.state c.args.units.now.items c.args.drives.now.items c.args.k c.index_mut-satl.result.now c.index_mut-drive.result.now (omega (arith, c.requires.within, c.args.units.now.ok.0)) (omega (arith, c.requires.within, c.requires.serve.has.same, c.args.drives.now.ok.0)) c.index_mut-satl.ensures.value c.index_mut-drive.ensures.value (frame_of c.args.event.now) none)
