use Rattle.std.proofs.Common.{arith, ap, length, vec_len}
use Rattle.satl_frame.specs.declared.frames.Frame.TheVariants as frames
use Rattle.satl_core.specs.Layer.{Layer}
use Rattle.satl_core.specs.Turning.{turn_calls}
use Rattle.satl_step.specs.Runs.{calls_of}
use Rattle.std.proofs.lemmas.Result.{on_ok_weaker, on_err_weaker}
use Rattle.satl_base.proofs.OutcomeLemmas.{on_both}
use Rattle.satl_step.proofs.TallyLemmas.{tied_lent}
use Rattle.satl_fleet.proofs.EventLemmas.{calls_there, did_at, did_at_in_part, none_here, ready_here, serves_there, keeps_there, unit_did_in_part_lent, unit_did_lent}
use Rattle.satl_fleet.specs.Units.{unit_state}
use Rattle.satl_fleet.proofs.event.serve_request_at.Goals as goal

pub lend-lent-requires-clause-all_in : goal.lend-lent-requires-clause-all_in
lend-lent-requires-clause-all_in g c = (ready_here g.D.Drive.state c.args.units.now.items c.args.drives.now.items c.args.k c.index_mut-satl.result.now c.index_mut-drive.result.now (omega (arith, c.requires.within, c.args.units.now.ok.0)) (omega (arith, c.requires.within, c.requires.serve.has.same, c.args.drives.now.ok.0)) c.index_mut-satl.ensures.value c.index_mut-drive.ensures.value c.requires.serve.has.ready).all_in

pub serve_unit-requires : goal.serve_unit-requires
serve_unit-requires g c = record {
  can = record {
    tied = tied_lent c.index_mut-satl.result.now c.lend-lent.new.satl (g.D.Drive.state c.index_mut-drive.result.now) c.lend-lent.ensures.rest (ready_here g.D.Drive.state c.args.units.now.items c.args.drives.now.items c.args.k c.index_mut-satl.result.now c.index_mut-drive.result.now (omega (arith, c.requires.within, c.args.units.now.ok.0)) (omega (arith, c.requires.within, c.requires.serve.has.same, c.args.drives.now.ok.0)) c.index_mut-satl.ensures.value c.index_mut-drive.ensures.value c.requires.serve.has.ready).tied.tied;
    can = c.lend-lent.ensures.can;
    none = c.requires.serve.none;
  };
}

pub returns-clause-done : goal.returns-clause-done
returns-clause-done g c = on_ok_weaker c.serve_unit.result (λ u. did_at g.D.Drive.state c.args.units.now.items c.args.drives.now.items c.args.k c.index_mut-satl.result.now c.index_mut-drive.result.now (omega (arith, c.requires.within, c.args.units.now.ok.0)) (omega (arith, c.requires.within, c.requires.serve.has.same, c.args.drives.now.ok.0)) c.index_mut-satl.ensures.value c.index_mut-drive.ensures.value c.serve_unit.new.satl c.serve_unit.new.drive (vec_len c.args.units.now) (vec_len c.args.drives.now) (frames.Request c.args.request) (g.K.Sink.written c.args.sink.now) (g.K.Sink.written c.serve_unit.new.sink) (unit_did_lent c.index_mut-satl.result.now c.lend-lent.new.satl (g.D.Drive.state c.index_mut-drive.result.now) c.lend-lent.ensures.rest c.args.k (frames.Request c.args.request) (unit_state c.serve_unit.new.satl (g.D.Drive.state c.serve_unit.new.drive)) (g.K.Sink.written c.args.sink.now) (g.K.Sink.written c.serve_unit.new.sink) u)) (c.serve_unit.ensures.done (frames.Request c.args.request) c.lend-lent.ensures.cut)

pub returns-clause-part : goal.returns-clause-part
returns-clause-part g c = on_err_weaker c.serve_unit.result (λ u. did_at_in_part g.D.Drive.state c.args.units.now.items c.args.drives.now.items c.args.k c.index_mut-satl.result.now c.index_mut-drive.result.now (omega (arith, c.requires.within, c.args.units.now.ok.0)) (omega (arith, c.requires.within, c.requires.serve.has.same, c.args.drives.now.ok.0)) c.index_mut-satl.ensures.value c.index_mut-drive.ensures.value c.serve_unit.new.satl c.serve_unit.new.drive (vec_len c.args.units.now) (vec_len c.args.drives.now) (frames.Request c.args.request) (g.K.Sink.written c.args.sink.now) (g.K.Sink.written c.serve_unit.new.sink) (unit_did_in_part_lent c.index_mut-satl.result.now c.lend-lent.new.satl (g.D.Drive.state c.index_mut-drive.result.now) c.lend-lent.ensures.rest c.args.k (frames.Request c.args.request) (unit_state c.serve_unit.new.satl (g.D.Drive.state c.serve_unit.new.drive)) (g.K.Sink.written c.args.sink.now) (g.K.Sink.written c.serve_unit.new.sink) u)) (c.serve_unit.ensures.part (frames.Request c.args.request) c.lend-lent.ensures.cut)

pub returns-clause-ready : goal.returns-clause-ready
returns-clause-ready g c = on_both c.serve_unit.result _ _ _ (λ all_in none. serves_there g.D.Drive.state c.args.units.now.items c.args.drives.now.items c.args.k c.index_mut-satl.result.now c.index_mut-drive.result.now (omega (arith, c.requires.within, c.args.units.now.ok.0)) (omega (arith, c.requires.within, c.requires.serve.has.same, c.args.drives.now.ok.0)) c.index_mut-satl.ensures.value c.index_mut-drive.ensures.value c.serve_unit.new.satl c.serve_unit.new.drive (vec_len c.args.units.now) (vec_len c.args.drives.now) c.serve_unit.new.replies c.requires.serve.has c.serve_unit.ensures.tied all_in none) c.serve_unit.ensures.all_in c.serve_unit.ensures.none

pub returns-clause-keeps : goal.returns-clause-keeps
returns-clause-keeps g c = keeps_there g.D.Drive.state c.args.units.now.items c.args.drives.now.items c.args.k c.index_mut-satl.result.now c.index_mut-drive.result.now (omega (arith, c.requires.within, c.args.units.now.ok.0)) (omega (arith, c.requires.within, c.requires.serve.has.same, c.args.drives.now.ok.0)) c.index_mut-satl.ensures.value c.index_mut-drive.ensures.value c.serve_unit.new.satl c.serve_unit.new.drive (vec_len c.args.units.now) (vec_len c.args.drives.now) c.requires.serve.has.ready c.serve_unit.ensures.tied

pub returns-clause-calls : goal.returns-clause-calls
returns-clause-calls g c =
    let tasks = ap (λ (x : Layer). length x.tasks) c.lend-lent.ensures.rest in
    calls_there g.D.Drive.state c.args.units.now.items c.args.drives.now.items c.args.k c.index_mut-satl.result.now c.index_mut-drive.result.now (omega (arith, c.requires.within, c.args.units.now.ok.0)) (omega (arith, c.requires.within, c.requires.serve.has.same, c.args.drives.now.ok.0)) c.index_mut-satl.ensures.value c.index_mut-drive.ensures.value c.serve_unit.new.satl c.serve_unit.new.drive turn_calls c.args.steps.now c.serve_unit.new.steps (calls_of (frames.Request c.args.request)) (omega (arith, c.serve_unit.ensures.calls, tasks))

pub returns-clause-uncalled : goal.returns-clause-uncalled
returns-clause-uncalled g c = λ none. c.serve_unit.ensures.uncalled (none_here g.D.Drive.state c.args.units.now.items c.args.drives.now.items c.args.k c.index_mut-satl.result.now c.index_mut-drive.result.now (omega (arith, c.requires.within, c.args.units.now.ok.0)) (omega (arith, c.requires.within, c.requires.serve.has.same, c.args.drives.now.ok.0)) c.index_mut-satl.ensures.value c.index_mut-drive.ensures.value (frames.Request c.args.request) none)
