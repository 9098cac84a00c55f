use Rattle.std.proofs.Common.{arith, map, vec_len, sym, ◌∙◌}
use Rattle.std.proofs.lemmas.List.{length-map}
use Rattle.std.proofs.lemmas.Result.{IfErr-weaker, on_ok_weaker}
use Rattle.satl_base.specs.Limits.{input_limit}
use Rattle.satl_serve.specs.Moments.{sink_state, source_state}
use Rattle.satl_fleet.specs.Moments.{fleet_moment}
use Rattle.satl_fleet.proofs.FinalLemmas.{fleet_stops, fleet_whole, lacks_memory, no_memory, stream_cause}
use Rattle.satl_fleet.proofs.OpeningLemmas.{all_idle, all_ready}
use Rattle.satl_fleet.proofs.serving.serve_fleet.Goals as goal

pub returns-clause-served : goal.returns-clause-served
returns-clause-served g c =
    let olds = length-map c.args.drives.now.items g.D.Drive.state in
    let news = length-map c.serve_opened.new.drives.items g.D.Drive.state in
    on_ok_weaker c.serve_opened.result (λ r. fleet_whole input_limit (vec_len c.in_ok-units.units) (fleet_moment (source_state (g.S.Source.left c.args.source.now) (g.S.Source.waited c.args.source.now) (g.S.Source.faults c.args.source.now)) (sink_state (g.K.Sink.written c.args.sink.now) (g.K.Sink.faults c.args.sink.now)) c.args.steps.now (map g.D.Drive.state c.args.drives.now.items)) (fleet_moment (source_state (g.S.Source.left c.serve_opened.new.source) (g.S.Source.waited c.serve_opened.new.source) (g.S.Source.faults c.serve_opened.new.source)) (sink_state (g.K.Sink.written c.serve_opened.new.sink) (g.K.Sink.faults c.serve_opened.new.sink)) c.serve_opened.new.steps (map g.D.Drive.state c.serve_opened.new.drives.items)) (map g.D.Drive.state c.open_units.new.drives.items) c.open_units.new.steps c.in_ok-units.units.items c.serve_opened.new.units.items (vec_len c.open_units.new.drives) (vec_len c.serve_opened.new.units) (vec_len c.serve_opened.new.drives) c.in_ok-units.ensures.opened (omega (arith, c.open_units.ensures.calls, c.args.drives.now.ok.0, olds)) (omega (arith, c.in_ok-units.ensures.each, c.in_ok-units.units.ok.0, c.args.drives.now.ok.0, olds)) (omega (arith, c.serve_opened.ensures.keeps.layers, c.serve_opened.ensures.keeps.drives, c.open_units.ensures.drives, c.in_ok-units.ensures.each, c.serve_opened.new.units.ok.0, c.serve_opened.new.drives.ok.0, news)) (omega (arith, c.in_ok-units.ensures.each, c.args.drives.now.ok.0, olds)) c.serve_opened.ensures.keeps.tied r) c.serve_opened.ensures.whole

pub returns-clause-stopped : goal.returns-clause-stopped
returns-clause-stopped g c =
    let olds = length-map c.args.drives.now.items g.D.Drive.state in
    let news = length-map c.serve_opened.new.drives.items g.D.Drive.state in
    IfErr-weaker c.serve_opened.result _ _ (λ fault r. fleet_stops input_limit (vec_len c.in_ok-units.units) (fleet_moment (source_state (g.S.Source.left c.args.source.now) (g.S.Source.waited c.args.source.now) (g.S.Source.faults c.args.source.now)) (sink_state (g.K.Sink.written c.args.sink.now) (g.K.Sink.faults c.args.sink.now)) c.args.steps.now (map g.D.Drive.state c.args.drives.now.items)) (fleet_moment (source_state (g.S.Source.left c.serve_opened.new.source) (g.S.Source.waited c.serve_opened.new.source) (g.S.Source.faults c.serve_opened.new.source)) (sink_state (g.K.Sink.written c.serve_opened.new.sink) (g.K.Sink.faults c.serve_opened.new.sink)) c.serve_opened.new.steps (map g.D.Drive.state c.serve_opened.new.drives.items)) (map g.D.Drive.state c.open_units.new.drives.items) c.open_units.new.steps c.in_ok-units.units.items c.serve_opened.new.units.items (vec_len c.open_units.new.drives) (vec_len c.serve_opened.new.units) (vec_len c.serve_opened.new.drives) c.in_ok-units.ensures.opened (omega (arith, c.open_units.ensures.calls, c.args.drives.now.ok.0, olds)) (omega (arith, c.in_ok-units.ensures.each, c.in_ok-units.units.ok.0, c.args.drives.now.ok.0, olds)) (omega (arith, c.serve_opened.ensures.keeps.layers, c.serve_opened.ensures.keeps.drives, c.open_units.ensures.drives, c.in_ok-units.ensures.each, c.serve_opened.new.units.ok.0, c.serve_opened.new.drives.ok.0, news)) (omega (arith, c.in_ok-units.ensures.each, c.args.drives.now.ok.0, olds)) c.serve_opened.ensures.keeps.tied fault r) c.serve_opened.ensures.stopped

pub returns-clause-causes : goal.returns-clause-causes
returns-clause-causes g c = IfErr-weaker c.serve_opened.result _ _ (λ fault cause. stream_cause (fleet_moment (source_state (g.S.Source.left c.args.source.now) (g.S.Source.waited c.args.source.now) (g.S.Source.faults c.args.source.now)) (sink_state (g.K.Sink.written c.args.sink.now) (g.K.Sink.faults c.args.sink.now)) c.args.steps.now (map g.D.Drive.state c.args.drives.now.items)) (fleet_moment (source_state (g.S.Source.left c.serve_opened.new.source) (g.S.Source.waited c.serve_opened.new.source) (g.S.Source.faults c.serve_opened.new.source)) (sink_state (g.K.Sink.written c.serve_opened.new.sink) (g.K.Sink.faults c.serve_opened.new.sink)) c.serve_opened.new.steps (map g.D.Drive.state c.serve_opened.new.drives.items)) fault cause) c.serve_opened.ensures.causes

pub serve_opened-requires-clause-opened : goal.serve_opened-requires-clause-opened
serve_opened-requires-clause-opened g c = record {
  has = record {
    same = c.open_units.ensures.drives ∙ sym c.in_ok-units.ensures.each;
    some = omega (arith, c.in_ok-units.ensures.each, c.requires.some);
    few = omega (arith, c.in_ok-units.ensures.each, c.requires.few);
    ready = all_ready c.in_ok-units.ensures.opened;
  };
  idle = all_idle c.requires.free c.in_ok-units.ensures.opened;
}

pub returns-in_default-clause-stopped : goal.returns-in_default-clause-stopped
returns-in_default-clause-stopped g c = no_memory (fleet_moment (source_state (g.S.Source.left c.args.source.now) (g.S.Source.waited c.args.source.now) (g.S.Source.faults c.args.source.now)) (sink_state (g.K.Sink.written c.args.sink.now) (g.K.Sink.faults c.args.sink.now)) c.args.steps.now (map g.D.Drive.state c.args.drives.now.items))

pub returns-in_default-clause-causes : goal.returns-in_default-clause-causes
returns-in_default-clause-causes g c = lacks_memory (map g.D.Drive.state c.args.drives.now.items) (omega (arith, length-map c.args.drives.now.items g.D.Drive.state, c.requires.some, c.args.drives.now.ok.0))
