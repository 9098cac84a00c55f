use Rattle.std.proofs.Common.{ap, refl, sym, vec_len, ◌∙◌}
use Rattle.std.proofs.lemmas.Result.{on_ok_weaker, on_err_weaker}
use Rattle.satl_frame.specs.declared.frames.Frame.TheVariants as frames
use Rattle.satl_fleet.specs.Routing.{lun_0, route_to}
use Rattle.satl_fleet.specs.Rounds.{stage}
use Rattle.satl_fleet.specs.Serving.{target}
use Rattle.satl_fleet.proofs.FrameLemmas.{all_round, all_round_part, manage_all, manage_one, manage_one_part, manage_uncalled, none_all}
use Rattle.satl_fleet.proofs.frame.serve_manage.Goals as goal

pub returns-then-is_for_all-clause-done : goal.returns-then-is_for_all-clause-done
returns-then-is_for_all-clause-done g c =
    let said = sym c.is_for_all.ensures ∙ c.if-is_for_all.true in
    on_ok_weaker c.serve_all.result (λ all. all_round (vec_len c.args.units.now) (frames.Manage c.args.manage) refl refl (frames.Manage (record c.args.manage { lun = lun_0 })) (stage (target g.D.Drive.state c.args.units.now c.args.drives.now) (g.K.Sink.written c.args.sink.now)) (stage (target g.D.Drive.state c.serve_all.new.units c.serve_all.new.drives) (g.K.Sink.written c.serve_all.new.sink)) (manage_all (vec_len c.args.units.now) c.args.manage said) all) c.serve_all.ensures.done

pub returns-then-is_for_all-clause-part : goal.returns-then-is_for_all-clause-part
returns-then-is_for_all-clause-part g c =
    let said = sym c.is_for_all.ensures ∙ c.if-is_for_all.true in
    on_err_weaker c.serve_all.result (λ all. all_round_part (vec_len c.args.units.now) (frames.Manage c.args.manage) refl refl (frames.Manage (record c.args.manage { lun = lun_0 })) (stage (target g.D.Drive.state c.args.units.now c.args.drives.now) (g.K.Sink.written c.args.sink.now)) (stage (target g.D.Drive.state c.serve_all.new.units c.serve_all.new.drives) (g.K.Sink.written c.serve_all.new.sink)) (manage_all (vec_len c.args.units.now) c.args.manage said) all) c.serve_all.ensures.part

pub returns-clause-done : goal.returns-clause-done
returns-clause-done g c =
    let one = sym c.is_for_all.ensures ∙ c.if-is_for_all.false in
    on_ok_weaker c.serve_at.result (λ d. manage_one (vec_len c.args.units.now) c.args.manage c.route_to-unit.result (c.route_to-unit.ensures ∙ ap (λ n. route_to n c.args.manage.lun) c.len.ensures) one (stage (target g.D.Drive.state c.args.units.now c.args.drives.now) (g.K.Sink.written c.args.sink.now)) (stage (target g.D.Drive.state c.serve_at.new.units c.serve_at.new.drives) (g.K.Sink.written c.serve_at.new.sink)) d) c.serve_at.ensures.done

pub returns-clause-part : goal.returns-clause-part
returns-clause-part g c =
    let one = sym c.is_for_all.ensures ∙ c.if-is_for_all.false in
    on_err_weaker c.serve_at.result (λ d. manage_one_part (vec_len c.args.units.now) c.args.manage c.route_to-unit.result (c.route_to-unit.ensures ∙ ap (λ n. route_to n c.args.manage.lun) c.len.ensures) one (stage (target g.D.Drive.state c.args.units.now c.args.drives.now) (g.K.Sink.written c.args.sink.now)) (stage (target g.D.Drive.state c.serve_at.new.units c.serve_at.new.drives) (g.K.Sink.written c.serve_at.new.sink)) d) c.serve_at.ensures.part

pub returns-then-is_for_all-clause-uncalled : goal.returns-then-is_for_all-clause-uncalled
returns-then-is_for_all-clause-uncalled g c =
    let said = sym c.is_for_all.ensures ∙ c.if-is_for_all.true in
    λ none. c.serve_all.ensures.uncalled (none_all (vec_len c.args.units.now) (frames.Manage c.args.manage) (frames.Manage (record c.args.manage { lun = lun_0 })) (target g.D.Drive.state c.args.units.now c.args.drives.now).units (manage_all (vec_len c.args.units.now) c.args.manage said) none)

pub returns-clause-uncalled : goal.returns-clause-uncalled
returns-clause-uncalled g c =
    let one = sym c.is_for_all.ensures ∙ c.if-is_for_all.false in
    λ none. c.serve_at.ensures.uncalled (manage_uncalled (vec_len c.args.units.now) c.args.manage c.route_to-unit.result (c.route_to-unit.ensures ∙ ap (λ n. route_to n c.args.manage.lun) c.len.ensures) one (stage (target g.D.Drive.state c.args.units.now c.args.drives.now) (g.K.Sink.written c.args.sink.now)) (stage (target g.D.Drive.state c.args.units.now c.args.drives.now) (g.K.Sink.written c.args.sink.now)) none)
