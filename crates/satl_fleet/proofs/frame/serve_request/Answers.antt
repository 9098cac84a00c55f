use Rattle.satl_io.specs.Known.{Wrote, WrotePart}
use Rattle.satl_frame.specs.Output.Answer.{replied}
use Rattle.satl_fleet.specs.Output.{named}
use Rattle.satl_fleet.specs.Target.{target_reply}
use Rattle.std.proofs.Common.{subst, ap, sym, vec_len, ◌∙◌, ◌∷◌, []}
use Rattle.std.proofs.lemmas.Result.{on_ok_weaker, on_err_weaker}
use Rattle.satl_fleet.specs.Routing.{route_to}
use Rattle.satl_fleet.specs.Rounds.{stage}
use Rattle.satl_fleet.specs.Serving.{target}
use Rattle.satl_fleet.proofs.TargetLemmas.{keeps_same}
use Rattle.satl_fleet.proofs.FrameLemmas.{report_round, report_round_part, request_one, request_one_part, request_uncalled}
use Rattle.satl_fleet.proofs.frame.serve_request.Goals as goal

pub returns-then-is_report-clause-done : goal.returns-then-is_report-clause-done
returns-then-is_report-clause-done g c =
    let said = sym c.is_report.ensures ∙ c.if-is_report.true in
    on_ok_weaker c.report.result (λ wrote. report_round (vec_len c.args.units.now) c.args.request said (target g.D.Drive.state c.args.units.now c.args.drives.now) (g.K.Sink.written c.args.sink.now) (g.K.Sink.written c.report.new.sink) (subst (λ n. Wrote (g.K.Sink.written c.args.sink.now) (g.K.Sink.written c.report.new.sink) (named 0 (replied (target_reply n c.args.request) ∷ []))) c.len-count.ensures wrote)) c.report.ensures.all

pub returns-then-is_report-clause-part : goal.returns-then-is_report-clause-part
returns-then-is_report-clause-part g c =
    let said = sym c.is_report.ensures ∙ c.if-is_report.true in
    on_err_weaker c.report.result (λ part. report_round_part (vec_len c.args.units.now) c.args.request said (target g.D.Drive.state c.args.units.now c.args.drives.now) (g.K.Sink.written c.args.sink.now) (g.K.Sink.written c.report.new.sink) (subst (λ n. WrotePart (g.K.Sink.written c.args.sink.now) (g.K.Sink.written c.report.new.sink) (named 0 (replied (target_reply n c.args.request) ∷ []))) c.len-count.ensures part)) c.report.ensures.part

pub returns-clause-done : goal.returns-clause-done
returns-clause-done g c =
    let other = sym c.is_report.ensures ∙ c.if-is_report.false in
    on_ok_weaker c.serve_request_at.result (λ d. request_one (vec_len c.args.units.now) c.args.request c.route_to-unit.result (c.route_to-unit.ensures ∙ ap (λ n. route_to n c.args.request.lun) c.len-count.ensures) other (stage (target g.D.Drive.state c.args.units.now c.args.drives.now) (g.K.Sink.written c.args.sink.now)) (stage (target g.D.Drive.state c.serve_request_at.new.units c.serve_request_at.new.drives) (g.K.Sink.written c.serve_request_at.new.sink)) d) c.serve_request_at.ensures.done

pub returns-clause-part : goal.returns-clause-part
returns-clause-part g c =
    let other = sym c.is_report.ensures ∙ c.if-is_report.false in
    on_err_weaker c.serve_request_at.result (λ d. request_one_part (vec_len c.args.units.now) c.args.request c.route_to-unit.result (c.route_to-unit.ensures ∙ ap (λ n. route_to n c.args.request.lun) c.len-count.ensures) other (stage (target g.D.Drive.state c.args.units.now c.args.drives.now) (g.K.Sink.written c.args.sink.now)) (stage (target g.D.Drive.state c.serve_request_at.new.units c.serve_request_at.new.drives) (g.K.Sink.written c.serve_request_at.new.sink)) d) c.serve_request_at.ensures.part

pub returns-then-is_report-clause-keeps : goal.returns-then-is_report-clause-keeps
returns-then-is_report-clause-keeps g c = keeps_same (target g.D.Drive.state c.args.units.now c.args.drives.now) c.requires.serve.has

pub returns-clause-uncalled : goal.returns-clause-uncalled
returns-clause-uncalled g c =
    let other = sym c.is_report.ensures ∙ c.if-is_report.false in
    λ none. c.serve_request_at.ensures.uncalled (request_uncalled (vec_len c.args.units.now) c.args.request c.route_to-unit.result (c.route_to-unit.ensures ∙ ap (λ n. route_to n c.args.request.lun) c.len-count.ensures) other (stage (target g.D.Drive.state c.args.units.now c.args.drives.now) (g.K.Sink.written c.args.sink.now)) (stage (target g.D.Drive.state c.args.units.now c.args.drives.now) (g.K.Sink.written c.args.sink.now)) none)
