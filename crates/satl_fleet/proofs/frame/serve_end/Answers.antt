use Rattle.std.proofs.Common.{vec_len}
use Rattle.std.proofs.lemmas.Result.{on_ok_weaker, on_err_weaker}
use Rattle.satl_base.proofs.OutcomeLemmas.{any_err}
use Rattle.satl_fleet.specs.Rounds.{stage}
use Rattle.satl_fleet.specs.Serving.{target}
use Rattle.satl_fleet.proofs.FrameLemmas.{end_round, end_round_cut, end_round_part}
use Rattle.satl_fleet.proofs.frame.serve_end.Goals as goal

pub returns-in_err-serve_all-clause-part : goal.returns-in_err-serve_all-clause-part
returns-in_err-serve_all-clause-part g c = any_err c.from_residual.result _ (end_round_cut (vec_len c.args.units.now) (stage (target g.D.Drive.state c.args.units.now c.args.drives.now) (g.K.Sink.written c.args.sink.now)) (stage (target g.D.Drive.state c.serve_all.new.units c.serve_all.new.drives) (g.K.Sink.written c.serve_all.new.sink)) c.in_err-serve_all.ensures.part)

pub returns-clause-done : goal.returns-clause-done
returns-clause-done g c = on_ok_weaker c.write_frame.result (λ wrote. end_round (vec_len c.args.units.now) (stage (target g.D.Drive.state c.args.units.now c.args.drives.now) (g.K.Sink.written c.args.sink.now)) (stage (target g.D.Drive.state c.serve_all.new.units c.serve_all.new.drives) (g.K.Sink.written c.serve_all.new.sink)) (g.K.Sink.written c.write_frame.new.sink) c.in_ok-serve_all.ensures.done wrote) c.write_frame.ensures.all

pub returns-clause-part : goal.returns-clause-part
returns-clause-part g c = on_err_weaker c.write_frame.result (λ part. end_round_part (vec_len c.args.units.now) (stage (target g.D.Drive.state c.args.units.now c.args.drives.now) (g.K.Sink.written c.args.sink.now)) (stage (target g.D.Drive.state c.serve_all.new.units c.serve_all.new.drives) (g.K.Sink.written c.serve_all.new.sink)) (g.K.Sink.written c.write_frame.new.sink) c.in_ok-serve_all.ensures.done part) c.write_frame.ensures.part

pub returns-clause-uncalled : goal.returns-clause-uncalled
returns-clause-uncalled g c = λ none. c.serve_all.ensures.uncalled (λ k. (none k).0)

pub returns-in_err-serve_all-clause-uncalled : goal.returns-in_err-serve_all-clause-uncalled
returns-in_err-serve_all-clause-uncalled g c = λ none. c.serve_all.ensures.uncalled (λ k. (none k).0)
