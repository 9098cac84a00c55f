use Rattle.std.proofs.Common.{vec_len}
use Rattle.std.proofs.lemmas.Result.{on_ok_weaker, on_err_weaker}
use Rattle.satl_fleet.specs.Rounds.{stage}
use Rattle.satl_fleet.specs.Shared.{frame_of}
use Rattle.satl_fleet.specs.Serving.{target}
use Rattle.satl_fleet.proofs.FrameLemmas.{all_round, all_round_part, none_all, turn_goes_on, turn_quiet, turn_seen}
use Rattle.satl_fleet.proofs.frame.serve_shared.Goals as goal

pub returns-clause-done : goal.returns-clause-done
returns-clause-done g c =
    on_ok_weaker c.serve_all.result (λ all. all_round (vec_len c.args.units.now) (frame_of c.args.event.now) (turn_quiet (vec_len c.args.units.now) (frame_of c.args.event.now) c.requires.plain) (turn_goes_on (frame_of c.args.event.now) c.requires.plain) (frame_of c.args.event.now) (stage (target g.D.Drive.state c.args.units.now c.args.drives.now) (g.K.Sink.written c.args.sink.now)) (stage (target g.D.Drive.state c.serve_all.new.units c.serve_all.new.drives) (g.K.Sink.written c.serve_all.new.sink)) (turn_seen (vec_len c.args.units.now) (frame_of c.args.event.now) c.requires.plain) all) c.serve_all.ensures.done

pub returns-clause-part : goal.returns-clause-part
returns-clause-part g c =
    on_err_weaker c.serve_all.result (λ all. all_round_part (vec_len c.args.units.now) (frame_of c.args.event.now) (turn_quiet (vec_len c.args.units.now) (frame_of c.args.event.now) c.requires.plain) (turn_goes_on (frame_of c.args.event.now) c.requires.plain) (frame_of c.args.event.now) (stage (target g.D.Drive.state c.args.units.now c.args.drives.now) (g.K.Sink.written c.args.sink.now)) (stage (target g.D.Drive.state c.serve_all.new.units c.serve_all.new.drives) (g.K.Sink.written c.serve_all.new.sink)) (turn_seen (vec_len c.args.units.now) (frame_of c.args.event.now) c.requires.plain) all) c.serve_all.ensures.part

pub returns-clause-uncalled : goal.returns-clause-uncalled
returns-clause-uncalled g c = λ none. c.serve_all.ensures.uncalled (none_all (vec_len c.args.units.now) (frame_of c.args.event.now) (frame_of c.args.event.now) (target g.D.Drive.state c.args.units.now c.args.drives.now).units (turn_seen (vec_len c.args.units.now) (frame_of c.args.event.now) c.requires.plain) none)
