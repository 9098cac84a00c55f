use Rattle.std.proofs.Common.{subst, vec_len}
use Rattle.satl_fleet.specs.Rounds.{NoneCalls}
use Rattle.satl_fleet.specs.Serving.{target}
use Rattle.satl_fleet.proofs.frame.serve_frame.Goals as goal

pub returns-in-Request-clause-uncalled : goal.returns-in-Request-clause-uncalled
returns-in-Request-clause-uncalled g c = λ none. c.serve_request.ensures.uncalled (subst (λ f. NoneCalls (vec_len c.args.units.now) f (target g.D.Drive.state c.args.units.now c.args.drives.now).units) c.in-Request.is none)

pub returns-in-Manage-clause-uncalled : goal.returns-in-Manage-clause-uncalled
returns-in-Manage-clause-uncalled g c = λ none. c.serve_manage.ensures.uncalled (subst (λ f. NoneCalls (vec_len c.args.units.now) f (target g.D.Drive.state c.args.units.now c.args.drives.now).units) c.in-Manage.is none)

pub returns-in-Turn-clause-uncalled : goal.returns-in-Turn-clause-uncalled
returns-in-Turn-clause-uncalled g c = λ none. c.serve_shared.ensures.uncalled (subst (λ f. NoneCalls (vec_len c.args.units.now) f (target g.D.Drive.state c.args.units.now c.args.drives.now).units) c.in-Turn.is none)

pub returns-in-End-clause-uncalled : goal.returns-in-End-clause-uncalled
returns-in-End-clause-uncalled g c = λ none. c.serve_end.ensures.uncalled (subst (λ f. NoneCalls (vec_len c.args.units.now) f (target g.D.Drive.state c.args.units.now c.args.drives.now).units) c.in-End.is none)
