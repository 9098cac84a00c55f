use Rattle.std.proofs.Common.{arith}
use Rattle.satl_core.proofs.CountedLemmas.{tasks_seen}
use Rattle.satl_core.proofs.BenchingLemmas.{follows_fewer, happens, losses_counted, none_deeper, still_tied}
use Rattle.satl_core.proofs.satl.Satl.bench.Goals as goal

pub returns-clause-happens : goal.returns-clause-happens
returns-clause-happens g c = happens c.args.event.now c.args.self.now c.follow.new.self (g.D.Drive.state c.args.drive.now) (g.D.Drive.state c.act_on.new.drive) c.follow.new.replies c.requires.tied c.act_on.ensures.acted c.follow.ensures.follows

pub returns-clause-tied : goal.returns-clause-tied
returns-clause-tied g c = still_tied c.args.event.now c.args.self.now c.follow.new.self (g.D.Drive.state c.args.drive.now) (g.D.Drive.state c.act_on.new.drive) c.follow.new.replies c.act_on.ensures.acted c.follow.ensures.follows (c.act_on.ensures.fit c.requires.tied.agrees.fit) c.requires.tied

pub returns-clause-fewer : goal.returns-clause-fewer
returns-clause-fewer g c = follows_fewer c.args.event.now c.args.self.now c.follow.new.self c.follow.new.replies c.follow.ensures.follows

pub returns-clause-counted : goal.returns-clause-counted
returns-clause-counted g c = losses_counted c.args.event.now (g.D.Drive.state c.args.drive.now) (g.D.Drive.state c.act_on.new.drive) c.act_on.ensures.acted

pub follow-requires-clause-few : goal.follow-requires-clause-few
follow-requires-clause-few g c =
    let count = tasks_seen c.args.self.now.tasks in
    omega (arith, count, c.requires.tied.agrees.valid.few)

pub returns-clause-deep : goal.returns-clause-deep
returns-clause-deep g c = none_deeper c.args.event.now (g.D.Drive.state c.args.drive.now) (g.D.Drive.state c.act_on.new.drive) c.act_on.ensures.acted
