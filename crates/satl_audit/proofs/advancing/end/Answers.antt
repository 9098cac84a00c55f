use Rattle.std.proofs.Common.{refl, subst, Bool}
use Rattle.satl_audit.specs.Finishing.{Turns}
use Rattle.satl_audit.specs.Progress.{recorded, progress}
use Rattle.satl_audit.proofs.LastLemmas.{end_passes, end_stops}
use Rattle.satl_audit.proofs.advancing.end.Goals as goal

pub returns-then-not-branch-clause-advances : goal.returns-then-not-branch-clause-advances
returns-then-not-branch-clause-advances c =
    end_stops c.args.identity.now c.args.input.now c.args.followed.now c.turn.new.followed c.args.sectors.now c.turn.new.sectors c.len-count.result c.len-count.ensures.value
    (subst (λ (b : Bool). Turns (recorded c.args.identity.now c.args.input.now) c.len-count.result (progress c.args.followed.now c.args.sectors.now) (progress c.turn.new.followed c.turn.new.sectors) b) c.if-not-branch.true c.in_ok-turn.ensures.turns)

pub returns-clause-advances : goal.returns-clause-advances
returns-clause-advances c =
    end_passes c.args.identity.now c.args.input.now c.args.followed.now c.turn.new.followed _ c.args.sectors.now c.turn.new.sectors c.len-count.result c.len-count.ensures.value c.requires.tasks
    (subst (λ (b : Bool). Turns (recorded c.args.identity.now c.args.input.now) c.len-count.result (progress c.args.followed.now c.args.sectors.now) (progress c.turn.new.followed c.turn.new.sectors) b) c.if-not-branch.false c.in_ok-turn.ensures.turns)
    refl c.pass.result c.pass.ensures.passed c.pass.ensures.other
