use Rattle.std.proofs.Common.{arith, ◌≡◌, refl, sym, ◌∙◌, subst, Bool}
use Rattle.satl_audit.specs.Finishing.{EndsOrCannot, TurnsOn}
use Rattle.satl_audit.specs.Progress.{recorded, progress}
use Rattle.satl_audit.proofs.TurnLemmas.{idle_turns, no_turns, none_waits, one_more, some_waits, stuck_turns}
use Rattle.satl_audit.proofs.finishing.turn.Goals as goal

pub loop-done-init : goal.loop-done-init
loop-done-init c = record { tasks = c.requires.tasks; size = refl; turns = no_turns c.args.identity.now c.args.input.now c.args.followed.now c.args.sectors.now }

pub returns-then-is_empty-clause-length : goal.returns-then-is_empty-clause-length
returns-then-is_empty-clause-length c = c.loop-done.invariant.size

pub returns-then-is_empty-clause-turns : goal.returns-then-is_empty-clause-turns
returns-then-is_empty-clause-turns c =
    idle_turns c.args.identity.now c.args.input.now c.args.followed.now c.loop-done.followed c.args.sectors.now c.loop-done.sectors c.loop-done._done c.args.count (omega (arith, c.loop-done-test.true))
    (none_waits c.loop-done.followed.waiting (sym c.is_empty.ensures ∙ c.if-is_empty.true)) c.loop-done.invariant.turns

pub returns-then-not-branch-clause-turns : goal.returns-then-not-branch-clause-turns
returns-then-not-branch-clause-turns c =
    let i = c.loop-done.invariant in
    stuck_turns c.args.identity.now c.args.input.now c.args.followed.now c.loop-done.followed c.args.sectors.now c.loop-done.sectors c.loop-done._done c.requires.tasks i.turns
    (subst (λ (b : Bool). EndsOrCannot (recorded c.args.identity.now c.args.input.now) (progress c.loop-done.followed c.loop-done.sectors) (progress c.end_task.new.followed c.end_task.new.sectors) b) c.if-not-branch.true c.in_ok-end_task.ensures.ends)
    c.args.count c.loop-done-test.true (some_waits c.loop-done.followed.waiting (sym c.is_empty.ensures ∙ c.if-is_empty.false))

pub loop-done-preserved : goal.loop-done-preserved
loop-done-preserved c =
    let i = c.loop-done.invariant in
    record {
      tasks = c.in_ok-end_task.ensures.tasks;
      size = c.in_ok-end_task.ensures.length ∙ i.size;
      turns = one_more c.args.identity.now c.args.input.now c.args.followed.now c.loop-done.followed c.end_task.new.followed c.args.sectors.now c.loop-done.sectors c.end_task.new.sectors c.loop-done._done i.turns
          (subst (λ (b : Bool). EndsOrCannot (recorded c.args.identity.now c.args.input.now) (progress c.loop-done.followed c.loop-done.sectors) (progress c.end_task.new.followed c.end_task.new.sectors) b) c.if-not-branch.false c.in_ok-end_task.ensures.ends);
    }

pub returns-clause-turns : goal.returns-clause-turns
returns-clause-turns c =
    let all : c.loop-done._done ≡ c.args.count = omega (arith, c.loop-done-test.false, c.loop-done.auto._done-end) in
    subst (λ n. TurnsOn (recorded c.args.identity.now c.args.input.now) n (progress c.args.followed.now c.args.sectors.now) (progress c.loop-done.followed c.loop-done.sectors)) all c.loop-done.invariant.turns
