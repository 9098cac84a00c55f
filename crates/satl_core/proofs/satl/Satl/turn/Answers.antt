use Rattle.std.proofs.Common.{arith, refl, sym, ap, subst, ◌∙◌, map}
use Rattle.satl_line.specs.Tasks.{entries_of}
use Rattle.satl_direct.specs.Tasks.{task_of}
use Rattle.satl_core.specs.Flushed.{IsFlushed}
use Rattle.satl_flight.specs.Settled.{IssuesInOrder}
use Rattle.satl_flight.proofs.OrderLemmas.{in_order_none}
use Rattle.satl_core.specs.Calling.{PollsOnce}
use Rattle.satl_core.specs.Layer.{view}
use Rattle.satl_core.proofs.CallingLemmas.{still_up}
use Rattle.satl_core.proofs.EndingLemmas.{some_count}
use Rattle.satl_core.proofs.ComposeLemmas.{turn_of}
use Rattle.satl_core.proofs.CountedLemmas.{kept_on, rose_first, rose_later}
use Rattle.satl_core.proofs.DeviceLemmas.{idle_around}
use Rattle.std.proofs.lemmas.List.{nil_from_length}
use Rattle.satl_core.proofs.RefillLemmas.{answered_before}
use Rattle.satl_core.proofs.satl.Satl.turn.Goals as goal

pub returns-then-pending-eq0-clause-turns : goal.returns-then-pending-eq0-clause-turns
returns-then-pending-eq0-clause-turns g c =
    idle_around _ _ c.args.replies.now (ap (λ t. map task_of (entries_of t)) (nil_from_length c.args.self.now.tasks (sym c.pending.ensures.count ∙ c.if-pending-eq0.true))) c.requires.empty refl

pub returns-clause-turns : goal.returns-clause-turns
returns-clause-turns g c =
    turn_of _ _ _ c.end_one.new.replies c.refill.new.replies c.end_one.ensures.ends c.refill.ensures.refills
    (λ down.
    let idle = c.end_one.ensures.agrees.mark ∙ down in
    ((c.refill.ensures.unanswered idle).0, ap (λ l. view l (g.D.Drive.state c.refill.new.drive)) (c.refill.ensures.unanswered idle).1 ∙ ap (λ x. view c.end_one.new.self (g.D.Drive.state x)) (c.refill.ensures.unasked idle)))

pub returns-clause-kept : goal.returns-clause-kept
returns-clause-kept g c = kept_on c.args.self.now c.end_one.new.self c.refill.new.self _ _ _ c.end_one.ensures.kept c.refill.ensures.kept

pub returns-clause-flushed : goal.returns-clause-flushed
returns-clause-flushed g c = λ flushed quiet.
    c.refill.ensures.settled
    (c.end_one.ensures.flushed (answered_before (IsFlushed c.args.self.now.tasks) c.end_one.new.replies c.refill.new.replies _ _ _ _ _ _ c.refill.ensures.refills c.end_one.ensures.kept.losses c.refill.ensures.kept.losses quiet flushed)
    (λ rose. quiet (rose_first _ _ _ _ rose c.refill.ensures.kept.losses)))
    (λ rose. quiet (rose_later _ _ _ _ c.end_one.ensures.kept.losses rose))

pub returns-then-pending-eq0-clause-polls : goal.returns-then-pending-eq0-clause-polls
returns-then-pending-eq0-clause-polls g c = λ some up. absurd (omega (arith, some_count c.args.self.now (g.D.Drive.state c.args.drive.now) c.requires.tied.agrees some, c.pending.ensures.count, c.if-pending-eq0.true))

pub returns-then-pending-eq0-clause-in_order : goal.returns-then-pending-eq0-clause-in_order
returns-then-pending-eq0-clause-in_order g c = λ none up. subst (λ fs. IssuesInOrder fs c.args.self.now.flying c.args.self.now.tasks) none (in_order_none c.args.self.now.flying c.args.self.now.tasks)

pub returns-clause-polls : goal.returns-clause-polls
returns-clause-polls g c = λ some up. record {
  left = c.end_one.new.self.flying;
  polled = c.end_one.new.steps;
  polls = subst (λ rs. PollsOnce c.args.self.now.flying c.args.steps.now rs c.end_one.new.self.flying c.end_one.new.steps) (sym (c.refill.ensures.unlost up))
      (c.end_one.ensures.polls some (still_up c.end_one.new.self c.refill.new.self (λ down. (c.refill.ensures.unanswered down).1) up));
  issues = c.refill.ensures.issues up;
}

pub returns-clause-in_order : goal.returns-clause-in_order
returns-clause-in_order g c = λ none up. subst (λ fs. IssuesInOrder fs c.refill.new.self.flying c.refill.new.self.tasks) (c.end_one.ensures.idle none) (c.refill.ensures.issues up).in_order
