use Rattle.std.proofs.Common.{ap, subst, sym, ◌∙◌, ◌-◌, ℕ, length}
use Rattle.std.specs.Prelude.{OnOk}
use Rattle.satl_flight.specs.Lending.{Waiting, whole_tasks}
use Rattle.satl_flight.specs.Settled.{IsIssuedIfItMay}
use Rattle.satl_flight.proofs.LaunchingLemmas.{covered_kept, launched_none, length-whole}
use Rattle.satl_flight.proofs.queue.Queue.launch_last.Goals as goal

pub returns-then-not-may_issue-clause-ok : goal.returns-then-not-may_issue-clause-ok
returns-then-not-may_issue-clause-ok g c = launched_none _ _ c.requires.queued

pub returns-then-not-may_issue-clause-covered : goal.returns-then-not-may_issue-clause-covered
returns-then-not-may_issue-clause-covered g c =
    subst (λ (w : Waiting). IsIssuedIfItMay w.flying w.tasks (length w.tasks - 1)) c.self.view_is
    (subst (IsIssuedIfItMay c.self.inside.flight (whole_tasks c.self.inside.flight c.self.inside.dma c.self.inside.set))
    (ap (λ (n : ℕ). n - 1) (c.len-place.ensures.value ∙ sym (length-whole c.self.inside.flight c.self.inside.dma c.self.inside.set)))
    (covered_kept _ _ _ _ (c.may_issue.ensures.otherwise c.if-not-may_issue.true)))

pub returns-clause-covered : goal.returns-clause-covered
returns-clause-covered g c =
    let same = ap (λ (n : ℕ). n - 1) (c.len-place.ensures.value ∙ (sym (length-whole c.self.inside.flight c.self.inside.dma c.self.inside.set) ∙ ap (λ (w : Waiting). length w.tasks) c.self.view_is)) in
    subst (λ ts. OnOk c.issue_at.result (IsIssuedIfItMay c.issue_at.new.self ts (length c.args.self.now.tasks - 1))) (sym c.issue_at.ensures.same)
    (subst (λ n. OnOk c.issue_at.result (IsIssuedIfItMay c.issue_at.new.self (whole_tasks c.self.inside.flight c.self.inside.dma c.self.inside.set) n)) same c.issue_at.ensures.covered)
