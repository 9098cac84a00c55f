use Rattle.std.proofs.Common.{◌≡◌, ◌≤◌, ◌+◌, ◌∙◌, refl, subst, sym, true, false}
use Rattle.std.specs.Prelude.{IsSomeAnd}
use Rattle.std.proofs.lemmas.Result.{IfOk-weaker}
use Rattle.satl_base.proofs.OutcomeLemmas.{on_both_err}
use Rattle.satl_core.specs.Medium.{HasWhole, written_alone}
use Rattle.satl_core.specs.Turning.{task_on}
use Rattle.satl_core.proofs.AloneLemmas.{ends_carried, stops_alike}
use Rattle.satl_core.proofs.CallingLemmas.{alone_turn}
use Rattle.satl_core.proofs.turning.run_task.Goals as goal

pub returns-clause-ends : goal.returns-clause-ends
returns-clause-ends g c =
    let task = c.args.task.now in
    let is = sym c.of.ensures ∙ c.in-Some.is in
    IfOk-weaker c.carry_out.result _ _
    (λ ending carried. ends_carried c.args.found.now.down c.args.found.now.started c.args.found.now.wanted c.in-Some.alone ending (task_on task (g.D.Drive.state c.args.drive.now)) (task_on c.carry_out.new.task (g.D.Drive.state c.carry_out.new.drive)) c.if-found.false
    (stops_alike task.command c.in-Some.alone c.args.found.now.started is ∙ (sym c.is_not_ready.ensures ∙ c.if-is_not_ready.false)) is carried)
    c.carry_out.ensures.ends

pub returns-clause-lost : goal.returns-clause-lost
returns-clause-lost g c =
    let task = c.args.task.now in
    let d = g.D.Drive.state c.args.drive.now in
    let is = sym c.of.ensures ∙ c.in-Some.is in
    on_both_err c.carry_out.result _ _ _
    (λ lost whole. record {
      was_up = c.if-found.false;
      ready = stops_alike task.command c.in-Some.alone c.args.found.now.started is ∙ (sym c.is_not_ready.ensures ∙ c.if-is_not_ready.false);
      pairs = written_alone c.in-Some.alone task d;
      written = subst (λ o. IsSomeAnd o (λ alone. HasWhole alone task × (written_alone c.in-Some.alone task d ≡ written_alone alone task d))) (sym is) (whole, refl);
      lost = lost;
    })
    c.carry_out.ensures.lost c.carry_out.ensures.whole

pub returns-clause-unready : goal.returns-clause-unready
returns-clause-unready g c = λ unready.
    let is = sym c.of.ensures ∙ c.in-Some.is in
    let no : true ≡ false = sym unready ∙ (stops_alike c.args.task.now.command c.in-Some.alone c.args.found.now.started is ∙ (sym c.is_not_ready.ensures ∙ c.if-is_not_ready.false)) in
    absurd cc

pub returns-clause-calls : goal.returns-clause-calls
returns-clause-calls g c =
    let task = c.args.task.now in
    let is = sym c.of.ensures ∙ c.in-Some.is in
    let ready = stops_alike task.command c.in-Some.alone c.args.found.now.started is ∙ (sym c.is_not_ready.ensures ∙ c.if-is_not_ready.false) in
    subst (λ n. c.carry_out.new.steps ≤ c.args.steps.now + n) (sym (alone_turn c.args.found.now.started task.command c.in-Some.alone ready is)) c.carry_out.ensures.calls
