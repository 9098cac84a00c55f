use Rattle.std.proofs.Common.{sym, ap, ◌∙◌, subst, ◌≡◌, ℕ, List, ◌++◌, Ok}
use Rattle.satl_frame.specs.Output.{out_magic}
use Rattle.satl_audit.specs.Judged.{Judged}
use Rattle.satl_audit.proofs.auditing.audit.Goals as goal

pub returns : goal.returns
returns c =
    let whole : c.args.output.now ≡ out_magic ++ c.rest.result.now = sym c.new-answers.ensures ∙ c.pass.ensures.passed c.if-not-pass.false ∙ ap (λ (l : List ℕ). out_magic ++ l) (sym c.rest.ensures) in
    subst (λ (l : List ℕ). Judged c.args.identity.now c.args.input.now l (Ok c.in_ok-follow.field-0)) (sym whole) c.in_ok-follow.ensures
