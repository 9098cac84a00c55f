use Rattle.std.proofs.Common.{subst, ℕ, List}
use Rattle.std.specs.Prelude.{Result, Ok, Err}
use Rattle.satl_cover.specs.declared.fault.AuditFault.{AuditFault}
use Rattle.satl_cover.specs.declared.fault.AuditFault.TheVariants as audits
use Rattle.satl_audit.specs.declared.verdict.Verdict.{Verdict}
use Rattle.satl_audit.specs.Judged.{Judged}
use Rattle.satl_record.proofs.EndLemmas.{refusal_ends, verdict_ends}
use Rattle.satl_record.proofs.recording.audit_record.Goals as goal

pub returns-in-Ok-clause-ends : goal.returns-in-Ok-clause-ends
returns-in-Ok-clause-ends g c =
    let identity = c.in_ok-identity.identity in
    let found = c.in_ok-found.found in
    let judged : Judged identity found.input.items found.output.items (Ok c.in-Ok.verdict) =
    subst (λ (l : List ℕ). Judged identity l found.output.items (Ok c.in-Ok.verdict)) c.deref.ensures.value (subst (λ (l : List ℕ). Judged identity c.deref.result.now l (Ok c.in-Ok.verdict)) c.deref-2.ensures.value c.in-Ok.ensures) in
    verdict_ends _ _ _ _ _ c.in-Ok.verdict (record { identity = identity; told = c.in_ok-identity.ensures.told; input = found.input.items; output = found.output.items; took = c.in_ok-found.ensures.took; judged = judged })
    c.tell_verdict.result c.tell_verdict.ensures.same c.tell_verdict.ensures.all c.tell_verdict.ensures.part c.tell_verdict.ensures.kind

pub returns-in-Err-BadInput-clause-ends : goal.returns-in-Err-BadInput-clause-ends
returns-in-Err-BadInput-clause-ends g c =
    let identity = c.in_ok-identity.identity in
    let found = c.in_ok-found.found in
    let said : Result Verdict AuditFault = Err (audits.BadInput c.in-Err-BadInput.reason c.in-Err-BadInput.offset) in
    let here : Judged identity c.deref.result.now c.deref-2.result.now said = subst (λ (f : AuditFault). Judged identity c.deref.result.now c.deref-2.result.now (Err f)) c.in-Err-BadInput.field-0-is c.in-Err-BadInput.ensures in
    let judged : Judged identity found.input.items found.output.items said =
    subst (λ (l : List ℕ). Judged identity l found.output.items said) c.deref.ensures.value (subst (λ (l : List ℕ). Judged identity c.deref.result.now l said) c.deref-2.ensures.value here) in
    refusal_ends _ _ _ _ _ c.in-Err-BadInput.reason c.in-Err-BadInput.offset (record { identity = identity; told = c.in_ok-identity.ensures.told; input = found.input.items; output = found.output.items; took = c.in_ok-found.ensures.took; judged = judged })
    c.tell_refusal.result c.tell_refusal.ensures.told
