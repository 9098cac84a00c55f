-- What is found of a record, as it is told.
use Rattle.std.proofs.Common.{◌≡◌, sym, subst, ℕ, List, Option}
use Rattle.std.specs.Prelude.{Result, Ok, Err, IfErr, IfOk, OnErr}
use Rattle.satl_io.specs.Known.{Wrote, WrotePart}
use Rattle.satl_frame.specs.declared.frames.Reason.{Reason}
use Rattle.satl_cover.specs.declared.fault.AuditFault.TheVariants as audits
use Rattle.satl_audit.specs.declared.verdict.Verdict.{Verdict}
use Rattle.satl_record.specs.Ends.{Finds, RecordEnds, RefusalIsTold, verdict_line}
use Rattle.satl_record.specs.declared.fault.RecordFault.{RecordFault}
use Rattle.satl_record.specs.declared.fault.RecordFault.TheVariants as faults

module _ (identify : List ℕ) (left left' written written' : Option (List ℕ)) where
  pub verdict_ends : (verdict : Verdict) → Finds identify left left' (Ok verdict) → (result : Result Verdict RecordFault) → IfOk result (λ told. told ≡ verdict) → IfOk result (λ told. Wrote written written' (verdict_line verdict)) →
      OnErr result (WrotePart written written' (verdict_line verdict)) → IfErr result (λ fault. fault ≡ faults.Write) → RecordEnds identify left left' written written' result
  verdict_ends verdict finds (Ok told) same all part kind = subst (λ (v : Verdict). RecordEnds identify left left' written written' (Ok v)) (sym same) (finds, all)
  verdict_ends verdict finds (Err fault) same all part kind = subst (λ (f : RecordFault). RecordEnds identify left left' written written' (Err f)) (sym kind) (Ok verdict, (λ lacks. absurd cc), finds, part)

  pub refusal_ends : (reason : Reason) (offset : ℕ) → Finds identify left left' (Err (audits.BadInput reason offset)) → (result : Result Verdict RecordFault) → RefusalIsTold written written' reason offset result → RecordEnds identify left left' written written' result
  refusal_ends reason offset finds (Ok verdict) told = absurd told
  refusal_ends reason offset finds (Err faults.Drive) told = absurd told
  refusal_ends reason offset finds (Err faults.NoRecord) told = absurd told
  refusal_ends reason offset finds (Err faults.BadInput) told = (reason, offset, finds, told)
  refusal_ends reason offset finds (Err faults.Read) told = absurd told
  refusal_ends reason offset finds (Err faults.Write) told = (Err (audits.BadInput reason offset), (λ lacks. absurd cc), finds, told)
  refusal_ends reason offset finds (Err faults.NoMemory) told = absurd told
