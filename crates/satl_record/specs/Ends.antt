-- What is found of a record, and how it is told (profile).
use Rattle.std.specs.Prelude.{◌≡◌, ◌≢◌, ◌⊎◌, ℕ, List, [], ◌∷◌, Result, Ok, Err, codes, decimal}
use Rattle.std.specs.declared.option.Option.{Option}
use Rattle.satl_io.specs.Causes.{Rose}
use Rattle.satl_io.specs.Known.{Wrote, WrotePart}
use Rattle.satl_identify.specs.Refusals.{identity_of}
use Rattle.satl_identify.specs.declared.identity.Identity.{Identity}
use Rattle.satl_identify.specs.declared.identity.IdentityFault.{IdentityFault}
use Rattle.satl_frame.specs.declared.frames.Reason.{Reason}
use Rattle.satl_text.specs.Lines.{fault_line, line}
use Rattle.satl_cover.specs.declared.fault.AuditFault.{AuditFault}
use Rattle.satl_cover.specs.declared.fault.AuditFault.TheVariants as audits
use Rattle.satl_audit.specs.declared.verdict.Verdict.{Verdict}
use Rattle.satl_audit.specs.declared.verdict.Verdict.TheVariants as says
use Rattle.satl_audit.specs.Judged.{Judged}
use Rattle.satl_record.specs.Containers.{IsNoRecord, IsRest, TookRecord}
use Rattle.satl_record.specs.declared.fault.RecordFault.{RecordFault}
use Rattle.satl_record.specs.declared.fault.RecordFault.TheVariants as faults

-- yes, no, or not covered at byte, and the offset
abbrev pub verdict_line : Verdict → List ℕ
verdict_line says.Yes = line (codes "yes" ∷ [])
verdict_line says.No = line (codes "no" ∷ [])
verdict_line (says.NotCovered offset) = line (codes "not covered at byte" ∷ decimal offset ∷ [])

-- the line of a verdict, or of a refused input
abbrev pub found_line : Result Verdict AuditFault → List ℕ
found_line (Ok verdict) = verdict_line verdict
found_line (Err (audits.BadInput reason offset)) = fault_line reason offset
found_line (Err audits.NoMemory) = []

-- the data are those of an identity
abbrev pub IsServed : List ℕ → Type 0
IsServed identify = (identity : Identity) × (identity_of identify ≡ Ok identity)

-- a record was read whole, and this is true of it, for the identity that the data give
pub record Finds (identify : List ℕ) (left left' : Option (List ℕ)) (found : Result Verdict AuditFault) : Type 0 where
  pub identity : Identity
  pub told : identity_of identify ≡ Ok identity
  pub input : List ℕ
  pub output : List ℕ
  pub took : TookRecord left left' input output
  pub judged : Judged identity input output found

-- how the judging of a record ends: told in a line; or in a front of one; or nothing is written, and of the source a front was
-- read, or nothing where the drive is refused
abbrev pub RecordEnds : List ℕ → Option (List ℕ) → Option (List ℕ) → Option (List ℕ) → Option (List ℕ)
    → Result Verdict RecordFault → Type 0
RecordEnds identify left left' written written' (Ok verdict) =
    Finds identify left left' (Ok verdict) × Wrote written written' (verdict_line verdict)
RecordEnds identify left left' written written' (Err faults.BadInput) = (reason : Reason) × (offset : ℕ)
    × Finds identify left left' (Err (audits.BadInput reason offset)) × Wrote written written' (fault_line reason offset)
RecordEnds identify left left' written written' (Err faults.Write) = (found : Result Verdict AuditFault)
    × (found ≢ Err audits.NoMemory) × Finds identify left left' found × WrotePart written written' (found_line found)
RecordEnds identify left left' written written' (Err faults.NoRecord) =
    IsServed identify × IsNoRecord left × IsRest left left' × (written' ≡ written)
RecordEnds identify left left' written written' (Err faults.Read) =
    IsServed identify × IsRest left left' × (written' ≡ written)
RecordEnds identify left left' written written' (Err faults.Drive) = (left' ≡ left) × (written' ≡ written)
RecordEnds identify left left' written written' (Err faults.NoMemory) = IsRest left left' × (written' ≡ written)

-- a drive is refused for its data, or because its count of faults rose
abbrev pub IsRefusedFor : List ℕ → ℕ → ℕ → Type 0
IsRefusedFor identify before now = ((fault : IdentityFault) × (identity_of identify ≡ Err fault)) ⊎ Rose before now

-- a refused input was told in a line, or in a front of it
abbrev pub RefusalIsTold : Option (List ℕ) → Option (List ℕ) → Reason → ℕ → Result Verdict RecordFault → Type 0
RefusalIsTold written written' reason offset (Ok verdict) = ⊥
RefusalIsTold written written' reason offset (Err faults.BadInput) = Wrote written written' (fault_line reason offset)
RefusalIsTold written written' reason offset (Err faults.Write) = WrotePart written written' (fault_line reason offset)
RefusalIsTold written written' reason offset (Err fault) = ⊥
