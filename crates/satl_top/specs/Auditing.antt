-- What judging a record does (profile).
use Rattle.std.specs.Prelude.{◌≡◌, ◌+◌, ◌≤◌, Result, Ok, Err}
use Rattle.satl_audit.specs.declared.verdict.Verdict.{Verdict}
use Rattle.satl_audit.specs.declared.verdict.Verdict.TheVariants as says
use Rattle.satl_record.specs.Ends.{RecordEnds}
use Rattle.satl_barrier.specs.Commands.{IsUndisturbed}
use Rattle.satl_record.specs.declared.fault.RecordFault.{RecordFault}
use Rattle.satl_record.specs.declared.fault.RecordFault.TheVariants as faults
use Rattle.satl_serve.specs.Moments.{Moment}
use Rattle.satl_top.specs.declared.status.Status.{Status}
use Rattle.satl_top.specs.declared.status.Status.TheVariants as statuses

-- the status of a verdict, or of why there is none (profile)
abbrev pub status_of_record : Result Verdict RecordFault → Status
status_of_record (Ok says.Yes) = statuses.Done
status_of_record (Ok says.No) = statuses.No
status_of_record (Ok (says.NotCovered offset)) = statuses.NotCovered
status_of_record (Err faults.Drive) = statuses.DriveRefused
status_of_record (Err faults.NoRecord) = statuses.BadInput
status_of_record (Err faults.BadInput) = statuses.BadInput
status_of_record (Err faults.Read) = statuses.ReadFault
status_of_record (Err faults.Write) = statuses.WriteFault
status_of_record (Err faults.NoMemory) = statuses.NoMemory

-- a record was judged, or was not, as the status tells (profile): it was read and told as that says; the drive was called once
-- at most, and was left undisturbed
pub record AuditEnds (before after : Moment) (status : Status) : Type 0 where
  pub ended : Result Verdict RecordFault
  pub status_is : status ≡ status_of_record ended
  pub ends : RecordEnds before.drive.identify before.source.left after.source.left before.sink.written after.sink.written ended
  pub calls : after.calls ≤ before.calls + 1
  pub undisturbed : IsUndisturbed before.drive after.drive
