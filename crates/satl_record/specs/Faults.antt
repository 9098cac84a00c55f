-- Why a record is not judged (profile).
use Rattle.satl_record.specs.declared.fault.RecordFault.{RecordFault}
use Rattle.satl_record.specs.declared.fault.RecordFault.TheVariants as faults

-- why a record is not read: its bytes are none, a read failed, or memory ran out
abbrev pub IsReadFault : RecordFault → Type 0
IsReadFault faults.Drive = ⊥
IsReadFault faults.NoRecord = Unit {0}
IsReadFault faults.BadInput = ⊥
IsReadFault faults.Read = Unit {0}
IsReadFault faults.Write = ⊥
IsReadFault faults.NoMemory = Unit {0}
