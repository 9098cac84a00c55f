-- What the bridge writes for an answer (USB Mass Storage Class, Bulk-Only Transport 1.0, 5.2, 5.3 and 6.7; the residue and the
-- status: profile).
use Rattle.std.specs.Prelude.{ℕ, ◌-◌, min, nat_lt, List, ◌++◌, length, take, replicate, slice_index, Option, Some, None, if◌then◌else◌}
use Rattle.arrayvec.specs.ArrayVec.{ArrayVec}
use Rattle.satl_base.specs.Blocks.{first_bytes}
use Rattle.satl_base.specs.declared.reply.Reply.{Reply}
use Rattle.satl_base.specs.declared.reply.Scsi.{Scsi}
use Rattle.satl_base.specs.declared.reply.Scsi.TheVariants as statuses
use Rattle.satl_bot.specs.declared.command.Cbw.{Cbw}
use Rattle.satl_bot.specs.declared.status.CswStatus.{CswStatus}
use Rattle.satl_bot.specs.declared.status.CswStatus.TheVariants.{Passed, Failed, PhaseError}
use Rattle.satl_bot.specs.Wrappers.{csw_of}

-- how many bytes of data the host takes (5.3)
abbrev pub taken_length : Cbw → ℕ
taken_length c = if c.is_in then c.length else 0

-- how many of the bytes that the host takes are no data; 0 where it sends (profile)
abbrev pub residue : Cbw → ℕ → ℕ
residue c size = taken_length c - size

-- passed for GOOD, and else failed (5.2; profile)
abbrev pub ended_as : Scsi → CswStatus
ended_as statuses.Good = Passed
ended_as statuses.CheckCondition = Failed
ended_as statuses.TaskSetFull = Failed

-- phase error where there is more data than the host takes (5.2; profile)
abbrev pub csw_status : Cbw → Scsi → ℕ → CswStatus
csw_status c status size = if nat_lt (taken_length c) size then PhaseError else ended_as status

-- behind so many bytes of data: zeros for what is missing of them, and the wrapper of the status (5.3, 6.7.2)
abbrev pub status_on_wire : Cbw → Scsi → ℕ → List ℕ
status_on_wire c status size = replicate (residue c size) 0 ++ csw_of c.tag (residue c size) (csw_status c status size)

-- an answer on the wire: its data, so many bytes, cut to what the host takes, and what is behind them (5.3)
abbrev pub told_on_wire : Cbw → Scsi → ℕ → List ℕ → List ℕ
told_on_wire c status size data_in = take (taken_length c) data_in ++ status_on_wire c status size

-- a reply on the wire
abbrev pub reply_on_wire : Cbw → Reply → List ℕ
reply_on_wire c r = told_on_wire c r.status r.data_len (first_bytes r.data_len r.body)

-- sense data that was kept, as data, as many bytes as the command allows (SPC-4 6.39)
abbrev pub kept_on_wire : Cbw → ArrayVec ℕ → List ℕ
kept_on_wire c sense =
    told_on_wire c statuses.Good (min (slice_index c.cdb 4) (length sense.items)) (take (slice_index c.cdb 4) sense.items)

-- the sense data of a command that failed is kept for the host to ask for (profile)
abbrev pub kept_of : Reply → Option (ArrayVec ℕ)
kept_of r = by_status r.status
  where
    by_status : Scsi → Option (ArrayVec ℕ)
    by_status statuses.Good = None
    by_status statuses.CheckCondition = Some r.sense
    by_status statuses.TaskSetFull = None
