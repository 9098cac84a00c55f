-- Codes of statuses and responses.
use Rattle.std.specs.Prelude.{ℕ}
use Rattle.satl_base.specs.declared.reply.Scsi.{Scsi}
use Rattle.satl_base.specs.declared.reply.Scsi.TheVariants.{Good, CheckCondition, TaskSetFull}
use Rattle.satl_base.specs.declared.reply.Response.{Response}
use Rattle.satl_base.specs.declared.reply.Response.TheVariants.{Complete, Rejected, Succeeded, IncorrectLun}

-- the status code (SAM-5 5.3.1)
abbrev pub scsi_code : Scsi → ℕ
scsi_code Good = 0x00
scsi_code CheckCondition = 0x02
scsi_code TaskSetFull = 0x28

-- the response code of a task management function (profile)
abbrev pub response_code : Response → ℕ
response_code Complete = 0x00
response_code Rejected = 0x04
response_code Succeeded = 0x08
response_code IncorrectLun = 0x09
