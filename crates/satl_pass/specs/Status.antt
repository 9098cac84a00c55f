-- How an ATA command's end is told to a host (SAT-3 11 and 12.2).
use Rattle.std.specs.Prelude.{ℕ, Bool, true, false, List, [], ◌∷◌, Option, Some, None, if◌then◌else◌}
use Rattle.std.specs.List.{find}
use Rattle.std.specs.Option.{unwrap_or}
use Rattle.satl_base.specs.Fields.{bit_of}
use Rattle.satl_regs.specs.declared.values.Taskfile.{Taskfile}
use Rattle.satl_regs.specs.Commands.{command_in}
use Rattle.satl_regs.specs.Effects.{is_bad}
use Rattle.satl_sense.specs.declared.sense.AtaReturn.{AtaReturn}
use Rattle.satl_sense.specs.declared.sense.Extra.{Extra}
use Rattle.satl_sense.specs.declared.sense.Extra.TheVariants as extras
use Rattle.satl_sense.specs.declared.sense.Sense.{Sense}
use Rattle.satl_pass.specs.declared.pass.Pass.{Pass}
use Rattle.satl_pass.specs.Transfers.{is_writing}

-- a row of the table of errors: a bit of ERROR, the sense key and the codes that stand for it, and whether the LBA at the end
-- is that of the error
pub record ErrorRow : Type 0 where
  pub bit : ℕ
  pub key : ℕ
  pub asc : ℕ
  pub ascq : ℕ
  pub has_lba : Bool

-- ABRT
abbrev pub aborted : ErrorRow
aborted = record { bit = 2; key = 0x0B; asc = 0x00; ascq = 0x00; has_lba = false }

-- ICRC, UNC, IDNF and ABRT (SAT-3 11; UNC of a command that writes, and IDNF: profile)
abbrev pub error_table : Bool → List ErrorRow
error_table writes =
    record { bit = 7; key = 0x0B; asc = 0x47; ascq = 0x03; has_lba = false }
    ∷ record { bit = 6; key = 0x03; asc = if writes then 0x0C else 0x11; ascq = if writes then 0x02 else 0x00; has_lba = true }
    ∷ record { bit = 4; key = 0x05; asc = 0x21; ascq = 0x00; has_lba = false }
    ∷ aborted ∷ []

-- the first row whose bit of ERROR is 1; where none is, the command was aborted and no more is known (profile)
abbrev pub first_error : List ErrorRow → ℕ → ErrorRow
first_error rows error = unwrap_or (find (λ row. bit_of row.bit error) rows) aborted

-- the row for an error of a command that writes or does not
abbrev pub error_row : Bool → ℕ → ErrorRow
error_row writes error = first_error (error_table writes) error

-- the sense data by a row
abbrev pub sense_by : ErrorRow → Extra → Sense
sense_by row extra = record { key = row.key; asc = row.asc; ascq = row.ascq; extra = extra }

-- the sense data of an error, with what is told beside it
unfoldable pub error_sense : Bool → ℕ → Extra → Sense
error_sense writes error extra = sense_by (error_row writes error) extra

-- the same for a command of the layer's own: beside it stands the LBA, as INFORMATION, where it is that of the error (SAT-3 11;
-- SPC-4 4.5)
unfoldable pub error_sense_at : Bool → ℕ → ℕ → Sense
error_sense_at writes error lba =
    sense_by (error_row writes error) (if (error_row writes error).has_lba then extras.Information lba else extras.None)

-- ATA Status Return: the registers at the end, with the EXTEND of the command (SAT-3 12.2.2.6)
abbrev pub ata_return : Pass → Taskfile → AtaReturn
ata_return pass end = record {
  extend = pass.extend;
  error = end.error;
  count = end.count;
  lba = end.lba;
  device = end.device;
  status = end.status;
}

-- ATA PASS THROUGH INFORMATION AVAILABLE, under RECOVERED ERROR
abbrev pub information_available : Extra → Sense
information_available extra = record { key = 0x01; asc = 0x00; ascq = 0x1D; extra = extra }

-- the sense data: those of the error at a bad end, the registers at a good one where CK_COND is 1, and else none
abbrev pub status_sense : Pass → Taskfile → Option Sense
status_sense pass end =
    if is_bad end then Some (error_sense (is_writing (command_in pass.regs)) end.error (extras.Ata (ata_return pass end)))
    else if pass.ck_cond then Some (information_available (extras.Ata (ata_return pass end)))
    else None
