-- The sense data that the device gives (SPC-4 4.5.6, sense keys and additional sense codes); those of an ATA PASS-THROUGH whose
-- ATA command was carried out are `status_sense` of satl_pass. `Sense` is what sense data say: key, additional sense codes and
-- what stands beside them; `text` and `spelled` in a name say that it gives the bytes.
use Rattle.std.specs.Prelude.{ℕ, Bool, Option, Some, None, List, if◌then◌else◌}
use Rattle.satl_base.specs.declared.modes.Modes.{Modes}
use Rattle.satl_cdb.specs.declared.command.Illegal.{Illegal}
use Rattle.satl_sense.specs.declared.sense.Sense.{Sense}
use Rattle.satl_sense.specs.declared.sense.Extra.{Extra}
use Rattle.satl_sense.specs.declared.sense.Extra.TheVariants as extras
use Rattle.satl_unit.specs.declared.attention.Attention.{Attention}
use Rattle.satl_unit.specs.Conditions.{additional_sense_of}
use Rattle.satl_sense.specs.Descriptor.{descriptor_form}
use Rattle.satl_sense.specs.Fixed.{fixed_form}

-- sense data of a key and codes alone (SPC-4 4.5)
abbrev pub plain : ℕ → ℕ → ℕ → Sense
plain key asc ascq = record { key = key; asc = asc; ascq = ascq; extra = extras.None }

-- sense data of a key and codes, with an address (SPC-4 4.5, INFORMATION)
abbrev pub at_address : ℕ → ℕ → ℕ → ℕ → Sense
at_address key asc ascq lba = record { key = key; asc = asc; ascq = ascq; extra = extras.Information lba }

-- LOGICAL UNIT NOT READY, INITIALIZING COMMAND REQUIRED (SPC-4 4.5.6)
abbrev pub not_ready : Sense
not_ready = plain 0x2 0x04 0x02

-- UNRECOVERED READ ERROR (SPC-4 4.5.6)
abbrev pub read_error : ℕ → Sense
read_error lba = at_address 0x3 0x11 0x00 lba

-- WRITE ERROR - AUTO REALLOCATION FAILED (SPC-4 4.5.6)
abbrev pub write_error : ℕ → Sense
write_error lba = at_address 0x3 0x0C 0x02 lba

-- NO SENSE: REQUEST SENSE where nothing is to be told (SPC-4 4.5.6)
abbrev pub no_sense : Sense
no_sense = plain 0x0 0x00 0x00

-- MISCOMPARE DURING VERIFY OPERATION (SPC-4 4.5.6)
abbrev pub miscompare : Sense
miscompare = plain 0xE 0x1D 0x00

-- OVERLAPPED COMMANDS ATTEMPTED (SPC-4 4.5.6)
abbrev pub overlapped : Sense
overlapped = plain 0xB 0x4E 0x00

-- UNIT ATTENTION, by its condition (SPC-4 4.5.6)
abbrev pub attention_sense : Attention → Sense
attention_sense what = plain 0x6 (additional_sense_of what).asc (additional_sense_of what).ascq

-- LOGICAL UNIT COMMUNICATION FAILURE (SPC-4 4.5.6)
abbrev pub link_lost : Sense
link_lost = plain 0x4 0x08 0x00

-- LOGICAL BLOCK ADDRESS OUT OF RANGE (SPC-4 4.5.6)
abbrev pub out_of_range : Sense
out_of_range = plain 0x5 0x21 0x00

-- LOGICAL UNIT NOT SUPPORTED (SPC-4 4.5.6)
abbrev pub unknown_unit : Sense
unknown_unit = plain 0x5 0x25 0x00

-- INFORMATION UNIT iuCRC ERROR DETECTED (SPC-4 4.5.6)
abbrev pub crc_error : Sense
crc_error = plain 0xB 0x47 0x03

-- DATA PHASE ERROR (SPC-4 4.5.6)
abbrev pub short_data : Sense
short_data = plain 0xB 0x4B 0x00

-- the field pointer to a byte of the CDB or else of the data-out, or none (SPC-4 4.5.2.4.2)
abbrev pub pointer_to : Bool → Option ℕ → Extra
pointer_to in_cdb None = extras.None
pointer_to in_cdb (Some byte) = extras.Pointer in_cdb byte

-- ILLEGAL REQUEST: a command or a list is refused, with its codes, and a pointer where a byte is at fault (SPC-4 4.5.6)
abbrev pub refusal_sense : Illegal → Sense
refusal_sense why = record { key = 0x5; asc = why.asc; ascq = why.ascq; extra = pointer_to why.in_cdb why.pointer }

-- sense data in the descriptor form or in the fixed form (SPC-4 4.5)
abbrev pub sense_spelled : Bool → Sense → List ℕ
sense_spelled descriptor sense = if descriptor then descriptor_form sense else fixed_form sense

-- sense data in the form that D_SENSE chooses (SPC-4 7.5.8)
abbrev pub sense_text : Modes → Sense → List ℕ
sense_text modes sense = sense_spelled modes.d_sense sense
