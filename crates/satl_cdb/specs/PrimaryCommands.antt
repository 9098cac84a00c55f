-- The commands of all device types: fields, rules and commands (SPC-4; the values that are refused are the profile's).
use Rattle.std.specs.Prelude.{ℕ, Bool, true, false, List, [], ◌∷◌, Some, None, if◌then◌else◌}
use Rattle.satl_base.specs.Fields.{Field, Flag, bytes, bits, bit}
use Rattle.satl_cdb.specs.declared.command.Command.TheVariants as commands
use Rattle.satl_cdb.specs.Refusals.{saving_not_supported}
use Rattle.satl_cdb.specs.Rows.{Format, at, on, is, is_above, is_none_of, never}

-- SPC-4, TEST UNIT READY command
abbrev pub test_unit_ready : Format
test_unit_ready = record { rules = []; command = λ cdb. commands.TestUnitReady }

-- the operation code of REQUEST SENSE, and of its CDB DESC, byte 1 bit 0, and ALLOCATION LENGTH, byte 4 (SPC-4 6.39)
abbrev pub request_sense_code : ℕ
request_sense_code = 0x03

abbrev pub desc : Flag
desc = bit 1 0

abbrev pub sense_length : Field
sense_length = bytes 4 4

-- SPC-4, REQUEST SENSE command
abbrev pub request_sense : Format
request_sense = record { rules = []; command = λ cdb. commands.RequestSense (desc cdb) (sense_length cdb) }

-- the pages of vital product data (profile)
abbrev pub vital_pages : List ℕ
vital_pages = 0x00 ∷ 0x80 ∷ 0x83 ∷ 0x89 ∷ 0xB0 ∷ 0xB1 ∷ 0xB2 ∷ []

-- the operation code of INQUIRY, and of its CDB EVPD, byte 1 bit 0, and ALLOCATION LENGTH, bytes 3 to 4 (SPC-4 6.6)
abbrev pub inquiry_code : ℕ
inquiry_code = 0x12

abbrev pub evpd : Flag
evpd = bit 1 0

abbrev pub inquiry_length : Field
inquiry_length = bytes 3 4

-- SPC-4, INQUIRY command: PAGE CODE byte 2
abbrev pub inquiry : Format
inquiry = record {
  rules = at 2 (λ cdb. is_none_of (if evpd cdb then vital_pages else 0x00 ∷ []) (bytes 2 2) cdb) ∷ [];
  command = λ cdb. commands.Inquiry (if evpd cdb then Some (bytes 2 2 cdb) else None) (inquiry_length cdb);
}

-- PARAMETER LIST LENGTH and ALLOCATION LENGTH of the mode commands: byte 4 of 6, bytes 7 to 8 of 10
abbrev pub mode_length : Bool → Field
mode_length false = bytes 4 4
mode_length true = bytes 7 8

-- SPC-4, MODE SELECT (6) and (10) commands: PF byte 1 bit 4, SP byte 1 bit 0
abbrev pub mode_select : Bool → Format
mode_select ten = record {
  rules = on 1 4 4 (is 0) ∷ on 1 0 0 (is 1) ∷ [];
  command = λ cdb. commands.ModeSelect ten (mode_length ten cdb);
}

-- the mode pages, 3Fh for all of them (profile)
abbrev pub mode_pages : List ℕ
mode_pages = 0x01 ∷ 0x08 ∷ 0x0A ∷ 0x1C ∷ 0x3F ∷ []

-- LLBAA, which MODE SENSE (10) alone has: byte 1 bit 4
abbrev pub long_lba : Bool → Flag
long_lba false = never
long_lba true = bit 1 4

-- SPC-4, MODE SENSE (6) and (10) commands: DBD byte 1 bit 3, PC byte 2 bits 7 to 6, PAGE CODE byte 2 bits 5 to 0, SUBPAGE CODE
-- byte 3
abbrev pub mode_sense : Bool → Format
mode_sense ten = record {
  rules =
      record { place = 2; breaks = is 3 (bits 2 7 6); refusal = saving_not_supported }
      ∷ on 2 5 0 (is_none_of mode_pages)
      ∷ at 3 (λ cdb. is_none_of (if is 0x3F (bits 2 5 0) cdb then 0x00 ∷ 0xFF ∷ [] else 0x00 ∷ []) (bytes 3 3) cdb)
      ∷ [];
  command = λ cdb. commands.ModeSense ten (long_lba ten cdb) (bit 1 3 cdb) (bits 2 7 6 cdb) (bits 2 5 0 cdb)
      (mode_length ten cdb);
}

-- the operation code of REPORT LUNS, and of its CDB ALLOCATION LENGTH, bytes 6 to 9 (SPC-4 6.33)
abbrev pub report_luns_code : ℕ
report_luns_code = 0xA0

abbrev pub luns_length : Field
luns_length = bytes 6 9

-- SPC-4, REPORT LUNS command: SELECT REPORT byte 2
abbrev pub report_luns : Format
report_luns = record {
  rules = at 2 (is_above 0x02 (bytes 2 2)) ∷ [];
  command = λ cdb. commands.ReportLuns (bytes 2 2 cdb) (luns_length cdb);
}
