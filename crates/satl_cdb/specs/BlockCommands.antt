-- The commands of block devices: fields, rules and commands (SBC-3; the values that are refused are the profile's).
use Rattle.std.specs.Prelude.{ℕ, ◌+◌, ◌*◌, ◌^◌, Bool, false, not, List, [], ◌∷◌, if◌then◌else◌}
use Rattle.satl_base.specs.Fields.{Field, bytes, bits, bit, or_if_zero}
use Rattle.satl_base.specs.Limits.{most_moved, most_covered}
use Rattle.satl_cdb.specs.declared.command.Form.{Form}
use Rattle.satl_cdb.specs.declared.command.Form.TheVariants.{Six, Ten, Twelve, Sixteen}
use Rattle.satl_cdb.specs.declared.command.Command.TheVariants as commands
use Rattle.satl_cdb.specs.Refusals.{invalid_operation_code}
use Rattle.satl_cdb.specs.Rows.{Rule, Format, at, on, is, is_not, is_above, never}

-- where a form has its LOGICAL BLOCK ADDRESS, and its TRANSFER LENGTH or NUMBER OF LOGICAL BLOCKS (SPC-4 4.3)
pub record Layout : Type 0 where
  pub form : Form
  pub lba : Field
  pub count_place : ℕ
  pub count : Field

-- a count of which 0 means 256
abbrev pub or_256 : Field → Field
or_256 field cdb = or_if_zero 256 (field cdb)

abbrev pub six : Layout
six = record { form = Six; lba = λ cdb. bits 1 4 0 cdb * 2 ^ 16 + bytes 2 3 cdb; count_place = 4; count = or_256 (bytes 4 4) }

abbrev pub ten : Layout
ten = record { form = Ten; lba = bytes 2 5; count_place = 7; count = bytes 7 8 }

abbrev pub twelve : Layout
twelve = record { form = Twelve; lba = bytes 2 5; count_place = 6; count = bytes 6 9 }

abbrev pub sixteen : Layout
sixteen = record { form = Sixteen; lba = bytes 2 9; count_place = 10; count = bytes 10 13 }

abbrev pub layout_of : Form → Layout
layout_of Six = six
layout_of Ten = ten
layout_of Twelve = twelve
layout_of Sixteen = sixteen

-- SBC-3, READ (6) and WRITE (6) commands
abbrev pub read_6 : Format
read_6 = record { rules = []; command = λ cdb. commands.Read Six (six.lba cdb) (six.count cdb) false }

abbrev pub write_6 : Format
write_6 = record { rules = []; command = λ cdb. commands.Write Six (six.lba cdb) (six.count cdb) false }

-- RDPROTECT or WRPROTECT, byte 1 bits 7 to 5, and a count of at most 4,096 blocks
abbrev pub transfer_rules : Layout → List Rule
transfer_rules long = on 1 7 5 (is_not 0) ∷ at long.count_place (is_above most_moved long.count) ∷ []

-- SBC-3, READ (10), (12) and (16) commands: FUA byte 1 bit 3
abbrev pub read : Layout → Format
read long = record {
  rules = transfer_rules long;
  command = λ cdb. commands.Read long.form (long.lba cdb) (long.count cdb) (bit 1 3 cdb);
}

-- SBC-3, WRITE (10), (12) and (16) commands: FUA byte 1 bit 3
abbrev pub write : Layout → Format
write long = record {
  rules = transfer_rules long;
  command = λ cdb. commands.Write long.form (long.lba cdb) (long.count cdb) (bit 1 3 cdb);
}

-- SBC-3, VERIFY (10), (12) and (16) commands: VRPROTECT byte 1 bits 7 to 5, BYTCHK byte 1 bits 2 to 1
abbrev pub verify : Layout → Format
verify long = record {
  rules =
      on 1 7 5 (is_not 0)
      ∷ on 1 2 1 (is_above 1)
      ∷ at long.count_place (λ cdb. is_above (if is 0 (bits 1 2 1) cdb then most_covered else most_moved) long.count cdb)
      ∷ [];
  command = λ cdb. commands.Verify long.form (long.lba cdb) (long.count cdb) (is 1 (bits 1 2 1) cdb);
}

-- SBC-3, SYNCHRONIZE CACHE (10) and (16) commands
abbrev pub synchronize_cache : Layout → Format
synchronize_cache long = record {
  rules = [];
  command = λ cdb. commands.Flush long.form (long.lba cdb) (long.count cdb);
}

-- SBC-3, WRITE SAME (10) and (16) commands: WRPROTECT byte 1 bits 7 to 5, ANCHOR bit 4, UNMAP bit 3, which needs a drive with
-- trim
abbrev pub write_same : Bool → Layout → Format
write_same trim long = record {
  rules =
      on 1 7 5 (is_not 0)
      ∷ on 1 4 4 (is 1)
      ∷ on 1 2 0 (is_not 0)
      ∷ at 1 (if trim then never else bit 1 3)
      ∷ at long.count_place (is 0 long.count)
      ∷ at long.count_place (is_above most_covered long.count)
      ∷ [];
  command = λ cdb. commands.WriteSame long.form (long.lba cdb) (long.count cdb) (bit 1 3 cdb);
}

-- SBC-3, UNMAP command: ANCHOR byte 1 bit 0, PARAMETER LIST LENGTH bytes 7 to 8; a drive without trim does not know it
abbrev pub unmap : Bool → Format
unmap trim = record {
  rules =
      record { place = 0; breaks = λ cdb. not trim; refusal = invalid_operation_code }
      ∷ on 1 0 0 (is 1)
      ∷ [];
  command = λ cdb. commands.Unmap (bytes 7 8 cdb);
}

-- SBC-3, START STOP UNIT command: POWER CONDITION byte 4 bits 7 to 4, NO_FLUSH bit 2, LOEJ bit 1, START bit 0
abbrev pub start_stop : Format
start_stop = record {
  rules = on 4 7 4 (is_not 0) ∷ on 4 1 1 (is 1) ∷ [];
  command = λ cdb. commands.StartStop (bit 4 0 cdb) (bit 4 2 cdb);
}

-- SBC-3, READ CAPACITY (10) command
abbrev pub read_capacity_10 : Format
read_capacity_10 = record { rules = []; command = λ cdb. commands.ReadCapacity10 }

-- SBC-3, READ CAPACITY (16) command: SERVICE ACTION byte 1 bits 4 to 0, ALLOCATION LENGTH bytes 10 to 13
abbrev pub read_capacity_16 : Format
read_capacity_16 = record {
  rules = on 1 4 0 (is_not 0x10) ∷ [];
  command = λ cdb. commands.ReadCapacity16 (bytes 10 13 cdb);
}
