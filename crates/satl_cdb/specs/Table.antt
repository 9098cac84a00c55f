-- The table of operation codes (SPC-4, SBC-3 and SAT-3, operation codes; which of them: profile).
use Rattle.std.specs.Prelude.{ℕ, ◌*◌, Bool, true, false, List, [], ◌∷◌, ◌++◌, Result, slice_index, replicate}
use Rattle.satl_base.specs.Fields.{bits}
use Rattle.satl_base.specs.Places.{places}
use Rattle.satl_cdb.specs.declared.command.Command.{Command}
use Rattle.satl_cdb.specs.declared.command.Command.TheVariants as commands
use Rattle.satl_cdb.specs.declared.command.Illegal.{Illegal}
use Rattle.satl_cdb.specs.Rows.{Format, Row, row, format_of, found_says}
use Rattle.satl_cdb.specs.PrimaryCommands.{test_unit_ready, request_sense, request_sense_code, inquiry, inquiry_code, mode_select, mode_sense, report_luns, report_luns_code}
use Rattle.satl_cdb.specs.BlockCommands.{ten, twelve, sixteen, read_6, write_6, read, write, verify, synchronize_cache, write_same, unmap, start_stop, read_capacity_10, read_capacity_16}

-- SAT-3, ATA PASS-THROUGH (12) command: its bytes without bit 0 of byte 1 and byte 10, which are reserved, and without the
-- control byte
abbrev pub pass_through_12 : Format
pass_through_12 = record {
  rules = [];
  command = λ cdb. commands.Pass (slice_index cdb 0 ∷ bits 1 7 1 cdb * 2 ∷ (places 2 8 (slice_index cdb) ++ replicate 6 0));
}

-- SAT-3, ATA PASS-THROUGH (16) command: its bytes without the control byte
abbrev pub pass_through_16 : Format
pass_through_16 = record {
  rules = [];
  command = λ cdb. commands.Pass (places 0 15 (slice_index cdb) ++ 0 ∷ []);
}

-- The operation codes of the profile, on a drive with or without trim.
abbrev pub table : Bool → List Row
table trim =
    row 0x00 test_unit_ready
    ∷ row request_sense_code request_sense
    ∷ row 0x08 read_6
    ∷ row 0x0A write_6
    ∷ row inquiry_code inquiry
    ∷ row 0x15 (mode_select false)
    ∷ row 0x1A (mode_sense false)
    ∷ row 0x1B start_stop
    ∷ row 0x25 read_capacity_10
    ∷ row 0x28 (read ten)
    ∷ row 0x2A (write ten)
    ∷ row 0x2F (verify ten)
    ∷ row 0x35 (synchronize_cache ten)
    ∷ row 0x41 (write_same trim ten)
    ∷ row 0x42 (unmap trim)
    ∷ row 0x55 (mode_select true)
    ∷ row 0x5A (mode_sense true)
    ∷ row 0x85 pass_through_16
    ∷ row 0x88 (read sixteen)
    ∷ row 0x8A (write sixteen)
    ∷ row 0x8F (verify sixteen)
    ∷ row 0x91 (synchronize_cache sixteen)
    ∷ row 0x93 (write_same trim sixteen)
    ∷ row 0x9E read_capacity_16
    ∷ row report_luns_code report_luns
    ∷ row 0xA1 pass_through_12
    ∷ row 0xA8 (read twelve)
    ∷ row 0xAA (write twelve)
    ∷ row 0xAF (verify twelve)
    ∷ []

-- What the table says of a command descriptor block: the command, or the refusal of its lowest byte that breaks a rule (SPC-4
-- 4.3; which fault is told: profile).
unfoldable pub says : List ℕ → Bool → Result Command Illegal
says cdb trim = found_says (format_of (table trim) (slice_index cdb 0)) cdb
