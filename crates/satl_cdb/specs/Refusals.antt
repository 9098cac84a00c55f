-- The refusals of a command: additional sense codes under the key ILLEGAL REQUEST (SPC-4 4.5.6).
use Rattle.std.specs.Prelude.{ℕ, true, false, Some, None}
use Rattle.satl_cdb.specs.declared.command.Illegal.{Illegal}

-- INVALID COMMAND OPERATION CODE
abbrev pub invalid_operation_code : Illegal
invalid_operation_code = record { asc = 0x20; ascq = 0x00; pointer = None; in_cdb = true }

-- INVALID FIELD IN CDB, with a pointer to the byte
abbrev pub invalid_field : ℕ → Illegal
invalid_field place = record { asc = 0x24; ascq = 0x00; pointer = Some place; in_cdb = true }

-- SAVING PARAMETERS NOT SUPPORTED
abbrev pub saving_not_supported : Illegal
saving_not_supported = record { asc = 0x39; ascq = 0x00; pointer = None; in_cdb = true }

-- PARAMETER LIST LENGTH ERROR
abbrev pub list_length_error : Illegal
list_length_error = record { asc = 0x1A; ascq = 0x00; pointer = None; in_cdb = false }

-- INVALID FIELD IN PARAMETER LIST, with a pointer to the byte
abbrev pub invalid_list_field : ℕ → Illegal
invalid_list_field place = record { asc = 0x26; ascq = 0x00; pointer = Some place; in_cdb = false }

-- LOGICAL BLOCK ADDRESS OUT OF RANGE, of a descriptor in a parameter list
abbrev pub list_out_of_range : Illegal
list_out_of_range = record { asc = 0x21; ascq = 0x00; pointer = None; in_cdb = false }
