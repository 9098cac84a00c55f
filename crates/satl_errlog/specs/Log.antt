-- The NCQ Command Error log, 512 bytes (ACS-3 annex A, log address 10h).
use Rattle.std.specs.Prelude.{ℕ, ◌==◌, not, Bool, List, [], ◌∷◌, ◌++◌, map, replicate, slice_index, slice_set, Result, Ok, Err, if◌then◌else◌}
use Rattle.std.specs.Int.{byte_at, w16, w64, from_be_bytes}
use Rattle.satl_base.specs.Fields.{bit, bits, bits_of}
use Rattle.satl_base.specs.Identify.{checksum, checksum_byte}
use Rattle.satl_base.specs.Places.{Line, byte, laid}
use Rattle.satl_errlog.specs.declared.entry.NcqError.{NcqError}
use Rattle.satl_errlog.specs.declared.entry.LogFault.{LogFault}
use Rattle.satl_errlog.specs.declared.entry.LogFault.TheVariants.{BadChecksum, NotQueued}

-- the bytes of an entry: byte 0 has the tag below its bits NQ and UNL, both 0; LBA and COUNT stand in the order of a register
-- dump
abbrev pub fields : NcqError → List Line
fields e =
    byte 0 (bits_of 4 0 e.tag) ∷ byte 2 e.status ∷ byte 3 e.error
    ∷ byte 4 (byte_at 0 e.lba) ∷ byte 5 (byte_at 1 e.lba) ∷ byte 6 (byte_at 2 e.lba) ∷ byte 7 e.device
    ∷ byte 8 (byte_at 3 e.lba) ∷ byte 9 (byte_at 4 e.lba) ∷ byte 10 (byte_at 5 e.lba)
    ∷ byte 12 (byte_at 0 e.count) ∷ byte 13 (byte_at 1 e.count)
    ∷ byte 14 e.key ∷ byte 15 e.asc ∷ byte 16 e.ascq ∷ []

-- 512 bytes of which only the entry's are not 0
unfoldable pub without_checksum : NcqError → List ℕ
without_checksum e = laid 17 (fields e) ++ replicate 495 0

-- the log with an entry
abbrev pub log_of : NcqError → List ℕ
log_of e = slice_set (without_checksum e) 511 (checksum_byte (without_checksum e))

-- the entry of a log
abbrev pub entry_in : List ℕ → NcqError
entry_in log = record {
  tag = bits 0 4 0 log;
  status = slice_index log 2;
  error = slice_index log 3;
  lba = from_be_bytes w64 (0 ∷ 0 ∷ map (slice_index log) (10 ∷ 9 ∷ 8 ∷ 6 ∷ 5 ∷ 4 ∷ []));
  device = slice_index log 7;
  count = from_be_bytes w16 (map (slice_index log) (13 ∷ 12 ∷ []));
  key = slice_index log 14;
  asc = slice_index log 15;
  ascq = slice_index log 16;
}

-- NQ: the command that failed was not queued
abbrev pub is_not_queued : List ℕ → Bool
is_not_queued log = bit 0 7 log

-- the entry of a log, unless the bytes do not sum to 0 modulo 256, or the command was not queued
abbrev pub log_says : List ℕ → Result NcqError LogFault
log_says log =
    if not (checksum log == 0) then Err (BadChecksum (checksum log))
    else if is_not_queued log then Err NotQueued
    else Ok (entry_in log)
