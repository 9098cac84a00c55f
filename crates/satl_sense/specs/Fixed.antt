-- Sense data in the fixed form (SPC-4 4.5.3); that of an ATA Status Return is the profile's.
use Rattle.std.specs.Prelude.{ℕ, ◌+◌, ◌^◌, ◌==◌, nat_lt, List, [], ◌∷◌, ◌++◌, if◌then◌else◌}
use Rattle.std.specs.Int.{byte_at}
use Rattle.satl_base.specs.Fields.{bits_of}
use Rattle.satl_base.specs.Places.{Line, byte, number, laid}
use Rattle.satl_sense.specs.declared.sense.Sense.{Sense}
use Rattle.satl_sense.specs.declared.sense.Extra.{Extra}
use Rattle.satl_sense.specs.declared.sense.Extra.TheVariants as extras
use Rattle.satl_sense.specs.declared.sense.AtaReturn.{AtaReturn}
use Rattle.satl_sense.specs.Descriptor.{pointer_flags}

-- EXTEND, and that COUNT(15:8) and LBA(47:24) are not 0 (profile)
abbrev pub ata_flags : AtaReturn → ℕ
ata_flags r =
    (if r.extend then 0x80 else 0)
    + (if bits_of 15 8 r.count == 0 then 0 else 0x40)
    + (if bits_of 47 24 r.lba == 0 then 0 else 0x20)

-- the response code, with VALID where INFORMATION says something, and what an extra puts into INFORMATION, COMMAND-SPECIFIC
-- INFORMATION and SENSE KEY SPECIFIC INFORMATION
abbrev pub extra_lines : Extra → List Line
extra_lines extras.None = byte 0 0x70 ∷ []
extra_lines (extras.Information n) = if nat_lt n (2 ^ 32) then byte 0 0xF0 ∷ number 3 6 n ∷ [] else byte 0 0x70 ∷ []
extra_lines (extras.Pointer in_cdb place) = byte 0 0x70 ∷ byte 15 (pointer_flags in_cdb) ∷ number 16 17 place ∷ []
extra_lines (extras.Ata r) =
    byte 0 0xF0 ∷ byte 3 r.error ∷ byte 4 r.status ∷ byte 5 r.device ∷ byte 6 (byte_at 0 r.count) ∷ byte 8 (ata_flags r)
    ∷ byte 9 (byte_at 0 r.lba) ∷ byte 10 (byte_at 1 r.lba) ∷ byte 11 (byte_at 2 r.lba) ∷ []

-- 18 bytes: sense key, additional length and codes, and the extra
unfoldable pub fixed_form : Sense → List ℕ
fixed_form s = laid 18 ((byte 2 s.key ∷ byte 7 0x0A ∷ byte 12 s.asc ∷ byte 13 s.ascq ∷ []) ++ extra_lines s.extra)
