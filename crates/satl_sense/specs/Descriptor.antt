-- Sense data in the descriptor form (SPC-4 4.5.2), with at most one descriptor.
use Rattle.std.specs.Prelude.{ℕ, ◌+◌, ◌≤◌, ◌<◌, ◌^◌, Bool, List, [], ◌∷◌, ◌++◌, if◌then◌else◌}
use Rattle.std.specs.Int.{byte_at}
use Rattle.satl_base.specs.Places.{Line, byte, number, laid}
use Rattle.satl_sense.specs.declared.sense.Sense.{Sense}
use Rattle.satl_sense.specs.declared.sense.Extra.{Extra}
use Rattle.satl_sense.specs.declared.sense.Extra.TheVariants as extras

-- ADDITIONAL SENSE LENGTH: the bytes of the descriptor
abbrev pub additional_length : Extra → ℕ
additional_length extras.None = 0x00
additional_length (extras.Information n) = 0x0C
additional_length (extras.Pointer in_cdb place) = 0x08
additional_length (extras.Ata r) = 0x0E

-- SKSV, and C/D where the pointer is into the CDB (SPC-4 4.5.2.4.2)
abbrev pub pointer_flags : Bool → ℕ
pointer_flags in_cdb = if in_cdb then 0xC0 else 0x80

-- the descriptors: information (SPC-4 4.5.2.2), sense key specific (SPC-4 4.5.2.4), ATA Status Return (SAT-3 12.2.2.6)
abbrev pub descriptor_lines : Extra → List Line
descriptor_lines extras.None = []
descriptor_lines (extras.Information n) = byte 8 0x00 ∷ byte 9 0x0A ∷ byte 10 0x80 ∷ number 12 19 n ∷ []
descriptor_lines (extras.Pointer in_cdb place) =
    byte 8 0x02 ∷ byte 9 0x06 ∷ byte 12 (pointer_flags in_cdb) ∷ number 13 14 place ∷ []
descriptor_lines (extras.Ata r) =
    byte 8 0x09 ∷ byte 9 0x0C ∷ byte 10 (if r.extend then 1 else 0) ∷ byte 11 r.error ∷ number 12 13 r.count
    ∷ byte 14 (byte_at 3 r.lba) ∷ byte 15 (byte_at 0 r.lba)
    ∷ byte 16 (byte_at 4 r.lba) ∷ byte 17 (byte_at 1 r.lba)
    ∷ byte 18 (byte_at 5 r.lba) ∷ byte 19 (byte_at 2 r.lba)
    ∷ byte 20 r.device ∷ byte 21 r.status ∷ []

-- response code, sense key, codes and length, and the descriptor
unfoldable pub descriptor_form : Sense → List ℕ
descriptor_form s = laid (8 + additional_length s.extra) (
    (byte 0 0x72 ∷ byte 1 s.key ∷ byte 2 s.asc ∷ byte 3 s.ascq ∷ byte 7 (additional_length s.extra) ∷ [])
    ++ descriptor_lines s.extra)

-- the numbers of an extra fit their fields
abbrev pub ExtraFits : Extra → Type 0
ExtraFits extras.None = Unit {0}
ExtraFits (extras.Information n) = n < 2 ^ 64
ExtraFits (extras.Pointer in_cdb place) = place < 2 ^ 16
ExtraFits (extras.Ata r) = (r.error < 2 ^ 8) × (r.count < 2 ^ 16) × (r.lba < 2 ^ 48) × (r.device < 2 ^ 8) × (r.status < 2 ^ 8)

-- the numbers of sense data fit their fields: the sense key has four bits, an LBA of an ATA Status Return 48
pub record FitsForm (s : Sense) : Type 0 where
  pub key : s.key ≤ 0x0F
  pub asc : s.asc < 2 ^ 8
  pub ascq : s.ascq < 2 ^ 8
  pub extra : ExtraFits s.extra
