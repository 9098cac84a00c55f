-- Standard INQUIRY data, 36 bytes (SPC-4, standard INQUIRY data; SAT-3, INQUIRY command).
use Rattle.std.specs.Prelude.{ℕ, Bool, List, [], ◌∷◌, if◌then◌else◌}
use Rattle.satl_base.specs.Places.{Line, byte, text, laid}
use Rattle.satl_identify.specs.declared.identity.Identity.{Identity}
use Rattle.satl_vpd.specs.Texts.{characters, high_bytes_first, is_blank, ata_vendor}

-- the first word of the revision: that of firmware characters 5 to 8, or 1 to 4 where those are spaces (SAT-3, INQUIRY command)
abbrev pub revision_word : List ℕ → ℕ
revision_word d = if is_blank (characters 25 26 d) then 23 else 25

-- the four characters of the revision
abbrev pub revision : List ℕ → List ℕ
revision d = high_bytes_first 2 (revision_word d) d

-- PERIPHERAL QUALIFIER and DEVICE TYPE, where 7Fh is no unit at this LUN; VERSION of SPC-4; RESPONSE DATA FORMAT; ADDITIONAL
-- LENGTH; CMDQUE; vendor; the first 16 characters of the model as product; and the product revision level
abbrev pub standard_lines : Identity → Bool → List Line
standard_lines i lun0 =
    byte 0 (if lun0 then 0x00 else 0x7F) ∷ byte 2 0x06 ∷ byte 3 0x02 ∷ byte 4 0x1F ∷ byte 7 0x02
    ∷ text 8 ata_vendor ∷ text 16 (characters 27 34 i.bytes) ∷ text 32 (revision i.bytes) ∷ []

unfoldable pub standard_data : Identity → Bool → List ℕ
standard_data i lun0 = laid 36 (standard_lines i lun0)
