-- Vital product data (SPC-4, Vital product data parameters). The values that the standards leave open are the profile's.
use Rattle.std.specs.Prelude.{ℕ, ◌==◌, ◌&&◌, Bool, List, [], ◌∷◌, ◌++◌, map, length, Option, if◌then◌else◌}
use Rattle.std.specs.Int.{bytes_high_first}
use Rattle.std.specs.List.{find}
use Rattle.std.specs.Option.{option_map}
use Rattle.satl_base.specs.Identify.{word, word_bits, word_bit}
use Rattle.satl_base.specs.Limits.{most_moved, most_covered, most_ranges}
use Rattle.satl_base.specs.Places.{Line, byte, number, text, places, at_place}
use Rattle.satl_identify.specs.declared.identity.Identity.{Identity}
use Rattle.satl_vpd.specs.Texts.{characters, ata_vendor}

-- a page: its code, and what stands from byte 4 on
pub record PageRow : Type 0 where
  pub code : ℕ
  pub rest : Identity → List ℕ

-- so many bytes from byte 4 on, by a table
abbrev from_byte_4 : ℕ → List Line → List ℕ
from_byte_4 n lines = places 4 n (at_place lines)

-- the serial number as it stands in words 10 to 19 (SPC-4, Unit Serial Number)
abbrev pub serial_number : PageRow
serial_number = record { code = 0x80; rest = λ i. characters 10 19 i.bytes }

-- word 87 says something, and that there is a world wide name (ACS-3 7.12.7)
abbrev pub has_world_wide_name : List ℕ → Bool
has_world_wide_name d = (word_bits 87 15 14 d == 1) && word_bit 87 8 d

-- a designation descriptor of the ASCII code set, T10 vendor identification, from byte 4 on: vendor, model and serial number;
-- and from byte 76 on one of the binary code set, NAA: the world wide name in words 108 to 111 (SAT-3, Device Identification)
abbrev pub designators : List ℕ → List Line
designators d =
    byte 4 0x02 ∷ byte 5 0x01 ∷ byte 7 0x44 ∷ text 8 ata_vendor ∷ text 16 (characters 27 46 d) ∷ text 56 (characters 10 19 d)
    ∷ byte 76 0x01 ∷ byte 77 0x03 ∷ byte 79 0x08 ∷ text 80 (characters 108 111 d) ∷ []

-- SPC-4, Device Identification: both descriptors, or the first alone where there is no world wide name
abbrev pub identification : PageRow
identification =
    record {
      code = 0x83;
      rest = λ i. if has_world_wide_name i.bytes then from_byte_4 84 (designators i.bytes)
          else from_byte_4 72 (designators i.bytes);
    }

-- "SATL    "
abbrev layer_vendor : List ℕ
layer_vendor = 0x53 ∷ 0x41 ∷ 0x54 ∷ 0x4C ∷ 0x20 ∷ 0x20 ∷ 0x20 ∷ 0x20 ∷ []

-- "SATL REPLAY     "
abbrev layer_product : List ℕ
layer_product =
    0x53 ∷ 0x41 ∷ 0x54 ∷ 0x4C ∷ 0x20 ∷ 0x52 ∷ 0x45 ∷ 0x50 ∷ 0x4C ∷ 0x41 ∷ 0x59 ∷ 0x20 ∷ 0x20 ∷ 0x20 ∷ 0x20 ∷ 0x20 ∷ []

-- "0001"
abbrev layer_revision : List ℕ
layer_revision = 0x30 ∷ 0x30 ∷ 0x30 ∷ 0x31 ∷ []

-- vendor, product and revision of this layer; the device signature left out (profile); the command IDENTIFY DEVICE, and its
-- data in bytes 60 to 571 (SAT-3, ATA Information)
abbrev pub ata_information : PageRow
ata_information = record {
  code = 0x89;
  rest = λ i. from_byte_4 56 (text 8 layer_vendor ∷ text 16 layer_product ∷ text 32 layer_revision ∷ byte 56 0xEC ∷ [])
      ++ i.bytes;
}

-- WSNZ, MAXIMUM TRANSFER LENGTH, MAXIMUM UNMAP LBA COUNT, MAXIMUM UNMAP BLOCK DESCRIPTOR COUNT and MAXIMUM WRITE SAME LENGTH
-- (SBC-3, Block Limits)
abbrev pub block_limits : PageRow
block_limits = record {
  code = 0xB0;
  rest = λ i. from_byte_4 60 (
      byte 4 0x01 ∷ number 8 11 most_moved ∷ number 20 23 (if i.trim then most_covered else 0)
      ∷ number 24 27 (if i.trim then most_ranges else 0)
      ∷ number 36 43 most_covered ∷ []);
}

-- MEDIUM ROTATION RATE as in word 217, NOMINAL FORM FACTOR as in word 168 (SBC-3, Block Device Characteristics)
abbrev pub block_characteristics : PageRow
block_characteristics = record {
  code = 0xB1;
  rest = λ i. from_byte_4 60 (number 4 5 (word 217 i.bytes) ∷ byte 7 (word_bits 168 3 0 i.bytes) ∷ []);
}

-- LBPU, LBPWS, LBPWS10 and LBPRZ (SBC-3, Logical Block Provisioning)
abbrev pub provisioning : PageRow
provisioning = record { code = 0xB2; rest = λ i. from_byte_4 4 (byte 5 (if i.trim then 0xE4 else 0x00) ∷ []) }

-- the pages but for the list of them (profile)
abbrev vpd_pages : List PageRow
vpd_pages = serial_number ∷ identification ∷ ata_information ∷ block_limits ∷ block_characteristics ∷ provisioning ∷ []

-- the codes of all pages, in ascending order
abbrev pub page_codes : List ℕ
page_codes = 0x00 ∷ map (λ (p : PageRow). p.code) vpd_pages

-- SPC-4, Supported VPD Pages
abbrev pub supported_pages : PageRow
supported_pages = record { code = 0x00; rest = λ i. page_codes }

-- PERIPHERAL QUALIFIER and DEVICE TYPE, PAGE CODE, PAGE LENGTH, and the rest (SPC-4, Vital product data parameters)
abbrev pub vpd_page_bytes : PageRow → Identity → List ℕ
vpd_page_bytes p i = 0x00 ∷ p.code ∷ (bytes_high_first 2 (length (p.rest i)) ++ p.rest i)

-- the page of a code
unfoldable pub vpd_page : ℕ → Identity → Option (List ℕ)
vpd_page code i =
    option_map (λ (p : PageRow). vpd_page_bytes p i) (find (λ (p : PageRow). p.code == code) (supported_pages ∷ vpd_pages))
