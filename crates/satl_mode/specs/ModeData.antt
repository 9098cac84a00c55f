-- What MODE SENSE answers (SPC-4, MODE SENSE commands and 7.5).
use Rattle.std.specs.Prelude.{ℕ, ◌+◌, ◌==◌, Bool, true, false, List, [], ◌∷◌, ◌++◌, length, option_to_list, if◌then◌else◌}
use Rattle.satl_base.specs.declared.modes.Modes.{Modes}
use Rattle.satl_base.specs.Places.{byte, number, laid}
use Rattle.satl_identify.specs.declared.identity.Identity.{Identity}
use Rattle.satl_mode.specs.declared.descriptor.Descriptor.{Descriptor}
use Rattle.satl_mode.specs.declared.descriptor.Descriptor.TheVariants.{Absent, Short, Long}
use Rattle.satl_mode.specs.declared.page.ModePage.{ModePage}
use Rattle.satl_mode.specs.declared.sense.ModeSense.{ModeSense}
use Rattle.satl_mode.specs.ModePages.{all_pages, page_coded, pages_bytes, shown_by}
use Rattle.satl_mode.specs.Descriptors.{descriptor_bytes, descriptor_shown, descriptor_size}

-- the pages of a page code: all of them for 3Fh
abbrev pub pages_asked : ℕ → List ModePage
pages_asked code = if code == 0x3F then all_pages else option_to_list (page_coded code)

-- LONGLBA: 1 where the long descriptor stands
abbrev pub long_lba_bit : Descriptor → ℕ
long_lba_bit Absent = 0
long_lba_bit Short = 0
long_lba_bit Long = 1

-- DPOFUA, in DEVICE-SPECIFIC PARAMETER (SBC-3, mode parameter header)
abbrev pub dpofua : ℕ
dpofua = 0x10

-- the header before so many bytes: MODE DATA LENGTH does not count itself
abbrev pub header : Bool → Descriptor → ℕ → List ℕ
header false d rest = laid 4 (byte 0 (3 + rest) ∷ byte 2 dpofua ∷ byte 3 (descriptor_size d) ∷ [])
header true d rest =
    laid 8 (number 0 1 (6 + rest) ∷ byte 3 dpofua ∷ byte 4 (long_lba_bit d) ∷ number 6 7 (descriptor_size d) ∷ [])

-- header, descriptor and pages
abbrev pub with_header : Bool → Descriptor → List ℕ → List ℕ
with_header ten d rest = header ten d (length rest) ++ rest

-- the descriptor that a MODE SENSE asks for
abbrev pub descriptor_asked : ModeSense → Descriptor
descriptor_asked asked = descriptor_shown asked.ten asked.long_lba asked.no_descriptor

-- the answer to a MODE SENSE, before it is cut to its allocation length
unfoldable pub mode_data : Identity → Modes → ModeSense → List ℕ
mode_data i m asked =
    with_header asked.ten (descriptor_asked asked)
    (descriptor_bytes (descriptor_asked asked) i.capacity ++ pages_bytes (pages_asked asked.page) (shown_by asked.control i m))
