-- The mode pages and their bytes (SPC-4 and SBC-3; the values that are not named there, and which bits a host can change:
-- profile).
use Rattle.std.specs.Prelude.{ℕ, ◌+◌, ◌==◌, not, true, false, List, [], ◌∷◌, ◌++◌, Option, if◌then◌else◌}
use Rattle.std.specs.List.{find, flat_map}
use Rattle.satl_base.specs.declared.modes.Modes.{Modes}
use Rattle.satl_base.specs.Places.{Line, byte, at_place, laid}
use Rattle.satl_identify.specs.declared.identity.Identity.{Identity}
use Rattle.satl_mode.specs.declared.page.ModePage.{ModePage}
use Rattle.satl_mode.specs.declared.page.ModePage.TheVariants.{ErrorRecovery, Caching, Control, InformationalExceptions}
use Rattle.satl_mode.specs.declared.page.Shown.{Shown}

-- a page: PAGE CODE, PAGE LENGTH, which counts the bytes from byte 2 on, the bytes that never change, and those with the
-- bits that a host can change; each byte that neither names is 0
pub record ModePageRow : Type 0 where
  pub code : ℕ
  pub length : ℕ
  pub fixed : List Line
  pub settings : Modes → List Line

abbrev pub row_of : ModePage → ModePageRow
-- SBC-3, Read-Write Error Recovery mode page: AWRE
row_of ErrorRecovery = record { code = 0x01; length = 0x0A; fixed = byte 2 0x80 ∷ []; settings = λ m. [] }
-- SBC-3, Caching mode page: WCE byte 2 bit 2, DRA byte 12 bit 5
row_of Caching = record {
  code = 0x08;
  length = 0x12;
  fixed = [];
  settings = λ m. byte 2 (if m.wce then 0x04 else 0) ∷ byte 12 (if m.dra then 0x20 else 0) ∷ [];
}
-- SPC-4, Control mode page: D_SENSE byte 2 bit 2
row_of Control = record { code = 0x0A; length = 0x0A; fixed = []; settings = λ m. byte 2 (if m.d_sense then 0x04 else 0) ∷ [] }
-- SPC-4, Informational Exceptions Control mode page
row_of InformationalExceptions = record { code = 0x1C; length = 0x0A; fixed = []; settings = λ m. [] }

-- the pages in their order
abbrev pub all_pages : List ModePage
all_pages = ErrorRecovery ∷ Caching ∷ Control ∷ InformationalExceptions ∷ []

-- the page of a code
abbrev pub page_coded : ℕ → Option ModePage
page_coded code = find (λ (page : ModePage). code == (row_of page).code) all_pages

-- the bits that a host can change: the write cache and look-ahead where the drive has them, and the form of sense data
abbrev pub changeable : Identity → Modes
changeable i = record { wce = i.cache; dra = i.look; d_sense = true }

-- the values at power on: the write cache and look-ahead are on where the drive has them, and sense data are in the fixed form
abbrev pub defaults : Identity → Modes
defaults i = record { wce = i.cache; dra = not i.look; d_sense = false }

-- PC: current values, and the bits that can change
abbrev pub current_values : ℕ
current_values = 0

abbrev pub changeable_values : ℕ
changeable_values = 1

-- what a page shows, by PC: current values, the bits that can change, or else the default values (SPC-4, MODE SENSE commands)
abbrev pub shown_by : ℕ → Identity → Modes → Shown
shown_by control i m =
    if control == current_values then record { fixed = true; settings = m }
    else if control == changeable_values then record { fixed = false; settings = changeable i }
    else record { fixed = true; settings = defaults i }

-- the lines of a page: its code and length, and what it shows
abbrev pub page_lines : ModePage → Shown → List Line
page_lines page s =
    byte 0 (row_of page).code ∷ byte 1 (row_of page).length
    ∷ ((if s.fixed then (row_of page).fixed else []) ++ (row_of page).settings s.settings)

abbrev pub size_of : ModePage → ℕ
size_of page = 2 + (row_of page).length

abbrev pub page_byte : ModePage → Shown → ℕ → ℕ
page_byte page s place = at_place (page_lines page s) place

abbrev pub page_bytes : ModePage → Shown → List ℕ
page_bytes page s = laid (size_of page) (page_lines page s)

-- pages one after the other
abbrev pub pages_bytes : List ModePage → Shown → List ℕ
pages_bytes pages s = flat_map (λ page. page_bytes page s) pages
