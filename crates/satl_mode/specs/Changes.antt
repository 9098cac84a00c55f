-- What a MODE SELECT list sets, and modes with it (SPC-4, MODE SELECT commands and 7.5).
use Rattle.std.specs.Prelude.{◌≡◌, ℕ, zero, suc, ◌+◌, ◌==◌, nat_lt, not, Bool, true, false, List, Option, Some, None, Result, Ok, Err, unwrap_or, if◌then◌else◌}
use Rattle.satl_base.specs.declared.block.Block.{Block}
use Rattle.satl_base.specs.declared.modes.Modes.{Modes}
use Rattle.satl_base.specs.declared.modes.ModeChange.{ModeChange}
use Rattle.satl_base.specs.Blocks.{byte_at}
use Rattle.satl_base.specs.Fields.{bit_of, bits_of}
use Rattle.satl_cdb.specs.declared.command.Illegal.{Illegal}
use Rattle.satl_cdb.specs.Refusals.{list_length_error, invalid_list_field}
use Rattle.satl_cdb.specs.Unmap.{number_at}
use Rattle.satl_identify.specs.declared.identity.Identity.{Identity}
use Rattle.satl_mode.specs.declared.page.ModePage.{ModePage}
use Rattle.satl_mode.specs.declared.page.ModePage.TheVariants.{ErrorRecovery, Caching, Control, InformationalExceptions}
use Rattle.satl_mode.specs.ModePages.{page_coded, row_of, size_of}

-- modes with a change: each value that it sets
abbrev pub applied : Modes → ModeChange → Modes
applied m change = record {
  wce = unwrap_or change.wce m.wce;
  dra = unwrap_or change.dra m.dra;
  d_sense = unwrap_or change.d_sense m.d_sense;
}

abbrev pub no_change : ModeChange
no_change = record { wce = None; dra = None; d_sense = None }

-- the mode values that a task wants: those that there are, with what it changes, if it does
abbrev pub wanted_by : Modes → Option ModeChange → Modes
wanted_by modes change = applied modes (unwrap_or change no_change)

-- the bytes of the header of a list
abbrev pub header_size : Bool → ℕ
header_size ten = if ten then 8 else 4

-- BLOCK DESCRIPTOR LENGTH: byte 3 of 6, bytes 6 to 7 of 10
abbrev pub descriptor_length : Bool → List Block → ℕ
descriptor_length ten list = if ten then number_at 6 2 list else byte_at list 3

-- the place of the first page
abbrev pub first_page : Bool → List Block → ℕ
first_page ten list = header_size ten + descriptor_length ten list

-- the page of a code where it stands whole at a place; refused are a code that there is not, another PAGE LENGTH than the
-- page's, and a page that is cut short
abbrev pub whole_page : Option ModePage → List Block → ℕ → ℕ → Result ModePage Illegal
whole_page None list length place = Err (invalid_list_field place)
whole_page (Some page) list length place =
    if not (byte_at list (place + 1) == (row_of page).length) then Err (invalid_list_field (place + 1))
    else if nat_lt length (place + size_of page) then Err list_length_error
    else Ok page

-- the page at a place of a list of so many bytes, or why there is none; bit 7 of PAGE CODE is PS
abbrev pub page_at : List Block → ℕ → ℕ → Result ModePage Illegal
page_at list length place =
    if nat_lt length (place + 2) then Err list_length_error
    else whole_page (page_coded (bits_of 6 0 (byte_at list place))) list length place

-- what follows from a page, or from why there is none
abbrev pub on_page : {A : Type 0} → Result ModePage Illegal → (ModePage → A) → (Illegal → A) → A
on_page (Ok page) there none = there page
on_page (Err refusal) there none = none refusal

-- one bit of the byte at a place
abbrev pub list_bit : List Block → ℕ → ℕ → Bool
list_bit list place low = bit_of low (byte_at list place)

-- a change with what the page at a place sets
abbrev pub with_page : ModePage → List Block → ℕ → ModeChange → ModeChange
with_page ErrorRecovery list place change = change
with_page Caching list place change =
    record change { wce = Some (list_bit list (place + 2) 2); dra = Some (list_bit list (place + 12) 5) }
with_page Control list place change = record change { d_sense = Some (list_bit list (place + 2) 2) }
with_page InformationalExceptions list place change = change

-- the change with the pages from a place on, at most n, up to the end or to what is no page; of two pages that set a value
-- the later one counts
unfoldable pub change_from : ℕ → List Block → ℕ → ℕ → ModeChange → ModeChange
change_from zero list length place change = change
change_from (suc n) list length place change =
    on_page (page_at list length place)
    (λ page. change_from n list length (place + size_of page) (with_page page list place change))
    (λ refusal. change)

-- the change that a list of so many bytes makes: a page has 2 bytes or more, so there are no more pages than bytes
abbrev pub change_in : List Block → ℕ → Bool → ModeChange
change_in list length ten =
    if nat_lt length (header_size ten) then no_change
    else change_from length list length (first_page ten list) no_change

-- modes that a drive can have: WCE is 0 without a write cache, and DRA is 1 without look-ahead
pub record AreModesOf (i : Identity) (m : Modes) : Type 0 where
  pub cache : i.cache ≡ false → m.wce ≡ false
  pub look : i.look ≡ false → m.dra ≡ true

-- a change after which such modes are such still: it sets WCE to 1 only with a write cache, and DRA to 0 only with look-ahead
pub record IsChangeOf (i : Identity) (change : ModeChange) : Type 0 where
  pub cache : i.cache ≡ false → unwrap_or change.wce false ≡ false
  pub look : i.look ≡ false → unwrap_or change.dra true ≡ true

-- what a drive can't change is as before: WCE without a write cache, and DRA without look-ahead
pub record KeepsFixed (i : Identity) (old new : Modes) : Type 0 where
  pub cache : i.cache ≡ false → new.wce ≡ old.wce
  pub look : i.look ≡ false → new.dra ≡ old.dra
