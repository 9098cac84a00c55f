-- A MODE SELECT of what MODE SENSE showed (profile).
use Rattle.std.specs.Prelude.{◌≡◌, ℕ, ◌^◌, ◌<◌, ◌++◌, ◌∷◌, Bool, List, length, Ok}
use Rattle.satl_base.specs.declared.block.Block.{Block}
use Rattle.satl_base.specs.declared.modes.Modes.{Modes}
use Rattle.satl_identify.specs.declared.identity.Identity.{Identity}
use Rattle.satl_mode.specs.declared.sense.ModeSense.{ModeSense}
use Rattle.satl_mode.specs.Changes.{AreModesOf}
use Rattle.satl_mode.specs.ModeData.{mode_data}
use Rattle.satl_mode.specs.ModePages.{current_values}
use Rattle.satl_mode.specs.SelectList.{select_says}

-- MODE SENSE for the current values of all pages (SPC-4, MODE SENSE commands)
abbrev pub sense_all : Bool → Bool → Bool → ModeSense
sense_all ten long_lba no_descriptor = record {
  ten = ten;
  long_lba = long_lba;
  no_descriptor = no_descriptor;
  control = current_values;
  page = 0x3F;
}

-- what it shows, and pages that begin with that, whatever follows
abbrev pub shown : Identity → Modes → Bool → Bool → Bool → List ℕ
shown i m ten long_lba no_descriptor = mode_data i m (sense_all ten long_lba no_descriptor)

abbrev pub beginning : List ℕ → List ℕ → List Block → List Block
beginning bytes more rest = record { bytes = bytes ++ more } ∷ rest

-- what MODE SENSE showed of some modes is a list for MODE SELECT of the same form that gives these modes, whatever the drive's
-- modes are by then (SPC-4, MODE SELECT commands)
abbrev pub GivesWhatWasShown : Type 0
GivesWhatWasShown =
    (i : Identity) (m now : Modes) (ten long_lba no_descriptor : Bool) (more : List ℕ) (rest : List Block) → i.capacity < 2 ^ 64
    → AreModesOf i m → AreModesOf i now →
    select_says i now (beginning (shown i m ten long_lba no_descriptor) more rest)
    (length (shown i m ten long_lba no_descriptor)) ten ≡ Ok m
