-- Unit attention conditions (SAM-5 5.14), and those that are posted for one nexus.
use Rattle.std.specs.Prelude.{ℕ, Bool, true, false, ◌||◌, List, [], ◌∷◌, filter}
use Rattle.std.specs.List.{list_any}
use Rattle.satl_base.specs.Lists.{LeavesOut}
use Rattle.satl_unit.specs.declared.attention.AdditionalSense.{AdditionalSense}
use Rattle.satl_unit.specs.declared.attention.Attention.{Attention}
use Rattle.satl_unit.specs.declared.attention.Attention.TheVariants.{PowerOn, UnitReset, NexusLoss, Cleared, ModeChanged}

abbrev sense_codes : ℕ → ℕ → AdditionalSense
sense_codes asc ascq = record { asc = asc; ascq = ascq }

-- POWER ON OCCURRED, BUS DEVICE RESET FUNCTION OCCURRED, I_T NEXUS LOSS OCCURRED, COMMANDS CLEARED BY ANOTHER INITIATOR and
-- MODE PARAMETERS CHANGED (SPC-4 4.5.6)
abbrev pub additional_sense_of : Attention → AdditionalSense
additional_sense_of PowerOn = sense_codes 0x29 0x01
additional_sense_of UnitReset = sense_codes 0x29 0x03
additional_sense_of NexusLoss = sense_codes 0x29 0x07
additional_sense_of Cleared = sense_codes 0x2F 0x00
additional_sense_of ModeChanged = sense_codes 0x2A 0x01

-- the conditions in the order in which they are reported (profile)
abbrev pub report_order : List Attention
report_order = PowerOn ∷ UnitReset ∷ NexusLoss ∷ Cleared ∷ ModeChanged ∷ []

-- conditions in the order of report, each at most once
abbrev pub IsInReportOrder : List Attention → Type 0
IsInReportOrder conditions = LeavesOut report_order conditions

-- whether two are the same
abbrev pub is_same : Attention → Attention → Bool
is_same PowerOn PowerOn = true
is_same UnitReset UnitReset = true
is_same NexusLoss NexusLoss = true
is_same Cleared Cleared = true
is_same ModeChanged ModeChanged = true
is_same a b = false

-- whether a condition is among these
abbrev pub is_posted : Attention → List Attention → Bool
is_posted a conditions = list_any (is_same a) conditions

-- these and one more, in the order of report (SAM-5 5.14)
unfoldable pub posted : Attention → List Attention → List Attention
posted what conditions = filter (λ a. is_same a what || is_posted a conditions) report_order
