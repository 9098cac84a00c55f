-- A set of conditions as a flag for each (SAM-5 5.14; the flags: profile).
use Rattle.std.specs.Prelude.{Bool, List, filter}
use Rattle.satl_unit.specs.declared.attention.Attention.{Attention}
use Rattle.satl_unit.specs.declared.attention.Attention.TheVariants.{PowerOn, UnitReset, NexusLoss, Cleared, ModeChanged}
use Rattle.satl_unit.specs.declared.attentions.Attentions.TheInside.{Inside}
use Rattle.satl_unit.specs.Conditions.{report_order}

-- the flag of a condition
abbrev pub is_set : Inside → Attention → Bool
is_set flags PowerOn = flags.power_on
is_set flags UnitReset = flags.unit_reset
is_set flags NexusLoss = flags.nexus_loss
is_set flags Cleared = flags.cleared
is_set flags ModeChanged = flags.mode_changed

-- the conditions whose flags are set, in the order of report
abbrev pub flagged : Inside → List Attention
flagged flags = filter (is_set flags) report_order
