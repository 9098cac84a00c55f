-- Commands that a unit carries out while it is stopped and in standby (profile).
use Rattle.std.specs.Prelude.{false, List, [], ◌∷◌}
use Rattle.satl_base.specs.declared.block.Block.{Block}
use Rattle.satl_base.specs.Cells.{Cell, lasts}
use Rattle.satl_cdb.specs.declared.command.Command.{Command}
use Rattle.satl_cdb.specs.declared.command.Command.TheVariants.{Pass}
use Rattle.satl_unit.specs.declared.attention.Attention.TheVariants.{ModeChanged}
use Rattle.satl_frame.specs.Output.{Answer}
use Rattle.satl_direct.specs.Device.{Device}
use Rattle.satl_scenarios.specs.Commands.{ends_with, written}
use Rattle.satl_scenarios.specs.Passes.{check_power, read_block}
use Rattle.satl_scenarios.specs.Power.{caching_list, select}
use Rattle.satl_scenarios.specs.Scenario.{Scenario}
use Rattle.satl_scenarios.specs.Devices.{aa, device, zeros}
use Rattle.satl_scenarios.specs.Replies.{check_condition, good}
use Rattle.satl_scenarios.specs.Requests.{with_task}

-- a device that is stopped and in standby
abbrev pub at_rest : Device → Device
at_rest device = record device { started = false; active = false }

-- there a command ends in a turn with this answer, and leaves this device
abbrev pub ends_at_rest : Command → List Block → List Cell → Answer → Device → Scenario
ends_at_rest command body cells answer last =
    record (ends_with command body cells answer last) { first = at_rest (with_task 1 command body cells) }

-- a host reads by READ DMA EXT: the drive is active from then on, and the unit stays stopped (SAT-3 12.2; ACS-3, READ DMA EXT)
abbrev pub read_through : Scenario
read_through =
    ends_at_rest (Pass read_block) [] (lasts zeros ∷ lasts aa ∷ []) (good 1 (aa ∷ []))
    (record (device (lasts zeros ∷ lasts aa ∷ [])) { started = false })

-- CHECK POWER MODE with CK_COND: STATUS 40h and COUNT 00h, standby; the drive stays in standby (SAT-3 12.2.2.6; ACS-3, CHECK
-- POWER MODE)
abbrev pub standby_told : Scenario
standby_told =
    ends_at_rest (Pass check_power) [] written
    (check_condition 1 (0xF0 ∷ 0 ∷ 0x1 ∷ 0 ∷ 0x40 ∷ 0 ∷ 0x00 ∷ 0x0A ∷ 0 ∷ 0 ∷ 0 ∷ 0 ∷ 0x00 ∷ 0x1D ∷ 0 ∷ 0 ∷ 0 ∷ 0 ∷ []))
    (at_rest (device written))

-- MODE SELECT turns the cache off: all is written back, the other nexuses are told, and the drive stays in standby (SBC-3
-- 6.4.5)
abbrev pub selected_at_rest : Scenario
selected_at_rest =
    ends_at_rest select (caching_list ∷ []) written (good 1 [])
    (record (at_rest (device (lasts aa ∷ lasts zeros ∷ []))) {
      modes = record { wce = false; dra = false; d_sense = false };
      attentions = [] ∷ (ModeChanged ∷ []) ∷ (ModeChanged ∷ []) ∷ (ModeChanged ∷ []) ∷ [];
    })
