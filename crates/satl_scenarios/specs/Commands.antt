-- Tasks of other commands than READ and WRITE, each of which ends in a turn (profile).
use Rattle.std.specs.Prelude.{false, true, List, [], ◌∷◌, ◌++◌, replicate}
use Rattle.satl_base.specs.declared.block.Block.{Block}
use Rattle.satl_base.specs.Blocks.{zero_block}
use Rattle.satl_base.specs.Cells.{Cell, lasts, cached_over}
use Rattle.satl_cdb.specs.declared.command.Command.{Command}
use Rattle.satl_cdb.specs.declared.command.Command.TheVariants.{StartStop, Unmap, Verify, WriteSame}
use Rattle.satl_cdb.specs.declared.command.Form.TheVariants.{Ten}
use Rattle.satl_frame.specs.declared.frames.Frame.TheVariants.{Turn}
use Rattle.satl_frame.specs.Output.{Answer}
use Rattle.satl_direct.specs.Device.{Device}
use Rattle.satl_scenarios.specs.Scenario.{Scenario, answered}
use Rattle.satl_scenarios.specs.Devices.{aa, bb, device, unreadable, zeros}
use Rattle.satl_scenarios.specs.Replies.{check_condition, good, sense, sense_at}
use Rattle.satl_scenarios.specs.Requests.{with_task}

-- a command of tag 1 that waits at a device with these sectors ends in a turn with this answer, and leaves this device
abbrev pub ends_with : Command → List Block → List Cell → Answer → Device → Scenario
ends_with command body cells answer last = record {
  first = with_task 1 command body cells;
  steps = answered (Turn 1) (answer ∷ []) ∷ [];
  losses = 0;
  depth = 0;
  last = last;
}

-- a sector that was written through the cache, and one that never was
abbrev pub written : List Cell
written = cached_over zeros aa ∷ lasts zeros ∷ []

-- START STOP UNIT: the unit is stopped and in standby, with all written back (SBC-3, START STOP UNIT; SAT-3)
abbrev pub stopped_unit : Scenario
stopped_unit =
    ends_with (StartStop false false) [] written (good 1 [])
    (record (device (lasts aa ∷ lasts zeros ∷ [])) { started = false; active = false })

-- with NO_FLUSH nothing is written back
abbrev pub stopped_unflushed : Scenario
stopped_unflushed =
    ends_with (StartStop false true) [] written (good 1 [])
    (record (device written) { started = false; active = false })

-- START STOP UNIT of a stopped unit: it is started and active (SBC-3, START STOP UNIT; SAT-3)
abbrev pub started_unit : Scenario
started_unit = record {
  first = record (with_task 1 (StartStop true false) [] written) { started = false; active = false };
  steps = answered (Turn 1) (good 1 [] ∷ []) ∷ [];
  losses = 0;
  depth = 0;
  last = device written;
}

-- VERIFY with comparison: the data-out are what reads give, or they are not: MISCOMPARE DURING VERIFY OPERATION (SBC-3, VERIFY
-- commands)
abbrev pub same_blocks : Scenario
same_blocks = ends_with (Verify Ten 0 2 true) (aa ∷ zeros ∷ []) written (good 1 []) (device written)

abbrev pub miscompared : Scenario
miscompared = ends_with (Verify Ten 0 2 true) (aa ∷ bb ∷ []) written (check_condition 1 (sense 0xE 0x1D 0x00)) (device written)

-- VERIFY without comparison meets a flaw (SBC-3, VERIFY commands)
abbrev pub verify_failed : Scenario
verify_failed =
    ends_with (Verify Ten 0 2 false) [] (lasts zeros ∷ unreadable zeros ∷ []) (check_condition 1 (sense_at 0x3 0x11 0x00 1))
    (device (lasts zeros ∷ unreadable zeros ∷ []))

-- WRITE SAME: the block at each address (SBC-3, WRITE SAME commands)
abbrev pub same_written : Scenario
same_written =
    ends_with (WriteSame Ten 0 2 false) (bb ∷ []) written (good 1 [])
    (device (record (lasts bb) { may = zeros ∷ aa ∷ bb ∷ [] } ∷ cached_over zeros bb ∷ []))

-- a parameter list for UNMAP: one descriptor, of one block at address 1 (SBC-3 5.28.2)
unfoldable pub unmap_list : Block
unmap_list = record {
  bytes = (0 ∷ 22 ∷ 0 ∷ 16 ∷ 0 ∷ 0 ∷ 0 ∷ 0 ∷ 0 ∷ 0 ∷ 0 ∷ 0 ∷ 0 ∷ 0 ∷ 0 ∷ 1 ∷ 0 ∷ 0 ∷ 0 ∷ 1 ∷ []) ++ replicate 492 0;
}

-- UNMAP: its blocks read as zeros (SBC-3 5.28, LBPRZ)
abbrev pub unmapped : Scenario
unmapped =
    ends_with (Unmap 24) (unmap_list ∷ []) (lasts aa ∷ lasts bb ∷ []) (good 1 [])
    (device (lasts aa ∷ cached_over bb zero_block ∷ []))
