-- WRITE SAME and VERIFY that meet a flaw or a CRC error, and a WRITE SAME that unmaps (profile).
use Rattle.std.specs.Prelude.{false, true, List, [], ◌∷◌, ◌++◌, replicate}
use Rattle.satl_base.specs.declared.block.Block.{Block}
use Rattle.satl_base.specs.Blocks.{zero_block}
use Rattle.satl_base.specs.Cells.{Cell, lasts, cached_over}
use Rattle.satl_cdb.specs.declared.command.Command.{Command}
use Rattle.satl_cdb.specs.declared.command.Command.TheVariants.{Verify, WriteSame}
use Rattle.satl_cdb.specs.declared.command.Form.TheVariants.{Ten}
use Rattle.satl_frame.specs.Output.{Answer}
use Rattle.satl_direct.specs.Device.{Device}
use Rattle.satl_scenarios.specs.Commands.{ends_with, written}
use Rattle.satl_scenarios.specs.Scenario.{Scenario}
use Rattle.satl_scenarios.specs.Devices.{aa, bb, device, unreadable, unwritable, zeros}
use Rattle.satl_scenarios.specs.Replies.{check_condition, good, sense, sense_at}
use Rattle.satl_scenarios.specs.Requests.{with_task}

-- such a device with a command that waits, and with one glitch left
abbrev pub glitchy_with : Command → List Block → List Cell → Device
glitchy_with command body cells = record (with_task 1 command body cells) { glitches = 1 }

-- the command ends in a turn with this answer, and leaves this device
abbrev pub glitchy_ends : Command → List Block → List Cell → Answer → Device → Scenario
glitchy_ends command body cells answer last =
    record (ends_with command body cells answer last) { first = glitchy_with command body cells }

-- WRITE SAME fails by a CRC error when one of its two blocks is written: INFORMATION UNIT iuCRC ERROR DETECTED
-- (SBC-3, WRITE SAME commands; SPC-4 4.5.6)
abbrev pub same_garbled : Scenario
same_garbled =
    glitchy_ends (WriteSame Ten 0 2 false) (bb ∷ []) written (check_condition 1 (sense 0xB 0x47 0x03))
    (device (record (lasts bb) { may = zeros ∷ aa ∷ bb ∷ [] } ∷ lasts zeros ∷ []))

-- 65 sectors, the last with a write flaw: it is in the second piece of a WRITE SAME over all (the pieces: profile)
abbrev pub flawed_at_the_end : Cell → List Cell
flawed_at_the_end cell = replicate 64 cell ++ unwritable zeros ∷ []

-- WRITE SAME of these fails at the flaw, when all before it is written, and no glitch is met: WRITE ERROR - AUTO REALLOCATION
-- FAILED at its address (SBC-3, WRITE SAME commands; SPC-4 4.5.6)
abbrev pub same_torn : Scenario
same_torn =
    glitchy_ends (WriteSame Ten 0 65 false) (bb ∷ []) (flawed_at_the_end (lasts zeros))
    (check_condition 1 (sense_at 0x3 0x0C 0x02 64))
    (record (device (flawed_at_the_end (cached_over zeros bb))) { glitches = 1 })

-- or it fails by the CRC error in its first piece, before it comes to the flaw (SBC-3, WRITE SAME commands; profile)
abbrev pub same_garbled_before_the_flaw : Scenario
same_garbled_before_the_flaw =
    glitchy_ends (WriteSame Ten 0 65 false) (bb ∷ []) (flawed_at_the_end (lasts zeros))
    (check_condition 1 (sense 0xB 0x47 0x03))
    (device (flawed_at_the_end (lasts zeros)))

-- WRITE SAME with UNMAP: its blocks read as zeros (SBC-3, WRITE SAME commands, LBPRZ)
abbrev pub same_unmapped : Scenario
same_unmapped =
    ends_with (WriteSame Ten 0 2 true) (zeros ∷ []) (lasts aa ∷ lasts bb ∷ []) (good 1 [])
    (device (cached_over aa zero_block ∷ cached_over bb zero_block ∷ []))

-- VERIFY with comparison meets a flaw: that decides, and neither the data-out nor the glitch (SBC-3, VERIFY commands)
abbrev pub compare_flawed : Scenario
compare_flawed =
    glitchy_ends (Verify Ten 0 2 true) (aa ∷ bb ∷ []) (lasts zeros ∷ unreadable zeros ∷ [])
    (check_condition 1 (sense_at 0x3 0x11 0x00 1))
    (record (device (lasts zeros ∷ unreadable zeros ∷ [])) { glitches = 1 })

-- VERIFY with comparison fails by a CRC error (SBC-3, VERIFY commands; SPC-4 4.5.6)
abbrev pub compare_garbled : Scenario
compare_garbled =
    glitchy_ends (Verify Ten 0 2 true) (aa ∷ zeros ∷ []) written (check_condition 1 (sense 0xB 0x47 0x03)) (device written)
