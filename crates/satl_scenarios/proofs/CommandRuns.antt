-- Tasks of other commands than READ and WRITE, each of which ends in a turn.
use Rattle.std.proofs.Common.{◌≡◌, inl, inr, refl, arith, false, true, List, [], ◌∷◌}
use Rattle.satl_base.specs.declared.block.Block.{Block}
use Rattle.satl_base.specs.declared.reply.Reply.{Reply}
use Rattle.satl_base.specs.Cells.{Cell, lasts}
use Rattle.satl_base.specs.Blocks.{over}
use Rattle.satl_cdb.specs.declared.command.Command.{Command}
use Rattle.satl_cdb.specs.declared.command.Command.TheVariants.{StartStop, Unmap, Verify, WriteSame}
use Rattle.satl_cdb.specs.declared.command.Form.TheVariants.{Ten}
use Rattle.satl_cdb.specs.Unmap.{descriptor, descriptors_from}
use Rattle.satl_frame.specs.Output.Answer.{replied}
use Rattle.satl_sense.specs.Fixed.{fixed_form}
use Rattle.satl_line.specs.Ranged.RangedTask.{ranged_trim}
use Rattle.satl_direct.specs.Device.{Device}
use Rattle.satl_direct.specs.Ending.{Ends}
use Rattle.satl_direct.specs.Run.{depth}
use Rattle.satl_scenarios.specs.Commands.{same_blocks, ends_with, miscompared, same_written, started_unit, stopped_unit, stopped_unflushed, unmap_list, unmapped, verify_failed, written}
use Rattle.satl_scenarios.specs.Scenario.{CanHappen}
use Rattle.satl_scenarios.specs.Devices.{aa, bb, unreadable, zeros}
use Rattle.satl_scenarios.specs.Requests.{task, with_task}
use Rattle.satl_scenarios.proofs.Building.{it_can_happen, one_turn}
use Rattle.satl_scenarios.proofs.Building.Follows.{next, ends_here}
use Rattle.satl_scenarios.proofs.Endings.{ended, done}
use Rattle.satl_scenarios.proofs.Validity.{filled_differ}

-- a task that waits alone ends in a turn
pub turn_ends : (command : Command) (body : List Block) (cells : List Cell) (reply : Reply) (last : Device) → Ends (with_task 1 command body cells) (task 1 command body) reply last → depth last ≡ 0 → last.down ≡ false → CanHappen (ends_with command body cells (replied reply) last)
turn_ends command body cells reply last e none up = it_can_happen (ends_with command body cells (replied reply) last) (next (one_turn last (ended (task 1 command body) (inl refl) e)) (rw (none, up) ends_here))

pub unit_stopped : CanHappen stopped_unit
unit_stopped = turn_ends (StartStop false false) [] written _ stopped_unit.last (record { answer = refl; stays = refl }) refl refl

pub unit_stopped_unflushed : CanHappen stopped_unflushed
unit_stopped_unflushed = turn_ends (StartStop false true) [] written _ stopped_unflushed.last (record { answer = refl; stays = refl }) refl refl

pub unit_started : CanHappen started_unit
unit_started = it_can_happen started_unit (next (one_turn started_unit.last (ended (task 1 (StartStop true false) []) refl (record { answer = refl; stays = refl }))) ends_here)

pub blocks_compared : CanHappen same_blocks
blocks_compared = turn_ends (Verify Ten 0 2 true) (aa ∷ zeros ∷ []) written _ same_blocks.last (inr (inl (refl, record { answer = refl; stays = refl }))) refl refl

-- the first byte of a filled block tells it from another
bytes_differ : (aa ∷ bb ∷ []) ≡ (aa ∷ zeros ∷ []) → ⊥
bytes_differ same =
    let second : bb ≡ zeros = cc in
    omega (arith, filled_differ 0xBB 0x00 second)

pub blocks_miscompared : CanHappen miscompared
unfolding fixed_form
blocks_miscompared = turn_ends (Verify Ten 0 2 true) (aa ∷ bb ∷ []) written _ miscompared.last (inr (inr (bytes_differ, record { answer = refl; stays = refl }))) refl refl

pub flaw_found : CanHappen verify_failed
unfolding fixed_form
flaw_found = turn_ends (Verify Ten 0 2 false) [] (lasts zeros ∷ unreadable zeros ∷ []) _ verify_failed.last (record { answer = refl; stays = refl }) refl refl

pub same_everywhere : CanHappen same_written
same_everywhere = turn_ends (WriteSame Ten 0 2 false) (bb ∷ []) written _ same_written.last (inr (record { answer = refl; stays = refl })) refl refl

pub blocks_unmapped : CanHappen unmapped
unfolding unmap_list descriptor descriptors_from
blocks_unmapped = turn_ends (Unmap 24) (unmap_list ∷ []) (lasts aa ∷ lasts bb ∷ []) _ unmapped.last (done (ranged_trim (over 1 1 ∷ [])) _ (task 1 (Unmap 24) (unmap_list ∷ [])) refl) refl refl
