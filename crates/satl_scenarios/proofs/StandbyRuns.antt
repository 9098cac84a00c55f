-- Commands that a unit carries out while it is stopped and in standby.
use Rattle.std.proofs.Common.{◌≡◌, inl, refl, false, true, List, [], ◌∷◌}
use Rattle.satl_base.specs.declared.block.Block.{Block}
use Rattle.satl_base.specs.declared.reply.Reply.{Reply}
use Rattle.satl_base.specs.Cells.{Cell, lasts}
use Rattle.satl_cdb.specs.declared.command.Command.{Command}
use Rattle.satl_cdb.specs.declared.command.Command.TheVariants.{Pass}
use Rattle.satl_frame.specs.DataPages.{padded_block, pages_from, pages_of}
use Rattle.satl_frame.specs.Output.Answer.{replied}
use Rattle.satl_mode.specs.Changes.{change_from}
use Rattle.satl_regs.specs.Commands.{command_in, command_row}
use Rattle.satl_regs.specs.Effects.{good_end}
use Rattle.satl_sense.specs.Fixed.{fixed_form}
use Rattle.satl_unit.specs.Conditions.{posted}
use Rattle.satl_direct.specs.Device.{Device}
use Rattle.satl_direct.specs.Ending.{Ends, device_medium}
use Rattle.satl_direct.specs.Run.{depth}
use Rattle.satl_direct.specs.Tasks.{pass_of}
use Rattle.satl_scenarios.specs.Commands.{written}
use Rattle.satl_scenarios.specs.Passes.{check_power, read_block}
use Rattle.satl_scenarios.specs.Power.{caching_list, select}
use Rattle.satl_scenarios.specs.Scenario.{CanHappen}
use Rattle.satl_scenarios.specs.Standby.{at_rest, ends_at_rest, read_through, selected_at_rest, standby_told}
use Rattle.satl_scenarios.specs.Devices.{aa, full_of, zeros}
use Rattle.satl_scenarios.specs.Requests.{task, with_task}
use Rattle.satl_scenarios.proofs.Building.{it_can_happen, one_turn}
use Rattle.satl_scenarios.proofs.Building.Follows.{next, ends_here}
use Rattle.satl_scenarios.proofs.Endings.{ended}

-- a task that waits alone at a stopped unit ends in a turn
rest_turn : (command : Command) (body : List Block) (cells : List Cell) (reply : Reply) (last : Device) → Ends (at_rest (with_task 1 command body cells)) (task 1 command body) reply last → depth last ≡ 0 → last.down ≡ false
    → CanHappen (ends_at_rest command body cells (replied reply) last)
rest_turn command body cells reply last e none up =
    it_can_happen (ends_at_rest command body cells (replied reply) last) (next (one_turn last (ended (task 1 command body) refl e)) (rw (none, up) ends_here))

pub block_read_through : CanHappen read_through
unfolding command_in command_row pages_of pages_from padded_block full_of
block_read_through =
    rest_turn (Pass read_block) [] (lasts zeros ∷ lasts aa ∷ []) _ read_through.last
    (record {
      given = zeros ∷ [];
      data_out = λ out. absurd cc;
      size = refl;
      ended = good_end (pass_of read_block).regs 0 0;
      taken = aa ∷ [];
      after = record (device_medium read_through.first) { active = true };
      does = inl (record { ends = refl; data_in = refl; medium = refl });
      answer = refl;
      stays = refl;
    }) refl refl

pub standby_checked : CanHappen standby_told
unfolding command_in command_row pages_of pages_from padded_block fixed_form
standby_checked =
    rest_turn (Pass check_power) [] written _ standby_told.last
    (record {
      given = [];
      data_out = λ out. refl;
      size = refl;
      ended = good_end (pass_of check_power).regs 0 0;
      taken = [];
      after = device_medium standby_told.first;
      does = record { ends = refl; data_in = refl; medium = refl };
      answer = refl;
      stays = refl;
    }) refl refl

pub cache_turned_off_at_rest : CanHappen selected_at_rest
unfolding change_from caching_list posted
cache_turned_off_at_rest = rest_turn select (caching_list ∷ []) written _ selected_at_rest.last (record { answer = refl; stays = refl }) refl refl
