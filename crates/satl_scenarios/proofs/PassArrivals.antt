-- ATA commands that a host sends through the layer, from their arrival to their end.
use Rattle.std.proofs.Common.{inl, refl, false, [], ◌∷◌}
use Rattle.satl_cdb.specs.declared.command.Command.TheVariants.{Pass, Read}
use Rattle.satl_cdb.specs.declared.command.Form.TheVariants.{Ten}
use Rattle.satl_cdb.specs.Table.{says}
use Rattle.satl_regs.specs.Commands.{command_in, command_row}
use Rattle.satl_regs.specs.Effects.{good_end}
use Rattle.satl_pass.specs.Reading.{pass_says}
use Rattle.satl_frame.specs.DataPages.{padded_block, pages_from, pages_of}
use Rattle.satl_line.specs.declared.entry.Entry.{Entry}
use Rattle.satl_line.specs.Conflict.{accesses_conflict}
use Rattle.satl_line.specs.Ranged.RangedTask.{ranged_read}
use Rattle.satl_direct.specs.Device.{Device}
use Rattle.satl_direct.specs.Ending.{device_medium}
use Rattle.satl_direct.specs.Run.TurnsOf.{none}
use Rattle.satl_base.specs.Blocks.{over}
use Rattle.satl_direct.specs.Tasks.{pass_of}
use Rattle.satl_scenarios.specs.Commands.{written}
use Rattle.satl_scenarios.specs.Passes.{identified_on_request, identify, read_behind_it, write_block}
use Rattle.satl_scenarios.specs.Scenario.{CanHappen}
use Rattle.satl_scenarios.specs.Devices.{bb, device, full_of, identify_data, zeros}
use Rattle.satl_scenarios.specs.Requests.{task, with_task}
use Rattle.satl_scenarios.proofs.Building.{arrives, it_can_happen, one_turn, turn_more, turns}
use Rattle.satl_scenarios.proofs.Building.Follows.{ends_here, next}
use Rattle.satl_scenarios.proofs.Endings.{done, ended}

-- a device at which IDENTIFY DEVICE waits
abbrev identifying : Device
identifying = with_task 1 (Pass identify) [] written

pub identified_from_its_arrival : CanHappen identified_on_request
unfolding says pass_says command_in command_row pages_of pages_from padded_block identify_data
identified_from_its_arrival =
    it_can_happen identified_on_request
    (next (arrives [] identifying (refl, refl))
    (next (one_turn (device written) (ended (task 1 (Pass identify) []) (inl refl)
    (record {
      given = zeros ∷ [];
      data_out = λ out. absurd cc;
      size = refl;
      ended = good_end (pass_of identify).regs 0 0;
      taken = record { bytes = identify_data 2 } ∷ [];
      after = device_medium identifying;
      does = record { ends = refl; data_in = refl; medium = refl };
      answer = refl;
      stays = refl;
    })))
    ends_here))

abbrev waiting_write : Entry
waiting_write = task 1 (Pass write_block) (bb ∷ [])

abbrev waiting_read : Entry
waiting_read = task 2 (Read Ten 1 1 false) []

-- the device once the block is written, and the READ still waits
abbrev still_to_read : Device
still_to_read = record read_behind_it.last { tasks = waiting_read ∷ [] }

pub read_from_its_arrival : CanHappen read_behind_it
unfolding says pass_says command_in command_row pages_of pages_from padded_block full_of accesses_conflict
read_from_its_arrival =
    it_can_happen read_behind_it
    (next (arrives [] (with_task 1 (Pass write_block) (bb ∷ []) written) (refl, refl))
    (next (arrives [] (record (device written) { tasks = waiting_write ∷ waiting_read ∷ [] }) (refl, refl))
    (next (turns
    (turn_more read_behind_it.last
    (turn_more still_to_read none (ended waiting_write (inl refl)
    (record {
      given = bb ∷ [];
      data_out = λ out. refl;
      size = refl;
      ended = good_end (pass_of write_block).regs 0 0;
      taken = bb ∷ [];
      after = device_medium still_to_read;
      does = inl (record { ends = refl; data_in = refl; medium = refl });
      answer = refl;
      stays = refl;
    })))
    (ended waiting_read (inl refl) (done (ranged_read false (over 1 1)) still_to_read waiting_read refl))))
    ends_here)))
