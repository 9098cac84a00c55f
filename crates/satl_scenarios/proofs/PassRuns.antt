-- ATA commands that a host sends through the layer.
use Rattle.std.proofs.Common.{◌≡◌, inl, refl, sym, ◌∙◌, false, true, ℕ, List, [], ◌∷◌}
use Rattle.std.specs.Prelude.{slice_index, slice_set}
use Rattle.std.proofs.lemmas.List.{get_or-set_other}
use Rattle.satl_base.specs.declared.block.Block.{Block}
use Rattle.satl_base.specs.Cells.{lasts}
use Rattle.satl_cdb.specs.declared.command.Command.TheVariants.{Pass}
use Rattle.satl_sense.specs.Fixed.{fixed_form}
use Rattle.satl_regs.specs.Commands.{command_in, command_row}
use Rattle.satl_regs.specs.Effects.{IsTelling, flawed_end, good_end}
use Rattle.satl_pass.specs.Status.{error_sense}
use Rattle.satl_identify.specs.Data.{identity_data}
use Rattle.satl_frame.specs.DataPages.{padded_block, pages_from, pages_of}
use Rattle.satl_direct.specs.Ending.{device_medium}
use Rattle.satl_direct.specs.Tasks.{pass_of}
use Rattle.satl_scenarios.specs.Commands.{written}
use Rattle.satl_scenarios.specs.Passes.{cache_disabled, cache_off, check_power, identified, identify, power_checked, read_block, unreadable_through, write_block, written_through}
use Rattle.satl_scenarios.specs.Scenario.{CanHappen}
use Rattle.satl_scenarios.specs.Devices.{bb, device, full_of, identify_data, unreadable, zeros}
use Rattle.satl_scenarios.proofs.CommandRuns.{turn_ends}

abbrev identify_data_2 : Block
identify_data_2 = record { bytes = identify_data 2 }

pub drive_identified : CanHappen identified
unfolding command_in command_row pages_of pages_from padded_block identify_data
drive_identified =
    turn_ends (Pass identify) [] written _ identified.last
    (record {
      given = zeros ∷ [];
      data_out = λ out. absurd cc;
      size = refl;
      ended = good_end (pass_of identify).regs 0 0;
      taken = identify_data_2 ∷ [];
      after = device_medium identified.first;
      does = record { ends = refl; data_in = refl; medium = refl };
      answer = refl;
      stays = refl;
    }) refl refl

pub power_mode_checked : CanHappen power_checked
unfolding command_in command_row pages_of pages_from padded_block fixed_form
power_mode_checked =
    turn_ends (Pass check_power) [] written _ power_checked.last
    (record {
      given = [];
      data_out = λ out. refl;
      size = refl;
      ended = good_end (pass_of check_power).regs 0xFF 0;
      taken = [];
      after = device_medium power_checked.first;
      does = record { ends = refl; data_in = refl; medium = refl };
      answer = refl;
      stays = refl;
    }) refl refl

pub block_written : CanHappen written_through
unfolding command_in command_row pages_of pages_from padded_block full_of
block_written =
    turn_ends (Pass write_block) (bb ∷ []) written _ written_through.last
    (record {
      given = bb ∷ [];
      data_out = λ out. refl;
      size = refl;
      ended = good_end (pass_of write_block).regs 0 0;
      taken = bb ∷ [];
      after = device_medium (device written_through.last.cells);
      does = inl (record { ends = refl; data_in = refl; medium = refl });
      answer = refl;
      stays = refl;
    }) refl refl

pub block_unreadable : CanHappen unreadable_through
unfolding command_in command_row pages_of pages_from padded_block fixed_form error_sense
block_unreadable =
    turn_ends (Pass read_block) [] (lasts zeros ∷ unreadable zeros ∷ []) _ unreadable_through.last
    (record {
      given = zeros ∷ [];
      data_out = λ out. absurd cc;
      size = refl;
      ended = flawed_end (pass_of read_block).regs true 1;
      taken = zeros ∷ [];
      after = device_medium unreadable_through.first;
      does = record { ends = refl; data_in = refl; part = refl; medium = refl };
      answer = refl;
      stays = refl;
    }) refl refl

-- bytes of a list in which one byte was put are as where another was put, but for it
elsewhere : (bytes : List ℕ) (place a b i : ℕ) → (i ≡ place → ⊥) → slice_index (slice_set bytes place a) i ≡ slice_index (slice_set bytes place b) i
elsewhere bytes place a b i other = get_or-set_other bytes place i a 0 other ∙ sym (get_or-set_other bytes place i b 0 other)

-- the data that the drive gives once its cache is off
abbrev disabled_data : List ℕ
disabled_data = identity_data (identify_data 2) false true

tells_disabled : IsTelling false true (identity_data (identify_data 2) true true) disabled_data
unfolding identify_data
tells_disabled = record {
  cache_is = refl;
  look_is = refl;
  size = refl;
  high_bit = refl;
  low_bits = refl;
  others = λ i setting sum. elsewhere (identify_data 2) 170 0x40 0x60 i setting;
  integrity = refl;
}

pub features_set : CanHappen cache_disabled
unfolding command_in command_row pages_of pages_from padded_block identify_data
features_set =
    turn_ends (Pass cache_off) [] written _ cache_disabled.last
    (record {
      given = [];
      data_out = λ out. refl;
      size = refl;
      ended = good_end (pass_of cache_off).regs 0 0;
      taken = [];
      after = record (device_medium (device cache_disabled.last.cells)) { cache = false; identify = disabled_data };
      does = record { ends = refl; data_in = refl; tells = tells_disabled; medium = refl };
      answer = refl;
      stays = refl;
    }) refl refl
