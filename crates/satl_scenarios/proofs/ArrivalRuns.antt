-- Commands as they arrive: conditions asked for, another logical unit, no block, a set full of blocks, expected lengths.
use Rattle.std.proofs.Common.{inl, refl, false, Some, [], ◌∷◌}
use Rattle.satl_cdb.specs.declared.command.Command.TheVariants.{Read}
use Rattle.satl_cdb.specs.declared.command.Form.TheVariants.{Ten}
use Rattle.satl_cdb.specs.Table.{says}
use Rattle.satl_frame.specs.DataPages.{padded_block, pages_from, pages_of}
use Rattle.satl_sense.specs.Descriptor.{descriptor_form}
use Rattle.satl_sense.specs.Fixed.{fixed_form}
use Rattle.satl_unit.specs.declared.attention.Attention.TheVariants.{ModeChanged}
use Rattle.satl_line.specs.Conflict.{accesses_conflict}
use Rattle.satl_line.specs.declared.entry.Entry.{Entry}
use Rattle.satl_line.specs.Ranged.RangedTask.{ranged_read}
use Rattle.satl_direct.specs.Run.TurnsOf.{none}
use Rattle.satl_base.specs.Blocks.{over}
use Rattle.satl_scenarios.specs.Arrivals.{full_of_blocks, lengths_expected, nothing_moved, no_block_at_rest, one_block_too_many, other_unit, sense_requested}
use Rattle.satl_scenarios.specs.Scenario.{CanHappen}
use Rattle.satl_scenarios.specs.Devices.{never_written}
use Rattle.satl_scenarios.specs.Requests.{task}
use Rattle.satl_scenarios.proofs.Building.{it_can_happen, arrives, turn_more, turns}
use Rattle.satl_scenarios.proofs.Building.Follows.{next, ends_here}
use Rattle.satl_scenarios.proofs.Endings.{done, ended}

pub conditions_told : CanHappen sense_requested
unfolding says fixed_form pages_of pages_from padded_block
conditions_told =
    it_can_happen sense_requested
    (next (arrives _ (record (never_written 2) { attentions = (ModeChanged ∷ []) ∷ [] ∷ [] ∷ [] ∷ [] }) (refl, refl))
    (next (arrives _ (never_written 2) (refl, refl))
    (next (arrives _ (never_written 2) (refl, refl))
    ends_here)))

pub unit_unknown : CanHappen other_unit
unfolding says fixed_form descriptor_form pages_of pages_from padded_block
unit_unknown =
    it_can_happen other_unit
    (next (arrives _ other_unit.last (refl, refl))
    (next (arrives _ other_unit.last (refl, refl))
    ends_here))

pub nothing_to_do : CanHappen nothing_moved
unfolding says fixed_form
nothing_to_do =
    it_can_happen nothing_moved
    (next (arrives _ (never_written 2) (refl, refl))
    (next (arrives _ (never_written 2) (refl, refl))
    (next (arrives _ (never_written 2) (refl, refl))
    ends_here)))

pub nothing_to_do_at_rest : CanHappen no_block_at_rest
unfolding says fixed_form
nothing_to_do_at_rest = it_can_happen no_block_at_rest (next (arrives _ no_block_at_rest.last (refl, refl)) ends_here)

pub blocks_full : CanHappen one_block_too_many
unfolding says accesses_conflict
blocks_full = it_can_happen one_block_too_many (next (arrives _ full_of_blocks (refl, refl)) ends_here)

abbrev short_read : Entry
short_read = record (task 1 (Read Ten 0 1 false) []) { expected = Some 77 }

abbrev long_read : Entry
long_read = record (task 2 (Read Ten 0 1 false) []) { expected = Some 1024 }

pub lengths_carried : CanHappen lengths_expected
unfolding says accesses_conflict
lengths_carried =
    it_can_happen lengths_expected
    (next (arrives [] (record (never_written 2) { tasks = short_read ∷ [] }) (refl, refl))
    (next (arrives [] (record (never_written 2) { tasks = short_read ∷ long_read ∷ [] }) (refl, refl))
    (next (turns
    (turn_more (never_written 2)
    (turn_more (record (never_written 2) { tasks = long_read ∷ [] }) none (ended short_read (inl refl) (done (ranged_read false (over 0 1)) _ short_read refl)))
    (ended long_read (inl refl) (done (ranged_read false (over 0 1)) _ long_read refl))))
    ends_here)))
