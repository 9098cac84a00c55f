-- Reads and writes that end in their turns.
use Rattle.std.proofs.Common.{inl, inr, refl, true, false, [], ◌∷◌}
use Rattle.satl_cdb.specs.declared.command.Command.TheVariants.{Read, Write}
use Rattle.satl_cdb.specs.declared.command.Form.TheVariants.{Ten}
use Rattle.satl_cdb.specs.Table.{says}
use Rattle.satl_sense.specs.Fixed.{fixed_form}
use Rattle.satl_line.specs.Conflict.{accesses_conflict}
use Rattle.satl_line.specs.declared.entry.Entry.{Entry}
use Rattle.satl_line.specs.Ranged.RangedTask.{ranged_read, ranged_write}
use Rattle.satl_direct.specs.Device.{Device}
use Rattle.satl_base.specs.Blocks.{over}
use Rattle.satl_base.specs.Cells.{lasts, cached_over}
use Rattle.satl_direct.specs.Run.TurnsOf.{none}
use Rattle.satl_scenarios.specs.Scenario.{CanHappen}
use Rattle.satl_scenarios.specs.Transfers.{waking_read, ordered_read, written_then_read, reads_in_order, reads_in_reverse, written_past_the_cache, garbled_write}
use Rattle.satl_scenarios.specs.Devices.{aa, bb, never_written, device, zeros}
use Rattle.satl_scenarios.specs.Requests.{task}
use Rattle.satl_scenarios.proofs.Building.{it_can_happen, arrives, drained, one_turn, turn_more}
use Rattle.satl_scenarios.proofs.Building.Follows.{next, ends_here}
use Rattle.satl_scenarios.proofs.Endings.{ended, done, glitched}

-- ---- a block is written and read

abbrev write_task : Entry
write_task = task 1 (Write Ten 0 1 false) (aa ∷ [])

abbrev read_task : Entry
read_task = task 2 (Read Ten 0 1 false) []

-- the device once the block is written
abbrev written : Device
written = device (cached_over zeros aa ∷ lasts zeros ∷ lasts zeros ∷ [])

pub read_after_write : CanHappen written_then_read
unfolding says
read_after_write =
    it_can_happen written_then_read
    (next (arrives [] (record (never_written 3) { tasks = write_task ∷ [] }) (refl, refl))
    (next (one_turn written (ended write_task (inl refl) (done (ranged_write false (over 0 1) (aa ∷ [])) _ write_task refl)))
    (next (arrives [] (record written { tasks = read_task ∷ [] }) (refl, refl))
    (next (one_turn written (ended read_task (inl refl) (done (ranged_read false (over 0 1)) _ read_task refl)))
    ends_here))))

-- ---- two reads

abbrev pub low_read : Entry
low_read = task 1 (Read Ten 0 1 false) []

abbrev pub high_read : Entry
high_read = task 2 (Read Ten 1 1 false) []

-- the device while both wait
abbrev pub both_wait : Device
both_wait = record (never_written 2) { tasks = low_read ∷ high_read ∷ [] }

pub in_order : CanHappen reads_in_order
unfolding says accesses_conflict
in_order =
    it_can_happen reads_in_order
    (next (arrives [] (record (never_written 2) { tasks = low_read ∷ [] }) (refl, refl))
    (next (arrives [] both_wait (refl, refl))
    (next (drained
    (turn_more (never_written 2)
    (turn_more (record (never_written 2) { tasks = high_read ∷ [] }) none
    (ended low_read (inl refl) (done (ranged_read false (over 0 1)) _ low_read refl)))
    (ended high_read (inl refl) (done (ranged_read false (over 1 1)) _ high_read refl)))
    refl)
    ends_here)))

-- two reads do not conflict, so the second may end first
pub in_reverse : CanHappen reads_in_reverse
unfolding says accesses_conflict
in_reverse =
    it_can_happen reads_in_reverse
    (next (arrives [] (record (never_written 2) { tasks = low_read ∷ [] }) (refl, refl))
    (next (arrives [] both_wait (refl, refl))
    (next (drained
    (turn_more (never_written 2)
    (turn_more (record (never_written 2) { tasks = low_read ∷ [] }) none
    (ended high_read (inr (refl, inl refl)) (done (ranged_read false (over 1 1)) _ high_read refl)))
    (ended low_read (inl refl) (done (ranged_read false (over 0 1)) _ low_read refl)))
    refl)
    ends_here)))

-- the ORDERED read conflicts with the one before it, so it ends second
abbrev last_read : Entry
last_read = record high_read { ordered = true }

pub ordered_waits : CanHappen ordered_read
unfolding says accesses_conflict
ordered_waits =
    it_can_happen ordered_read
    (next (arrives [] (record (never_written 2) { tasks = low_read ∷ [] }) (refl, refl))
    (next (arrives [] (record (never_written 2) { tasks = low_read ∷ last_read ∷ [] }) (refl, refl))
    (next (drained
    (turn_more (never_written 2)
    (turn_more (record (never_written 2) { tasks = last_read ∷ [] }) none
    (ended low_read (inl refl) (done (ranged_read false (over 0 1)) _ low_read refl)))
    (ended last_read (inl refl) (done (ranged_read false (over 1 1)) _ last_read refl)))
    refl)
    ends_here)))

pub read_wakes : CanHappen waking_read
unfolding says
read_wakes =
    it_can_happen waking_read
    (next (arrives [] (record waking_read.first { tasks = low_read ∷ [] }) (refl, refl))
    (next (one_turn (never_written 2) (ended low_read (inl refl) (done (ranged_read false (over 0 1)) _ low_read refl)))
    ends_here))

-- ---- past the cache

abbrev forced_write : Entry
forced_write = task 1 (Write Ten 0 1 true) (aa ∷ [])

pub write_past_the_cache : CanHappen written_past_the_cache
unfolding says
write_past_the_cache =
    it_can_happen written_past_the_cache
    (next (arrives [] (record (never_written 2) { tasks = forced_write ∷ [] }) (refl, refl))
    (next (one_turn written_past_the_cache.last (ended forced_write (inl refl) (done (ranged_write true (over 0 1) (aa ∷ [])) _ forced_write refl)))
    ends_here))

-- ---- a write is garbled: its first block is left out, and the second is put

abbrev pub long_write : Entry
long_write = task 1 (Write Ten 0 2 false) (aa ∷ bb ∷ [])

pub write_garbled : CanHappen garbled_write
unfolding says fixed_form
write_garbled =
    it_can_happen garbled_write
    (next (arrives [] (record garbled_write.first { tasks = long_write ∷ [] }) (refl, refl))
    (next (one_turn garbled_write.last
    (ended long_write (inl refl) (glitched (ranged_write false (over 0 2) (aa ∷ bb ∷ [])) garbled_write.last.cells 0 _ long_write refl (inl (inr refl)) refl)))
    ends_here))
