-- Transfers that meet a flaw of a sector or a CRC error.
use Rattle.std.proofs.Common.{inl, inr, refl, false, List, [], ◌∷◌}
use Rattle.satl_cdb.specs.declared.command.Command.TheVariants.{Read, Write}
use Rattle.satl_cdb.specs.declared.command.Form.TheVariants.{Ten}
use Rattle.satl_cdb.specs.Table.{says}
use Rattle.satl_sense.specs.Descriptor.{descriptor_form}
use Rattle.satl_sense.specs.Fixed.{fixed_form}
use Rattle.satl_frame.specs.declared.frames.Frame.TheVariants.{End}
use Rattle.satl_frame.specs.Output.Answer.{closed}
use Rattle.satl_line.specs.Conflict.{accesses_conflict}
use Rattle.satl_line.specs.declared.entry.Entry.{Entry}
use Rattle.satl_line.specs.Ranged.RangedTask.{ranged_read, ranged_write}
use Rattle.satl_direct.specs.Device.{Device}
use Rattle.satl_base.specs.Blocks.{over}
use Rattle.satl_base.specs.Cells.{lasts, cached_over}
use Rattle.satl_direct.specs.Run.TurnsOf.{none}
use Rattle.satl_scenarios.specs.Scenario.{CanHappen}
use Rattle.satl_scenarios.specs.Flaws.{flaw_among_writes, torn_write, garbled_read, spared_read, described}
use Rattle.satl_scenarios.specs.Devices.{aa, bb, never_written, device, unreadable, unwritable, zeros}
use Rattle.satl_scenarios.specs.Replies.{check_condition, good, sense_at}
use Rattle.satl_scenarios.specs.Requests.{task}
use Rattle.satl_scenarios.proofs.Building.{Occurs, it_can_happen, arrives, drained, happens, one_turn, turn_more}
use Rattle.satl_scenarios.proofs.Building.Follows.{next, ends_here}
use Rattle.satl_scenarios.proofs.Endings.{ended, done, flawed, glitched}

-- ---- a read fails, and the writes about it are done

abbrev pub low_write : Entry
low_write = task 1 (Write Ten 0 1 false) (aa ∷ [])

abbrev pub middle_read : Entry
middle_read = task 2 (Read Ten 1 1 false) []

abbrev pub high_write : Entry
high_write = task 3 (Write Ten 2 1 false) (bb ∷ [])

-- the device with the flaw, and once the first write is done, and the other
abbrev pub struck : Device
struck = device (lasts zeros ∷ unreadable zeros ∷ lasts zeros ∷ [])

abbrev low_written : Device
low_written = device (cached_over zeros aa ∷ unreadable zeros ∷ lasts zeros ∷ [])

abbrev pub both_written : Device
both_written = device (cached_over zeros aa ∷ unreadable zeros ∷ cached_over zeros bb ∷ [])

-- the device with these tasks
abbrev pub struck_with : List Entry → Device
struck_with tasks = record struck { tasks = tasks }

-- Step by step, as the definitions have it:

-- END takes three turns, read here from the last one to the first, until no task is left
pub three_end : Occurs End (struck_with (low_write ∷ middle_read ∷ high_write ∷ [])) (check_condition 2 (sense_at 0x3 0x11 0x00 1) ∷ good 1 [] ∷ good 3 [] ∷ closed ∷ []) both_written 2
unfolding fixed_form accesses_conflict
three_end =
    drained
    -- third turn: the write of sector 2 alone is there, and it is done: its block is what a read gives, and power may leave the
    -- old one
    (turn_more both_written
    -- second turn: the write of sector 0 is done in the same way; it is the first of the list
    (turn_more (record low_written { tasks = high_write ∷ [] })
    -- first turn: the read is eligible, since the write before it does not conflict with it; the lowest flaw of its kind in its
    -- range is at 1, so it ends with MEDIUM ERROR there; it writes nothing, so the sectors stay, and it leaves the list
    (turn_more (struck_with (low_write ∷ high_write ∷ [])) none
    (ended middle_read (inr (refl, inl refl)) (flawed (ranged_read false (over 1 1)) 1 struck.cells _ middle_read refl refl)))
    (ended low_write (inl refl) (done (ranged_write false (over 0 1) (aa ∷ [])) _ low_write refl)))
    (ended high_write (inl refl) (done (ranged_write false (over 2 1) (bb ∷ [])) _ high_write refl)))
    refl

pub read_fails_among_writes : CanHappen flaw_among_writes
unfolding says fixed_form accesses_conflict
read_fails_among_writes =
    it_can_happen flaw_among_writes
    -- the bench sets the flaw of sector 1: nothing is answered, and no other field of the device changes
    (next (happens [] struck (record { none = refl; new_is = refl }))
    -- each of three commands passes all tests of an arrival (logical unit, tag, unit attention, code, fields, range, data-out,
    -- room) and so becomes the last task of the list; no two of the three ranges meet, so all are eligible, and the depth goes
    -- from 1 to 3
    (next (arrives [] (struck_with (low_write ∷ [])) (refl, refl))
    (next (arrives [] (struck_with (low_write ∷ middle_read ∷ [])) (refl, refl))
    (next (arrives [] (struck_with (low_write ∷ middle_read ∷ high_write ∷ [])) (refl, refl))
    (next three_end
    ends_here)))))

-- ---- a write is torn

abbrev torn_task : Entry
torn_task = task 1 (Write Ten 0 2 false) (aa ∷ bb ∷ [])

abbrev worn : Device
worn = device (lasts zeros ∷ unwritable zeros ∷ [])

abbrev torn : Device
torn = device (cached_over zeros aa ∷ unwritable zeros ∷ [])

-- the first block is put, and the second is left out
pub write_torn : CanHappen torn_write
unfolding says fixed_form
write_torn =
    it_can_happen torn_write
    (next (happens [] worn (record { none = refl; new_is = refl }))
    (next (arrives [] (record worn { tasks = torn_task ∷ [] }) (refl, refl))
    (next (one_turn torn (ended torn_task (inl refl) (flawed (ranged_write false (over 0 2) (aa ∷ bb ∷ [])) 1 torn.cells _ torn_task refl (inr (inl refl)))))
    ends_here)))

-- ---- a read is garbled

abbrev first_read : Entry
first_read = task 1 (Read Ten 0 1 false) []

abbrev second_read : Entry
second_read = task 2 (Read Ten 0 1 false) []

pub read_garbled : CanHappen garbled_read
unfolding says fixed_form
read_garbled =
    it_can_happen garbled_read
    (next (happens [] (record (never_written 2) { glitches = 1 }) (record { none = refl; new_is = refl }))
    (next (arrives [] (record (never_written 2) { glitches = 1; tasks = first_read ∷ [] }) (refl, refl))
    (next (one_turn (never_written 2) (ended first_read (inl refl) (glitched (ranged_read false (over 0 1)) (lasts zeros ∷ lasts zeros ∷ []) 0 _ first_read refl refl refl)))
    (next (arrives [] (record (never_written 2) { tasks = second_read ∷ [] }) (refl, refl))
    (next (one_turn (never_written 2) (ended second_read (inl refl) (done (ranged_read false (over 0 1)) _ second_read refl)))
    ends_here)))))

-- ---- a read is spared: a glitch need not be used

abbrev glitchy : Device
glitchy = record (never_written 2) { glitches = 1 }

pub read_spared : CanHappen spared_read
unfolding says
read_spared =
    it_can_happen spared_read
    (next (happens [] glitchy (record { none = refl; new_is = refl }))
    (next (arrives [] (record glitchy { tasks = first_read ∷ [] }) (refl, refl))
    (next (one_turn glitchy (ended first_read (inl refl) (done (ranged_read false (over 0 1)) _ first_read refl)))
    ends_here)))

-- ---- a flaw is described

abbrev long_read : Entry
long_read = task 1 (Read Ten 0 2 false) []

pub flaw_described : CanHappen described
unfolding says descriptor_form
flaw_described =
    it_can_happen described
    (next (arrives [] (record described.first { tasks = long_read ∷ [] }) (refl, refl))
    (next (one_turn described.last (ended long_read (inl refl) (flawed (ranged_read false (over 0 2)) 1 described.first.cells _ long_read refl refl)))
    ends_here))
