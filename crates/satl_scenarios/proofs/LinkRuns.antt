-- The link to the drive is lost.
use Rattle.std.proofs.Common.{◌≡◌, inl, inr, refl, true, false, [], ◌∷◌}
use Rattle.satl_cdb.specs.declared.command.Command.TheVariants.{Read, Write}
use Rattle.satl_cdb.specs.declared.command.Form.TheVariants.{Ten}
use Rattle.satl_cdb.specs.Table.{says}
use Rattle.satl_sense.specs.Fixed.{fixed_form}
use Rattle.satl_line.specs.Conflict.{accesses_conflict}
use Rattle.satl_line.specs.declared.entry.Entry.{Entry}
use Rattle.satl_direct.specs.Device.{Device}
use Rattle.satl_direct.specs.Turn.Turn.{ends_and_loses, loses}
use Rattle.satl_direct.specs.Turn.{device_lost_replies}
use Rattle.satl_direct.specs.Quiet.{Quiet}
use Rattle.satl_direct.specs.Run.TurnsOf.{none}
use Rattle.satl_base.specs.Moves.{stay, write}
use Rattle.satl_base.specs.Blocks.{over}
use Rattle.satl_base.specs.declared.reply.Response.TheVariants.{Complete}
use Rattle.satl_unit.specs.Functions.{function_of}
use Rattle.satl_line.specs.Ranged.RangedTask.{ranged_read}
use Rattle.satl_scenarios.proofs.Endings.{done, ended}
use Rattle.satl_scenarios.specs.Scenario.{CanHappen}
use Rattle.satl_scenarios.specs.Links.{done_and_lost, glitch_lost, lost_at_an_abort, lost_at_the_end, lost_in_turn, lost_on_arrival, unplugged_again}
use Rattle.satl_scenarios.specs.Devices.{aa, never_written, device}
use Rattle.satl_scenarios.specs.Requests.{task}
use Rattle.satl_scenarios.proofs.Building.{it_can_happen, arrives, arrives_and_loses, drained, happens, manages_and_loses, one_turn, turn_more}
use Rattle.satl_scenarios.proofs.Building.Follows.{next, ends_here}

-- ---- in a turn

abbrev waiting_write : Entry
waiting_write = task 1 (Write Ten 0 1 false) (aa ∷ [])

abbrev waiting_read : Entry
waiting_read = task 2 (Read Ten 1 1 false) []

pub link_lost_in_turn : CanHappen lost_in_turn
unfolding says fixed_form accesses_conflict
link_lost_in_turn =
    it_can_happen lost_in_turn
    (next (arrives [] (record (never_written 3) { tasks = waiting_write ∷ [] }) (refl, refl))
    (next (arrives [] (record (never_written 3) { tasks = waiting_write ∷ waiting_read ∷ [] }) (refl, refl))
    (next (one_turn (record (never_written 3) { down = true }) (loses some (record { was_up = refl; answer = refl; glitches = inl refl; stays = refl })))
    ends_here)))
  where
    some : (waiting_write ∷ waiting_read ∷ []) ≡ [] → ⊥
    some empty = absurd cc

-- ---- by hand, twice

abbrev unplugged : Device
unplugged = record (never_written 2) { down = true }

pub link_lost_twice : CanHappen unplugged_again
unfolding says fixed_form
link_lost_twice =
    it_can_happen unplugged_again
    (next (happens [] unplugged (record { answer = refl; stays = refl }))
    (next (arrives [] (record unplugged { tasks = task 1 (Read Ten 0 1 false) [] ∷ [] }) (refl, refl))
    (next (happens _ unplugged (record { answer = refl; stays = refl }))
    ends_here)))

-- ---- after an end

pub link_lost_after_an_end : CanHappen done_and_lost
unfolding says fixed_form accesses_conflict
link_lost_after_an_end =
    it_can_happen done_and_lost
    (next (arrives [] (record (never_written 3) { tasks = waiting_write ∷ [] }) (refl, refl))
    (next (arrives [] (record (never_written 3) { tasks = waiting_write ∷ waiting_read ∷ [] }) (refl, refl))
    (next (one_turn done_and_lost.last
    (ends_and_loses _ (record { task = waiting_read; may = inr (refl, inl refl); ends = done (ranged_read false (over 1 1)) (record (never_written 3) { tasks = waiting_write ∷ waiting_read ∷ [] }) waiting_read refl })
    write_shows (record { was_up = refl; answer = refl; glitches = inl refl; stays = refl })))
    ends_here)))
  where
    -- what waits is on the medium before the link is lost
    write_shows : Quiet (record (never_written 3) { tasks = waiting_write ∷ [] }) (record (device done_and_lost.last.cells) { tasks = waiting_write ∷ [] })
    write_shows = record {
      cells =
          write (record { lba = 0; block = aa; cached = true })
          (record { task = waiting_write; under_way = record { up = refl; eligible = inl refl }; started = refl; among = inl refl })
          stay;
      active = inl refl;
      stays = refl;
    }

-- ---- on arrival

abbrev two_reads : Device
two_reads = record (never_written 2) { tasks = task 1 (Read Ten 0 1 false) [] ∷ task 2 (Read Ten 1 1 false) [] ∷ [] }

abbrev late_read : Entry
late_read = task 3 (Read Ten 0 1 false) []

pub link_lost_on_arrival : CanHappen lost_on_arrival
unfolding says fixed_form
link_lost_on_arrival =
    it_can_happen lost_on_arrival
    (next (arrives [] (record (never_written 2) { tasks = task 1 (Read Ten 0 1 false) [] ∷ [] }) (refl, refl))
    (next (arrives_and_loses [] (device_lost_replies two_reads) two_reads unplugged (refl, refl) (record { was_up = refl; answer = refl; stays = refl }))
    (next (arrives [] (record unplugged { tasks = late_read ∷ [] }) (refl, refl))
    (next (drained (turn_more unplugged none (ended late_read refl (record { answer = refl; stays = refl }))) refl)
    ends_here))))

-- ---- at an abort

pub link_lost_at_an_abort : CanHappen lost_at_an_abort
unfolding says fixed_form accesses_conflict function_of
link_lost_at_an_abort =
    it_can_happen lost_at_an_abort
    (next (arrives [] (record (never_written 2) { tasks = task 1 (Read Ten 0 1 false) [] ∷ [] }) (refl, refl))
    (next (arrives [] two_reads (refl, refl))
    (next (manages_and_loses Complete _ (record (never_written 2) { tasks = task 2 (Read Ten 1 1 false) [] ∷ [] }) unplugged (record { response_is = refl; stays = refl }) (record { was_up = refl; answer = refl; stays = refl }))
    ends_here)))

-- ---- with a glitch

abbrev glitchy_read : Device
glitchy_read = record glitch_lost.first { tasks = task 1 (Read Ten 0 1 false) [] ∷ [] }

pub glitch_lost_in_turn : CanHappen glitch_lost
unfolding says fixed_form
glitch_lost_in_turn =
    it_can_happen glitch_lost
    (next (arrives [] glitchy_read (refl, refl))
    (next (one_turn glitch_lost.last (loses some (record { was_up = refl; answer = refl; glitches = inr refl; stays = refl })))
    ends_here))
  where
    some : (task 1 (Read Ten 0 1 false) [] ∷ []) ≡ [] → ⊥
    some empty = absurd cc

-- ---- at the end

pub link_lost_at_the_end : CanHappen lost_at_the_end
unfolding says fixed_form accesses_conflict
link_lost_at_the_end =
    it_can_happen lost_at_the_end
    (next (arrives [] (record (never_written 2) { tasks = task 1 (Read Ten 0 1 false) [] ∷ [] }) (refl, refl))
    (next (arrives [] two_reads (refl, refl))
    (next (drained
    (turn_more unplugged
    (turn_more (record (never_written 2) { tasks = task 1 (Read Ten 0 1 false) [] ∷ [] }) none
    (ended waiting_read (inr (refl, inl refl)) (done (ranged_read false (over 1 1)) two_reads waiting_read refl)))
    (loses some (record { was_up = refl; answer = refl; glitches = inl refl; stays = refl })))
    refl)
    ends_here)))
  where
    some : (task 1 (Read Ten 0 1 false) [] ∷ []) ≡ [] → ⊥
    some empty = absurd cc
