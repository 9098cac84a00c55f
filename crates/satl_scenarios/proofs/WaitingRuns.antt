-- Reads and writes that wait.
use Rattle.std.proofs.Common.{inl, refl, subst, arith, true, false, [], ◌∷◌}
use Rattle.satl_base.specs.declared.reply.Response.TheVariants.{Complete}
use Rattle.satl_base.specs.Moves.{stay, write}
use Rattle.satl_base.specs.Blocks.{over}
use Rattle.satl_base.specs.Cells.{lasts, cached_over}
use Rattle.satl_cdb.specs.declared.command.Command.TheVariants.{Read}
use Rattle.satl_cdb.specs.declared.command.Form.TheVariants.{Ten}
use Rattle.satl_cdb.specs.Table.{says}
use Rattle.satl_sense.specs.Fixed.{fixed_form}
use Rattle.satl_unit.specs.Functions.{function_of}
use Rattle.satl_line.specs.Conflict.{accesses_conflict}
use Rattle.satl_frame.specs.declared.frames.Frame.TheVariants.{Turn}
use Rattle.satl_line.specs.Ranged.RangedTask.{ranged_read}
use Rattle.satl_direct.specs.Device.{Device}
use Rattle.satl_direct.specs.Quiet.{Quiet}
use Rattle.satl_direct.specs.Run.{RunDeep}
use Rattle.satl_direct.specs.Run.TurnsOf.{none}
use Rattle.satl_direct.specs.Turn as turning
use Rattle.satl_direct.proofs.Quieting.{around_alone}
use Rattle.satl_scenarios.specs.Scenario.{CanBeCut, CanHappen, Scenario, events_of, groups_of, silent}
use Rattle.satl_scenarios.specs.Waiting.{aborted_half_done, overlapped_reads, full, one_too_many, one_turn_left}
use Rattle.satl_scenarios.specs.Devices.{aa, never_written, device, zeros}
use Rattle.satl_scenarios.specs.Requests.{read_10, task}
use Rattle.satl_scenarios.proofs.Building.{it_can_happen, arrives, drained, manages, turn_more}
use Rattle.satl_scenarios.proofs.Building.Follows.{next, ends_here}
use Rattle.satl_scenarios.proofs.Endings.{ended, done}
use Rattle.satl_scenarios.proofs.TransferRuns.{both_wait, high_read, long_write, low_read}

-- ---- a write is aborted

abbrev half_done : Device
half_done = device (cached_over zeros aa ∷ lasts zeros ∷ [])

-- the first block shows before the write ends
first_shows : Quiet (record (never_written 2) { tasks = long_write ∷ [] }) (record half_done { tasks = long_write ∷ [] })
first_shows = record {
  cells =
      write (record { lba = 0; block = aa; cached = true })
      (record { task = long_write; under_way = record { up = refl; eligible = inl refl }; started = refl; among = inl refl })
      stay;
  active = inl refl;
  stays = refl;
}

pub abort_in_the_middle : CanHappen aborted_half_done
unfolding says function_of
abort_in_the_middle =
    it_can_happen aborted_half_done
    (next (arrives [] (record (never_written 2) { tasks = long_write ∷ [] }) (refl, refl))
    (next (manages _ Complete _ (record half_done { tasks = long_write ∷ [] }) half_done first_shows (record { response_is = refl; stays = refl }))
    (next (drained none refl)
    ends_here)))

-- ---- a read has the tag of another

pub overlap : CanHappen overlapped_reads
unfolding says fixed_form
overlap =
    it_can_happen overlapped_reads
    (next (arrives [] (record (never_written 2) { tasks = task 1 (Read Ten 0 1 false) [] ∷ [] }) (refl, refl))
    (next (arrives _ (never_written 2) (refl, refl))
    (next (drained none refl)
    ends_here)))

-- ---- a full task set

pub set_full : CanHappen one_too_many
unfolding says accesses_conflict
set_full = it_can_happen one_too_many (next (arrives _ full (refl, refl)) ends_here)

-- ---- a run is cut off

-- the two reads arrive
abbrev arrived : Scenario
arrived = record {
  first = never_written 2;
  steps = silent (read_10 1 0 1) ∷ silent (read_10 2 1 1) ∷ [];
  losses = 0;
  depth = 2;
  last = both_wait;
}

both_arrive : CanHappen arrived
unfolding says accesses_conflict
both_arrive =
    it_can_happen arrived
    (next (arrives [] (record (never_written 2) { tasks = low_read ∷ [] }) (refl, refl))
    (next (arrives [] arrived.last (refl, refl))
    ends_here))

-- the second one waits
abbrev second_waits : Device
second_waits = record (never_written 2) { tasks = high_read ∷ [] }

pub run_cut : CanBeCut one_turn_left
run_cut = record {
  before = events_of arrived;
  event = Turn 3;
  events = refl;
  groups = groups_of arrived;
  earlier = _;
  last = _;
  all_groups = refl;
  lost = 0;
  deep = both_arrive.run.deep;
  mid = arrived.last;
  run = subst (λ groups. RunDeep arrived.first (events_of arrived) groups 0 arrived.last both_arrive.run.deep) both_arrive.groups both_arrive.run.run;
  short = record {
    count = 1;
    asked = omega arith;
    before = _;
    mid = second_waits;
    deep = _;
    turns = turn_more second_waits none (ended low_read (inl refl) (done (ranged_read false (over 0 1)) arrived.last low_read refl));
    earlier_are = refl;
    replies = _;
    turn = around_alone turning.Turn second_waits (never_written 2) _ (ended high_read (inl refl) (done (ranged_read false (over 1 1)) second_waits high_read refl));
    last_are = refl;
  };
  losses = refl;
}
