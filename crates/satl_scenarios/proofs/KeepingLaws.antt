-- The laws of untouched and of durable sectors speak of runs that there are.
use Rattle.std.proofs.Common.{inl, inr, refl, arith, ℕ, ◌+◌, max, List, [], ◌∷◌, ◌++◌}
use Rattle.satl_base.specs.declared.bench.BenchEvent.TheVariants as bench
use Rattle.satl_cdb.specs.Table.{says}
use Rattle.satl_frame.specs.declared.frames.Frame.{Frame}
use Rattle.satl_frame.specs.declared.frames.Frame.TheVariants.{Bench, Turn}
use Rattle.satl_frame.specs.Output.{Answer}
use Rattle.satl_line.specs.Conflict.{accesses_conflict}
use Rattle.satl_direct.specs.Bench.{Happens}
use Rattle.satl_direct.specs.Device.{Device}
use Rattle.satl_direct.specs.Ending.{settled}
use Rattle.satl_direct.specs.Run.{RunDeep, losses_in}
use Rattle.satl_direct.specs.Run.RunDeep.{start, next_event}
use Rattle.satl_direct.specs.Run.TurnsOf.{none}
use Rattle.satl_direct.specs.Valid.{IsValid}
use Rattle.satl_direct.proofs.Naming.{own_more, own_none}
use Rattle.satl_direct.proofs.Quieting.{around_alone, quiet_none}
use Rattle.satl_laws.specs.Untouched.{SparedBy, SparedIn, SparedThrough}
use Rattle.satl_scenarios.specs.Devices.{bb, never_written}
use Rattle.satl_scenarios.specs.Flaws.{flaw_among_writes}
use Rattle.satl_scenarios.specs.Keeping.{IsOfDurable, IsOfUntouched}
use Rattle.satl_scenarios.specs.Power.{flushed_then_written_elsewhere}
use Rattle.satl_scenarios.specs.Replies.{good}
use Rattle.satl_scenarios.specs.Requests.{cdb_10, request, write_10}
use Rattle.satl_scenarios.specs.Scenario.{answered, events_of, groups_of, silent}
use Rattle.satl_scenarios.proofs.Building.{Occurs, arrives, happens}
use Rattle.satl_scenarios.proofs.Endings.{carried_out}
use Rattle.satl_scenarios.proofs.FlawRuns.{both_written, high_write, low_write, middle_read, struck, struck_with, three_end}
use Rattle.satl_scenarios.proofs.PowerRuns.{elsewhere_arrives, elsewhere_ends, flush_task, kept, power_again, power_takes_it}
use Rattle.satl_scenarios.proofs.Validity.{blank_real, blank_valid}

-- a run in which no task writes a sector
record SparedRun (x : ℕ) (first : Device) (events : List Frame) (groups : List (List Answer)) (losses : ℕ) (last : Device) (depth : ℕ) : Type 0 where
  run : RunDeep first events groups losses last depth
  spared : SparedThrough x run

-- it begins
begins : (x : ℕ) (first : Device) → SparedBy x first first.tasks → SparedRun x first [] [] 0 first 0
begins x first none_writes = record { run = start (quiet_none first); spared = none_writes }

-- and goes on with an event
goes_on : {x : ℕ} {first s new : Device} {events : List Frame} {groups : List (List Answer)} {losses deepest deep : ℕ} {event : Frame} {answers : List Answer} → SparedRun x first events groups losses s deepest → Occurs event s answers new deep
    → SparedIn x event s → SparedBy x new new.tasks → SparedRun x first (events ++ event ∷ []) (groups ++ answers ∷ []) (losses + losses_in event s new) new (max deepest deep)
goes_on {deep = deep} {event = event} {answers = answers} r now comes stays = record { run = next_event event answers deep r.run now.does; spared = (r.spared, comes, stays) }

-- ---- a sector that is read, between two that are written

among_writes : SparedRun 1 flaw_among_writes.first (events_of flaw_among_writes) (groups_of flaw_among_writes) 0 both_written 3
unfolding says accesses_conflict
among_writes =
    goes_on
    (goes_on
    (goes_on
    (goes_on
    (goes_on (begins 1 flaw_among_writes.first tt)
    (happens [] struck (record { none = refl; new_is = refl })) tt tt)
    (arrives [] (struck_with (low_write ∷ [])) (refl, refl)) refl (refl, tt))
    (arrives [] (struck_with (low_write ∷ middle_read ∷ [])) (refl, refl)) refl (refl, (refl, tt)))
    (arrives [] (struck_with (low_write ∷ middle_read ∷ high_write ∷ [])) (refl, refl)) refl (refl, (refl, (refl, tt))))
    three_end tt tt

pub of_untouched : IsOfUntouched flaw_among_writes 1
of_untouched = record {
  run = among_writes.run;
  valid = blank_valid 3 (omega arith) (omega arith);
  no_power = (refl, (refl, (refl, (refl, (refl, tt)))));
  spared = among_writes.spared;
}

-- ---- a sector that was flushed, beside one that is written

-- the flush has come by the request of its tag
flush_valid : IsValid flushed_then_written_elsewhere.first
unfolding says
flush_valid = record {
  identity = blank_real 2 (omega arith) (omega arith);
  cells = refl;
  sound = (inr (inl refl), (inl refl, tt));
  few = omega arith;
  blocks = omega arith;
  own = own_more _ _ tt own_none;
  come = (record { request = request 1 (cdb_10 0x35 0 0) []; pages = omega arith; expected = tt; at = never_written 2; same = refl; modes = record { cache = λ off. absurd cc; look = λ off. absurd cc }; became = refl }, tt);
  modes = record { cache = λ off. absurd cc; look = λ off. absurd cc };
  nexuses = refl;
  attentions = (tt, (tt, (tt, (tt, tt))));
}

beside_it : SparedRun 0 kept (write_10 2 1 (bb ∷ []) ∷ Turn 1 ∷ Bench bench.Power ∷ []) ([] ∷ (good 2 [] ∷ []) ∷ [] ∷ []) 0 flushed_then_written_elsewhere.last 1
unfolding says
beside_it =
    goes_on
    (goes_on
    (goes_on (begins 0 kept tt) elsewhere_arrives refl (refl, tt))
    elsewhere_ends tt tt)
    (happens [] flushed_then_written_elsewhere.last power_takes_it) tt tt

pub of_durable : IsOfDurable flushed_then_written_elsewhere 0
of_durable = record {
  task = flush_task;
  reply = _;
  mid = kept;
  valid = flush_valid;
  ends = carried_out (settled flushed_then_written_elsewhere.first) flush_task;
  good = refl;
  secured = refl;
  span = record {
    begin = kept;
    mid = kept;
    last = flushed_then_written_elsewhere.last;
    quiet = quiet_none kept;
    none = tt;
    lost = [];
    going = kept;
    loss = inl refl;
    count = 0;
    replies = [];
    deep = 0;
    turns = none;
    all = write_10 2 1 (bb ∷ []) ∷ Turn 1 ∷ Bench bench.Power ∷ [];
    groups = [] ∷ (good 2 [] ∷ []) ∷ [] ∷ [];
    losses = 0;
    depth = 1;
    run = beside_it.run;
    spared = beside_it.spared;
    answers = [];
    power = around_alone (Happens bench.Power) flushed_then_written_elsewhere.last flushed_then_written_elsewhere.last [] power_again;
  };
  between = silent (write_10 2 1 (bb ∷ [])) ∷ answered (Turn 1) (good 2 [] ∷ []) ∷ silent (Bench bench.Power) ∷ [];
  steps = refl;
  events = refl;
}
