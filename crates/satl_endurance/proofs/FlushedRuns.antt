-- A run with a loss of power behind a SYNCHRONIZE CACHE.
use Rattle.std.proofs.Common.{◌≡◌, inl, inr, refl, subst, arith, ℕ, ◌+◌, max, true, false, List, [], ◌∷◌, ◌++◌}
use Rattle.std.specs.Prelude.{take}
use Rattle.satl_base.specs.declared.bench.BenchEvent.TheVariants as bench
use Rattle.satl_base.specs.declared.block.Block.{Block}
use Rattle.satl_base.specs.declared.request.Request.{Request}
use Rattle.satl_base.specs.Blocks.{over}
use Rattle.satl_base.specs.Cells.{cached_over, lasts}
use Rattle.satl_cdb.specs.declared.command.Command.TheVariants.{Flush, Read, Write}
use Rattle.satl_cdb.specs.declared.command.Form.TheVariants.{Ten}
use Rattle.satl_cdb.specs.Table.{says}
use Rattle.satl_sense.specs.Fixed.{fixed_form}
use Rattle.satl_frame.specs.declared.frames.Frame.{Frame}
use Rattle.satl_frame.specs.declared.frames.Frame.TheVariants as frames
use Rattle.satl_frame.specs.Output.{Answer}
use Rattle.satl_frame.specs.Output.Answer.{closed}
use Rattle.satl_line.specs.declared.entry.Entry.{Entry}
use Rattle.satl_line.specs.Ranged.RangedTask.{ranged_read, ranged_write}
use Rattle.satl_direct.specs.Device.{Device}
use Rattle.satl_direct.specs.Ending.{settled}
use Rattle.satl_direct.specs.Run.{RunDeep, losses_in}
use Rattle.satl_direct.specs.Run.RunDeep.{start, next_event}
use Rattle.satl_direct.specs.Run.TurnsOf.{none}
use Rattle.satl_direct.specs.Tasks.{task_for}
use Rattle.satl_direct.proofs.Quieting.{quiet_none}
use Rattle.satl_scenarios.specs.Devices.{aa, device, just_powered, never_written, zeros}
use Rattle.satl_scenarios.specs.Replies.{check_condition, good, sense}
use Rattle.satl_scenarios.specs.Requests.{cdb_10, read_10, request, task, write_10}
use Rattle.satl_scenarios.specs.Scenario.{Scenario, events_of, groups_of}
use Rattle.satl_scenarios.proofs.Building.{Occurs, arrives, drained, happens, one_turn, turn_more}
use Rattle.satl_scenarios.proofs.Endings.{carried_out, done, ended}
use Rattle.satl_scenarios.proofs.Validity.{blank_valid}
use Rattle.satl_origins.specs.Origins.{Brings, IsRequestedBy}
use Rattle.satl_endurance.specs.Endurance.{NoneAsksFor}
use Rattle.satl_endurance.specs.Flushed.{AreOfEndurance, flush_all, read_behind_power, written_and_flushed}

-- the first events of a scenario, and one more
abbrev next_of : (scenario : Scenario) (n : ℕ) {s : Device} {deep d : ℕ} (event : Frame) (now : List Answer) (new : Device) → RunDeep scenario.first (take n (events_of scenario)) (take n (groups_of scenario)) 0 s deep → Occurs event s now new d
    → RunDeep scenario.first (take n (events_of scenario) ++ event ∷ []) (take n (groups_of scenario) ++ now ∷ []) (0 + losses_in event s new) new (max deep d)
next_of scenario n {d = d} event now new run happens = next_event event now d run happens.does

abbrev write_task : Entry
write_task = task 1 (Write Ten 0 1 false) (aa ∷ [])

abbrev flush_task : Entry
flush_task = task 1 (Flush Ten 0 0) []

abbrev read_task : Entry
read_task = task 1 (Read Ten 0 1 false) []

-- the device once the block is written, and once it is flushed
abbrev written : Device
written = device (cached_over zeros aa ∷ lasts zeros ∷ [])

abbrev flushing : Device
flushing = record written { tasks = flush_task ∷ [] }

abbrev kept : Device
kept = written_and_flushed.last

flushed_run : RunDeep written_and_flushed.first (events_of written_and_flushed) (groups_of written_and_flushed) 0 kept written_and_flushed.depth
unfolding says
flushed_run =
    next_of written_and_flushed 3 (frames.Turn 1) (good 1 [] ∷ []) kept
    (next_of written_and_flushed 2 (frames.Request flush_all) [] flushing
    (next_of written_and_flushed 1 (frames.Turn 1) (good 1 [] ∷ []) written
    (next_of written_and_flushed 0 (write_10 1 0 (aa ∷ [])) [] (record (never_written 2) { tasks = write_task ∷ [] })
    (start (quiet_none written_and_flushed.first))
    (arrives [] (record (never_written 2) { tasks = write_task ∷ [] }) (refl, refl)))
    (one_turn written (ended write_task (inl refl) (done (ranged_write false (over 0 1) (aa ∷ [])) _ write_task refl))))
    (arrives [] flushing (refl, refl)))
    (one_turn kept (ended flush_task (inl refl) (carried_out (settled flushing) flush_task)))

-- ---- the power is lost

abbrev after_power : Device
after_power = just_powered kept.cells

abbrev reading : Device
reading = record read_behind_power.last { tasks = read_task ∷ [] }

power_run : RunDeep kept (events_of read_behind_power) (groups_of read_behind_power) 0 read_behind_power.last read_behind_power.depth
unfolding says fixed_form
power_run =
    next_of read_behind_power 3 frames.End (good 1 (aa ∷ []) ∷ closed ∷ []) read_behind_power.last
    (next_of read_behind_power 2 (read_10 1 0 1) [] reading
    (next_of read_behind_power 1 (read_10 1 0 1) (check_condition 1 (sense 0x6 0x29 0x01) ∷ []) read_behind_power.last
    (next_of read_behind_power 0 (frames.Bench bench.Power) [] after_power
    (start (quiet_none kept))
    (happens [] after_power (record {
      none = refl;
      cells = (record { one = inl refl; alone = refl; read_flaw = refl; write_flaw = refl }, (record { one = inl refl; alone = refl; read_flaw = refl; write_flaw = refl }, tt));
      stays = refl;
    })))
    (arrives _ read_behind_power.last (refl, refl)))
    (arrives [] reading (refl, refl)))
    (drained (turn_more read_behind_power.last none (ended read_task (inl refl) (done (ranged_read false (over 0 1)) _ read_task refl))) refl)

-- ---- no command behind the flush may write the sector

abbrev its_read : Request
its_read = request 1 (cdb_10 0x28 0 1) []

read_asks_none : (block : Block) → IsRequestedBy written_and_flushed.first its_read 0 block → ⊥
unfolding says
read_asks_none block (c, said, brings) =
    let same : c ≡ Read Ten 0 1 false = cc in
    (subst (λ k. Brings written_and_flushed.first (task_for true its_read k) 0 block) same brings).1

same_request : (r q : Request) → frames.Request r ≡ frames.Request q → r ≡ q
same_request r q h = cc

none_in_turn : NoneAsksFor written_and_flushed.first (frames.Turn 1 ∷ []) 0
none_in_turn block (r, inl same, asks) = cc
none_in_turn block (r, inr nothing, asks) = nothing

none_behind_power : NoneAsksFor written_and_flushed.first (events_of read_behind_power) 0
none_behind_power block (r, inl power, asks) = cc
none_behind_power block (r, inr (inl one), asks) = read_asks_none block (subst (λ q. IsRequestedBy written_and_flushed.first q 0 block) (same_request r its_read one) asks)
none_behind_power block (r, inr (inr (inl two)), asks) = read_asks_none block (subst (λ q. IsRequestedBy written_and_flushed.first q 0 block) (same_request r its_read two) asks)
none_behind_power block (r, inr (inr (inr (inl end))), asks) = cc
none_behind_power block (r, inr (inr (inr (inr nothing))), asks) = nothing

pub of_endurance : AreOfEndurance written_and_flushed read_behind_power 0 aa
unfolding says flushed_run power_run
of_endurance = record {
  run = flushed_run;
  on = power_run;
  valid = blank_valid 2 (omega arith) (omega arith);
  free = refl;
  flushed = record { before = write_10 1 0 (aa ∷ []) ∷ frames.Turn 1 ∷ []; request = flush_all; after = frames.Turn 1 ∷ []; input = refl; flush = refl; done = refl; none_behind = none_in_turn };
  none_later = none_behind_power;
  free_later = refl;
  read = record {
    before = frames.Bench bench.Power ∷ read_10 1 0 1 ∷ [];
    request = its_read;
    after = frames.End ∷ [];
    input = refl;
    lba = 0;
    count = 1;
    reads = (refl, refl);
    reply = _;
    good = record { among = inl refl; done = refl };
    place = 0;
    gave = refl;
    sector = refl;
  };
}
