-- Runs in which a tag is used again.
use Rattle.std.proofs.Common.{inl, inr, refl, arith, ℕ, ◌+◌, max, true, false, List, [], ◌∷◌, ◌++◌}
use Rattle.std.specs.Prelude.{take}
use Rattle.satl_base.specs.declared.reply.Response.TheVariants.{Complete}
use Rattle.satl_base.specs.Cells.{Cell, cached_over, lasts}
use Rattle.satl_base.specs.Blocks.{over}
use Rattle.satl_base.specs.Moves.{stay, write}
use Rattle.satl_cdb.specs.declared.command.Command.TheVariants.{Read, Write}
use Rattle.satl_cdb.specs.declared.command.Form.TheVariants.{Ten}
use Rattle.satl_cdb.specs.Table.{says}
use Rattle.satl_sense.specs.Fixed.{fixed_form}
use Rattle.satl_unit.specs.declared.attention.Attention.TheVariants.{PowerOn}
use Rattle.satl_unit.specs.Conditions.{IsInReportOrder}
use Rattle.satl_unit.specs.Functions.{function_of}
use Rattle.satl_frame.specs.declared.frames.Frame.{Frame}
use Rattle.satl_frame.specs.declared.frames.Frame.TheVariants as frames
use Rattle.satl_frame.specs.Output.{Answer}
use Rattle.satl_frame.specs.Output.Answer.{closed}
use Rattle.satl_line.specs.Conflict.{accesses_conflict}
use Rattle.satl_line.specs.declared.entry.Entry.{Entry}
use Rattle.satl_line.specs.Ranged.RangedTask.{ranged_read, ranged_write}
use Rattle.satl_direct.specs.Device.{Device}
use Rattle.satl_direct.specs.Quiet.{Quiet}
use Rattle.satl_direct.specs.Valid.{IsValid}
use Rattle.satl_direct.specs.Run.{RunDeep, losses_in}
use Rattle.satl_direct.specs.Run.RunDeep.{start, next_event}
use Rattle.satl_direct.specs.Run.TurnsOf.{none}
use Rattle.satl_direct.proofs.Conditions.{valid_attended}
use Rattle.satl_direct.proofs.Quieting.{quiet_none}
use Rattle.satl_scenarios.specs.Devices.{aa, bb, device, never_written, zeros}
use Rattle.satl_scenarios.specs.Replies.{check_condition, good, response, sense}
use Rattle.satl_scenarios.specs.Requests.{manage, read_10, task}
use Rattle.satl_scenarios.specs.Scenario.{Scenario, events_of, groups_of}
use Rattle.satl_scenarios.proofs.Building.{Occurs, arrives, drained, manages, one_turn, turn_more}
use Rattle.satl_scenarios.proofs.Endings.{done, ended}
use Rattle.satl_scenarios.proofs.Validity.{blank_valid}
use Rattle.satl_renaming.specs.Retried.{IsOfArrivalOrderUsedAgain, IsOfErrorsUsedAgain, writes_both, writes_first, writes_first_again, writes_second, written_again, written_behind_an_abort}

-- the first events of a scenario, and one more
abbrev next_of : (scenario : Scenario) (n : ℕ) {s : Device} {deep d : ℕ} (event : Frame) (now : List Answer) (new : Device) → RunDeep scenario.first (take n (events_of scenario)) (take n (groups_of scenario)) 0 s deep → Occurs event s now new d
    → RunDeep scenario.first (take n (events_of scenario) ++ event ∷ []) (take n (groups_of scenario) ++ now ∷ []) (0 + losses_in event s new) new (max deep d)
next_of scenario n {d = d} event now new run happens = next_event event now d run happens.does

-- ---- a WRITE that is told of the power

abbrev again : Entry
again = task 1 (Write Ten 0 1 false) (bb ∷ [])

abbrev read_again : Entry
read_again = task 1 (Read Ten 0 1 false) []

-- the device once it has told nexus 0 that the power was on, with these sectors and tasks
abbrev told : List Cell → List Entry → Device
told cells tasks = record written_again.last { cells = cells; tasks = tasks }

again_run : RunDeep written_again.first (events_of written_again) (groups_of written_again) 0 written_again.last written_again.depth
unfolding says accesses_conflict fixed_form
again_run =
    next_of written_again 4 frames.End (good 1 (bb ∷ []) ∷ closed ∷ []) written_again.last
    (next_of written_again 3 (read_10 1 0 1) [] (record written_again.last { tasks = read_again ∷ [] })
    (next_of written_again 2 (frames.Turn 1) (good 1 [] ∷ []) written_again.last
    (next_of written_again 1 (frames.Request writes_first_again) [] (told (never_written 3).cells (again ∷ []))
    (next_of written_again 0 (frames.Request writes_first) (check_condition 1 (sense 0x6 0x29 0x01) ∷ []) (told (never_written 3).cells [])
    (start (quiet_none written_again.first))
    (arrives _ (told (never_written 3).cells []) (refl, refl)))
    (arrives [] (told (never_written 3).cells (again ∷ [])) (refl, refl)))
    (one_turn written_again.last (ended again (inl refl) (done (ranged_write false (over 0 1) (bb ∷ [])) _ again refl))))
    (arrives [] (record written_again.last { tasks = read_again ∷ [] }) (refl, refl)))
    (drained (turn_more written_again.last none (ended read_again (inl refl) (done (ranged_read false (over 0 1)) _ read_again refl))) refl)

-- the conditions of a nexus after a power cycle
power_told : IsInReportOrder (PowerOn ∷ [])
power_told = inr (refl, tt)

powered_valid : IsValid written_again.first
powered_valid = valid_attended _ _ refl (power_told, (power_told, (power_told, (power_told, tt)))) (blank_valid 3 (omega arith) (omega arith))

pub of_arrival_order : IsOfArrivalOrderUsedAgain written_again
unfolding says again_run
of_arrival_order = record {
  run = again_run;
  all = take 4 (events_of written_again);
  to_end = refl;
  valid = powered_valid;
  fresh = record { up = refl; started = refl; no_tasks = refl; no_flaws = ((refl, refl), ((refl, refl), ((refl, refl), tt))); no_glitches = refl };
  plain = (refl, (refl, (refl, (refl, tt))));
  free = refl;
}

-- ---- a WRITE that is aborted

abbrev both : Entry
both = task 1 (Write Ten 0 2 false) (aa ∷ aa ∷ [])

abbrev second : Entry
second = task 1 (Write Ten 1 1 false) (bb ∷ [])

abbrev read_both : Entry
read_both = task 1 (Read Ten 0 2 false) []

-- a device with this first sector, and these tasks
abbrev after_abort : Cell → List Entry → Device
after_abort cell tasks = record (device (cell ∷ lasts zeros ∷ lasts zeros ∷ [])) { tasks = tasks }

-- the first sector shows its block
one_shows : Quiet (after_abort (lasts zeros) (both ∷ [])) (after_abort (cached_over zeros aa) (both ∷ []))
one_shows = record {
  cells = write (record { lba = 0; block = aa; cached = true }) (record { task = both; under_way = record { up = refl; eligible = inl refl }; started = refl; among = inl refl }) stay;
  active = inl refl;
  stays = refl;
}

abort_run : RunDeep written_behind_an_abort.first (events_of written_behind_an_abort) (groups_of written_behind_an_abort) 0 written_behind_an_abort.last written_behind_an_abort.depth
unfolding says accesses_conflict function_of
abort_run =
    next_of written_behind_an_abort 5 (frames.Turn 1) (good 1 (aa ∷ bb ∷ []) ∷ []) written_behind_an_abort.last
    (next_of written_behind_an_abort 4 (read_10 1 0 2) [] (record written_behind_an_abort.last { tasks = read_both ∷ [] })
    (next_of written_behind_an_abort 3 (frames.Turn 1) (good 1 [] ∷ []) written_behind_an_abort.last
    (next_of written_behind_an_abort 2 (frames.Request writes_second) [] (after_abort (cached_over zeros aa) (second ∷ []))
    (next_of written_behind_an_abort 1 (frames.Manage (manage 0 0x01 1)) (response 0 0x01 1 Complete ∷ []) (after_abort (cached_over zeros aa) [])
    (next_of written_behind_an_abort 0 (frames.Request writes_both) [] (after_abort (lasts zeros) (both ∷ []))
    (start (quiet_none written_behind_an_abort.first))
    (arrives [] (after_abort (lasts zeros) (both ∷ [])) (refl, refl)))
    (manages (manage 0 0x01 1) Complete (after_abort (lasts zeros) (both ∷ [])) (after_abort (cached_over zeros aa) (both ∷ [])) (after_abort (cached_over zeros aa) []) one_shows (record { response_is = refl; stays = refl })))
    (arrives [] (after_abort (cached_over zeros aa) (second ∷ [])) (refl, refl)))
    (one_turn written_behind_an_abort.last (ended second (inl refl) (done (ranged_write false (over 1 1) (bb ∷ [])) _ second refl))))
    (arrives [] (record written_behind_an_abort.last { tasks = read_both ∷ [] }) (refl, refl)))
    (one_turn written_behind_an_abort.last (ended read_both (inl refl) (done (ranged_read false (over 0 2)) _ read_both refl)))

pub of_order_under_errors : IsOfErrorsUsedAgain written_behind_an_abort
unfolding says abort_run
of_order_under_errors = record {
  run = abort_run;
  valid = blank_valid 3 (omega arith) (omega arith);
  no_tasks = refl;
  mild = (refl, (refl, (refl, (refl, (refl, (refl, tt))))));
  free = refl;
}
