-- The link to the drive is lost.
use Rattle.std.specs.Prelude.{false, true, [], ◌∷◌}
use Rattle.satl_base.specs.declared.bench.BenchEvent.TheVariants.{Unplug}
use Rattle.satl_base.specs.declared.reply.Response.TheVariants.{Complete}
use Rattle.satl_base.specs.Cells.{lasts, cached_over}
use Rattle.satl_frame.specs.declared.frames.Frame.TheVariants.{Bench, End, Manage, Turn}
use Rattle.satl_frame.specs.Output.Answer.{closed}
use Rattle.satl_scenarios.specs.Scenario.{Scenario, answered, silent}
use Rattle.satl_scenarios.specs.Devices.{aa, never_written, device, zeros}
use Rattle.satl_scenarios.specs.Replies.{check_condition, good, response, sense}
use Rattle.satl_scenarios.specs.Requests.{manage, read_10, write_10}

-- the link is lost in a turn: all that waits is answered in order, with LOGICAL UNIT COMMUNICATION FAILURE (SPC-4 4.5.6)
abbrev pub lost_in_turn : Scenario
lost_in_turn = record {
  first = never_written 3;
  steps =
      silent (write_10 1 0 (aa ∷ []))
      ∷ silent (read_10 2 1 1)
      ∷ answered (Turn 1) (check_condition 1 (sense 0x4 0x08 0x00) ∷ check_condition 2 (sense 0x4 0x08 0x00) ∷ [])
      ∷ [];
  losses = 1;
  depth = 2;
  last = record (never_written 3) { down = true };
}

-- the link is unplugged, and again: a command between the two waits, and is answered at the second (profile)
abbrev pub unplugged_again : Scenario
unplugged_again = record {
  first = never_written 2;
  steps =
      silent (Bench Unplug)
      ∷ silent (read_10 1 0 1)
      ∷ answered (Bench Unplug) (check_condition 1 (sense 0x4 0x08 0x00) ∷ [])
      ∷ [];
  losses = 2;
  depth = 0;
  last = record (never_written 2) { down = true };
}

-- a task ends in a turn, and then the link is lost (SPC-4 4.5.6)
abbrev pub done_and_lost : Scenario
done_and_lost = record {
  first = never_written 3;
  steps =
      silent (write_10 1 0 (aa ∷ []))
      ∷ silent (read_10 2 1 1)
      ∷ answered (Turn 1) (good 2 (zeros ∷ []) ∷ check_condition 1 (sense 0x4 0x08 0x00) ∷ [])
      ∷ [];
  losses = 1;
  depth = 2;
  last = record (device (cached_over zeros aa ∷ lasts zeros ∷ lasts zeros ∷ [])) { down = true };
}

-- the link is lost as a command arrives: it is answered too; a later command is answered at its turn (profile)
abbrev pub lost_on_arrival : Scenario
lost_on_arrival = record {
  first = never_written 2;
  steps =
      silent (read_10 1 0 1)
      ∷ answered (read_10 2 1 1) (check_condition 1 (sense 0x4 0x08 0x00) ∷ check_condition 2 (sense 0x4 0x08 0x00) ∷ [])
      ∷ silent (read_10 3 0 1)
      ∷ answered End (check_condition 3 (sense 0x4 0x08 0x00) ∷ closed ∷ [])
      ∷ [];
  losses = 1;
  depth = 1;
  last = record (never_written 2) { down = true };
}

-- the link is lost when a task is aborted: the other is answered, and then comes the response (SAM-5 7.2; profile)
abbrev pub lost_at_an_abort : Scenario
lost_at_an_abort = record {
  first = never_written 2;
  steps =
      silent (read_10 1 0 1)
      ∷ silent (read_10 2 1 1)
      ∷ answered (Manage (manage 0 0x01 1)) (check_condition 2 (sense 0x4 0x08 0x00) ∷ response 0 0x01 1 Complete ∷ [])
      ∷ [];
  losses = 1;
  depth = 2;
  last = record (never_written 2) { down = true };
}

-- a glitch goes with the link in a turn, and leaves the drive in standby (profile)
abbrev pub glitch_lost : Scenario
glitch_lost = record {
  first = record (never_written 2) { glitches = 2 };
  steps = silent (read_10 1 0 1) ∷ answered (Turn 1) (check_condition 1 (sense 0x4 0x08 0x00) ∷ []) ∷ [];
  losses = 1;
  depth = 1;
  last = record (never_written 2) { down = true; active = false; glitches = 1 };
}

-- END with a loss: one read is done in a turn, and in the next the link is lost, with which the other is answered (profile)
abbrev pub lost_at_the_end : Scenario
lost_at_the_end = record {
  first = never_written 2;
  steps =
      silent (read_10 1 0 1)
      ∷ silent (read_10 2 1 1)
      ∷ answered End (good 2 (zeros ∷ []) ∷ check_condition 1 (sense 0x4 0x08 0x00) ∷ closed ∷ [])
      ∷ [];
  losses = 1;
  depth = 2;
  last = record (never_written 2) { down = true };
}
