-- Reads and writes that wait: aborted, overlapped, as many as a task set holds, and left over where a run is cut short
-- (profile).
use Rattle.std.specs.Prelude.{false, [], ◌∷◌, map}
use Rattle.satl_base.specs.declared.reply.Scsi.TheVariants.{TaskSetFull}
use Rattle.satl_base.specs.Places.{places}
use Rattle.satl_cdb.specs.declared.command.Command.TheVariants as commands
use Rattle.satl_cdb.specs.declared.command.Form.TheVariants.{Ten}
use Rattle.satl_direct.specs.Device.{Device}
use Rattle.satl_base.specs.declared.reply.Response.TheVariants.{Complete}
use Rattle.satl_base.specs.Cells.{lasts, cached_over}
use Rattle.satl_frame.specs.declared.frames.Frame.TheVariants.{End, Manage, Turn}
use Rattle.satl_frame.specs.Output.Answer.{closed}
use Rattle.satl_scenarios.specs.Scenario.{Scenario, answered, silent}
use Rattle.satl_scenarios.specs.Devices.{aa, bb, never_written, device, zeros}
use Rattle.satl_scenarios.specs.Replies.{check_condition, good, reply, response, sense}
use Rattle.satl_scenarios.specs.Requests.{manage, read_10, task, write_10}

-- a write of two blocks is aborted when the first of them is on the medium: it is not answered (SAM-5 7.2)
abbrev pub aborted_half_done : Scenario
aborted_half_done = record {
  first = never_written 2;
  steps =
      silent (write_10 1 0 (aa ∷ bb ∷ []))
      ∷ answered (Manage (manage 0 0x01 1)) (response 0 0x01 1 Complete ∷ [])
      ∷ answered End (closed ∷ [])
      ∷ [];
  losses = 0;
  depth = 1;
  last = device (cached_over zeros aa ∷ lasts zeros ∷ []);
}

-- a read with the tag of one that waits: both go, and one answer says so (SAM-5, overlapped commands)
abbrev pub overlapped_reads : Scenario
overlapped_reads = record {
  first = never_written 2;
  steps =
      silent (read_10 1 0 1)
      ∷ answered (read_10 1 1 1) (check_condition 1 (sense 0xB 0x4E 0x00) ∷ [])
      ∷ answered End (closed ∷ [])
      ∷ [];
  losses = 0;
  depth = 1;
  last = never_written 2;
}

-- as many reads as a task set holds, with the tags 1 to 64 (SAM-5, task set; the figure: profile)
abbrev pub full : Device
full = record (never_written 2) { tasks = map (λ tag. task tag (commands.Read Ten 0 1 false) []) (places 1 64 (λ tag. tag)) }

-- one more is not taken: TASK SET FULL; and the drive holds 32 of them (SAM-5 5.3.1; the figure: profile)
abbrev pub one_too_many : Scenario
one_too_many = record {
  first = full;
  steps = answered (read_10 65 0 1) (reply 65 TaskSetFull [] [] ∷ []) ∷ [];
  losses = 0;
  depth = 32;
  last = full;
}

-- two commands that wait
abbrev pub two_waiting : Device
two_waiting = record (never_written 3) {
  tasks = task 1 (commands.Write Ten 0 1 false) (aa ∷ []) ∷ task 2 (commands.Read Ten 1 1 false) [] ∷ [];
}

-- two reads, and of three turns two are taken, in each of which one read ends
abbrev pub one_turn_left : Scenario
one_turn_left = record {
  first = never_written 2;
  steps =
      silent (read_10 1 0 1)
      ∷ silent (read_10 2 1 1)
      ∷ answered (Turn 3) (good 1 (zeros ∷ []) ∷ good 2 (zeros ∷ []) ∷ [])
      ∷ [];
  losses = 0;
  depth = 2;
  last = never_written 2;
}
