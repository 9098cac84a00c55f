-- Task management functions.
use Rattle.std.specs.Prelude.{false, [], ◌∷◌, replicate}
use Rattle.satl_base.specs.declared.reply.Response.TheVariants.{Complete, IncorrectLun, Rejected, Succeeded}
use Rattle.satl_cdb.specs.declared.command.Command.TheVariants.{Read}
use Rattle.satl_cdb.specs.declared.command.Form.TheVariants.{Ten}
use Rattle.satl_unit.specs.declared.attention.Attention.TheVariants.{UnitReset}
use Rattle.satl_frame.specs.declared.frames.Frame.TheVariants.{End, Manage, Request}
use Rattle.satl_frame.specs.Output.Answer.{closed}
use Rattle.satl_scenarios.specs.Scenario.{Scenario, answered, silent}
use Rattle.satl_scenarios.specs.Devices.{never_written}
use Rattle.satl_scenarios.specs.Replies.{check_condition, response, sense}
use Rattle.satl_scenarios.specs.Requests.{cdb_10, manage, read_10, request, task}

-- QUERY TASK of a task that waits and of one that does not, a code that stands for no function, and another logical unit (SAM-5
-- 7.1, 7.9)
abbrev pub queried : Scenario
queried = record {
  first = never_written 2;
  steps =
      silent (read_10 1 0 1)
      ∷ answered (Manage (manage 0 0x80 1)) (response 0 0x80 1 Succeeded ∷ [])
      ∷ answered (Manage (manage 0 0x80 2)) (response 0 0x80 2 Complete ∷ [])
      ∷ answered (Manage (manage 0 0x03 1)) (response 0 0x03 1 Rejected ∷ [])
      ∷ answered (Manage (record (manage 0 0x01 1) { lun = 0 ∷ 1 ∷ replicate 6 0 })) (response 0 0x01 1 IncorrectLun ∷ [])
      ∷ [];
  losses = 0;
  depth = 1;
  last = record (never_written 2) { tasks = task 1 (Read Ten 0 1 false) [] ∷ [] };
}

-- CLEAR TASK SET by nexus 1: the task of nexus 0 goes without an answer, and its next command tells it so (SAM-5 7.5)
abbrev pub tasks_cleared : Scenario
tasks_cleared = record {
  first = never_written 2;
  steps =
      silent (read_10 1 0 1)
      ∷ answered (Manage (manage 1 0x04 0)) (response 1 0x04 0 Complete ∷ [])
      ∷ answered (read_10 2 0 1) (check_condition 2 (sense 0x6 0x2F 0x00) ∷ [])
      ∷ answered End (closed ∷ [])
      ∷ [];
  losses = 0;
  depth = 1;
  last = never_written 2;
}

-- LOGICAL UNIT RESET: all tasks go, and each nexus is told (SAM-5 7.7)
abbrev pub all_reset : Scenario
all_reset = record {
  first = never_written 2;
  steps =
      silent (read_10 1 0 1)
      ∷ answered (Manage (manage 1 0x08 0)) (response 1 0x08 0 Complete ∷ [])
      ∷ answered (read_10 2 0 1) (check_condition 2 (sense 0x6 0x29 0x03) ∷ [])
      ∷ [];
  losses = 0;
  depth = 1;
  last = record (never_written 2) { attentions = [] ∷ (UnitReset ∷ []) ∷ (UnitReset ∷ []) ∷ (UnitReset ∷ []) ∷ [] };
}

-- ABORT TASK SET: all tasks of the nexus go without an answer, which QUERY TASK SET tells, and nobody is told of it (SAM-5 7.3,
-- 7.9)
abbrev pub set_aborted : Scenario
set_aborted = record {
  first = never_written 2;
  steps =
      silent (read_10 1 0 1)
      ∷ silent (read_10 2 1 1)
      ∷ answered (Manage (manage 0 0x81 0)) (response 0 0x81 0 Succeeded ∷ [])
      ∷ answered (Manage (manage 1 0x81 0)) (response 1 0x81 0 Complete ∷ [])
      ∷ answered (Manage (manage 0 0x02 0)) (response 0 0x02 0 Complete ∷ [])
      ∷ answered (Manage (manage 0 0x81 0)) (response 0 0x81 0 Complete ∷ [])
      ∷ [];
  losses = 0;
  depth = 2;
  last = never_written 2;
}

-- I_T NEXUS RESET, whatever the logical unit: the tasks of the nexus go, and it alone is told; the task of nexus 1 stays (SAM-5
-- 7.6)
abbrev pub nexus_reset : Scenario
nexus_reset = record {
  first = never_written 2;
  steps =
      silent (read_10 1 0 1)
      ∷ silent (Request (record (request 2 (cdb_10 0x28 1 1) []) { nexus = 1 }))
      ∷ answered (Manage (record (manage 0 0x10 0) { lun = 0 ∷ 1 ∷ replicate 6 0 })) (response 0 0x10 0 Complete ∷ [])
      ∷ answered (read_10 3 0 1) (check_condition 3 (sense 0x6 0x29 0x07) ∷ [])
      ∷ [];
  losses = 0;
  depth = 2;
  last = record (never_written 2) { tasks = record (task 2 (Read Ten 1 1 false) []) { nexus = 1 } ∷ [] };
}
