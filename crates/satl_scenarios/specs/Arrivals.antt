-- Commands as they arrive: conditions asked for, another logical unit, no block, a set full of blocks, expected lengths
-- (profile).
use Rattle.std.specs.Prelude.{ℕ, ◌-◌, false, List, [], ◌∷◌, ◌++◌, length, map, replicate, Some, None}
use Rattle.satl_base.specs.declared.request.Request.{Request as Asked}
use Rattle.satl_base.specs.declared.reply.Scsi.TheVariants.{Good, TaskSetFull}
use Rattle.satl_base.specs.Places.{places}
use Rattle.satl_cdb.specs.declared.command.Command.TheVariants.{Pass}
use Rattle.satl_unit.specs.declared.attention.Attention.TheVariants.{ModeChanged, UnitReset}
use Rattle.satl_frame.specs.declared.frames.Frame.{Frame}
use Rattle.satl_frame.specs.declared.frames.Frame.TheVariants.{Request, Turn}
use Rattle.satl_frame.specs.Output.{Answer}
use Rattle.satl_frame.specs.Output.Answer.{replied}
use Rattle.satl_direct.specs.Device.{Device}
use Rattle.satl_scenarios.specs.Scenario.{Scenario, answered, silent}
use Rattle.satl_scenarios.specs.Devices.{never_written, zeros}
use Rattle.satl_scenarios.specs.Replies.{check_condition, good, reply, sense}
use Rattle.satl_scenarios.specs.Requests.{cdb_10, read_10, request, task}

-- another logical unit (SAM-5 4.6)
abbrev pub unit_1 : List ℕ
unit_1 = 0 ∷ 1 ∷ replicate 6 0

-- a command with a CDB of six bytes
abbrev pub request_6 : ℕ → List ℕ → Asked
request_6 tag cdb = request tag (cdb ++ replicate 10 0) []

-- REQUEST SENSE, for data in the fixed form (0) or in the descriptor form (1), with an allocation length (SPC-4 6.39)
abbrev pub request_for_sense : ℕ → ℕ → ℕ → Asked
request_for_sense tag form alloc = request_6 tag (0x03 ∷ form ∷ 0 ∷ 0 ∷ alloc ∷ 0 ∷ [])

-- GOOD with data-in of fewer bytes than a page has: they are its first (SAM-5 5.3.1)
abbrev pub good_with : ℕ → List ℕ → Answer
good_with tag bytes = replied (record {
  nexus = 0;
  tag = record { 0 = tag };
  status = Good;
  sense = record { items = [] };
  body = record { bytes = bytes ++ replicate (512 - length bytes) 0 } ∷ [];
  data_len = length bytes;
  expected = None;
})

-- REQUEST SENSE tells the conditions of its nexus one by one, and then NO SENSE (SPC-4 6.39; SAM-5 5.14)
abbrev pub sense_requested : Scenario
sense_requested = record {
  first = record (never_written 2) { attentions = (UnitReset ∷ ModeChanged ∷ []) ∷ [] ∷ [] ∷ [] ∷ [] };
  steps =
      answered (Request (request_for_sense 1 0 18)) (good_with 1 (sense 0x6 0x29 0x03) ∷ [])
      ∷ answered (Request (request_for_sense 2 0 18)) (good_with 2 (sense 0x6 0x2A 0x01) ∷ [])
      ∷ answered (Request (request_for_sense 3 0 18)) (good_with 3 (sense 0x0 0x00 0x00) ∷ [])
      ∷ [];
  losses = 0;
  depth = 0;
  last = never_written 2;
}

-- at another logical unit REQUEST SENSE says as data that there is none, here the first four bytes in the descriptor form; TEST
-- UNIT READY is refused with it; and no condition is told (SPC-4 6.39; SAM-5 5.3)
abbrev pub other_unit : Scenario
other_unit = record {
  first = record (never_written 2) { attentions = (UnitReset ∷ []) ∷ [] ∷ [] ∷ [] ∷ [] };
  steps =
      answered (Request (record (request_for_sense 1 1 4) { lun = unit_1 })) (good_with 1 (0x72 ∷ 0x5 ∷ 0x25 ∷ 0x00 ∷ []) ∷ [])
      ∷ answered (Request (record (request_6 2 (replicate 6 0)) { lun = unit_1 }))
      (check_condition 2 (sense 0x5 0x25 0x00) ∷ [])
      ∷ [];
  losses = 0;
  depth = 0;
  last = record (never_written 2) { attentions = (UnitReset ∷ []) ∷ [] ∷ [] ∷ [] ∷ [] };
}

-- a READ and a WRITE of no block are done at once, also right behind the last sector, and further on there is no address
-- (SBC-3, READ and WRITE commands)
abbrev pub nothing_moved : Scenario
nothing_moved = record {
  first = never_written 2;
  steps =
      answered (read_10 1 2 0) (good 1 [] ∷ [])
      ∷ answered (Request (request 2 (cdb_10 0x2A 0 0) [])) (good 2 [] ∷ [])
      ∷ answered (read_10 3 3 0) (check_condition 3 (sense 0x5 0x21 0x00) ∷ [])
      ∷ [];
  losses = 0;
  depth = 0;
  last = never_written 2;
}

-- of a stopped unit such a READ is told that it is not ready (SPC-4 4.5.6; profile)
abbrev pub no_block_at_rest : Scenario
no_block_at_rest = record {
  first = record (never_written 2) { started = false; active = false };
  steps = answered (read_10 1 2 0) (check_condition 1 (sense 0x2 0x04 0x02) ∷ []) ∷ [];
  losses = 0;
  depth = 0;
  last = record (never_written 2) { started = false; active = false };
}

-- READ DMA EXT of 4,096 blocks by ATA PASS-THROUGH (16), with COUNT 1000h (SAT-3 12.2.2.3)
abbrev pub long_read : List ℕ
long_read = 0x85 ∷ 0x0D ∷ 0x0E ∷ 0 ∷ 0 ∷ 0x10 ∷ 0 ∷ 0 ∷ 0 ∷ 0 ∷ 0 ∷ 0 ∷ 0 ∷ 0x40 ∷ 0x25 ∷ 0 ∷ []

-- eight of these hold as many blocks as a task set may (SAM-5, task set; the figure: profile)
abbrev pub full_of_blocks : Device
full_of_blocks = record (never_written 2) { tasks = map (λ tag. task tag (Pass long_read) []) (places 1 8 (λ tag. tag)) }

-- a READ of one block more is not taken: TASK SET FULL (SAM-5 5.3.1; the figure: profile)
abbrev pub one_block_too_many : Scenario
one_block_too_many = record {
  first = full_of_blocks;
  steps = answered (read_10 9 0 1) (reply 9 TaskSetFull [] [] ∷ []) ∷ [];
  losses = 0;
  depth = 0;
  last = full_of_blocks;
}

-- a READ whose host expects so many bytes (SAM-5 5.1)
abbrev pub expecting : ℕ → ℕ → Frame
expecting tag count = Request (record (request tag (cdb_10 0x28 0 1) []) { expected = Some count })

-- its answer: the block, with what the host expects (SAM-5 5.1)
abbrev pub block_for : ℕ → ℕ → Answer
block_for tag count = replied (record {
  nexus = 0;
  tag = record { 0 = tag };
  status = Good;
  sense = record { items = [] };
  body = zeros ∷ [];
  data_len = 512;
  expected = Some count;
})

-- an answer carries what its host expects, fewer bytes than there are or more; the data are all there (SAM-5 5.1; profile)
abbrev pub lengths_expected : Scenario
lengths_expected = record {
  first = never_written 2;
  steps =
      silent (expecting 1 77)
      ∷ silent (expecting 2 1024)
      ∷ answered (Turn 2) (block_for 1 77 ∷ block_for 2 1024 ∷ [])
      ∷ [];
  losses = 0;
  depth = 2;
  last = never_written 2;
}
