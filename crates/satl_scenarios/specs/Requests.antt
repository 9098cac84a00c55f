-- Requests that the scenarios share, and the tasks that they become (profile).
use Rattle.std.specs.Prelude.{ℕ, ◌*◌, true, List, [], ◌∷◌, ◌++◌, length, replicate, None}
use Rattle.satl_base.specs.declared.block.Block.{Block}
use Rattle.satl_base.specs.declared.request.Attr.TheVariants.{Simple}
use Rattle.satl_base.specs.declared.request.Request.{Request}
use Rattle.satl_base.specs.declared.request.Manage.{Manage}
use Rattle.satl_base.specs.Cells.{Cell}
use Rattle.satl_cdb.specs.declared.command.Command.{Command}
use Rattle.satl_frame.specs.declared.frames.Frame.{Frame}
use Rattle.satl_frame.specs.declared.frames.Frame.TheVariants as frames
use Rattle.satl_line.specs.declared.entry.Entry.{Entry}
use Rattle.satl_direct.specs.Device.{Device}
use Rattle.satl_direct.specs.Tasks.{task_for}
use Rattle.satl_scenarios.specs.Devices.{device}

-- a command of nexus 0 to the logical unit 0, SIMPLE, with its data-out (SAM-5 5.1)
abbrev pub request : ℕ → List ℕ → List Block → Request
request tag cdb body = record {
  nexus = 0;
  attr = Simple;
  lun = replicate 8 0;
  tag = record { 0 = tag };
  cdb = cdb;
  body = body;
  data_len = 512 * length body;
  expected = None;
}

-- an operation code with an address and a number of blocks below 256 (SBC-3, READ and WRITE commands)
abbrev pub cdb_10 : ℕ → ℕ → ℕ → List ℕ
cdb_10 code lba count = (code ∷ 0 ∷ 0 ∷ 0 ∷ 0 ∷ lba ∷ 0 ∷ 0 ∷ count ∷ []) ++ replicate 7 0

-- a READ(10), and a WRITE(10) of these blocks (SBC-3, READ and WRITE commands)
abbrev pub read_10 : ℕ → ℕ → ℕ → Frame
read_10 tag lba count = frames.Request (request tag (cdb_10 0x28 lba count) [])

abbrev pub write_10 : ℕ → ℕ → List Block → Frame
write_10 tag lba blocks = frames.Request (request tag (cdb_10 0x2A lba (length blocks)) blocks)

-- a task management function of a nexus, to the logical unit 0 (SAM-5 7; the codes: profile)
abbrev pub manage : ℕ → ℕ → ℕ → Manage
manage nexus function tag = record { nexus = nexus; function = function; lun = replicate 8 0; tag = record { 0 = tag } }

-- the task that a command of nexus 0 becomes (SAM-5, task set)
abbrev pub task : ℕ → Command → List Block → Entry
task tag command body = task_for true (request tag [] body) command

-- a device with such a task alone
abbrev pub with_task : ℕ → Command → List Block → List Cell → Device
with_task tag command body cells = record (device cells) { tasks = task tag command body ∷ [] }
