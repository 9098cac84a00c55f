-- The tasks that wait, without their pages, each with the place of its data-out in the input (profile).
use Rattle.std.specs.Prelude.{◌≡◌, ℕ, ◌+◌, ◌*◌, ◌≤◌, Bool, List, map, length, slice_index}
use Rattle.std.specs.List.{AllByRecursion}
use Rattle.satl_base.specs.Limits.{leave_no_room}
use Rattle.satl_cdb.specs.declared.command.Command.{Command}
use Rattle.satl_cdb.specs.declared.command.Command.TheVariants as commands
use Rattle.satl_line.specs.declared.entry.Entry.{Entry}
use Rattle.satl_line.specs.Tasks.{Held}
use Rattle.satl_direct.specs.Device.{is_called}
use Rattle.satl_direct.specs.Tasks.{data_out_kept, held_blocks, held_by}
use Rattle.satl_audit.specs.Following.{input_blocks}

-- a task without its pages, and where its data-out stands in the input (profile)
pub record Placed : Type 0 where
  pub entry : Entry
  pub at : ℕ

-- tasks with the places that are kept by their slots (profile)
abbrev pub placed_in : List ℕ → List Held → List Placed
placed_in places tasks = map (λ held. record { entry = held.entry; at = slice_index places held.slot }) tasks

-- the tasks without their pages (SAM-5, task set)
abbrev pub entries_in : List Placed → List Entry
entries_in tasks = map (λ placed. placed.entry) tasks

-- whether a task has this nexus and tag (SAM-5 4.7, I_T_L_Q nexus)
abbrev pub has_name : ℕ → ℕ → Placed → Bool
has_name nexus tag placed = is_called nexus tag placed.entry

-- whether 64 tasks wait, or so many blocks more would exceed 32,768 (SAM-5 5.3.1, TASK SET FULL; the figures: profile)
abbrev pub has_no_room : List Placed → ℕ → Bool
has_no_room tasks blocks = leave_no_room (length tasks) (held_by (entries_in tasks)) blocks

-- the task with its data-out, which stands in the input (SBC-3 5)
abbrev pub task_in : List ℕ → Placed → Entry
task_in input placed =
    record placed.entry { body = data_out_kept placed.entry.command (input_blocks input placed.at placed.entry.blocks) }

-- the tasks of the device (SAM-5, task set)
abbrev pub device_tasks : List ℕ → List Placed → List Entry
device_tasks input tasks = map (task_in input) tasks

-- a READ, a WRITE or a SYNCHRONIZE CACHE (SBC-3 5)
abbrev pub IsTransfer : Command → Type 0
IsTransfer (commands.Read form lba count fua) = Unit {0}
IsTransfer (commands.Write form lba count fua) = Unit {0}
IsTransfer (commands.Flush form lba count) = Unit {0}
IsTransfer _ = ⊥

-- a command that may wait: within the capacity, with no more data-out than there are bytes of it (SBC-3 5)
abbrev pub MayWait : ℕ → ℕ → Command → Type 0
MayWait capacity bytes (commands.Read form lba count fua) = lba + count ≤ capacity
MayWait capacity bytes (commands.Write form lba count fua) = (lba + count ≤ capacity) × (512 * count ≤ bytes)
MayWait capacity bytes (commands.Flush form lba count) = Unit {0}
MayWait capacity bytes _ = ⊥

-- a task of one of the four nexuses that may wait, whose data-out stands in an input of so many bytes (SAM-5 4.7; profile)
pub record Fits (capacity size : ℕ) (placed : Placed) : Type 0 where
  pub bytes : ℕ
  pub waits : MayWait capacity bytes placed.entry.command
  pub stands : placed.at + bytes ≤ size
  pub nexus : placed.entry.nexus ≤ 3
  pub held : placed.entry.blocks ≡ held_blocks placed.entry.command

abbrev pub AllFit : ℕ → ℕ → List Placed → Type 0
AllFit capacity size tasks = AllByRecursion (Fits capacity size) tasks
