-- The tasks of a set, each in its slot.
use Rattle.std.specs.Prelude.{◌≡◌, ℕ, ◌<◌, ◌==◌, Bool, ◌&&◌, if◌then◌else◌, List, [], ◌∷◌, ◌++◌, map, take, length, slice_get, slice_index, Option, Some}
use Rattle.std.specs.Int.{bit_at}
use Rattle.std.specs.Option.{option_map}
use Rattle.std.specs.List.{IsDistinct, list_any, sum_by}
use Rattle.satl_base.specs.declared.block.Block.{Block}
use Rattle.satl_base.specs.declared.request.Tag.{Tag}
use Rattle.satl_base.specs.Limits.{leave_no_room}
use Rattle.satl_base.specs.Lists.{how_many}
use Rattle.satl_base.specs.Names.{is_name}
use Rattle.satl_line.specs.declared.entry.Entry.{Entry}
use Rattle.satl_line.specs.Conflict.{conflicts}
use Rattle.satl_line.specs.Eligible.{eligible_at}

-- a task, and the slot that it lies in from its arrival until it leaves (profile)
pub record Held : Type 0 where
  pub slot : ℕ
  pub entry : Entry

-- the tasks in order of arrival (SAM-5, task set)
abbrev pub entries_of : List Held → List Entry
entries_of tasks = map (λ held. held.entry) tasks

-- a task but for its pages (profile)
abbrev pub without_pages : Entry → Entry
without_pages entry = record entry { body = [] }

-- the slots of the tasks, in order of arrival (profile)
abbrev pub slots_of : List Held → List ℕ
slots_of tasks = map (λ held. held.slot) tasks

-- no two tasks lie in one slot (profile)
abbrev pub AreOwnSlots : List Held → Type 0
AreOwnSlots tasks = IsDistinct (λ (held other : Held). held.slot == other.slot) tasks

-- how many of these numbers are n (profile, of slots)
abbrev pub count_of : ℕ → List ℕ → ℕ
count_of n numbers = how_many (λ x. x == n) numbers

-- the blocks that the tasks hold room for (profile)
abbrev pub total_blocks : List Held → ℕ
total_blocks tasks = sum_by (λ held. held.entry.blocks) tasks

-- the task at a place (SAM-5, task set)
abbrev pub entry_at : List Held → ℕ → Option Entry
entry_at tasks place = option_map (λ held. held.entry) (slice_get tasks place)

-- whether the task is the one of this nexus and tag (SAM-5, I_T_L_Q nexus)
abbrev pub is_named : ℕ → Tag → Held → Bool
is_named nexus tag held = is_name nexus tag.0 held.entry.nexus held.entry.tag.0

-- whether 64 tasks are held, or their blocks with those of a new task exceed 32,768 (SAM-5 5.3.1, TASK SET FULL; figures of the
-- profile)
abbrev pub is_too_much : List Held → Entry → Bool
is_too_much tasks entry = leave_no_room (length tasks) (total_blocks tasks) entry.blocks

-- the task comes last, in a slot of its own, and all others stay (profile)
pub record Adds (old : List Held) (entry : Entry) (new : List Held) : Type 0 where
  pub slot : ℕ
  pub small : slot < 64
  pub vacant : count_of slot (slots_of old) ≡ 0
  pub last : new ≡ old ++ record { slot = slot; entry = entry } ∷ []

-- the task with these pages (profile)
abbrev pub with_body : List Block → Held → Held
with_body body held = record { slot = held.slot; entry = record held.entry { body = body } }

-- the bit of a task's slot is 1 exactly where the task is not eligible (profile)
abbrev pub IsBarredMask : List Held → ℕ → Type 0
IsBarredMask tasks barred = (place : ℕ) → (held : Held) → slice_get tasks place ≡ Some held →
    bit_at barred held.slot ≡ (if eligible_at (entries_of tasks) place then 0 else 1)

-- whether one of these tasks lies in this slot and conflicts with the task (profile)
abbrev pub is_barred_from : List Held → Entry → ℕ → Bool
is_barred_from earlier entry slot = list_any (λ held. held.slot == slot && conflicts held.entry entry) earlier

-- the mask of each task has the bits of the slots of earlier tasks that conflict with it, and an empty slot's is 0 (profile)
pub record AreMasks (tasks : List Held) (masks : List ℕ) : Type 0 where
  pub held : (place : ℕ) → (held : Held) → slice_get tasks place ≡ Some held → (q : ℕ) → q < 64 →
      bit_at (slice_index masks held.slot) q ≡ (if is_barred_from (take place tasks) held.entry q then 1 else 0)
  pub empty : (q : ℕ) → count_of q (slots_of tasks) ≡ 0 → slice_index masks q ≡ 0
