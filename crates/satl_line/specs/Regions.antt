-- Which slots have a task near which blocks (profile, all of it).
use Rattle.std.specs.Prelude.{◌≡◌, ◌<◌, ◌≤◌, ℕ, ◌+◌, ◌/◌, ◌%◌, Bool, false, true, ◌||◌, nat_lt, List, MatchBool, length, slice_index, slice_set}
use Rattle.std.specs.Int.{bit_at}
use Rattle.std.specs.List.{AllByRecursion}
use Rattle.satl_line.specs.declared.entry.Entry.{Entry}
use Rattle.satl_line.specs.declared.outline.Outline.{Outline}
use Rattle.satl_line.specs.declared.regions.Regions.{Regions}
use Rattle.satl_line.specs.Conflict.{conflicts}
use Rattle.satl_line.specs.Layout.{clear_bit, with_slot}
use Rattle.satl_line.specs.Tasks.{Held, count_of, slots_of}
use Rattle.satl_line.specs.Outlines.{outline_in, spans_meet}

-- the stretch of a block: 64 blocks lie in one
abbrev pub stretch_of : ℕ → ℕ
stretch_of block = block / 64

-- the region of a block: that of its stretch. 256 stretches in a row have one each, and the next has that of the first
abbrev pub region_of : ℕ → ℕ
region_of block = stretch_of block % 256

-- the slots of the region of a block, with this one
abbrev pub with_mark : List ℕ → ℕ → ℕ → List ℕ
with_mark near block slot = slice_set near (region_of block) (with_slot true slot (slice_index near (region_of block)))

-- the slots of the region of a block, without this one
abbrev pub without_mark : List ℕ → ℕ → ℕ → List ℕ
without_mark near block slot = slice_set near (region_of block) (clear_bit slot (slice_index near (region_of block)))

-- the region of a block has this slot
abbrev pub HasMark : List ℕ → ℕ → ℕ → Type 0
HasMark near block slot = bit_at (slice_index near (region_of block)) slot ≡ 1

-- whether the task is broad: it stands alone, or its span goes on behind the stretch after the one in which it begins
abbrev pub is_broad : Outline → Bool
is_broad outline = outline.alone || nat_lt (stretch_of outline.span.first + 1) (stretch_of outline.span.last)

-- the slot of this task is noted: among those of broad tasks where it is one, else in the regions of the first and of the last
-- block of its span
abbrev pub IsNear : Regions → ℕ → Outline → Type 0
IsNear regions slot outline =
    MatchBool (is_broad outline) (bit_at regions.broad slot ≡ 1)
    (HasMark regions.near outline.span.first slot × HasMark regions.near outline.span.last slot)

-- neither task stands alone, and no block lies in both spans
pub record OutlinesApart (a b : Outline) : Type 0 where
  pub alone : (a.alone || b.alone) ≡ false
  pub spans : spans_meet a.span b.span ≡ false

-- each of some slots that is noted and not among these has a task that lies apart from this one
abbrev pub HasAllNear : Regions → Outline → ℕ → ℕ → Type 0
HasAllNear regions outline some these =
    (slot : ℕ) (other : Outline) → slot < 64 → IsNear regions slot other → bit_at some slot ≡ 1 → bit_at these slot ≡ 0
    → OutlinesApart other outline

-- a task whose slot is not among these does not conflict with this one
abbrev pub MayLeaveOut : Entry → ℕ → Held → Type 0
MayLeaveOut entry among held = bit_at among held.slot ≡ 0 → conflicts held.entry entry ≡ false

-- one of the tasks lies in each of these slots, the bits of a number
abbrev pub AllHaveTasks : List Held → ℕ → Type 0
AllHaveTasks tasks among = (slot : ℕ) → slot < 64 → bit_at among slot ≤ count_of slot (slots_of tasks)

-- the task in each of these slots is noted
pub record AreNear (regions : Regions) (outlines : List Outline) (order : List ℕ) : Type 0 where
  pub room : length regions.near ≡ 256
  pub each : AllByRecursion (λ slot. IsNear regions slot (outline_in outlines slot)) order
