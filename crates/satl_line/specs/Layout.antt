-- How a set of tasks lies in memory: slots, the order of arrival, the free slots, and the masks (profile, all of it).
use Rattle.std.specs.Prelude.{◌≡◌, ℕ, ◌+◌, ◌-◌, ◌*◌, ◌%◌, ◌^◌, ◌<◌, ◌≤◌, ◌==◌, Bool, false, ◌&&◌, if◌then◌else◌, nat_lt, List, [], ◌∷◌, ◌++◌, map, length, take, slice_index, slice_index_or, slice_set, bit_and, bit_or}
use Rattle.std.specs.Int.{bit_at, bit_not, byte_at, w64}
use Rattle.std.specs.List.{list_any, AllByRecursion}
use Rattle.satl_base.specs.declared.request.Tag.{Tag}
use Rattle.satl_base.specs.Limits.{most_held}
use Rattle.satl_base.specs.Lists.{how_many}
use Rattle.satl_line.specs.declared.entry.Entry.{Entry}
use Rattle.satl_line.specs.Blank.{no_entry}
use Rattle.satl_line.specs.Conflict.{Access, access_of, accesses_conflict, conflicts}
use Rattle.satl_line.specs.Tasks.{Held, count_of, slots_of, total_blocks}
use Rattle.satl_line.specs.declared.outline.Outline.{Outline}
use Rattle.satl_line.specs.declared.passed.Passed.{Passed}
use Rattle.satl_line.specs.Outlines.{AreOutlines, is_active, outline_in}

-- the task in a slot
abbrev pub held_in : List Entry → ℕ → Held
held_in slots slot = record { slot = slot; entry = slice_index_or slots slot no_entry }

-- the tasks in these slots
abbrev pub tasks_in : List Entry → List ℕ → List Held
tasks_in slots order = map (held_in slots) order

-- a slot, and the access of its task
pub record SlotAccess : Type 0 where
  pub slot : ℕ
  pub access : Access

-- the mark of a task in its slot
abbrev pub mark_of : Held → SlotAccess
mark_of held = record { slot = held.slot; access = access_of held.entry }

-- whether an earlier task in this slot conflicts
abbrev pub is_marked : List SlotAccess → Access → ℕ → Bool
is_marked earlier access slot = list_any (λ mark. mark.slot == slot && accesses_conflict mark.access access) earlier

-- the mask has the slots of the earlier tasks that conflict
abbrev pub IsMask : List SlotAccess → Access → ℕ → Type 0
IsMask earlier access mask = (q : ℕ) → q < 64 → bit_at mask q ≡ (if is_marked earlier access q then 1 else 0)

-- each task after these has its mask in its slot
abbrev pub HaveMasks : List SlotAccess → List SlotAccess → List ℕ → Type 0
HaveMasks earlier [] masks = Unit {0}
HaveMasks earlier (mark ∷ rest) masks =
    IsMask earlier mark.access (slice_index_or masks mark.slot 0) × HaveMasks (earlier ++ mark ∷ []) rest masks

-- the masks of these tasks, and 0 where a slot has none
pub record IsMasked (tasks : List Held) (masks : List ℕ) : Type 0 where
  pub full : HaveMasks [] (map mark_of tasks) masks
  pub empty : (q : ℕ) → count_of q (slots_of tasks) ≡ 0 → slice_index_or masks q 0 ≡ 0

-- the mask has those of these slots, the bits of a number, whose task conflicts with this one
abbrev pub IsMaskAmong : List Entry → ℕ → Entry → ℕ → Type 0
IsMaskAmong slots among entry mask =
    (slot : ℕ) → slot < 64 → bit_at mask slot ≡ (if conflicts (held_in slots slot).entry entry then bit_at among slot else 0)

-- a mask without a slot
abbrev pub clear_bit : ℕ → ℕ → ℕ
clear_bit slot mask = bit_and mask (bit_not w64 (1 * 2 ^ slot % 2 ^ 64))

-- the masks without a slot, whose own mask becomes 0
abbrev pub cleared : List ℕ → ℕ → List ℕ
cleared masks slot = slice_set (map (clear_bit slot) masks) slot 0

-- a number, with the bit of a slot where that is to be noted
abbrev pub with_slot : Bool → ℕ → ℕ → ℕ
with_slot noted slot number = if noted then bit_or number (1 * 2 ^ slot % 2 ^ 64) else number

-- the bit of a slot says whether this holds of the outline of its task
abbrev pub IsNoted : (Outline → Bool) → List Outline → ℕ → ℕ → Type 0
IsNoted holds outlines noted slot = bit_at noted slot ≡ (if holds (outline_in outlines slot) then 1 else 0)

-- the bits of the slots that are taken say so of their tasks, and those of the free slots are 0
pub record AreNoted (holds : Outline → Bool) (outlines : List Outline) (order free : List ℕ) (noted : ℕ) : Type 0 where
  pub held : AllByRecursion (IsNoted holds outlines noted) order
  pub vacant : AllByRecursion (λ slot. bit_at noted slot ≡ 0) free

-- the bit of a slot is 1 where a task lies in it, and else 0
abbrev pub IsTakenMask : List ℕ → ℕ → Type 0
IsTakenMask order taken = (slot : ℕ) → slot < 64 → bit_at taken slot ≡ count_of slot order

-- the low byte of a tag
abbrev pub low_byte : Tag → ℕ
low_byte tag = byte_at 0 tag.0

-- whether the tag of a task has this low byte
abbrev pub has_low_byte : ℕ → Held → Bool
has_low_byte low held = low_byte held.entry.tag == low

-- the bit of a slot is 1 exactly where its mask is not 0
abbrev pub AreBarred : List ℕ → ℕ → Type 0
AreBarred masks barred = (slot : ℕ) → slot < 64 → bit_at barred slot ≡ (if slice_index_or masks slot 0 == 0 then 0 else 1)

-- for each low byte of a tag, how many of these tasks have it
pub record CountLowBytes (tasks : List Held) (tag_counts : List ℕ) : Type 0 where
  pub wide : length tag_counts ≡ 256
  pub each : (low : ℕ) → low < 256 → slice_index tag_counts low ≡ how_many (has_low_byte low) tasks

-- the counts with one more task of this tag
abbrev pub one_more : List ℕ → Tag → List ℕ
one_more tag_counts tag = slice_set tag_counts (low_byte tag) (slice_index tag_counts (low_byte tag) + 1)

-- the counts with one task of this tag fewer
abbrev pub one_fewer : List ℕ → Tag → List ℕ
one_fewer tag_counts tag = slice_set tag_counts (low_byte tag) (slice_index tag_counts (low_byte tag) - 1)

-- the slots at the first places, as many as a search has passed, are all among those that it keeps
abbrev pub HasPassed : List ℕ → Passed → Type 0
HasPassed order passed =
    (passed.places ≤ length order) × AllByRecursion (λ slot. (bit_at passed.slots slot == 0) ≡ false) (take passed.places order)

-- how a set of tasks lies in memory
pub record SetInMemory : Type 0 where
  -- what lies in each of the 64 slots, and its outline
  pub slots : List Entry
  pub outlines : List Outline
  -- the slots that are taken, in order of arrival, and those that are free
  pub order : List ℕ
  pub free : List ℕ
  -- for each slot the earlier tasks that its task conflicts with
  pub masks : List ℕ
  -- the number of blocks of all tasks
  pub blocks : ℕ
  -- the slots whose task writes or stands alone, as the bits of a number
  pub active : ℕ
  -- for each low byte of a tag the number of tasks that have it
  pub tag_counts : List ℕ

-- there are 64 slots, each taken or free; what is kept beside them is right of the tasks in them, which hold at most 32,768
-- blocks
pub record FitTogether (layout : SetInMemory) : Type 0 where
  pub room : length layout.slots ≡ 64
  pub wide : length layout.masks ≡ 64
  pub taken : AllByRecursion (λ slot. slot < 64) layout.order
  pub small : AllByRecursion (λ slot. slot < 64) layout.free
  pub once : (slot : ℕ) → slot < 64 → count_of slot layout.order + count_of slot layout.free ≡ 1
  pub count : length layout.order + length layout.free ≡ 64
  pub masked : IsMasked (tasks_in layout.slots layout.order) layout.masks
  pub outlined : AreOutlines layout.slots layout.outlines layout.order
  pub total : total_blocks (tasks_in layout.slots layout.order) ≡ layout.blocks
  pub few : layout.blocks ≤ most_held
  pub noted : AreNoted is_active layout.outlines layout.order layout.free layout.active
  pub counted : CountLowBytes (tasks_in layout.slots layout.order) layout.tag_counts
