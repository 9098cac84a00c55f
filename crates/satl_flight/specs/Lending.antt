-- The pages that tasks lend to the drive, in the slots of their tags (profile).
use Rattle.std.specs.Prelude.{◌≡◌, ℕ, ◌<◌, ◌==◌, Bool, false, List, [], ◌∷◌, Option, Some, None, length, map, slice_get, unwrap_or}
use Rattle.std.specs.Option.{option_and_then}
use Rattle.std.specs.List.{AllByRecursion, AllZip, find, list_any, remove}
use Rattle.satl_base.specs.declared.block.Block.{Block}
use Rattle.satl_base.specs.Lists.{remove_first}
use Rattle.satl_line.specs.Tasks.{Held, count_of, slots_of, with_body}
use Rattle.satl_drive.specs.Queue.{Slots}
use Rattle.satl_pages.specs.Slots.{pages_at}
use Rattle.satl_flight.specs.declared.flight.Flying.{Flying}
use Rattle.satl_flight.specs.Flown.{AreApart, is_in_slot, is_of_slot}

-- whether it has this tag (ACS-3, tags)
abbrev pub has_tag : ℕ → Flying → Bool
has_tag tag f = f.tag == tag

-- the pages that the task in a slot has lent, if it has (profile)
abbrev pub lent : List Flying → Slots → ℕ → Option (List Block)
lent flying slots slot = option_and_then (λ (f : Flying). pages_at slots f.tag) (find (is_of_slot slot) flying)

-- a task with its pages, also where it has lent them (profile)
abbrev pub whole_task : List Flying → Slots → Held → Held
whole_task flying slots h = with_body (unwrap_or (lent flying slots h.slot) h.entry.body) h

-- the tasks with their pages (profile)
abbrev pub whole_tasks : List Flying → Slots → List Held → List Held
whole_tasks flying slots tasks = map (whole_task flying slots) tasks

-- tasks in order of arrival; those that are outstanding, in order of issue; and the slots of the tags. In clauses of `Queue`
-- the tasks have their pages; in those of the flight they are as they stand in the set, without the pages that they have lent
-- (profile)
pub record Waiting : Type 0 where
  pub tasks : List Held
  pub flying : List Flying
  pub slots : Slots

-- what is outstanding, the slots and the tasks, as one value (profile)
abbrev pub waiting : List Flying → Slots → List Held → Waiting
waiting flying slots tasks = record { tasks = tasks; flying = flying; slots = slots }

-- the same, each task with its pages (profile)
abbrev pub with_own_pages : Waiting → Waiting
with_own_pages w = record w { tasks = whole_tasks w.flying w.slots w.tasks }

-- a task that is outstanding has no pages of its own: they lie in the slot of its tag (profile)
pub record IsLent (slots : Slots) (tasks : List Held) (f : Flying) : Type 0 where
  pub small : f.tag < 32
  pub pages : List Block
  pub filled : pages_at slots f.tag ≡ Some pages
  pub held : Held
  pub found : find (is_in_slot f.slot) tasks ≡ Some held
  pub bare : held.entry.body ≡ []

-- exactly the tasks that are outstanding have lent their pages (profile)
pub record IsLending (flying : List Flying) (slots : Slots) (tasks : List Held) : Type 0 where
  pub each : AllByRecursion (IsLent slots tasks) flying
  pub apart : AreApart flying
  pub others : (tag : ℕ) → tag < 32 → list_any (has_tag tag) flying ≡ false → slice_get slots tag ≡ Some None
  pub room : length slots ≡ 32

-- the task in a slot stands at this place (profile)
pub record IsAt (tasks : List Held) (place slot : ℕ) (held : Held) : Type 0 where
  pub stands : slice_get tasks place ≡ Some held
  pub slot_is : held.slot ≡ slot
  pub found : find (is_in_slot slot) tasks ≡ Some held
  pub removes : remove tasks place ≡ remove_first (is_in_slot slot) tasks

-- the task with a tag, which stands at this place, has its pages back, and the tag is free (profile)
pub record Lands (tag place : ℕ) (old new : Waiting) : Type 0 where
  pub landed : Flying
  pub found : find (has_tag tag) old.flying ≡ Some landed
  pub left_is : new.flying ≡ remove_first (has_tag tag) old.flying
  pub bare : Held
  pub stands : slice_get old.tasks place ≡ Some bare
  pub in_slot : bare.slot ≡ landed.slot
  pub alone : count_of landed.slot (slots_of old.tasks) ≡ 1
  pub held : Held
  pub at : IsAt (with_own_pages old).tasks place landed.slot held
  pub pages : pages_at old.slots tag ≡ Some held.entry.body
  pub same : (with_own_pages new).tasks ≡ (with_own_pages old).tasks
  pub back : slice_get new.tasks place ≡ Some held
  pub lending : IsLending new.flying new.slots new.tasks
  pub still_alone : count_of landed.slot (slots_of new.tasks) ≡ 1
  pub gone : list_any (is_of_slot landed.slot) new.flying ≡ false

-- the tag that was given out first, where one is (profile)
abbrev pub first_tag : List Flying → Option ℕ
first_tag [] = None
first_tag (f ∷ fs) = Some f.tag

-- the same task in the same slot with as many pages (profile)
pub record IsAlike (old new : Held) : Type 0 where
  pub size : length new.entry.body ≡ length old.entry.body
  pub stays : new ≡ with_body new.entry.body old

-- the same tasks, whatever their pages hold: what is read from a drive may stand in them in part (profile)
abbrev pub AreAlike : List Held → List Held → Type 0
AreAlike old new = AllZip IsAlike old new
