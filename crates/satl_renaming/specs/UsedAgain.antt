-- The laws of order where tags are used again (SAM-5 4.7, I_T_L_Q nexus; SAM-5 8, command order; SBC-3 5). The place of an
-- event is its number in the input, from 0 on.
use Rattle.std.specs.Prelude.{◌≡◌, ◌≤◌, ℕ, suc, ◌==◌, ◌&&◌, ◌||◌, not, Bool, true, false, if◌then◌else◌, List, [], ◌∷◌, ◌++◌, Some, map, length, take, drop, slice_get}
use Rattle.std.specs.List.{AllByRecursion, list_any, range_with_len}
use Rattle.satl_base.specs.declared.bench.BenchEvent.TheVariants as events
use Rattle.satl_base.specs.declared.block.Block.{Block}
use Rattle.satl_base.specs.declared.request.Request.{Request}
use Rattle.satl_base.specs.declared.reply.Reply.{Reply}
use Rattle.satl_base.specs.Cells.{Cell}
use Rattle.satl_base.specs.Lists.{how_many}
use Rattle.satl_cdb.specs.Table.{says}
use Rattle.satl_frame.specs.declared.frames.Frame.{Frame}
use Rattle.satl_frame.specs.declared.frames.Frame.TheVariants as frames
use Rattle.satl_frame.specs.Output.{Answer}
use Rattle.satl_direct.specs.Device.{Device, is_called}
use Rattle.satl_direct.specs.Arrival.{arrival}
use Rattle.satl_direct.specs.Valid.{IsValid}
use Rattle.satl_direct.specs.Run.{RunDeep, joined}
use Rattle.satl_direct.specs.Run.RunDeep.{start, next_event}
use Rattle.satl_laws.specs.OnceEach.{answers_to, asks_by}
use Rattle.satl_laws.specs.ArrivalOrder.{AskOnce, IsFresh, IsGoodReply, IsReadOf, block_after, is_done, is_plain, read_at, was_done}
use Rattle.satl_laws.specs.OrderUnderErrors.{is_mild, waits_at}

-- whether an event is a request with the nexus and tag of a task that waits as it arrives (SAM-5, overlapped commands)
abbrev pub finds_its_name : Frame → Device → Bool
finds_its_name (frames.Request r) s = list_any (is_called r.nexus (r.tag).0) s.tasks
finds_its_name _ s = false

-- whether no request of a run comes with the nexus and tag of a task that waits then (SAM-5 4.7)
abbrev pub names_are_free : {first last : Device} {events : List Frame} {groups : List (List Answer)} {losses deep : ℕ}
    → RunDeep first events groups losses last deep → Bool
names_are_free (start quiet) = true
names_are_free (next_event {s = s} event now d so_far does) = names_are_free so_far && not (finds_its_name event s)

-- how many events come before the next request of a nexus and tag (profile)
abbrev pub how_many_before : ℕ → ℕ → List Frame → ℕ
how_many_before nexus tag [] = 0
how_many_before nexus tag (event ∷ events) = if asks_by nexus tag event then 0 else suc (how_many_before nexus tag events)

-- the answers of the event at a place and of those behind it, up to the next request of a nexus and tag (profile)
abbrev pub answers_from : ℕ → ℕ → List Frame → List (List Answer) → ℕ → List Answer
answers_from nexus tag events groups place =
    joined (take (suc (how_many_before nexus tag (drop (suc place) events))) (drop place groups))

-- the answers among which the request at a place has its own: those from its place on until its nexus and tag are used again
-- (SAM-5 4.7)
abbrev pub answers_for : List Frame → List (List Answer) → ℕ → Request → List Answer
answers_for events groups place r = answers_from r.nexus (r.tag).0 events groups place

-- whether the request at a place was answered with GOOD (SAM-5 5.3.1)
abbrev pub was_done_at : List Frame → List (List Answer) → ℕ → Request → Bool
was_done_at events groups place r = was_done (answers_for events groups place r) r

-- a sector's block by the WRITEs that have acted on it, in the order of the events, of which the first has this place (SBC-3 5)
abbrev pub content_from : (ℕ → Request → Bool) → Bool → ℕ → ℕ → List Frame → Block → Block
content_from acted trim x place [] was = was
content_from acted trim x place (event ∷ events) was =
    content_from acted trim x (suc place) events (block_after (acted place) trim x event was)

-- each READ that is answered with GOOD gives for each sector the block of the last WRITE before it in the input that has acted
-- on the sector, and at the end each sector has the block of the last of all these; without one, the block that it had at
-- first. What has acted goes by sector, place and request (SBC-3 5)
pub record IsInOrderByPlace (acted : ℕ → ℕ → Request → Bool) (first : Device) (all : List Frame)
    (groups : List (List Answer)) (last : Device) : Type 0 where
  pub reads : (before after : List Frame) (r : Request) (reply : Reply) (lba count : ℕ)
      → all ≡ before ++ frames.Request r ∷ after → IsReadOf (says r.cdb first.identity.trim) lba count →
      IsGoodReply r reply (answers_for all groups (length before) r)
      → reply.body ≡ map (λ x. content_from (acted x) first.identity.trim x 0 before (read_at first.cells x))
      (range_with_len lba count)
  pub writes : (x : ℕ) (c : Cell) → slice_get last.cells x ≡ Some c
      → c.now ≡ content_from (acted x) first.identity.trim x 0 all (read_at first.cells x)

-- whether an event is a request that becomes a task (SAM-5, task set)
abbrev pub becomes_task : Frame → Device → Bool
becomes_task (frames.Request r) s = waits_at (arrival s r)
becomes_task _ s = false

-- whether the event at a place of a run was a request that became a task (profile)
abbrev pub waited_at : ℕ → {first last : Device} {events : List Frame} {groups : List (List Answer)} {losses deep : ℕ}
    → RunDeep first events groups losses last deep → Bool
waited_at place (start quiet) = false
waited_at place (next_event {events = events} {s = s} event now d so_far does) =
    waited_at place so_far || ((length events == place) && becomes_task event s)

-- on each sector each WRITE has acted or not, once and for all; one that was answered with GOOD has, and one that never became
-- a task and was not answered with GOOD has not. What has acted goes by sector, place and request (SBC-3 5)
pub record HasOutcomesByPlace (first : Device) (all : List Frame) (groups : List (List Answer)) (losses deep : ℕ)
    (last : Device) (run : RunDeep first all groups losses last deep) : Type 0 where
  pub acted : ℕ → ℕ → Request → Bool
  pub done : (x : ℕ) (before after : List Frame) (r : Request) → all ≡ before ++ frames.Request r ∷ after
      → was_done_at all groups (length before) r ≡ true → acted x (length before) r ≡ true
  pub refused : (x : ℕ) (before after : List Frame) (r : Request) → all ≡ before ++ frames.Request r ∷ after
      → waited_at (length before) run ≡ false → was_done_at all groups (length before) r ≡ false
      → acted x (length before) r ≡ false
  pub in_order : IsInOrderByPlace acted first all groups last

-- law of arrival order where tags are used again: in a run to END, without losses, from a device at rest, where no request
-- comes with the nexus and tag of a task that waits then, the WRITEs that are answered with GOOD have acted, and no other; the
-- answer to a request comes from its place on and before its nexus and tag are used again (SAM-5 4.7, 8; SBC-3 5)
abbrev pub ArrivalOrderUsedAgain : Type 0
ArrivalOrderUsedAgain =
    (first last : Device) (all : List Frame) (groups : List (List Answer)) (deep : ℕ)
    (run : RunDeep first (all ++ frames.End ∷ []) groups 0 last deep) →
    IsValid first → IsFresh first → AllByRecursion (λ f. is_plain first.identity.trim f ≡ true) all → names_are_free run ≡ true
    → IsInOrderByPlace (λ x. was_done_at (all ++ frames.End ∷ []) groups) first (all ++ frames.End ∷ []) groups last

-- law of order under errors where tags are used again: in a run with flaws, glitches, losses of the link and task management
-- functions, from a device without tasks, where no request comes with the nexus and tag of a task that waits then, each WRITE
-- that became a task and is not answered with GOOD has acted on each sector or not, one that was refused on arrival has not,
-- and for the rest all is in order of arrival (SAM-5 4.7, 8; SBC-3 5)
abbrev pub OrderUnderErrorsUsedAgain : Type 0
OrderUnderErrorsUsedAgain =
    (first last : Device) (all : List Frame) (groups : List (List Answer)) (losses deep : ℕ)
    (run : RunDeep first all groups losses last deep) →
    IsValid first → first.tasks ≡ [] → AllByRecursion (λ f. is_mild first.identity.trim f ≡ true) all → names_are_free run ≡ true
    → HasOutcomesByPlace first all groups losses deep last run

-- whether an event takes off no task without an answer, unless it is a request that overlaps one: it is neither a task
-- management function nor a loss of power (SAM-5 6.3, 7)
abbrev pub leaves_tasks : Frame → Bool
leaves_tasks (frames.Manage m) = false
leaves_tasks (frames.Bench events.Power) = false
leaves_tasks _ = true

-- law of no second answer: in a run from a device without tasks, where no request comes with the nexus and tag of a task that
-- waits then, a request has at most one answer from its place on and before its nexus and tag are used again (SAM-5 4.7, 5)
abbrev pub NoSecondReply : Type 0
NoSecondReply =
    (first last : Device) (all : List Frame) (groups : List (List Answer)) (losses deep : ℕ)
    (run : RunDeep first all groups losses last deep) (before after : List Frame) (r : Request) →
    first.tasks ≡ [] → names_are_free run ≡ true → all ≡ before ++ frames.Request r ∷ after
    → how_many (answers_to r.nexus (r.tag).0) (answers_for all groups (length before) r) ≤ 1

-- and in such a run to END, without task management functions and losses of power, it has one (SAM-5 4.7, 5)
abbrev pub OneReplyUsedAgain : Type 0
OneReplyUsedAgain =
    (first last : Device) (all : List Frame) (groups : List (List Answer)) (losses deep : ℕ)
    (run : RunDeep first (all ++ frames.End ∷ []) groups losses last deep) (before after : List Frame) (r : Request) →
    first.tasks ≡ [] → names_are_free run ≡ true → AllByRecursion (λ f. leaves_tasks f ≡ true) all →
    all ++ frames.End ∷ [] ≡ before ++ frames.Request r ∷ after
    → how_many (answers_to r.nexus (r.tag).0) (answers_for (all ++ frames.End ∷ []) groups (length before) r) ≡ 1

-- whether the first answer to a request's nexus and tag is GOOD (SAM-5 4.7, 5.3.1)
abbrev pub first_is_good : Request → List Answer → Bool
first_is_good r [] = false
first_is_good r (answer ∷ answers) =
    if answers_to r.nexus (r.tag).0 answer then is_done r answer else first_is_good r answers

-- so in such a run a request was answered with GOOD just where the first answer to its nexus and tag, from its place on, is
-- GOOD (SAM-5 4.7, 5)
abbrev pub FirstReplyTells : Type 0
FirstReplyTells =
    (first last : Device) (all : List Frame) (groups : List (List Answer)) (losses deep : ℕ)
    (run : RunDeep first (all ++ frames.End ∷ []) groups losses last deep) (before after : List Frame) (r : Request) →
    first.tasks ≡ [] → names_are_free run ≡ true → AllByRecursion (λ f. leaves_tasks f ≡ true) all →
    all ++ frames.End ∷ [] ≡ before ++ frames.Request r ∷ after
    → was_done_at (all ++ frames.End ∷ []) groups (length before) r ≡ first_is_good r (joined (drop (length before) groups))

-- each request comes once all earlier ones of its nexus and tag are answered (SAM-5 4.7)
abbrev pub EachAnsweredFirst : List Frame → List (List Answer) → Type 0
EachAnsweredFirst events groups =
    (before after : List Frame) (r : Request) → events ≡ before ++ frames.Request r ∷ after →
    how_many (asks_by r.nexus (r.tag).0) before
    ≤ how_many (answers_to r.nexus (r.tag).0) (joined (take (length before) groups))

-- then no request comes with the nexus and tag of a task that waits (SAM-5 4.7)
abbrev pub AnsweredIsFree : Type 0
AnsweredIsFree =
    (first last : Device) (all : List Frame) (groups : List (List Answer)) (losses deep : ℕ)
    (run : RunDeep first all groups losses last deep) → first.tasks ≡ [] → EachAnsweredFirst all groups
    → names_are_free run ≡ true

-- nor where each nexus and tag asks once at most (SAM-5 4.7)
abbrev pub OnceIsFree : Type 0
OnceIsFree =
    (first last : Device) (all : List Frame) (groups : List (List Answer)) (losses deep : ℕ)
    (run : RunDeep first all groups losses last deep) → first.tasks ≡ [] → AskOnce all → names_are_free run ≡ true
