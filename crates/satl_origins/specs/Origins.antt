-- The laws of origins: where the blocks come from that sectors have and READs give (SBC-3 4.15, volatile cache; SBC-3 5;
-- SAM-5 5).
use Rattle.std.specs.Prelude.{◌≡◌, ◌⊎◌, ℕ, ◌+◌, Bool, true, List, ◌∷◌, ◌++◌, Option, Some, None, Ok, length, slice_get}
use Rattle.std.specs.List.{AllByRecursion}
use Rattle.satl_base.specs.declared.block.Block.{Block}
use Rattle.satl_base.specs.declared.request.Request.{Request}
use Rattle.satl_base.specs.declared.reply.Reply.{Reply}
use Rattle.satl_base.specs.Cells.{Cell, Pair}
use Rattle.satl_base.specs.Lists.{IsIn}
use Rattle.satl_cdb.specs.declared.command.Command.{Command}
use Rattle.satl_cdb.specs.Table.{says}
use Rattle.satl_frame.specs.declared.frames.Frame.{Frame}
use Rattle.satl_frame.specs.declared.frames.Frame.TheVariants as frames
use Rattle.satl_frame.specs.Output.{Answer}
use Rattle.satl_line.specs.declared.entry.Entry.{Entry}
use Rattle.satl_direct.specs.Device.{Device}
use Rattle.satl_direct.specs.Arrival.{Arrival, arrival}
use Rattle.satl_direct.specs.Arrival.Arrival.{answered, attended, overlaps, waits}
use Rattle.satl_direct.specs.Tasks.{task_for}
use Rattle.satl_direct.specs.Valid.{IsValid}
use Rattle.satl_direct.specs.Quiet.{writes}
use Rattle.satl_direct.specs.Run.{RunDeep}
use Rattle.satl_direct.specs.Run.RunDeep.{start, next_event}
use Rattle.satl_laws.specs.ArrivalOrder.{IsGoodReply, IsReadOf, brought, writes_plainly}
use Rattle.satl_renaming.specs.UsedAgain.{answers_for, names_are_free}

-- a sector may have a block: it has it, or a loss of power may leave it there (SBC-3 4.15)
abbrev pub MayHave : Option Cell → Block → Type 0
MayHave None block = ⊥
MayHave (Some c) block = (block ≡ c.now) ⊎ IsIn block c.may

-- the same of a sector by its address; past the last sector there is no block (SBC-3 4.15)
abbrev pub MayHold : List Cell → ℕ → Block → Type 0
MayHold cells x block = MayHave (slice_get cells x) block

-- a block for a sector is among these pairs, through the cache or past it (SBC-3, FUA)
abbrev pub IsAmong : List Pair → ℕ → Block → Type 0
IsAmong pairs x block =
    (cached : Bool) × (let pair : Pair = record { lba = x; block = block; cached = cached } in IsIn pair pairs)

-- a task may write a block to a sector (SBC-3 5)
abbrev pub Brings : Device → Entry → ℕ → Block → Type 0
Brings s t x block = IsAmong (writes s t) x block

-- a block comes with a device, for a sector: the sector has it or may be left with it, or a task that waits may write it there
-- (SBC-3 4.15, 5)
abbrev pub ComesWith : Device → ℕ → Block → Type 0
ComesWith s x block = MayHold s.cells x block ⊎ ((t : Entry) × IsIn t s.tasks × Brings s t x block)

-- the task that a request becomes may write a block to a sector (SAM-5 5; SBC-3 5)
abbrev pub BringsAtArrival : Device → Arrival → ℕ → Block → Type 0
BringsAtArrival s (answered reply) x block = ⊥
BringsAtArrival s (attended reply) x block = ⊥
BringsAtArrival s (overlaps reply) x block = ⊥
BringsAtArrival s (waits task) x block = Brings s task x block

-- the task that comes in an event may write it there (SAM-5 5)
abbrev pub BringsIn : Frame → Device → ℕ → Block → Type 0
BringsIn (frames.Request r) s x block = BringsAtArrival s (arrival s r) x block
BringsIn _ s x block = ⊥

-- a block has its origin in a run, for a sector: it comes with the first device, or the task that a request of the run became
-- may write it there (SBC-3 4.15, 5; SAM-5 5)
abbrev pub HasOrigin : ℕ → Block → {first last : Device} {events : List Frame} {groups : List (List Answer)} {losses deep : ℕ}
    → RunDeep first events groups losses last deep → Type 0
HasOrigin x block {first = first} (start quiet) = ComesWith first x block
HasOrigin x block (next_event {s = s} event now d so_far does) = HasOrigin x block so_far ⊎ BringsIn event s x block

-- law of origins: in each run from a device that there can be, whatever fails, is lost or loses power in it, each block that a
-- sector has at the end, or may be left with by a loss of power, has its origin in the run for this very sector (SBC-3 4.15, 5)
abbrev pub NothingInvented : Type 0
NothingInvented =
    (first last : Device) (all : List Frame) (groups : List (List Answer)) (losses deep : ℕ)
    (run : RunDeep first all groups losses last deep) (x : ℕ) (block : Block) →
    IsValid first → MayHold last.cells x block → HasOrigin x block run

-- a READ that was answered with GOOD gave a block for a sector: one of its data-in, by its place there (SBC-3, READ commands;
-- SAM-5 4.7)
pub record WasRead (trim : Bool) (all : List Frame) (groups : List (List Answer)) (x : ℕ) (block : Block) : Type 0 where
  pub before : List Frame
  pub request : Request
  pub after : List Frame
  pub input : all ≡ before ++ frames.Request request ∷ after
  pub lba : ℕ
  pub count : ℕ
  pub reads : IsReadOf (says request.cdb trim) lba count
  pub reply : Reply
  pub good : IsGoodReply request reply (answers_for all groups (length before) request)
  pub place : ℕ
  pub gave : slice_get reply.body place ≡ Some block
  pub sector : x ≡ lba + place

-- law of origins of what is read: where no request comes with the nexus and tag of a task that waits then, so has each block
-- that a READ gave for a sector (SBC-3, READ commands; SAM-5 4.7)
abbrev pub NothingInventedIsRead : Type 0
NothingInventedIsRead =
    (first last : Device) (all : List Frame) (groups : List (List Answer)) (losses deep : ℕ)
    (run : RunDeep first all groups losses last deep) (x : ℕ) (block : Block) →
    IsValid first → names_are_free run ≡ true → WasRead first.identity.trim all groups x block → HasOrigin x block run

-- ---- by the input alone

-- the command of a request may write a block to a sector, on a device like this one, whether it becomes a task or not (SBC-3 5)
abbrev pub IsRequestedBy : Device → Request → ℕ → Block → Type 0
IsRequestedBy s r x block =
    (c : Command) × (says r.cdb s.identity.trim ≡ Ok c) × Brings s (task_for s.identity.queued_trim r c) x block

-- the command of a request of an input may (SBC-3 5)
abbrev pub IsRequestedIn : Device → List Frame → ℕ → Block → Type 0
IsRequestedIn s all x block = (r : Request) × IsIn (frames.Request r) all × IsRequestedBy s r x block

-- law of origins by the input: each block that a sector has at the end, or may be left with, comes with the first device for
-- this very sector, or a command of the input may write it there (SBC-3 4.15, 5)
abbrev pub OnlyRequested : Type 0
OnlyRequested =
    (first last : Device) (all : List Frame) (groups : List (List Answer)) (losses deep : ℕ)
    (run : RunDeep first all groups losses last deep) (x : ℕ) (block : Block) →
    IsValid first → MayHold last.cells x block → ComesWith first x block ⊎ IsRequestedIn first all x block

-- and so it is with what READs give (SBC-3, READ commands; SAM-5 4.7)
abbrev pub OnlyRequestedIsRead : Type 0
OnlyRequestedIsRead =
    (first last : Device) (all : List Frame) (groups : List (List Answer)) (losses deep : ℕ)
    (run : RunDeep first all groups losses last deep) (x : ℕ) (block : Block) →
    IsValid first → names_are_free run ≡ true → WasRead first.identity.trim all groups x block
    → ComesWith first x block ⊎ IsRequestedIn first all x block

-- ---- where WRITE alone changes blocks

-- whether an event is no request that changes blocks other than as a WRITE does (SBC-3 5; SAT-3 12.2)
abbrev pub changes_plainly : Bool → Frame → Bool
changes_plainly trim (frames.Request r) = writes_plainly (says r.cdb trim)
changes_plainly trim _ = true

-- a WRITE of an input brings a block to a sector, whatever the sector had (SBC-3, WRITE commands)
abbrev pub IsWrittenIn : Bool → List Frame → ℕ → Block → Type 0
IsWrittenIn trim all x block =
    (r : Request) × IsIn (frames.Request r) all × ((was : Block) → brought (says r.cdb trim) r.body x was ≡ block)

-- law of origins by WRITEs: where no command of a run changes blocks but WRITE, each such block comes with the first device for
-- this very sector, or a WRITE of the input brings it there (SBC-3 4.15, 5)
abbrev pub OnlyWritten : Type 0
OnlyWritten =
    (first last : Device) (all : List Frame) (groups : List (List Answer)) (losses deep : ℕ)
    (run : RunDeep first all groups losses last deep) (x : ℕ) (block : Block) →
    IsValid first → AllByRecursion (λ f. changes_plainly first.identity.trim f ≡ true) all → MayHold last.cells x block
    → ComesWith first x block ⊎ IsWrittenIn first.identity.trim all x block

-- and so it is with what READs give (SBC-3, READ commands; SAM-5 4.7)
abbrev pub OnlyWrittenIsRead : Type 0
OnlyWrittenIsRead =
    (first last : Device) (all : List Frame) (groups : List (List Answer)) (losses deep : ℕ)
    (run : RunDeep first all groups losses last deep) (x : ℕ) (block : Block) →
    IsValid first → AllByRecursion (λ f. changes_plainly first.identity.trim f ≡ true) all → names_are_free run ≡ true →
    WasRead first.identity.trim all groups x block → ComesWith first x block ⊎ IsWrittenIn first.identity.trim all x block
