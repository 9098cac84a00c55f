-- The law of untouched sectors (SBC-3).
use Rattle.std.specs.Prelude.{◌≡◌, ℕ, ◌==◌, Bool, true, false, List, Option, slice_get}
use Rattle.std.specs.Option.{option_map}
use Rattle.std.specs.List.{AllByRecursion, list_any}
use Rattle.satl_base.specs.declared.block.Block.{Block}
use Rattle.satl_base.specs.declared.bench.BenchEvent.TheVariants as events
use Rattle.satl_base.specs.Cells.{Cell, Pair}
use Rattle.satl_frame.specs.declared.frames.Frame.{Frame}
use Rattle.satl_frame.specs.declared.frames.Frame.TheVariants as frames
use Rattle.satl_frame.specs.Output.{Answer}
use Rattle.satl_line.specs.declared.entry.Entry.{Entry}
use Rattle.satl_direct.specs.Device.{Device}
use Rattle.satl_direct.specs.Arrival.{Arrival, arrival}
use Rattle.satl_direct.specs.Arrival.Arrival.{answered, attended, overlaps, waits}
use Rattle.satl_direct.specs.Valid.{IsValid}
use Rattle.satl_direct.specs.Quiet.{writes}
use Rattle.satl_direct.specs.Run.{RunDeep}
use Rattle.satl_direct.specs.Run.RunDeep.{start, next_event}

-- what a read of a sector gives (SBC-3)
abbrev pub now_at : List Cell → ℕ → Option Block
now_at cells lba = option_map (λ c. c.now) (slice_get cells lba)

-- no pair names a sector (profile)
abbrev pub Spares : ℕ → List Pair → Type 0
Spares x pairs = list_any (λ p. p.lba == x) pairs ≡ false

-- none of these tasks writes a sector (profile)
abbrev pub SparedBy : ℕ → Device → List Entry → Type 0
SparedBy x s tasks = AllByRecursion (λ t. Spares x (writes s t)) tasks

-- nor the task that a request becomes (profile)
abbrev pub SparedByNew : ℕ → Device → Arrival → Type 0
SparedByNew x s (answered reply) = Unit {0}
SparedByNew x s (attended reply) = Unit {0}
SparedByNew x s (overlaps reply) = Unit {0}
SparedByNew x s (waits task) = Spares x (writes s task)

-- nor a task that comes in an event (profile)
abbrev pub SparedIn : ℕ → Frame → Device → Type 0
SparedIn x (frames.Request r) s = SparedByNew x s (arrival s r)
SparedIn x _ s = Unit {0}

-- no task of a run writes a sector (profile)
abbrev pub SparedThrough : ℕ → {first last : Device} {events : List Frame} {groups : List (List Answer)} {losses deep : ℕ}
    → RunDeep first events groups losses last deep → Type 0
SparedThrough x {first = first} (start quiet) = SparedBy x first first.tasks
SparedThrough x (next_event {s = s} {new = new} event now d so_far does) =
    SparedThrough x so_far × SparedIn x event s × SparedBy x new new.tasks

-- a loss of power (profile)
abbrev pub is_power : Frame → Bool
is_power (frames.Bench events.Power) = true
is_power _ = false

-- no event is a loss of power (profile)
abbrev pub WithoutPower : List Frame → Type 0
WithoutPower all = AllByRecursion (λ f. is_power f ≡ false) all

-- law of untouched sectors: in a run without a loss of power, from a device that there can be, a sector that no task of the run
-- writes keeps its block (SBC-3)
abbrev pub Untouched : Type 0
Untouched =
    (first last : Device) (all : List Frame) (groups : List (List Answer)) (losses deep : ℕ)
    (run : RunDeep first all groups losses last deep) (x : ℕ) →
    IsValid first → WithoutPower all → SparedThrough x run → now_at last.cells x ≡ now_at first.cells x
