-- The law of origins: a run keeps that each block of a sector has its origin.
use Rattle.std.proofs.Common.{inl, inr, subst, ℕ, List}
use Rattle.std.specs.List.{AllByRecursion}
use Rattle.satl_base.specs.declared.block.Block.{Block}
use Rattle.satl_base.specs.declared.request.Request.{Request}
use Rattle.satl_base.proofs.ListsLemmas.{All-in, All-weaken}
use Rattle.satl_frame.specs.declared.frames.Frame.{Frame}
use Rattle.satl_frame.specs.declared.frames.Frame.TheVariants as frames
use Rattle.satl_frame.specs.Output.{Answer}
use Rattle.satl_line.specs.declared.entry.Entry.{Entry}
use Rattle.satl_direct.specs.Arrival.{Arrival, arrival}
use Rattle.satl_direct.specs.Arrival.Arrival.{answered, attended, overlaps, waits}
use Rattle.satl_direct.specs.Device.{Device}
use Rattle.satl_direct.specs.Run.{RunDeep}
use Rattle.satl_direct.specs.Run.RunDeep.{start, next_event}
use Rattle.satl_direct.specs.Valid.{HasCome, IsValid}
use Rattle.satl_laws.proofs.Addresses.{Alike, alike_on}
use Rattle.satl_laws.proofs.Arrivals.{IsFor, arrival_for, code_for}
use Rattle.satl_laws.proofs.Coming.{WritesItsOwn}
use Rattle.satl_laws.proofs.Rows.{in_all}
use Rattle.satl_origins.specs.Origins.{BringsAtArrival, BringsIn, HasOrigin, ComesWith, NothingInvented}
use Rattle.satl_origins.proofs.Events.{ArrivalSo, EventSo, does_go}
use Rattle.satl_origins.proofs.Steps.{AnswersSo, Asked, DeviceSo, TaskSo, quiet_goes}

-- each task of a device that there can be writes its own blocks alone
come_own : (s : Device) (t : Entry) → HasCome s.identity t → WritesItsOwn t.command
come_own s t h = let to = subst (IsFor h.request) h.became (code_for h.at h.request) in to.own

pub all_own : (s : Device) → IsValid s → AllByRecursion (λ t. WritesItsOwn t.command) s.tasks
all_own s valid = All-weaken (HasCome s.identity) (λ t. WritesItsOwn t.command) (come_own s) s.tasks valid.come

module _ (B : ℕ → Block → Type 0) where
  -- blocks are so, and of tasks and answers nothing is asked
  abbrev pub blocks_alone : Asked
  blocks_alone = record { block = B; task = λ t. Unit {0}; reply = λ reply. Unit {0} }

  pub nothing_asked : AnswersSo blocks_alone
  nothing_asked = record { ending = λ s new t reply so known e. tt; losing = λ s t known. tt }

  -- what comes in an event
  arrival_so : (a : Arrival) (r : Request) (s : Device) → IsFor r a → ((x : ℕ) (block : Block) → BringsAtArrival s a x block → B x block) → ArrivalSo blocks_alone nothing_asked s a
  arrival_so (answered reply) r s to its = tt
  arrival_so (attended reply) r s to its = tt
  arrival_so (overlaps reply) r s to its = tt
  arrival_so (waits task) r s to its = record { own = to.own; brings = its; known = tt }

  pub event_so : (event : Frame) (s : Device) → ((x : ℕ) (block : Block) → BringsIn event s x block → B x block) → EventSo blocks_alone nothing_asked event s
  event_so (frames.Request r) s its = arrival_so (arrival s r) r s (arrival_for s r) its
  event_so (frames.Manage m) s its = tt
  event_so (frames.Turn count) s its = tt
  event_so (frames.Bench event) s its = tt
  event_so frames.End s its = tt

  -- a like device, of which all is so
  pub record RunSo (first last : Device) : Type 0 where
    pub alike : Alike first last
    pub device : DeviceSo blocks_alone last

  -- a device at first
  pub first_so : (first : Device) → AllByRecursion (λ t. WritesItsOwn t.command) first.tasks → ((x : ℕ) (block : Block) → ComesWith first x block → B x block) → DeviceSo blocks_alone first
  first_so first own its = record {
    cells = record { each = λ x block h. its x block (inl h) };
    tasks = All-in (TaskSo blocks_alone first) first.tasks (λ t i. record { own = in_all (λ u. WritesItsOwn u.command) first.tasks t own i; brings = λ x block b. its x block (inr (t, i, b)); known = tt });
  }

  pub run_so : {first last : Device} {events : List Frame} {groups : List (List Answer)} {losses deep : ℕ} (run : RunDeep first events groups losses last deep)
      → ((x : ℕ) (block : Block) → HasOrigin x block run → B x block) → AllByRecursion (λ t. WritesItsOwn t.command) first.tasks → RunSo first last
  run_so {first = first} {last = last} (start quiet) its own =
      let g = quiet_goes blocks_alone first last quiet (first_so first own its) in
      record { alike = g.alike; device = g.device }
  run_so {first = first} {last = last} (next_event {s = s} event now d so_far does) its own =
      let r = run_so so_far (λ x block h. its x block (inl h)) own in
      let g = does_go blocks_alone nothing_asked event s last now d (event_so event s (λ x block h. its x block (inr h))) does r.device in
      record { alike = alike_on first s last r.alike g.alike; device = g.device }

-- what was there at first has its origin in each run
pub at_first : {first last : Device} {events : List Frame} {groups : List (List Answer)} {losses deep : ℕ} (run : RunDeep first events groups losses last deep) (x : ℕ) (block : Block) → ComesWith first x block → HasOrigin x block run
at_first (start quiet) x block h = h
at_first (next_event event now d so_far does) x block h = inl (at_first so_far x block h)

-- the law of origins
pub nothing_invented : NothingInvented
nothing_invented first last all groups losses deep run x block valid there =
    (run_so (λ y v. HasOrigin y v run) run (λ y v h. h) (all_own first valid)).device.cells.each x block there
