-- A device whose tasks end out of order, and what it has answered, as if each WRITE had acted, or not, on arrival.
use Rattle.std.proofs.Common.{◌≡◌, ℕ, ◌+◌, ◌≤◌, ◌<◌, Bool, true, false, List, None, map, length}
use Rattle.std.specs.List.{AllByRecursion}
use Rattle.satl_base.specs.declared.block.Block.{Block}
use Rattle.satl_base.specs.declared.request.Request.{Request}
use Rattle.satl_base.specs.Cells.{Cell}
use Rattle.satl_base.specs.Lists.{how_many}
use Rattle.satl_frame.specs.declared.frames.Frame.{Frame}
use Rattle.satl_frame.specs.Output.{Answer}
use Rattle.satl_line.specs.declared.entry.Entry.{Entry}
use Rattle.satl_direct.specs.Device.{Device, is_called}
use Rattle.satl_laws.specs.ArrivalOrder.{read_at, was_done}
use Rattle.satl_laws.specs.OnceEach.{answers_to, asks_by}
use Rattle.satl_laws.proofs.Given.{AllRight}
use Rattle.satl_laws.proofs.Items.{AreSorted, IsWell, Item, held, waiting}
use Rattle.satl_laws.proofs.Requests.{requests_of}
use Rattle.satl_laws.proofs.Standing.{Stands}

-- the device that a run begins with, and which requests may become tasks in it
pub record Begin : Type 0 where
  pub device : Device
  pub waits : Request → Bool

module _ (first : Begin) where
  -- how many sectors there are
  abbrev pub sectors : ℕ
  sectors = length first.device.cells

  -- whether the drive trims
  abbrev pub trim : Bool
  trim = first.device.identity.trim

  -- what a sector holds by these requests
  abbrev pub holds : List Item → ℕ → Block
  holds items x = held trim x (read_at first.device.cells x) items

  -- one that was answered with GOOD has acted
  abbrev pub IsSure : List Answer → Item → Type 0
  IsSure answers i = was_done answers i.request ≡ true → (x : ℕ) → i.acted x ≡ true

  -- and no other
  abbrev pub IsOnly : List Answer → Item → Type 0
  IsOnly answers i = (x : ℕ) → i.acted x ≡ true → was_done answers i.request ≡ true

  -- one that may not become a task does not wait, and has acted only where it was answered with GOOD
  abbrev pub IsAside : List Answer → Item → Type 0
  IsAside answers i = first.waits i.request ≡ false → (i.task ≡ None) × IsOnly answers i

  -- the cells and tasks of the device after some events and answers; where it is faithful, each WRITE that has acted was
  -- answered with GOOD
  pub record InOrder (events : List Frame) (answers : List Answer) (cells : List Cell) (tasks : List Entry)
      (faithful : Bool) : Type 0 where
    pub items : List Item
    pub requests : map (λ i. i.request) items ≡ requests_of events
    pub tasks_are : tasks ≡ waiting items
    pub size : length cells ≡ sectors
    pub counts : (nexus tag : ℕ) → how_many (answers_to nexus tag) answers + how_many (is_called nexus tag) tasks ≤ how_many (asks_by nexus tag) events
    pub well : AllByRecursion (IsWell trim sectors) items
    pub sorted : (x : ℕ) → x < sectors → AreSorted trim x items
    pub stands : (x : ℕ) → x < sectors → Stands x (read_at cells x) (holds items x) tasks
    pub sure : AllByRecursion (IsSure answers) items
    pub only : faithful ≡ true → AllByRecursion (IsOnly answers) items
    pub aside : AllByRecursion (IsAside answers) items
    pub right : AllRight trim answers (read_at first.device.cells) (λ x. false) items

  -- other cells that stand as well
  pub cells_in_order : (events : List Frame) (answers : List Answer) (cells new : List Cell) (tasks : List Entry) (faithful : Bool) (o : InOrder events answers cells tasks faithful)
      → length new ≡ sectors → ((x : ℕ) → x < sectors → Stands x (read_at new x) (holds o.items x) tasks) → InOrder events answers new tasks faithful
  cells_in_order events answers cells new tasks faithful o size stands = record {
    items = o.items;
    requests = o.requests;
    tasks_are = o.tasks_are;
    size = size;
    counts = o.counts;
    well = o.well;
    sorted = o.sorted;
    stands = stands;
    sure = o.sure;
    only = o.only;
    aside = o.aside;
    right = o.right;
  }
