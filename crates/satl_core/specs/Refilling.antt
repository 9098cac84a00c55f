-- The parts of a call of the layer, as the device sees them (profile).
use Rattle.std.specs.Prelude.{◌≡◌, ◌⊎◌, ◌≤◌, ℕ, not, Bool, true, List, [], ◌∷◌, ◌++◌, filter, length}
use Rattle.std.specs.List.{AllByRecursion}
use Rattle.satl_base.specs.declared.reply.Reply.{Reply}
use Rattle.satl_frame.specs.Output.{IsWritable}
use Rattle.satl_io.specs.Causes.{RoseBy}
use Rattle.satl_line.specs.declared.entry.Entry.{Entry}
use Rattle.satl_line.specs.Tasks.{Held}
use Rattle.satl_drive.specs.State.{DriveState}
use Rattle.satl_flight.specs.Flown.{FitsDrive}
use Rattle.satl_flight.specs.Settled.{Deepens}
use Rattle.satl_direct.specs.Device.{Device}
use Rattle.satl_direct.specs.Quiet.{Around, Quiet}
use Rattle.satl_direct.specs.Run.{losses_of}
use Rattle.satl_direct.specs.Turn.{Loss, OneEnds, Turn}
use Rattle.satl_core.specs.Layer.{Layer, reply_pages, view}

-- one task ends, with quiet moves before it and after it (SAM-5 8; profile)
pub record EndsOne (old : Device) (reply : Reply) (new : Device) : Type 0 where
  pub before : Device
  pub after : Device
  pub quiet_before : Quiet old before
  pub ends : OneEnds before reply after
  pub quiet_after : Quiet after new

-- one task ends, or the link is lost (SAM-5 8; profile)
abbrev pub EndsOrLoses : Device → List Reply → Device → Type 0
EndsOrLoses old answers new =
    ((reply : Reply) × (answers ≡ reply ∷ []) × EndsOne old reply new) ⊎ (Around Turn old answers new × (new.down ≡ true))

-- quiet moves alone, or quiet moves and then a loss of the link (profile)
abbrev pub Refills : Device → List Reply → Device → Type 0
Refills old answers new = ((answers ≡ []) × Quiet old new) ⊎ ((mid : Device) × Quiet old mid × Loss mid answers new)

-- the tasks that pass a test go without an answer (SAM-5 7; SAM-5, overlapped commands)
pub record Removes (goes : Entry → Bool) (old : Device) (answers : List Reply) (new : Device) : Type 0 where
  pub none : answers ≡ []
  pub stays : new ≡ record old { tasks = filter (λ t. not (goes t)) old.tasks }

-- more replies, behind those that were there (profile)
pub record Answers (Step : List Reply → Type 0) (old new : List Reply) : Type 0 where
  pub more : List Reply
  pub behind : new ≡ old ++ more
  pub step : Step more

-- what a call leaves of the drive's counts: the count of faults rose by each loss of the link, the number of unplugs and the
-- account of order bytes stay, and the deepest queue does not fall (profile)
pub record AreKept (old : Layer) (d : DriveState) (new : Layer) (d' : DriveState) : Type 0 where
  pub losses : RoseBy (losses_of (view old d) (view new d')) d.faults d'.faults
  pub unplugs : d'.unplugs ≡ d.unplugs
  pub orders : d'.orders ≡ d.orders
  pub deep : Deepens d d'

-- a task came behind these, and may be issued to a drive of this capacity, which queues trims or not (profile)
pub record Comes (capacity : ℕ) (trims : Bool) (old new : List Held) : Type 0 where
  pub held : Held
  pub last : new ≡ old ++ held ∷ []
  pub fits : FitsDrive capacity trims held

-- the mode values and the pages that are out stay, no task comes, and what is answered holds no page and can be written
-- (profile)
pub record KeepsRest (old : Layer) (given : List Reply) (new : Layer) (replies : List Reply) : Type 0 where
  pub modes : new.modes ≡ old.modes
  pub out : new.out ≡ old.out
  pub fewer : length new.tasks ≤ length old.tasks
  pub pages : reply_pages replies ≡ reply_pages given
  pub writable : AllByRecursion IsWritable given → AllByRecursion IsWritable replies
