-- Which devices there can be (SAM-5, task set; SBC-3; the figures: profile).
use Rattle.std.specs.Prelude.{◌≡◌, ◌*◌, ◌≤◌, List, length}
use Rattle.std.specs.List.{AllByRecursion, IsDistinct}
use Rattle.satl_base.specs.declared.request.Request.{Request}
use Rattle.satl_base.specs.Cells.{AreSound}
use Rattle.satl_base.specs.Limits.{IsExpectable, most_held, most_tasks}
use Rattle.satl_identify.specs.declared.identity.Identity.{Identity}
use Rattle.satl_identify.specs.Refusals.{IsIdentity}
use Rattle.satl_mode.specs.Changes.{AreModesOf}
use Rattle.satl_unit.specs.Conditions.{IsInReportOrder}
use Rattle.satl_line.specs.declared.entry.Entry.{Entry}
use Rattle.satl_direct.specs.Device.{Device, is_called}
use Rattle.satl_direct.specs.Tasks.{held_by}
use Rattle.satl_direct.specs.Arrival.{code_arrival}
use Rattle.satl_direct.specs.Arrival.Arrival.{waits}

-- no two tasks have the same nexus and tag (SAM-5 4.7, I_T_L_Q nexus)
abbrev pub AreOwn : List Entry → Type 0
AreOwn tasks = IsDistinct (λ t u. is_called t.nexus (t.tag).0 u) tasks

-- a task has come: at a device of this identity, with mode values that its drive can have, its request became this task, so its
-- operation code, fields, range and data-out were good and the task set had a place. The request has pages for its data-out,
-- and its host, where it says how much data-in it takes, says at most 2,097,152 bytes (SAM-5, task set; the figure: profile)
pub record HasCome (identity : Identity) (t : Entry) : Type 0 where
  pub request : Request
  pub pages : request.data_len ≤ 512 * length request.body
  pub expected : IsExpectable request.expected
  pub at : Device
  pub same : at.identity ≡ identity
  pub modes : AreModesOf identity at.modes
  pub became : code_arrival at request ≡ waits t

-- a device that there can be: what its drive says of itself is not refused; as many sound sectors as its capacity; at most 64
-- tasks with at most 32,768 blocks, each with a nexus and tag of its own, and come by a request; mode values that its drive can
-- have (WCE is 0 without a write cache, DRA is 1 without look-ahead); and for each of the four nexuses its conditions, each at
-- most once, in the order of report (SAM-5, task set; profile)
pub record IsValid (s : Device) : Type 0 where
  pub identity : IsIdentity s.identity
  pub cells : length s.cells ≡ s.identity.capacity
  pub sound : AreSound s.cells
  pub few : length s.tasks ≤ most_tasks
  pub blocks : held_by s.tasks ≤ most_held
  pub own : AreOwn s.tasks
  pub come : AllByRecursion (HasCome s.identity) s.tasks
  pub modes : AreModesOf s.identity s.modes
  pub nexuses : length s.attentions ≡ 4
  pub attentions : AllByRecursion IsInReportOrder s.attentions
