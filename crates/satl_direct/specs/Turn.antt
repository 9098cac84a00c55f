-- Turns of the device, and the loss of its drive's link (SAM-5 5; lost links and glitches: profile).
use Rattle.std.specs.Prelude.{◌≡◌, ◌⊎◌, ◌+◌, true, false, not, ◌||◌, List, [], ◌∷◌, map, MatchBool}
use Rattle.satl_base.specs.declared.reply.Reply.{Reply}
use Rattle.satl_line.specs.declared.entry.Entry.{Entry}
use Rattle.satl_line.specs.Eligible.{IsEligible}
use Rattle.satl_direct.specs.Device.{Device}
use Rattle.satl_direct.specs.Ending.{Ends, task_check}
use Rattle.satl_direct.specs.Quiet.{Quiet}
use Rattle.satl_direct.specs.Senses.{link_lost}

-- each task in order of arrival is answered that the link is lost (profile)
abbrev pub device_lost_replies : Device → List Reply
device_lost_replies s = map (λ t. task_check s t link_lost) s.tasks

-- the link is lost, or lost again: all tasks are answered, and none is left (profile)
pub record IsLost (old : Device) (answers : List Reply) (new : Device) : Type 0 where
  pub answer : answers ≡ device_lost_replies old
  pub stays : new ≡ record old { tasks = []; down = true }

-- the link is lost at a device that was up (profile)
pub record Loss (old : Device) (answers : List Reply) (new : Device) : Type 0 where
  pub was_up : old.down ≡ false
  pub answer : answers ≡ device_lost_replies old
  pub stays : new ≡ record old { tasks = []; down = true }

-- the link is lost in a turn at a device that was up: all tasks are answered and none is left, one glitch may be used up, and
-- the drive may be active or not (profile)
pub record TurnLoss (old : Device) (answers : List Reply) (new : Device) : Type 0 where
  pub was_up : old.down ≡ false
  pub answer : answers ≡ device_lost_replies old
  pub glitches : (new.glitches ≡ old.glitches) ⊎ (new.glitches + 1 ≡ old.glitches)
  pub stays : new ≡ record old { tasks = []; down = true; glitches = new.glitches; active = new.active }

-- the task is the first of the list (profile)
abbrev pub IsFirst : List Entry → Entry → Type 0
IsFirst [] t = ⊥
IsFirst (u ∷ us) t = u ≡ t

-- the task may end: where the unit is down or stopped the first one alone, else each that is eligible, which is in conflict
-- with no earlier one (profile)
abbrev pub MayEnd : Device → Entry → Type 0
MayEnd s t = MatchBool (s.down || not s.started) (IsFirst s.tasks t) (IsEligible s.tasks t)

-- one task ends (SAM-5 8)
pub record OneEnds (s : Device) (reply : Reply) (new : Device) : Type 0 where
  pub task : Entry
  pub may : MayEnd s task
  pub ends : Ends s task reply new

-- a turn: with no task nothing happens; else one ends; or, where the link is up, it is lost; or one ends and then, after quiet
-- moves, the link is lost (SAM-5 8; profile)
pub data Turn (s : Device) : List Reply → Device → Type 0 where
  idle : s.tasks ≡ [] → Turn s [] s
  ends : {new : Device} (reply : Reply) → OneEnds s reply new → Turn s (reply ∷ []) new
  loses : {new : Device} {answers : List Reply} → (s.tasks ≡ [] → ⊥) → TurnLoss s answers new → Turn s answers new
  ends_and_loses : {mid after new : Device} {answers : List Reply} (reply : Reply) → OneEnds s reply mid → Quiet mid after
      → TurnLoss after answers new → Turn s (reply ∷ answers) new
