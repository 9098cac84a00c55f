-- Scenarios: runs of the device that are written down event by event (profile).
use Rattle.std.specs.Prelude.{◌≡◌, ℕ, ◌+◌, List, [], ◌∷◌, ◌++◌, map}
use Rattle.satl_frame.specs.declared.frames.Frame.{Frame}
use Rattle.satl_frame.specs.Output.{Answer}
use Rattle.satl_direct.specs.Device.{Device}
use Rattle.satl_direct.specs.Run.{DoesShort, Run, RunDeep, joined, losses_in}

-- an event, and its answers
pub record Step : Type 0 where
  pub event : Frame
  pub answers : List Answer

-- an event without an answer, and one with some
abbrev pub silent : Frame → Step
silent event = record { event = event; answers = [] }

abbrev pub answered : Frame → List Answer → Step
answered event answers = record { event = event; answers = answers }

-- the device at first, the events with their answers, how often the link is lost, how many commands the device lets its drive
-- hold at most, and the device at last
pub record Scenario : Type 0 where
  pub first : Device
  pub steps : List Step
  pub losses : ℕ
  pub depth : ℕ
  pub last : Device

-- the events of a scenario, and its answers in a group for each event
abbrev pub events_of : Scenario → List Frame
events_of scenario = map (λ (step : Step). step.event) scenario.steps

abbrev pub groups_of : Scenario → List (List Answer)
groups_of scenario = map (λ (step : Step). step.answers) scenario.steps

-- the scenario is a run; each event has the answers that stand beside it, and the depth is the greatest
pub record CanHappen (scenario : Scenario) : Type 0 where
  pub run : Run scenario.first (events_of scenario) scenario.losses (joined (groups_of scenario)) scenario.last
  pub groups : run.groups ≡ groups_of scenario
  pub depth : run.deep ≡ scenario.depth

-- the scenario is a run, and behind it one event that is cut short behind one of its turns; each event has the answers that
-- stand beside it
pub record CanBeCut (scenario : Scenario) : Type 0 where
  pub before : List Frame
  pub event : Frame
  pub events : events_of scenario ≡ before ++ event ∷ []
  pub groups : List (List Answer)
  pub earlier : List Answer
  pub last : List Answer
  pub all_groups : groups_of scenario ≡ groups ++ (earlier ++ last) ∷ []
  pub lost : ℕ
  pub deep : ℕ
  pub mid : Device
  pub run : RunDeep scenario.first before groups lost mid deep
  pub short : DoesShort event mid earlier last scenario.last
  pub losses : scenario.losses ≡ lost + losses_in event mid scenario.last
