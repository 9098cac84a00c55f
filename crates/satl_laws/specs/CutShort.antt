-- The law of runs that end in part (profile).
use Rattle.std.specs.Prelude.{◌≤◌, ℕ, List, [], ◌∷◌, ◌++◌}
use Rattle.satl_frame.specs.declared.frames.Frame.{Frame}
use Rattle.satl_frame.specs.declared.frames.Frame.TheVariants as frames
use Rattle.satl_frame.specs.Output.{Answer}
use Rattle.satl_direct.specs.Device.{Device}
use Rattle.satl_direct.specs.Run.{CutTurns, RunDeep, RunInPart}

-- the events of a run that ends in part, and what was done of them: all, or, where the last was cut short, a TURN of as many
-- turns as were taken in its place (profile)
pub data WereDone : List Frame → List Frame → Type 0 where
  all_done : (all : List Frame) → WereDone all all
  last_cut : (before : List Frame) (event : Frame) (count : ℕ) → 1 ≤ count → CutTurns event count
      → WereDone (before ++ event ∷ []) (before ++ frames.Turn count ∷ [])

-- law of runs cut short: a run that ends in part is a run over what was done of its events, with the same answers to each, as
-- many losses and the same last device (profile)
abbrev pub CutShortIsARun : Type 0
CutShortIsARun =
    (first last : Device) (all : List Frame) (groups : List (List Answer)) (earlier last_answers : List Answer) (losses : ℕ) →
    RunInPart first all groups earlier last_answers losses last
    → (done : List Frame) × (deep : ℕ) × WereDone all done
    × RunDeep first done (groups ++ (earlier ++ last_answers) ∷ []) losses last deep
