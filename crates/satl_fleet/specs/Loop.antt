-- The frames of an input, carried out on the units of a target (profile).
use Rattle.std.specs.Prelude.{◌≡◌, ℕ, ◌+◌, ◌≤◌, Bool, false, if◌then◌else◌, List, [], ◌∷◌, ◌++◌, Option}
use Rattle.std.specs.List.{AllByRecursion}
use Rattle.satl_io.specs.Known.{Wrote, WrotePart}
use Rattle.satl_frame.specs.declared.frames.Frame.{Frame}
use Rattle.satl_frame.specs.declared.frames.Frame.TheVariants as frames
use Rattle.satl_frame.specs.declared.frames.FrameFault.{FrameFault}
use Rattle.satl_frame.specs.Inputs.{NoneEnds}
use Rattle.satl_frame.specs.Progress.{HasRead}
use Rattle.satl_frame.specs.Reading.{AwaitsNoMore, Blames, Reading}
use Rattle.satl_step.specs.Runs.{calls_allowed, is_lost_behind_all}
use Rattle.satl_step.specs.declared.frames_loop.Stop.{Stop}
use Rattle.satl_step.specs.declared.frames_loop.Stop.TheVariants as stops
use Rattle.satl_fleet.specs.Output.{IsRoundOf, Round, frames_of, round_told, rounds_told}
use Rattle.satl_fleet.specs.Rounds.{IsCut, Stage, frame_calls}
use Rattle.satl_fleet.specs.Runs.{HaveRun, HaveRunInPart}
use Rattle.satl_fleet.specs.Serving.{Target, calls_due}

-- a reader, what is left to read, whether the source has waited for a byte that it has not given, the units and what was
-- written, and how often the drives were called (profile)
pub record LoopState : Type 0 where
  pub reader : Reading
  pub left : Option (List ℕ)
  pub waited : Bool
  pub stage : Stage
  pub calls : ℕ

abbrev pub loop_state : Reading → Option (List ℕ) → Bool → Stage → ℕ → LoopState
loop_state reader left waited stage calls =
    record { reader = reader; left = left; waited = waited; stage = stage; calls = calls }

-- how often the drives were called, with the calls of a turn for each task that waits, if the link is not known to be lost
-- (profile)
abbrev pub calls_due_unless : Bool → Target → ℕ → ℕ
calls_due_unless lost t calls = if lost then calls else calls_due t calls

-- the reader is the same but for where it stands, and has given these frames (profile)
pub record HasGiven (before after : LoopState) (fs : List Frame) : Type 0 where
  pub limit : after.reader.limit ≡ before.reader.limit
  pub newest : after.reader.newest ≡ before.reader.newest
  pub read : HasRead after.reader before.left after.left fs

-- rounds were served, and their answers told; the drives were called as often at most as the frames allow, but for the turns
-- of the tasks that are left (profile)
pub record SoFar (units : ℕ) (before after : LoopState) (rounds : List Round) : Type 0 where
  pub are_rounds : AllByRecursion (IsRoundOf units) rounds
  pub given : HasGiven before after (frames_of rounds)
  pub wrote : Wrote before.stage.written after.stage.written (rounds_told units rounds)
  pub run : HaveRun units 0 rounds before.stage.target.units after.stage.target.units
  pub calls : calls_due_unless (is_lost_behind_all (frames_of rounds) false) after.stage.target after.calls
      ≤ before.calls + calls_allowed (frame_calls units) (frames_of rounds) false

-- the same, and none of the frames is END (profile)
pub record Going (units : ℕ) (before after : LoopState) : Type 0 where
  pub rounds : List Round
  pub so_far : SoFar units before after rounds
  pub none_ends : NoneEnds (frames_of rounds)

-- the same, the last one is END, and no byte behind it was waited for (profile)
pub record ReachedEnd (units : ℕ) (before after : LoopState) : Type 0 where
  pub rounds : List Round
  pub so_far : SoFar units before after rounds
  pub earlier : List Frame
  pub ends : frames_of rounds ≡ earlier ++ frames.End ∷ []
  pub unwaited : after.waited ≡ false

-- rounds were served, and what follows them was refused, and nothing behind that was waited for, or not read (profile)
pub record Refused (units : ℕ) (why : FrameFault) (before after : LoopState) : Type 0 where
  pub reader : Reading
  pub mid : Option (List ℕ)
  pub going : Going units before (record after { reader = reader; left = mid })
  pub blames : Blames reader mid after.left why
  pub awaits : AwaitsNoMore after.waited after.left why

-- rounds were served and told; then one frame more was read, and a front of what is due to it was written before a byte behind
-- it was waited for: all units did it, or units up to one that did it in whole or in part (profile)
pub record StoppedInRound (units : ℕ) (before after : LoopState) : Type 0 where
  pub mid : LoopState
  pub going : Going units before mid
  pub round : Round
  pub is_round : IsRoundOf units round
  pub given : HasGiven before after (frames_of going.rounds ++ round.frame ∷ [])
  pub unwaited : after.waited ≡ false
  pub part : WrotePart mid.stage.written after.stage.written (round_told units round)
  pub cut : IsCut units round mid.stage.written after.stage.written
      (HaveRun units 0 (going.rounds ++ round ∷ []) before.stage.target.units after.stage.target.units)
      (λ stop cut. HaveRunInPart units going.rounds round stop cut 0 before.stage.target.units after.stage.target.units)
  pub calls : after.calls ≤ before.calls + calls_allowed (frame_calls units) (frames_of going.rounds ++ round.frame ∷ []) false

-- by why frames are carried out no further (profile)
abbrev pub StoppedSo : ℕ → LoopState → LoopState → Stop → Type 0
StoppedSo units before after (stops.Refused why) = Refused units why before after
StoppedSo units before after stops.Write = StoppedInRound units before after
