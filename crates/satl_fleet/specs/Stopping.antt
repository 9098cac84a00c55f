-- Why serving a target stops (profile).
use Rattle.std.specs.Prelude.{◌⊎◌, ℕ, ◌+◌, ◌≤◌, Bool, false, List, [], ◌∷◌, ◌++◌, Option}
use Rattle.std.specs.List.{AllByRecursion}
use Rattle.satl_io.specs.Causes.{Rose}
use Rattle.satl_frame.specs.declared.frames.FrameFault.{FrameFault}
use Rattle.satl_frame.specs.declared.frames.FrameFault.TheVariants.{Bad, ReadFault}
use Rattle.satl_frame.specs.declared.frames.Frame.{Frame}
use Rattle.satl_fleet.specs.Headline.{BreaksInFault, BreaksInMagic, BreaksInRound, IsToldBefore, IsToldWhole}
use Rattle.satl_fleet.specs.Moments.{FleetMoment, Streams, terms}
use Rattle.satl_fleet.specs.Opening.{IsCauseOfOne}
use Rattle.satl_fleet.specs.Output.{IsRoundOf, Round, frames_of}
use Rattle.satl_fleet.specs.Rounds.{IsCut, Stage, frame_calls}
use Rattle.satl_fleet.specs.Runs.{HaveRun, HaveRunInPart}
use Rattle.satl_step.specs.Runs.{calls_allowed}
use Rattle.satl_serve.specs.declared.serving.ServeFault.{ServeFault}
use Rattle.satl_serve.specs.declared.serving.ServeFault.TheVariants as faults

-- a read fault comes only where the source's count rose, a write fault only where the sink's did, and a drive is refused only
-- for its own cause (profile)
abbrev pub HasFleetCause : FleetMoment → FleetMoment → ServeFault → Type 0
HasFleetCause before after (faults.Open fault) = IsCauseOfOne fault before.drives after.drives
HasFleetCause before after (faults.BadInput reason offset) = Unit {0}
HasFleetCause before after faults.Read = Rose before.source.faults after.source.faults
HasFleetCause before after faults.Write = Rose before.sink.faults after.sink.faults

-- ---- on units that were opened

-- what is left to read, whether a byte of it was waited for, the units and what was written, and how often the drives were
-- called (profile)
pub record Spot : Type 0 where
  pub left : Option (List ℕ)
  pub waited : Bool
  pub stage : Stage
  pub calls : ℕ

abbrev pub spot : Option (List ℕ) → Bool → Stage → ℕ → Spot
spot left waited stage calls = record { left = left; waited = waited; stage = stage; calls = calls }

-- the streams there (profile)
abbrev pub streams_of : Spot → Streams
streams_of s = record { left = s.left; waited = s.waited; written = s.stage.written }

-- what a run leaves at its end: how often the drives were called (profile)
abbrev pub HasFewCallsOn : ℕ → List Frame → Spot → Spot → Type 0
HasFewCallsOn units fs before after = after.calls ≤ before.calls + calls_allowed (frame_calls units) fs false

-- an input was read up to END and told whole, and its frames were carried out (profile)
pub record RanWhole (limit units : ℕ) (before after : Spot) : Type 0 where
  pub rounds : List Round
  pub are_rounds : AllByRecursion (IsRoundOf units) rounds
  pub told : IsToldWhole (terms limit units) (streams_of before) (streams_of after) rounds
  pub run : HaveRun units 0 rounds before.stage.target.units after.stage.target.units
  pub calls : HasFewCallsOn units (frames_of rounds) before after

-- the same up to what was refused or not read (profile)
pub record RanBefore (limit units : ℕ) (why : FrameFault) (before after : Spot) : Type 0 where
  pub rounds : List Round
  pub are_rounds : AllByRecursion (IsRoundOf units) rounds
  pub told : IsToldBefore (terms limit units) why (streams_of before) (streams_of after) rounds
  pub run : HaveRun units 0 rounds before.stage.target.units after.stage.target.units
  pub calls : HasFewCallsOn units (frames_of rounds) before after

-- a write failed in the magic (profile)
pub record StoppedInMagic (units : ℕ) (before after : Spot) : Type 0 where
  pub breaks : BreaksInMagic (streams_of before) (streams_of after)
  pub run : HaveRun units 0 [] before.stage.target.units after.stage.target.units
  pub calls : HasFewCallsOn units [] before after

-- a write failed in what is due to the last frame (profile)
pub record StoppedInAnswers (limit units : ℕ) (before after : Spot) : Type 0 where
  pub rounds : List Round
  pub round : Round
  pub are_rounds : AllByRecursion (IsRoundOf units) (rounds ++ round ∷ [])
  pub breaks : BreaksInRound (terms limit units) (streams_of before) (streams_of after) rounds round
  pub cut : IsCut units round breaks.behind after.stage.written
      (HaveRun units 0 (rounds ++ round ∷ []) before.stage.target.units after.stage.target.units)
      (λ stop cut. HaveRunInPart units rounds round stop cut 0 before.stage.target.units after.stage.target.units)
  pub calls : HasFewCallsOn units (frames_of rounds ++ round.frame ∷ []) before after

-- a write failed in what tells a refusal (profile)
pub record StoppedInFault (limit units : ℕ) (before after : Spot) : Type 0 where
  pub rounds : List Round
  pub are_rounds : AllByRecursion (IsRoundOf units) rounds
  pub breaks : BreaksInFault (terms limit units) (streams_of before) (streams_of after) rounds
  pub run : HaveRun units 0 rounds before.stage.target.units after.stage.target.units
  pub calls : HasFewCallsOn units (frames_of rounds) before after

abbrev pub RanInPart : ℕ → ℕ → Spot → Spot → Type 0
RanInPart limit units before after =
    StoppedInMagic units before after ⊎ (StoppedInAnswers limit units before after ⊎ StoppedInFault limit units before after)

-- how far a run came where it stopped with a fault (profile)
abbrev pub RanTo : ℕ → ℕ → Spot → Spot → ServeFault → Type 0
RanTo limit units before after (faults.Open fault) = ⊥
RanTo limit units before after (faults.BadInput reason offset) = RanBefore limit units (Bad reason offset) before after
RanTo limit units before after faults.Read = RanBefore limit units ReadFault before after
RanTo limit units before after faults.Write = RanInPart limit units before after
