-- One frame over the units of a target (profile).
use Rattle.std.specs.Prelude.{◌≡◌, ℕ, zero, suc, ◌+◌, ◌*◌, ◌≤◌, if◌then◌else◌}
use Rattle.std.specs.Prelude.{List, [], ◌∷◌, ◌++◌, length, map, take, Option, Some, IfSome, slice_get, slice_index_or, slice_set}
use Rattle.std.specs.List.{AllByRecursion}
use Rattle.satl_io.specs.Known.{Wrote, WrotePart}
use Rattle.satl_frame.specs.declared.frames.Frame.{Frame}
use Rattle.satl_frame.specs.declared.frames.Frame.TheVariants as frames
use Rattle.satl_frame.specs.Output.{Answer}
use Rattle.satl_base.specs.Limits.{IsExpectable}
use Rattle.satl_core.specs.Turning.{off_calls, turn_calls}
use Rattle.satl_step.specs.Events.{CallsNone}
use Rattle.satl_fleet.specs.Output.{CutAnswers, Round, all_of, end_told, round_told, target_told, told_from, told_under}
use Rattle.satl_fleet.specs.Routing.{is_for_all, is_report, seen}
use Rattle.satl_fleet.specs.Serving.{Target}
use Rattle.satl_fleet.specs.Units.{Did, DidInPart, IsToldUnder, UnitState, device_of}

-- a target, and what was written (profile)
pub record Stage : Type 0 where
  pub target : Target
  pub written : Option (List ℕ)

abbrev pub stage : Target → Option (List ℕ) → Stage
stage target written = record { target = target; written = written }

-- ---- one unit

-- the unit of this number did an event, all others stay, and its answers were told (profile)
pub record DidAt (k : ℕ) (event : Frame) (before after : Stage) : Type 0 where
  pub old : UnitState
  pub new : UnitState
  pub answers : List Answer
  pub here : slice_get before.target.units k ≡ Some old
  pub set : after.target.units ≡ slice_set before.target.units k new
  pub did : Did event old answers new
  pub wrote : Wrote before.written after.written (told_under k answers)

-- it did the event or a part of it, all others stay, its answers before the last step were told, and a front of those of that
-- step (profile)
pub record DidAtInPart (k : ℕ) (event : Frame) (before after : Stage) : Type 0 where
  pub old : UnitState
  pub new : UnitState
  pub cut : CutAnswers
  pub here : slice_get before.target.units k ≡ Some old
  pub set : after.target.units ≡ slice_set before.target.units k new
  pub did : DidInPart event old cut new
  pub told : IsToldUnder k cut before.written after.written

-- ---- all units

-- the groups of units that answer nothing (profile)
abbrev pub silence : List UnitState → List (List Answer)
silence ss = map (λ _. []) ss

-- so many units from the first on did an event, with these answers, and those behind them stay (profile)
pub data DidTo (event : Frame) : ℕ → List (List Answer) → List UnitState → List UnitState → Type 0 where
  rest : {ss : List UnitState} → DidTo event zero [] ss ss
  more : {count : ℕ} {groups : List (List Answer)} {olds news : List UnitState} {old new : UnitState} {answers : List Answer}
      → Did event old answers new → DidTo event count groups olds news
      → DidTo event (suc count) (answers ∷ groups) (old ∷ olds) (new ∷ news)

-- so many units from the first on did it, the next one in whole or in part, with these answers, and those behind it stay and
-- answer nothing (profile)
pub data DidToInPart (event : Frame) (cut : CutAnswers)
    : ℕ → List (List Answer) → List UnitState → List UnitState → Type 0 where
  here : {ss : List UnitState} {old new : UnitState}
      → DidInPart event old cut new → DidToInPart event cut zero (all_of cut ∷ silence ss) (old ∷ ss) (new ∷ ss)
  later : {count : ℕ} {groups : List (List Answer)} {olds news : List UnitState} {old new : UnitState} {answers : List Answer}
      → Did event old answers new → DidToInPart event cut count groups olds news
      → DidToInPart event cut (suc count) (answers ∷ groups) (old ∷ olds) (new ∷ news)

-- ---- where the output breaks off in a round

-- this unit's answers are these; those of the units before it were written whole, and of its own those before its last step, and
-- a front of those of that step (profile)
pub record BreaksAt (stop : ℕ) (cut : CutAnswers) (groups : List (List Answer)) (before after : Option (List ℕ)) : Type 0 where
  pub its : slice_index_or groups stop [] ≡ all_of cut
  pub behind : Option (List ℕ)
  pub wrote : Wrote before behind (told_from 0 (take stop groups))
  pub told : IsToldUnder stop cut behind after

-- the answers of all units were written whole, and of what the target itself tells a front (profile)
pub record BreaksBehindAll (units : ℕ) (round : Round) (before after : Option (List ℕ)) : Type 0 where
  pub behind : Option (List ℕ)
  pub wrote : Wrote before behind (told_from 0 round.groups)
  pub part : WrotePart behind after (target_told units round.frame ++ end_told round.frame)

-- a round was cut: behind all units, or at the answers of one of them; with what the units did then (profile)
pub data IsCut (units : ℕ) (round : Round) (before after : Option (List ℕ)) (All : Type 0)
    (UpTo : ℕ → CutAnswers → Type 0) : Type 0 where
  behind_all : All → BreaksBehindAll units round before after → IsCut units round before after All UpTo
  at_unit : (stop : ℕ) (cut : CutAnswers) → UpTo stop cut → BreaksAt stop cut round.groups before after
      → IsCut units round before after All UpTo

-- ---- all units, and one event

-- all units did an event, and told it (profile)
pub record AllDid (event : Frame) (before after : Stage) : Type 0 where
  pub groups : List (List Answer)
  pub did : DidTo event (length before.target.units) groups before.target.units after.target.units
  pub wrote : Wrote before.written after.written (told_from 0 groups)

-- units did it up to one that did it in whole or in part, and whose answers were told in part (profile)
pub record AllDidInPart (event : Frame) (before after : Stage) : Type 0 where
  pub stop : ℕ
  pub cut : CutAnswers
  pub groups : List (List Answer)
  pub did : DidToInPart event cut stop groups before.target.units after.target.units
  pub breaks : BreaksAt stop cut groups before.written after.written
  pub part : WrotePart before.written after.written (told_from 0 groups)

-- ---- a frame

-- each unit from this one on did what the frame is to it, and stays where it is nothing to it (profile)
pub data EachDid (units : ℕ) (frame : Frame) : ℕ → List (List Answer) → List UnitState → List UnitState → Type 0 where
  none : {k : ℕ} → EachDid units frame k [] [] []
  passes : {k : ℕ} {groups : List (List Answer)} {olds news : List UnitState} {old : UnitState}
      → seen units k frame ≡ [] → EachDid units frame (suc k) groups olds news
      → EachDid units frame k ([] ∷ groups) (old ∷ olds) (old ∷ news)
  serves : {k : ℕ} {groups : List (List Answer)} {olds news : List UnitState} {old new : UnitState} {answers : List Answer}
      (event : Frame)
      → seen units k frame ≡ event ∷ [] → Did event old answers new → EachDid units frame (suc k) groups olds news
      → EachDid units frame k (answers ∷ groups) (old ∷ olds) (new ∷ news)

-- the same up to one unit, which did it in whole or in part, with these answers; those behind it stay and answer nothing
-- (profile)
pub data Stops (units : ℕ) (frame : Frame) (stop : ℕ) (cut : CutAnswers)
    : ℕ → List (List Answer) → List UnitState → List UnitState → Type 0 where
  here : {k : ℕ} {ss : List UnitState} {old new : UnitState} (event : Frame)
      → k ≡ stop → seen units k frame ≡ event ∷ [] → DidInPart event old cut new
      → Stops units frame stop cut k (all_of cut ∷ silence ss) (old ∷ ss) (new ∷ ss)
  passes : {k : ℕ} {groups : List (List Answer)} {olds news : List UnitState} {old : UnitState}
      → seen units k frame ≡ [] → Stops units frame stop cut (suc k) groups olds news
      → Stops units frame stop cut k ([] ∷ groups) (old ∷ olds) (old ∷ news)
  serves : {k : ℕ} {groups : List (List Answer)} {olds news : List UnitState} {old new : UnitState} {answers : List Answer}
      (event : Frame)
      → seen units k frame ≡ event ∷ [] → Did event old answers new → Stops units frame stop cut (suc k) groups olds news
      → Stops units frame stop cut k (answers ∷ groups) (old ∷ olds) (new ∷ news)

abbrev pub round_of : Frame → List (List Answer) → Round
round_of frame groups = record { frame = frame; groups = groups }

-- a frame was served by all units, and told (profile)
pub record RoundDone (units : ℕ) (frame : Frame) (before after : Stage) : Type 0 where
  pub groups : List (List Answer)
  pub each : EachDid units frame 0 groups before.target.units after.target.units
  pub wrote : Wrote before.written after.written (round_told units (round_of frame groups))

-- a frame was served by all units, or up to one that did it in whole or in part, and a front of what is due was told: up to
-- that unit's answers (profile)
pub record RoundInPart (units : ℕ) (frame : Frame) (before after : Stage) : Type 0 where
  pub groups : List (List Answer)
  pub cut : IsCut units (round_of frame groups) before.written after.written
      (EachDid units frame 0 groups before.target.units after.target.units)
      (λ stop cut. Stops units frame stop cut 0 groups before.target.units after.target.units)
  pub part : WrotePart before.written after.written (round_told units (round_of frame groups))

-- the pages of a frame that can be routed hold all of its data-out (profile)
abbrev pub CanRoute : Frame → Type 0
CanRoute (frames.Request r) = (r.data_len ≤ 512 * length r.body) × IsExpectable r.expected
CanRoute _ = Unit {0}

-- the most calls of drives that a frame takes, and a turn for each task that it leaves (profile)
abbrev pub frame_calls : ℕ → Frame → ℕ
frame_calls units (frames.Request r) = if is_report r then 0 else turn_calls + off_calls
frame_calls units (frames.Manage m) = if is_for_all m then units * off_calls else off_calls
frame_calls units _ = 0

-- the unit of this number does not call its drive in an event (profile)
abbrev pub CallsNoneAt : ℕ → Frame → List UnitState → Type 0
CallsNoneAt k event ss = IfSome (slice_get ss k) (λ s. CallsNone event (device_of s))

-- no unit calls its drive in what a frame is to it (profile)
abbrev pub NoneCalls : ℕ → Frame → List UnitState → Type 0
NoneCalls units frame ss = (k : ℕ) → AllByRecursion (λ event. CallsNoneAt k event ss) (seen units k frame)

-- turns, or an event of the bench (profile)
abbrev pub IsTurnOrBench : Frame → Type 0
IsTurnOrBench (frames.Turn count) = Unit {0}
IsTurnOrBench (frames.Bench event) = Unit {0}
IsTurnOrBench _ = ⊥
