-- What holds of the input, the output and the drives of a target, by how serving ended (profile).
use Rattle.std.specs.Prelude.{◌≡◌, ◌⊎◌, ℕ, ◌+◌, ◌≤◌, false, List, [], ◌∷◌, ◌++◌, length, Option}
use Rattle.std.specs.List.{AllByRecursion, AllZip}
use Rattle.satl_io.specs.Known.{Wrote, WrotePart}
use Rattle.satl_frame.specs.declared.frames.Frame.{Frame}
use Rattle.satl_frame.specs.declared.frames.Frame.TheVariants as frames
use Rattle.satl_frame.specs.declared.frames.FrameFault.{FrameFault}
use Rattle.satl_frame.specs.declared.frames.FrameFault.TheVariants.{Bad, ReadFault}
use Rattle.satl_frame.specs.declared.frames.Place.{Place}
use Rattle.satl_frame.specs.declared.frames.Reason.{Reason}
use Rattle.satl_frame.specs.declared.frames.Version.TheVariants.{One}
use Rattle.satl_frame.specs.Inputs.{NoneEnds}
use Rattle.satl_frame.specs.Output.{fault_bytes, out_magic}
use Rattle.satl_frame.specs.Progress.{HasRead, ReadTo}
use Rattle.satl_frame.specs.Reading.{AwaitsNoMore, Reading}
use Rattle.satl_fleet.specs.Moments.{FleetMoment, Streams, Terms, streams_at, terms}
use Rattle.satl_fleet.specs.Opening.{IsLeftAlone}
use Rattle.satl_fleet.specs.Output.{IsRoundOf, Round, frames_of, output, round_told}
use Rattle.satl_fleet.specs.Rounds.{IsCut, frame_calls}
use Rattle.satl_fleet.specs.Runs.{AreServed, AreServedInPart}
use Rattle.satl_step.specs.Runs.{calls_allowed}
use Rattle.satl_serve.specs.Forms.{told_of}
use Rattle.satl_serve.specs.Runs.{ReadBefore}
use Rattle.satl_serve.specs.declared.telling.Form.TheVariants.{Frames}
use Rattle.satl_serve.specs.declared.serving.ServeFault.{ServeFault}
use Rattle.satl_serve.specs.declared.serving.ServeFault.TheVariants as faults

-- the drives were called as often at most as there are drives, for their identities, and as these frames allow: those between
-- an UNPLUG and the next POWER, which go to all drives, add none (profile)
abbrev pub HasFewCalls : List Frame → FleetMoment → FleetMoment → Type 0
HasFewCalls frames before after =
    after.calls ≤ before.calls + length before.drives + calls_allowed (frame_calls (length before.drives)) frames false

-- ---- what was read and written

-- frames of version 1 up to END were read, no byte behind them was read or waited for, and the output of rounds over exactly
-- these was written (profile)
pub record IsToldWhole (on : Terms) (before after : Streams) (rounds : List Round) : Type 0 where
  pub earlier : List Frame
  pub place : Place
  pub ends : frames_of rounds ≡ earlier ++ frames.End ∷ []
  pub read : ReadTo on.limit One place before.left after.left (frames_of rounds)
  pub unwaited : after.waited ≡ false
  pub wrote : Wrote before.written after.written (output on.units rounds)

-- the same of frames none of which is END, and what follows was refused, and nothing behind that was waited for, or not read,
-- which was told (profile)
pub record IsToldBefore (on : Terms) (why : FrameFault) (before after : Streams) (rounds : List Round) : Type 0 where
  pub read : ReadBefore One on.limit before.left after.left (frames_of rounds) why
  pub awaits : AwaitsNoMore after.waited after.left why
  pub wrote : Wrote before.written after.written (output on.units rounds ++ told_of Frames why)

-- nothing was read or waited for, and a front of the magic was written (profile)
pub record BreaksInMagic (before after : Streams) : Type 0 where
  pub read : after.left ≡ before.left
  pub waits : after.waited ≡ before.waited
  pub part : WrotePart before.written after.written out_magic

-- the output of rounds was written whole, none of which is END; then one frame more was read, no byte behind it was waited for,
-- and of what is due to it a front was written (profile)
pub record BreaksInRound (on : Terms) (before after : Streams) (rounds : List Round) (round : Round) : Type 0 where
  pub reader : Reading
  pub behind : Option (List ℕ)
  pub limit_is : reader.limit ≡ on.limit
  pub newest_is : reader.newest ≡ One
  pub none_ends : NoneEnds (frames_of rounds)
  pub read : HasRead reader before.left after.left (frames_of rounds ++ round.frame ∷ [])
  pub unwaited : after.waited ≡ false
  pub wrote : Wrote before.written behind (output on.units rounds)
  pub part : WrotePart behind after.written (round_told on.units round)

-- the output of rounds was written whole, none of which is END; and what follows was refused, nothing behind that was waited
-- for, and of what tells it a front was written (profile)
pub record BreaksInFault (on : Terms) (before after : Streams) (rounds : List Round) : Type 0 where
  pub reason : Reason
  pub offset : ℕ
  pub behind : Option (List ℕ)
  pub read : ReadBefore One on.limit before.left after.left (frames_of rounds) (Bad reason offset)
  pub awaits : AwaitsNoMore after.waited after.left (Bad reason offset)
  pub wrote : Wrote before.written behind (output on.units rounds)
  pub part : WrotePart behind after.written (fault_bytes reason offset)

-- ---- and what the units did

-- an input was read up to END and told whole, and each unit was served in its rounds (profile)
pub record IsFleetWhole (limit : ℕ) (before after : FleetMoment) : Type 0 where
  pub rounds : List Round
  pub are_rounds : AllByRecursion (IsRoundOf (length before.drives)) rounds
  pub told : IsToldWhole (terms limit (length before.drives)) (streams_at before) (streams_at after) rounds
  pub served : AreServed (length before.drives) 0 rounds before.drives after.drives
  pub calls : HasFewCalls (frames_of rounds) before after

-- the same up to what was refused or not read (profile)
pub record IsFleetBefore (limit : ℕ) (why : FrameFault) (before after : FleetMoment) : Type 0 where
  pub rounds : List Round
  pub are_rounds : AllByRecursion (IsRoundOf (length before.drives)) rounds
  pub told : IsToldBefore (terms limit (length before.drives)) why (streams_at before) (streams_at after) rounds
  pub served : AreServed (length before.drives) 0 rounds before.drives after.drives
  pub calls : HasFewCalls (frames_of rounds) before after

-- a write failed in the magic, and nothing was served (profile)
pub record BrokeInMagic (before after : FleetMoment) : Type 0 where
  pub breaks : BreaksInMagic (streams_at before) (streams_at after)
  pub served : AreServed (length before.drives) 0 [] before.drives after.drives
  pub calls : HasFewCalls [] before after

-- rounds were served, and a write failed in what is due to one more: in the answers of a unit, which did it in whole or in
-- part, and those behind that one leave it out and answer nothing in it; or behind the answers of all (profile)
pub record BrokeInRound (limit : ℕ) (before after : FleetMoment) : Type 0 where
  pub rounds : List Round
  pub round : Round
  pub are_rounds : AllByRecursion (IsRoundOf (length before.drives)) (rounds ++ round ∷ [])
  pub breaks : BreaksInRound (terms limit (length before.drives)) (streams_at before) (streams_at after) rounds round
  pub cut : IsCut (length before.drives) round breaks.behind after.sink.written
      (AreServed (length before.drives) 0 (rounds ++ round ∷ []) before.drives after.drives)
      (λ stop cut. AreServedInPart (length before.drives) rounds round stop cut 0 before.drives after.drives)
  pub calls : HasFewCalls (frames_of rounds ++ round.frame ∷ []) before after

-- rounds were served, and a write failed in what tells that what follows is refused (profile)
pub record BrokeInFault (limit : ℕ) (before after : FleetMoment) : Type 0 where
  pub rounds : List Round
  pub are_rounds : AllByRecursion (IsRoundOf (length before.drives)) rounds
  pub breaks : BreaksInFault (terms limit (length before.drives)) (streams_at before) (streams_at after) rounds
  pub served : AreServed (length before.drives) 0 rounds before.drives after.drives
  pub calls : HasFewCalls (frames_of rounds) before after

-- a write failed: in the magic, in what is due to the last frame, or in what tells a refusal (profile)
abbrev pub IsFleetInPart : ℕ → FleetMoment → FleetMoment → Type 0
IsFleetInPart limit before after =
    BrokeInMagic before after ⊎ (BrokeInRound limit before after ⊎ BrokeInFault limit before after)

-- nothing was read, waited for or written, and the drives were called as often at most as there are drives (profile)
pub record IsFleetNotServed (before after : FleetMoment) : Type 0 where
  pub read : after.source.left ≡ before.source.left
  pub waits : after.source.waited ≡ before.source.waited
  pub wrote : after.sink.written ≡ before.sink.written
  pub alone : AllZip IsLeftAlone before.drives after.drives
  pub few_calls : after.calls ≤ before.calls + length before.drives

-- what holds where serving stopped, by the fault (profile)
abbrev pub IsFleetStopped : ℕ → FleetMoment → FleetMoment → ServeFault → Type 0
IsFleetStopped limit before after (faults.Open fault) = IsFleetNotServed before after
IsFleetStopped limit before after (faults.BadInput reason offset) = IsFleetBefore limit (Bad reason offset) before after
IsFleetStopped limit before after faults.Read = IsFleetBefore limit ReadFault before after
IsFleetStopped limit before after faults.Write = IsFleetInPart limit before after
