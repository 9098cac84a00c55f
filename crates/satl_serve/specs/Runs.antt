-- What serving an input does: a run of the device over its frames, whose answers are written (profile).
use Rattle.std.specs.Prelude.{◌≡◌, ◌⊎◌, ℕ, ◌+◌, ◌≤◌, true, false, List, [], ◌∷◌, ◌++◌, not, replicate, Option, None, Ok}
use Rattle.satl_base.specs.Losses.{Loses}
use Rattle.satl_io.specs.Known.{Wrote, WrotePart}
use Rattle.satl_identify.specs.Refusals.{identity_of}
use Rattle.satl_frame.specs.declared.frames.Frame.{Frame}
use Rattle.satl_frame.specs.declared.frames.Frame.TheVariants as frames
use Rattle.satl_frame.specs.declared.frames.FrameFault.{FrameFault}
use Rattle.satl_frame.specs.declared.frames.FrameFault.TheVariants.{Bad}
use Rattle.satl_frame.specs.declared.frames.Place.{Place}
use Rattle.satl_frame.specs.declared.frames.Reason.{Reason}
use Rattle.satl_frame.specs.declared.frames.Version.{Version}
use Rattle.satl_frame.specs.declared.frames.Version.TheVariants.{Two}
use Rattle.satl_frame.specs.Inputs.{NoneEnds}
use Rattle.satl_frame.specs.Output.{Answer}
use Rattle.satl_frame.specs.Progress.{HasRead, ReadTo}
use Rattle.satl_frame.specs.Reading.{AwaitsNoMore, Blames, Reading}
use Rattle.satl_drive.specs.State.{DriveState, IsFit}
use Rattle.satl_barrier.specs.Leaving.{TellsOf}
use Rattle.satl_direct.specs.Device.{Device}
use Rattle.satl_direct.specs.Valid.{IsValid}
use Rattle.satl_direct.specs.Run.{joined}
use Rattle.satl_core.specs.Tie.{Given, IsTiedQueue}
use Rattle.satl_step.specs.Runs.{RunCutSoFar, RunSoFar}
use Rattle.satl_serve.specs.Forms.{answers_told, begun, fault_told, output, told_of}
use Rattle.satl_serve.specs.Moments.{Moment, Spot, spot_at}
use Rattle.satl_serve.specs.declared.telling.Form.{Form}

-- the device that a drive is when the layer has just been opened on it: a valid one with its sectors, some of which it may have
-- written back by itself; no task and no unit attention; the modes by its settings; started and up (profile)
pub record IsFirstDevice (d : DriveState) (s : Device) : Type 0 where
  pub cells : Loses d.cells s.cells
  pub tasks : s.tasks ≡ []
  pub identity : identity_of d.identify ≡ Ok s.identity
  pub wce : s.modes.wce ≡ s.identity.cache_on
  pub dra : s.modes.dra ≡ not s.identity.look_on
  pub d_sense : s.modes.d_sense ≡ false
  pub started : s.started ≡ true
  pub up : s.down ≡ false
  pub active : s.active ≡ d.active
  pub attentions : s.attentions ≡ replicate 4 []
  pub glitches : s.glitches ≡ d.glitches
  pub valid : IsValid s

-- a drive is left as the device is; while its link is up its cache is on exactly where WCE is, and its look-ahead where DRA is
-- off; no queued command has failed, and it fits its data, which are those of the device's identity with its settings in them
-- (SBC-3 6.4.5, caching mode page; ACS-3, IDENTIFY DEVICE; profile)
pub record IsLeftAs (s : Device) (d : DriveState) : Type 0 where
  pub cells : d.cells ≡ s.cells
  pub active : d.active ≡ s.active
  pub glitches : d.glitches ≡ s.glitches
  pub down : d.down ≡ s.down
  pub cache : d.down ≡ false → d.cache ≡ s.modes.wce
  pub look : d.down ≡ false → d.look ≡ not s.modes.dra
  pub no_error : d.error ≡ None
  pub fit : IsFit d
  pub told : TellsOf s.identity.bytes d

-- a drive has of a device's tasks as many as it can have, each under its tag, and nothing else (ACS-3, native command queuing;
-- profile)
pub record KeepsQueue (s : Device) (d : DriveState) : Type 0 where
  pub given : List Given
  pub queue : IsTiedQueue s given d.outstanding

-- a run served from this moment to that: it began with the first device of the drive, of which the layer has asked the identity
-- by one call, and the drive is left as its last device is, with its tasks in the queue (profile)
pub record Serves (Run : Spot → Spot → Type 0) (before after : Moment) : Type 0 where
  pub first : Device
  pub last : Device
  pub begins : IsFirstDevice before.drive first
  pub run : Run (spot_at first (before.calls + 1) before) (spot_at last after.calls after)
  pub ends : IsLeftAs last after.drive
  pub queue : KeepsQueue last after.drive

-- frames of a version up to the newest one, none of which is END, were read, and what follows them was refused or not read
-- (profile)
pub record ReadBefore (newest : Version) (limit : ℕ) (left left' : Option (List ℕ)) (events : List Frame)
    (why : FrameFault) : Type 0 where
  pub reader : Reading
  pub mid : Option (List ℕ)
  pub limit_is : reader.limit ≡ limit
  pub newest_is : reader.newest ≡ newest
  pub none_ends : NoneEnds events
  pub read : HasRead reader left mid events
  pub blames : Blames reader mid left' why

-- frames up to END were read, and no byte behind them was read or waited for; the output of a run over exactly these was
-- written; and the drive had at once as many commands as the device let it have (profile)
pub record RanWhole (form : Form) (limit : ℕ) (before after : Spot) : Type 0 where
  pub events : List Frame
  pub groups : List (List Answer)
  pub place : Place
  pub read : ReadTo limit Two place before.left after.left (events ++ frames.End ∷ [])
  pub unwaited : after.waited ≡ false
  pub wrote : Wrote before.written after.written (output form (joined groups))
  pub run : RunSoFar before.stand after.stand (events ++ frames.End ∷ []) groups
  pub deep : run.deep ≤ after.stand.tally.deepest

-- frames were read and carried out, none of which is END; the output of a run over these was written; and what follows was
-- refused, and nothing behind that was waited for, or not read, which was told (profile)
pub record RanBefore (form : Form) (limit : ℕ) (why : FrameFault) (before after : Spot) : Type 0 where
  pub events : List Frame
  pub groups : List (List Answer)
  pub read : ReadBefore Two limit before.left after.left events why
  pub awaits : AwaitsNoMore after.waited after.left why
  pub wrote : Wrote before.written after.written (output form (joined groups) ++ told_of form why)
  pub run : RunSoFar before.stand after.stand events groups

-- nothing was read or waited for, and a front of what stands before all answers was written (profile)
pub record BrokeInMagic (form : Form) (before after : Spot) : Type 0 where
  pub read : after.left ≡ before.left
  pub waits : after.waited ≡ before.waited
  pub part : WrotePart before.written after.written (begun form)
  pub run : RunSoFar before.stand after.stand [] []

-- frames were read, and no byte behind them was waited for; the last one was carried out or cut short behind one of its turns,
-- and those before it, none of which is END, were carried out; what is due before the last step of the last one was written
-- whole, and of the answers of that step a front (profile)
pub record BrokeInAnswers (form : Form) (limit : ℕ) (before after : Spot) : Type 0 where
  pub events : List Frame
  pub groups : List (List Answer)
  pub event : Frame
  pub earlier : List Answer
  pub last : List Answer
  pub reader : Reading
  pub behind : Option (List ℕ)
  pub limit_is : reader.limit ≡ limit
  pub newest_is : reader.newest ≡ Two
  pub none_ends : NoneEnds events
  pub read : HasRead reader before.left after.left (events ++ event ∷ [])
  pub unwaited : after.waited ≡ false
  pub wrote : Wrote before.written behind (output form (joined groups ++ earlier))
  pub part : WrotePart behind after.written (answers_told form last)
  pub run : RunCutSoFar before.stand after.stand (events ++ event ∷ []) groups earlier last

-- frames were read and carried out, none of which is END; the output of a run over these was written whole; and what follows
-- was refused, nothing behind that was waited for, and of what tells it a front was written (profile)
pub record BrokeInFault (form : Form) (limit : ℕ) (before after : Spot) : Type 0 where
  pub events : List Frame
  pub groups : List (List Answer)
  pub reason : Reason
  pub offset : ℕ
  pub behind : Option (List ℕ)
  pub read : ReadBefore Two limit before.left after.left events (Bad reason offset)
  pub awaits : AwaitsNoMore after.waited after.left (Bad reason offset)
  pub wrote : Wrote before.written behind (output form (joined groups))
  pub part : WrotePart behind after.written (fault_told form reason offset)
  pub run : RunSoFar before.stand after.stand events groups

-- a write failed: in what stands before all answers, in the answers to the last frame, or in what tells a refusal (profile)
abbrev pub RanInPart : Form → ℕ → Spot → Spot → Type 0
RanInPart form limit before after =
    BrokeInMagic form before after ⊎ (BrokeInAnswers form limit before after ⊎ BrokeInFault form limit before after)
