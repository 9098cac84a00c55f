-- The frames of an input, carried out on one unit (profile).
use Rattle.std.specs.Prelude.{◌≡◌, ℕ, Bool, true, false, List, [], ◌∷◌, ◌++◌, Option, None, Some, Result, Ok, Err, IfErr, IfOk}
use Rattle.satl_io.specs.Causes.{Rose, total}
use Rattle.satl_frame.specs.declared.frames.Frame.{Frame}
use Rattle.satl_frame.specs.declared.frames.Frame.TheVariants as frames
use Rattle.satl_frame.specs.declared.frames.Place.{Place}
use Rattle.satl_frame.specs.declared.frames.FrameFault.{FrameFault}
use Rattle.satl_frame.specs.declared.frames.FrameFault.TheVariants.{Bad, ReadFault}
use Rattle.satl_frame.specs.Inputs.{NoneEnds}
use Rattle.satl_frame.specs.Output.{Answer}
use Rattle.satl_frame.specs.Progress.{HasRead}
use Rattle.satl_frame.specs.Reading.{AwaitsNoMore, Blames, Reading}
use Rattle.satl_direct.specs.Run.{joined}
use Rattle.satl_step.specs.declared.frames_loop.Stop.{Stop}
use Rattle.satl_step.specs.declared.frames_loop.Stop.TheVariants as stops
use Rattle.satl_step.specs.Events.{Scene}
use Rattle.satl_step.specs.Runs.{RunCutSoFar, RunSoFar, requests_in}
use Rattle.satl_step.specs.Telling.{IsTold, IsToldInto}

-- whether a frame is END (profile)
abbrev pub is_end : Frame → Bool
is_end frames.End = true
is_end _ = false

-- how many bytes of the input stand before the next frame; none where the magic was not read yet (profile)
abbrev pub place_offset : Option Place → ℕ
place_offset None = 0
place_offset (Some place) = place.offset

-- a reader, what is left to read, whether the source has waited for a byte that it has not given, and the scene that its
-- frames are carried out on (profile)
pub record LoopState (T : Type 0) : Type 0 where
  pub reader : Reading
  pub left : Option (List ℕ)
  pub waited : Bool
  pub scene : Scene T

abbrev pub loop_state : {T : Type 0} → Reading → Option (List ℕ) → Bool → Scene T → LoopState T
loop_state reader left waited scene = record { reader = reader; left = left; waited = waited; scene = scene }

-- the reader is the same but for where it stands, and has given these frames (profile)
pub record HasGiven {T : Type 0} (before after : LoopState T) (events : List Frame) : Type 0 where
  pub limit : after.reader.limit ≡ before.reader.limit
  pub newest : after.reader.newest ≡ before.reader.newest
  pub read : HasRead after.reader before.left after.left events

-- frames were read and carried out, so many of them requests, and their answers were told (profile)
pub record SoFar {T : Type 0} (told : T → Answer → List ℕ) (behind : T → Answer → T) (before after : LoopState T)
    (requests : ℕ) : Type 0 where
  pub events : List Frame
  pub groups : List (List Answer)
  pub given : HasGiven before after events
  pub told_so : IsTold told behind before.scene.telling after.scene.telling (joined groups)
  pub run : RunSoFar before.scene.stand after.scene.stand events groups
  pub requests_are : requests ≡ total (requests_in events)

-- the same, and none of them is END (profile)
pub record Going {T : Type 0} (told : T → Answer → List ℕ) (behind : T → Answer → T) (before after : LoopState T)
    (requests : ℕ) : Type 0 where
  pub so_far : SoFar told behind before after requests
  pub none_ends : NoneEnds so_far.events

-- the same, the last of them is END, and no byte behind it was waited for (profile)
pub record ReachedEnd {T : Type 0} (told : T → Answer → List ℕ) (behind : T → Answer → T) (before after : LoopState T)
    (requests : ℕ) : Type 0 where
  pub so_far : SoFar told behind before after requests
  pub earlier : List Frame
  pub ends : so_far.events ≡ earlier ++ frames.End ∷ []
  pub unwaited : after.waited ≡ false

-- frames were carried out, none of which is END, and what follows them was refused, and nothing behind that was waited for, or
-- not read, which the reader repeats from then on (profile)
pub record Refused {T : Type 0} (told : T → Answer → List ℕ) (behind : T → Answer → T) (before after : LoopState T)
    (why : FrameFault) : Type 0 where
  pub reader : Reading
  pub mid : Option (List ℕ)
  pub requests : ℕ
  pub going : Going told behind before (record after { reader = reader; left = mid }) requests
  pub blames : Blames reader mid after.left why
  pub awaits : AwaitsNoMore after.waited after.left why
  pub repeats : after.reader ≡ record reader { refused = Some why }

-- frames were carried out, none of which is END, and their answers were told; then one frame more was read, which was carried
-- out or cut short; before a byte behind it was waited for, its answers before its last step were told, and a front of those of
-- that step (profile)
pub record StoppedInAnswers {T : Type 0} (told : T → Answer → List ℕ) (behind : T → Answer → T)
    (before after : LoopState T) : Type 0 where
  pub mid : LoopState T
  pub requests : ℕ
  pub going : Going told behind before mid requests
  pub event : Frame
  pub earlier : List Answer
  pub last : List Answer
  pub given : HasGiven before after (going.so_far.events ++ event ∷ [])
  pub unwaited : after.waited ≡ false
  pub told_so : IsToldInto told behind mid.scene.telling after.scene.telling earlier last
  pub run : RunCutSoFar before.scene.stand after.scene.stand (going.so_far.events ++ event ∷ []) going.so_far.groups earlier
      last

-- by why they are carried out no further (profile)
abbrev pub StoppedSo : {T : Type 0} → (T → Answer → List ℕ) → (T → Answer → T) → LoopState T → LoopState T → Stop → Type 0
StoppedSo told behind before after (stops.Refused why) = Refused told behind before after why
StoppedSo told behind before after stops.Write = StoppedInAnswers told behind before after

-- frames were carried out, by the result: up to END, so many of them requests, or up to where they are carried out no further
-- (profile)
pub record Ran {T : Type 0} (told : T → Answer → List ℕ) (behind : T → Answer → T) (before after : LoopState T)
    (result : Result ℕ Stop) : Type 0 where
  pub ended : IfOk result (ReachedEnd told behind before after)
  pub stopped : IfErr result (StoppedSo told behind before after)

-- no page is out, unless a write failed: so many are out, by the result (profile)
abbrev pub AreAllIn : ℕ → Result ℕ Stop → Type 0
AreAllIn out (Ok requests) = out ≡ 0
AreAllIn out (Err (stops.Refused why)) = out ≡ 0
AreAllIn out (Err stops.Write) = Unit {0}

-- a read fault comes only where the source's count rose, and a write fault only where the sink's did (profile)
abbrev pub HasStopCause : ℕ → ℕ → ℕ → ℕ → Stop → Type 0
HasStopCause read_before read_now write_before write_now (stops.Refused (Bad reason offset)) = Unit {0}
HasStopCause read_before read_now write_before write_now (stops.Refused ReadFault) = Rose read_before read_now
HasStopCause read_before read_now write_before write_now stops.Write = Rose write_before write_now
