-- What serving a target meets, before and after (profile).
use Rattle.std.specs.Prelude.{ℕ, Bool, List, Option}
use Rattle.satl_drive.specs.State.{DriveState}
use Rattle.satl_serve.specs.Moments.{SinkState, SourceState}

-- a moment: the source, the sink, how often the drives were called, and the drives (profile)
pub record FleetMoment : Type 0 where
  pub source : SourceState
  pub sink : SinkState
  pub calls : ℕ
  pub drives : List DriveState

abbrev pub fleet_moment : SourceState → SinkState → ℕ → List DriveState → FleetMoment
fleet_moment source sink calls drives = record { source = source; sink = sink; calls = calls; drives = drives }

-- what a source has left to read, whether it has waited for a byte that it has not given, and what a sink was given (profile)
pub record Streams : Type 0 where
  pub left : Option (List ℕ)
  pub waited : Bool
  pub written : Option (List ℕ)

-- the streams at a moment (profile)
abbrev pub streams_at : FleetMoment → Streams
streams_at m = record { left = m.source.left; waited = m.source.waited; written = m.sink.written }

-- the terms on which an input is served: within how many bytes each frame ends, and for how many units (profile)
pub record Terms : Type 0 where
  pub limit : ℕ
  pub units : ℕ

abbrev pub terms : ℕ → ℕ → Terms
terms limit units = record { limit = limit; units = units }
