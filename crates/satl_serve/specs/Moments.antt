-- What serving meets, before and after (profile).
use Rattle.std.specs.Prelude.{ℕ, Bool, List, Option}
use Rattle.satl_drive.specs.State.{DriveState}
use Rattle.satl_direct.specs.Device.{Device}
use Rattle.satl_step.specs.Runs.{Stand, tally_of}

-- a source: what is left to read, where it tells that, whether it has waited for a byte that it has not given, and its count of
-- faults (profile)
pub record SourceState : Type 0 where
  pub left : Option (List ℕ)
  pub waited : Bool
  pub faults : ℕ

abbrev pub source_state : Option (List ℕ) → Bool → ℕ → SourceState
source_state left waited faults = record { left = left; waited = waited; faults = faults }

-- a sink: what was written, where it tells that, and its count of faults (profile)
pub record SinkState : Type 0 where
  pub written : Option (List ℕ)
  pub faults : ℕ

abbrev pub sink_state : Option (List ℕ) → ℕ → SinkState
sink_state written faults = record { written = written; faults = faults }

-- a moment: the source, the sink, how often the drive was called, and the drive (profile)
pub record Moment : Type 0 where
  pub source : SourceState
  pub sink : SinkState
  pub calls : ℕ
  pub drive : DriveState

abbrev pub moment : SourceState → SinkState → ℕ → DriveState → Moment
moment source sink calls drive = record { source = source; sink = sink; calls = calls; drive = drive }

-- how far a run has come: what is left to read, whether a byte of it was waited for, what was written, the device, and what was
-- counted (profile)
pub record Spot : Type 0 where
  pub left : Option (List ℕ)
  pub waited : Bool
  pub written : Option (List ℕ)
  pub stand : Stand

abbrev pub spot : Option (List ℕ) → Bool → Option (List ℕ) → Stand → Spot
spot left waited written stand = record { left = left; waited = waited; written = written; stand = stand }

-- how far it has come at a moment with this device, where the drive was called so often (profile)
abbrev pub spot_at : Device → ℕ → Moment → Spot
spot_at device calls m =
    record {
      left = m.source.left;
      waited = m.source.waited;
      written = m.sink.written;
      stand = record { device = device; tally = tally_of m.drive calls };
    }
