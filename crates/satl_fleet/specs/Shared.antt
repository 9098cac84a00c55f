-- What goes to each unit of a target (profile).
use Rattle.satl_frame.specs.declared.frames.Frame.{Frame}
use Rattle.satl_frame.specs.declared.frames.Frame.TheVariants as frames
use Rattle.satl_fleet.specs.declared.shared.Shared.{Shared}
use Rattle.satl_fleet.specs.declared.shared.Shared.TheVariants as shared

-- the frame of what goes to each unit
abbrev pub frame_of : Shared → Frame
frame_of (shared.Manage m) = frames.Manage m
frame_of (shared.Turn count) = frames.Turn count
frame_of (shared.Bench event) = frames.Bench event.now
frame_of shared.End = frames.End
