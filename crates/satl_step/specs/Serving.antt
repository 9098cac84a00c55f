-- What has to hold before an event, what holds behind it, and how a call that may fail in a write ends (profile).
use Rattle.std.specs.Prelude.{◌≡◌, List, [], OnErr, OnOk, Result}
use Rattle.std.specs.List.{AllByRecursion}
use Rattle.satl_base.specs.declared.reply.Reply.{Reply}
use Rattle.satl_frame.specs.declared.frames.Frame.{Frame}
use Rattle.satl_frame.specs.Output.{IsWritable}
use Rattle.satl_drive.specs.State.{DriveState}
use Rattle.satl_core.specs.Layer.{Layer, Tied, reply_pages}
use Rattle.satl_step.specs.Events.{CanTake}

-- a layer can serve an event on its drive, with the replies that wait to be told (profile)
pub record CanServeEvent (event : Frame) (l : Layer) (d : DriveState) (waiting : List Reply) : Type 0 where
  -- the layer is tied to its drive
  pub tied : Tied l d
  -- the pages that are out are those of a request, or none
  pub can : CanTake event l.free l.out
  -- no reply waits
  pub none : waiting ≡ []

-- what serving leaves of them, by how it ended (profile)
pub record Leaves {X E : Type 0} (l : Layer) (d : DriveState) (waiting : List Reply) (result : Result X E) : Type 0 where
  -- the layer is tied to its drive, also where a write failed
  pub tied : Tied l d
  -- where none failed, no page is out
  pub all_in : OnOk result (l.out ≡ 0)
  -- and no reply waits
  pub none : OnOk result (waiting ≡ [])
  -- where one failed, the pages that are out are those of the replies that still wait
  pub kept : OnErr result (l.out ≡ reply_pages waiting)
  -- and each of these can be written
  pub writable : OnErr result (AllByRecursion IsWritable waiting)

-- a call took what was before to what is behind it: as the first relation says where it succeeded, and as the second says where
-- a write failed (profile)
pub record WholeOrInPart {S X E : Type 0} (Whole InPart : S → S → Type 0) (before after : S)
    (result : Result X E) : Type 0 where
  pub whole : OnOk result (Whole before after)
  pub part : OnErr result (InPart before after)
