-- What holds of the input, the output and the drive, by how the bridge ended (profile).
use Rattle.std.specs.Prelude.{◌≡◌, ◌⊎◌, ℕ, List, Option, Some, Result, IfErr, OnOk}
use Rattle.satl_io.specs.Causes.{Rose}
use Rattle.satl_identify.specs.declared.identity.IdentityFault.{IdentityFault}
use Rattle.satl_drive.specs.State.{DriveState}
use Rattle.satl_core.specs.Opening.{IsCause}
use Rattle.satl_core.specs.declared.satl.OpenFault.TheVariants as opening
use Rattle.satl_serve.specs.Headline.{IsNotServed}
use Rattle.satl_serve.specs.Moments.{Moment, SinkState, SourceState, Spot}
use Rattle.satl_serve.specs.Runs.{Serves}
use Rattle.satl_usb.specs.Bridge.{BridgedBefore, BridgedInPart, BridgedUpTo, BridgedWhole}
use Rattle.satl_usb.specs.Items.{AreItems, Item, bytes_of_items}
use Rattle.satl_usb.specs.declared.fault.UsbFault.{UsbFault}
use Rattle.satl_usb.specs.declared.items.ItemFault.{ItemFault}
use Rattle.satl_usb.specs.declared.items.ItemFault.TheVariants as missed
use Rattle.satl_usb.specs.declared.fault.UsbFault.TheVariants as faults

-- an input was bridged whole, within this limit, from this before to this after (profile)
abbrev pub IsBridgedWhole : ℕ → Moment → Moment → Type 0
IsBridgedWhole limit before after = Serves (BridgedWhole limit) before after

-- it was bridged up to what stands at an offset, which is refused (profile)
abbrev pub IsBridgedBefore : ℕ → ℕ → Moment → Moment → Type 0
IsBridgedBefore limit offset before after = Serves (BridgedBefore limit offset) before after

-- it was bridged up to a read that failed (profile)
abbrev pub IsBridgedUpTo : ℕ → Moment → Moment → Type 0
IsBridgedUpTo limit before after = Serves (BridgedUpTo limit) before after

-- it was bridged up to a write that failed (profile)
abbrev pub IsBridgedInPart : ℕ → Moment → Moment → Type 0
IsBridgedInPart limit before after = Serves (BridgedInPart limit) before after

-- how far a run came where it stopped behind the opening of the layer (profile)
abbrev pub RanTo : ℕ → Spot → Spot → UsbFault → Type 0
RanTo limit before after (faults.Open fault) = ⊥
RanTo limit before after (faults.BadInput offset) = BridgedBefore limit offset before after
RanTo limit before after faults.Read = BridgedUpTo limit before after
RanTo limit before after faults.Write = BridgedInPart limit before after

-- items were bridged, by the result (profile)
pub record Bridges (limit : ℕ) (before after : Spot) (result : Result (Unit {0}) UsbFault) : Type 0 where
  pub whole : OnOk result (BridgedWhole limit before after)
  pub stopped : IfErr result (RanTo limit before after)

-- the same by the fault, from before the layer was opened; or nothing was served (profile)
abbrev pub IsStopped : ℕ → Moment → Moment → UsbFault → Type 0
IsStopped limit before after (faults.Open fault) = IsNotServed before after
IsStopped limit before after (faults.BadInput offset) = IsBridgedBefore limit offset before after
IsStopped limit before after faults.Read = IsBridgedUpTo limit before after
IsStopped limit before after faults.Write = IsBridgedInPart limit before after

-- a read fault comes only where the source's count rose, and a write fault only where the sink's did (profile)
abbrev pub HasStreamCause : SourceState → SourceState → SinkState → SinkState → UsbFault → Type 0
HasStreamCause read read' write write' (faults.Open fault) = ⊥
HasStreamCause read read' write write' (faults.BadInput offset) = Unit {0}
HasStreamCause read read' write write' faults.Read = Rose read.faults read'.faults
HasStreamCause read read' write write' faults.Write = Rose write.faults write'.faults

-- the same, and a fault of opening the layer has its own cause (profile)
abbrev pub HasUsbCause : Moment → Moment → UsbFault → Type 0
HasUsbCause before after (faults.Open fault) = IsCause before.drive after.drive fault
HasUsbCause before after (faults.BadInput offset) = Unit {0}
HasUsbCause before after faults.Read = Rose before.source.faults after.source.faults
HasUsbCause before after faults.Write = Rose before.sink.faults after.sink.faults

-- why the bridge stops where no item was read (profile)
abbrev pub stop_at : ℕ → ItemFault → UsbFault
stop_at offset missed.Bad = faults.BadInput offset
stop_at offset missed.Failed = faults.Read

-- this refusal of the drive's data is told, or that there was no memory (profile)
abbrev pub TellsRefusal : IdentityFault → UsbFault → Type 0
TellsRefusal refusal fault = (fault ≡ faults.Open (opening.Identity refusal)) ⊎ (fault ≡ faults.Open opening.NoMemory)

-- the source tells its bytes, which are these items, within the limit (profile)
pub record IsItemInput (limit : ℕ) (left : Option (List ℕ)) (items : List Item) : Type 0 where
  pub told : left ≡ Some (bytes_of_items items)
  pub each : AreItems limit 0 items

-- the faults that are left to such an input where all goes well, before anything is read: want of memory, and a link that was
-- lost while the layer was opened, where the drive's count of faults rose (profile)
abbrev pub MayStop : DriveState → DriveState → UsbFault → Type 0
MayStop old new (faults.Open opening.NoMemory) = Unit {0}
MayStop old new (faults.Open opening.LinkDown) = Rose old.faults new.faults
MayStop old new _ = ⊥
