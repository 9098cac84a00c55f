-- What holds of a USB disk bridge by the status (profile).
use Rattle.std.specs.Prelude.{ℕ}
use Rattle.satl_serve.specs.Headline.{IsNotServed}
use Rattle.satl_serve.specs.Moments.{Moment}
use Rattle.satl_usb.specs.Headline.{IsBridgedBefore, IsBridgedInPart, IsBridgedUpTo, IsBridgedWhole}
use Rattle.satl_top.specs.declared.status.Status.{Status}
use Rattle.satl_top.specs.declared.status.Status.TheVariants as statuses

-- an input was bridged whole; or up to what is refused, to a read or to a write that failed; or nothing was served (profile)
abbrev pub BridgeEnds : ℕ → Moment → Moment → Status → Type 0
BridgeEnds limit before after statuses.Done = IsBridgedWhole limit before after
BridgeEnds limit before after statuses.Usage = ⊥
BridgeEnds limit before after statuses.BadInput = (offset : ℕ) × IsBridgedBefore limit offset before after
BridgeEnds limit before after statuses.ReadFault = IsBridgedUpTo limit before after
BridgeEnds limit before after statuses.WriteFault = IsBridgedInPart limit before after
BridgeEnds limit before after statuses.NoMemory = IsNotServed before after
BridgeEnds limit before after statuses.DriveRefused = IsNotServed before after
BridgeEnds limit before after statuses.No = ⊥
BridgeEnds limit before after statuses.NotCovered = ⊥
