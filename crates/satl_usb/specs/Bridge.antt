-- What the bridge does with an input: a run of the device over its items, whose replies are written (profile).
use Rattle.std.specs.Prelude.{◌≡◌, ℕ, ◌≤◌, false, List, [], ◌∷◌, ◌++◌, length, Option}
use Rattle.std.specs.List.{flat_map}
use Rattle.std.specs.Io.KnownBytes.{IsAtEnd}
use Rattle.arrayvec.specs.ArrayVec.{ArrayVec}
use Rattle.satl_io.specs.Known.{Took, Wrote, WrotePart}
use Rattle.satl_frame.specs.declared.frames.Frame.{Frame}
use Rattle.satl_frame.specs.Output.{Answer}
use Rattle.satl_frame.specs.Pulls.{FewerThan}
use Rattle.satl_step.specs.Runs.{RunSoFar}
use Rattle.satl_serve.specs.Moments.{Spot}
use Rattle.satl_usb.specs.Items.{AreItems, AwaitsNoMore, HasNoItem, Item, TookAsked, asked_of_item, bytes_of_items}
use Rattle.satl_usb.specs.Exchanges.{Exchange}

-- these items were taken from the source (profile)
pub record HasTaken (limit : ℕ) (left left' : Option (List ℕ)) (items : List Item) : Type 0 where
  pub took : Took left left' (bytes_of_items items)
  pub each : AreItems limit 0 items

-- what became of items: which they are, what each is on the wire, and the sense data that is then kept (profile)
pub record Talk : Type 0 where
  pub items : List Item
  pub told : List (List ℕ)
  pub kept : Option (ArrayVec ℕ)

abbrev pub talk_of : List Item → List (List ℕ) → Option (ArrayVec ℕ) → Talk
talk_of items told kept = record { items = items; told = told; kept = kept }

-- the wire: what each item is on it, one after the other (profile)
abbrev pub wire_of : List (List ℕ) → List ℕ
wire_of told = flat_map (λ one. one) told

-- items were taken and carried out: a run of the device over their requests and turns, each of which has exactly one reply; no
-- task is left; the drive was not unplugged, and no order bytes were handed in to it (profile)
pub record Bridged (limit : ℕ) (before after : Spot) (talk : Talk) : Type 0 where
  pub events : List Frame
  pub groups : List (List Answer)
  pub taken : HasTaken limit before.left after.left talk.items
  pub exchange : Exchange talk.items events groups talk.told talk.kept
  pub run : RunSoFar before.stand after.stand events groups
  pub idle : after.stand.device.tasks ≡ []
  pub unplugs : after.stand.tally.unplugs ≡ before.stand.tally.unplugs
  pub orders : after.stand.tally.orders ≡ before.stand.tally.orders

-- all of the input was items, and what these are on the wire was written; the drive had at once as many commands as the device
-- let it have (profile)
pub record BridgedWhole (limit : ℕ) (before after : Spot) : Type 0 where
  pub talk : Talk
  pub bridged : Bridged limit before after talk
  pub at_end : IsAtEnd after.left
  pub wrote : Wrote before.written after.written (wire_of talk.told)
  pub deep : bridged.run.deep ≤ after.stand.tally.deepest

-- the items before an offset were taken and carried out, and what they are on the wire was written; what stands at the offset
-- is refused: of it as much was taken as is asked for, no byte behind that was waited for, and nothing is written for it
-- (profile)
pub record BridgedBefore (limit offset : ℕ) (before after : Spot) : Type 0 where
  pub talk : Talk
  pub mid : Option (List ℕ)
  pub bridged : Bridged limit before (record after { left = mid }) talk
  pub offset_is : offset ≡ length (bytes_of_items talk.items)
  pub refused : HasNoItem limit offset mid
  pub front : TookAsked limit offset mid after.left
  pub awaits : AwaitsNoMore limit offset mid after.waited
  pub wrote : Wrote before.written after.written (wire_of talk.told)

-- the same, and a read failed before all was taken that is asked for of the next item (profile)
pub record BridgedUpTo (limit : ℕ) (before after : Spot) : Type 0 where
  pub talk : Talk
  pub mid : Option (List ℕ)
  pub bridged : Bridged limit before (record after { left = mid }) talk
  pub cut_off : FewerThan mid after.left (asked_of_item limit (length (bytes_of_items talk.items)))
  pub wrote : Wrote before.written after.written (wire_of talk.told)

-- items were taken and carried out, a last one behind earlier ones, and no byte behind it was waited for; what the earlier ones
-- are on the wire was written whole, and of what the last one is a front (profile)
pub record BridgedInPart (limit : ℕ) (before after : Spot) : Type 0 where
  pub earlier : List Item
  pub last : Item
  pub due : List (List ℕ)
  pub answer : List ℕ
  pub kept : Option (ArrayVec ℕ)
  pub behind : Option (List ℕ)
  pub bridged : Bridged limit before after (talk_of (earlier ++ last ∷ []) (due ++ answer ∷ []) kept)
  pub unwaited : after.waited ≡ false
  pub wrote : Wrote before.written behind (wire_of due)
  pub part : WrotePart behind after.written answer
