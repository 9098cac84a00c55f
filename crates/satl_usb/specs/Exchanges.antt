-- What the bridge makes of items: the events that it sends to the unit, their answers, and what it writes (profile).
use Rattle.std.specs.Prelude.{◌≡◌, ℕ, ◌==◌, ◌&&◌, Bool, true, false, List, [], ◌∷◌, ◌++◌, length, slice_index, Option, Some, None, is_some}
use Rattle.arrayvec.specs.ArrayVec.{ArrayVec}
use Rattle.satl_base.specs.declared.reply.Reply.{Reply}
use Rattle.satl_base.specs.declared.request.Request.{Request}
use Rattle.satl_base.specs.declared.request.Attr.TheVariants.{Simple}
use Rattle.satl_cdb.specs.PrimaryCommands.{request_sense_code}
use Rattle.satl_frame.specs.DataPages.{pages_of}
use Rattle.satl_frame.specs.declared.frames.Frame.{Frame}
use Rattle.satl_frame.specs.declared.frames.Frame.TheVariants as frames
use Rattle.satl_frame.specs.Output.{Answer}
use Rattle.satl_frame.specs.Output.Answer.{closed, managed, replied}
use Rattle.satl_bot.specs.declared.command.Cbw.{Cbw}
use Rattle.satl_usb.specs.Items.{Item}
use Rattle.satl_usb.specs.Wire.{kept_of, kept_on_wire, reply_on_wire}
use Rattle.satl_usb.specs.declared.telling.ItemTeller.{ItemTeller}

-- whether a command is answered with the sense data that is kept: REQUEST SENSE is, to whatever unit (SPC-4 6.39; profile)
abbrev pub is_told_kept : Option (ArrayVec ℕ) → Cbw → Bool
is_told_kept kept c = is_some kept && (slice_index c.cdb 0 == request_sense_code)

-- the request of an item: of nexus 0, SIMPLE, with tag 0, to the unit that its wrapper names (profile)
abbrev pub request_of : Item → Request
request_of i = record {
  nexus = 0;
  attr = Simple;
  lun = 0 ∷ i.command.lun ∷ 0 ∷ 0 ∷ 0 ∷ 0 ∷ 0 ∷ 0 ∷ [];
  tag = record { 0 = 0 };
  cdb = i.command.cdb;
  body = pages_of i.body;
  data_len = length i.body;
  expected = None;
}

-- a request arrives, and one turn is taken (profile)
abbrev pub item_events : Item → List Frame
item_events i = frames.Request (request_of i) ∷ frames.Turn 1 ∷ []

-- items one after the other: the events that they are, the answers to each of these, what is written for each item, and the
-- sense data that is then kept. An item is answered with what is kept, and is no event; or it is a request and a turn, to which
-- exactly one reply is given (profile)
pub data Exchange : List Item → List Frame → List (List Answer) → List (List ℕ) → Option (ArrayVec ℕ) → Type 0 where
  start : Exchange [] [] [] [] None
  asked : {items : List Item} {events : List Frame} {groups : List (List Answer)} {told : List (List ℕ)} (i : Item)
      (sense : ArrayVec ℕ)
      → Exchange items events groups told (Some sense) → is_told_kept (Some sense) i.command ≡ true
      → Exchange (items ++ i ∷ []) events groups (told ++ kept_on_wire i.command sense ∷ []) None
  sent : {items : List Item} {events : List Frame} {groups : List (List Answer)} {told : List (List ℕ)}
      {kept : Option (ArrayVec ℕ)} (i : Item) (reply : Reply) (first second : List Answer)
      → Exchange items events groups told kept → is_told_kept kept i.command ≡ false → first ++ second ≡ replied reply ∷ []
      → Exchange (items ++ i ∷ []) (events ++ item_events i) (groups ++ first ∷ second ∷ [])
      (told ++ reply_on_wire i.command reply ∷ []) (kept_of reply)

-- ---- who tells the answers to one item

-- a reply is told on the wire, and nothing else is (profile)
abbrev pub item_told : ItemTeller → Answer → List ℕ
item_told t (replied r) = reply_on_wire t.command r
item_told t (managed nexus function response tag) = []
item_told t closed = []

-- and its sense data is kept (profile)
abbrev pub item_behind : ItemTeller → Answer → ItemTeller
item_behind t (replied r) = record t { kept = kept_of r }
item_behind t (managed nexus function response tag) = t
item_behind t closed = t
