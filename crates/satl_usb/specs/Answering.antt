-- One item is answered (profile).
use Rattle.std.specs.Prelude.{◌≡◌, ◌⊎◌, ℕ, true, false, List, [], ◌∷◌, Option, None, Some, Result, IfOk, OnErr}
use Rattle.arrayvec.specs.ArrayVec.{ArrayVec}
use Rattle.satl_base.specs.declared.request.Request.{Request}
use Rattle.satl_base.specs.declared.request.Attr.TheVariants.{Simple}
use Rattle.satl_io.specs.Known.{Wrote, WrotePart}
use Rattle.satl_step.specs.Runs.{Stand}
use Rattle.satl_usb.specs.Exchanges.{is_told_kept}
use Rattle.satl_usb.specs.Items.{sent_length}
use Rattle.satl_usb.specs.Serving.{BothCarried}
use Rattle.satl_usb.specs.Wire.{kept_of, kept_on_wire, reply_on_wire}
use Rattle.satl_usb.specs.declared.items.Taken.{Taken}

-- where a unit stands, the device and what was counted, and what was written (profile)
pub record Point : Type 0 where
  pub stand : Stand
  pub written : Option (List ℕ)

abbrev pub point : Stand → Option (List ℕ) → Point
point stand written = record { stand = stand; written = written }

-- the same, and the sense data that the bridge keeps (profile)
pub record Desk : Type 0 where
  pub at : Point
  pub kept : Option (ArrayVec ℕ)

abbrev pub desk : Point → Option (ArrayVec ℕ) → Desk
desk at kept = record { at = at; kept = kept }

-- the request of an item, with the pages that were free (profile)
abbrev pub request_taken : Taken → Request
request_taken taken = record {
  nexus = 0;
  attr = Simple;
  lun = 0 ∷ taken.command.lun ∷ 0 ∷ 0 ∷ 0 ∷ 0 ∷ 0 ∷ 0 ∷ [];
  tag = record { 0 = 0 };
  cdb = taken.command.cdb;
  body = taken.body;
  data_len = sent_length taken.command;
  expected = None;
}

-- an item was answered with the sense data that was kept, and nothing else happened (profile)
pub record Repeated (taken : Taken) (before after : Desk) : Type 0 where
  pub sense : ArrayVec ℕ
  pub was_kept : before.kept ≡ Some sense
  pub asks : is_told_kept before.kept taken.command ≡ true
  pub stays : after.at.stand ≡ before.at.stand
  pub wrote : Wrote before.at.written after.at.written (kept_on_wire taken.command sense)
  pub kept_is : after.kept ≡ None

-- its request and a turn were carried out, and the reply was written, whose sense data is kept (profile)
pub record Sent (taken : Taken) (before after : Point) (kept : Option (ArrayVec ℕ)) : Type 0 where
  pub both : BothCarried (request_taken taken) before.stand after.stand
  pub wrote : Wrote before.written after.written (reply_on_wire taken.command both.reply)
  pub kept_is : kept ≡ kept_of both.reply

-- an item was answered (profile)
abbrev pub Answered : Taken → Desk → Desk → Type 0
Answered taken before after =
    Repeated taken before after
    ⊎ ((is_told_kept before.kept taken.command ≡ false) × Sent taken before.at after.at after.kept)

-- an item was answered with the sense data that was kept, of which a front was written (profile)
pub record RepeatedInPart (taken : Taken) (before : Desk) (after : Point) : Type 0 where
  pub sense : ArrayVec ℕ
  pub was_kept : before.kept ≡ Some sense
  pub asks : is_told_kept before.kept taken.command ≡ true
  pub stays : after.stand ≡ before.at.stand
  pub part : WrotePart before.at.written after.written (kept_on_wire taken.command sense)

-- its request and a turn were carried out, and a front of the reply was written (profile)
pub record SentInPart (taken : Taken) (before after : Point) : Type 0 where
  pub both : BothCarried (request_taken taken) before.stand after.stand
  pub part : WrotePart before.written after.written (reply_on_wire taken.command both.reply)

-- an item was answered in part (profile)
abbrev pub AnsweredInPart : Taken → Desk → Point → Type 0
AnsweredInPart taken before after =
    RepeatedInPart taken before after
    ⊎ ((is_told_kept before.kept taken.command ≡ false) × SentInPart taken before.at after)

-- its request was carried out, by the result, which gives the sense data that is then kept (profile)
pub record SendsItem {E : Type 0} (taken : Taken) (before after : Point)
    (result : Result (Option (ArrayVec ℕ)) E) : Type 0 where
  pub sent : IfOk result (Sent taken before after)
  pub part : OnErr result (SentInPart taken before after)

-- an item was answered, by the result, which gives the sense data that is then kept (profile)
pub record AnswersItem {E : Type 0} (taken : Taken) (before : Desk) (after : Point)
    (result : Result (Option (ArrayVec ℕ)) E) : Type 0 where
  pub answered : IfOk result (λ kept. Answered taken before (desk after kept))
  pub part : OnErr result (AnsweredInPart taken before after)
