-- What an item was answered with.
use Rattle.std.proofs.Common.{◌≡◌, ◌⊎◌, refl, sym, ap, subst, ◌∙◌, arith, inl, inr, ℕ, ◌+◌, ◌*◌, ◌≤◌, true, false, List, length}
use Rattle.std.specs.Prelude.{Option, Result, Ok, Err, nat_lt}
use Rattle.std.specs.Result.{IsErrAnd}
use Rattle.arrayvec.specs.ArrayVec.{ArrayVec}
use Rattle.std.proofs.lemmas.Bool.{ltb-true, ltb-false}
use Rattle.std.proofs.lemmas.List.{append-nil, length-take-le, take_all}
use Rattle.satl_io.specs.Known.{Wrote, WrotePart}
use Rattle.satl_frame.specs.DataPages.{pages_of}
use Rattle.satl_frame.proofs.Paging.{length-pages_of}
use Rattle.satl_core.specs.Submitting.{CanSubmit}
use Rattle.satl_step.specs.Events.{Scene}
use Rattle.satl_usb.specs.Answering.{Point, SendsItem, Sent, SentInPart, point, request_taken}
use Rattle.satl_usb.specs.Exchanges.{item_behind, item_told}
use Rattle.satl_usb.specs.Items.{sent_length}
use Rattle.satl_usb.specs.Reading.{TookItem}
use Rattle.satl_usb.specs.Serving.{Exchanged, ExchangedInPart}
use Rattle.satl_usb.specs.Wire.{reply_on_wire}
use Rattle.satl_usb.specs.declared.items.Taken.{Taken}
use Rattle.satl_usb.specs.declared.telling.ItemTeller.{ItemTeller}

-- a reply was told
pub sent_so : (taken : Taken) (a b : Scene ItemTeller) → a.telling.teller.command ≡ taken.command → Exchanged item_told item_behind (request_taken taken) a b → Sent taken (point a.stand a.telling.written) (point b.stand b.telling.written) b.telling.teller.kept
sent_so taken a b same x = record {
  both = x.both;
  wrote = subst (Wrote a.telling.written b.telling.written) (append-nil (reply_on_wire a.telling.teller.command x.both.reply) ∙ ap (λ c. reply_on_wire c x.both.reply) same) x.told_so.wrote;
  kept_is = ap (λ (t : ItemTeller). t.kept) x.told_so.teller;
}

-- or a front of it
pub sent_in_part : (taken : Taken) (a b : Scene ItemTeller) → a.telling.teller.command ≡ taken.command → ExchangedInPart item_told item_behind (request_taken taken) a b → SentInPart taken (point a.stand a.telling.written) (point b.stand b.telling.written)
sent_in_part taken a b same x = record {
  both = x.both;
  part = subst (WrotePart a.telling.written b.telling.written) (append-nil (reply_on_wire a.telling.teller.command x.both.reply) ∙ ap (λ c. reply_on_wire c x.both.reply) same) x.told_so.part;
}

-- what is sent ends in part where it failed
pub sends_in_part : {E : Type 0} (taken : Taken) (a b : Point) (r : Result (Option (ArrayVec ℕ)) E) (P : E → Type 0) → IsErrAnd r P → SentInPart taken a b → SendsItem taken a b r
sends_in_part taken a b (Ok kept) P failed part = absurd failed
sends_in_part taken a b (Err e) P failed part = record { sent = tt; part = part }

-- pages hold all that was sent, or none is free for more
pub held : (limit offset room : ℕ) (left left' : Option (List ℕ)) (taken : Taken) (free out : ℕ) → TookItem limit offset room left left' taken → free + length taken.body ≡ room → out ≡ length taken.body → CanSubmit (request_taken taken) free out
held limit offset room left left' taken free out t lent all = record {
  pages = all;
  all =
      (elim (nat_lt room (length (pages_of t.item.body))) as (λ b. nat_lt room (length (pages_of t.item.body)) ≡ b → (sent_length taken.command ≤ 512 * length taken.body) ⊎ (free ≡ 0)) [
        | true ↦ λ cut. let few = ltb-true room (length (pages_of t.item.body)) cut in let size = ap length t.body ∙ length-take-le room (pages_of t.item.body) (omega (arith, few)) in inr (omega (arith, size, lent))
        | false ↦ λ cut. let enough = ltb-false room (length (pages_of t.item.body)) cut in
            let size = ap length t.body ∙ ap length (take_all room (pages_of t.item.body) (omega (arith, enough))) ∙ length-pages_of t.item.body in
            let sent = t.is_item.sent ∙ ap sent_length (sym t.command) in
            inl (omega (arith, size, sent))
      ]) refl;
  expected = tt;
}
