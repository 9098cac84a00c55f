-- What the bridge has done so far.
use Rattle.std.proofs.Common.{◌≡◌, refl, sym, ap, subst, ◌∙◌, append_assoc, arith, inl, inr, ℕ, ◌+◌, ◌≤◌, Bool, true, false, List, [], ◌∷◌, ◌++◌, length, take}
use Rattle.std.specs.Prelude.{Option, None, Some}
use Rattle.std.proofs.lemmas.List.{append-nil, flat_map_more, length-append}
use Rattle.arrayvec.specs.ArrayVec.{ArrayVec}
use Rattle.satl_base.specs.declared.request.Request.{Request}
use Rattle.satl_io.specs.Known.{Took, Wrote}
use Rattle.satl_io.proofs.Joined.{Took-more, Took-none, Wrote-more, Wrote-none}
use Rattle.satl_bot.specs.declared.command.Cbw.{Cbw}
use Rattle.satl_frame.specs.DataPages.{pages_of}
use Rattle.satl_frame.specs.Pulls.{FewerThan}
use Rattle.satl_frame.specs.declared.frames.Frame.{Frame}
use Rattle.satl_frame.specs.declared.frames.Frame.TheVariants as frames
use Rattle.satl_frame.specs.Output.{Answer}
use Rattle.satl_serve.specs.Moments.{Spot}
use Rattle.satl_step.specs.Events.{IsWholeOf}
use Rattle.satl_step.specs.Runs.{IsDeep, RunSoFar, Stand}
use Rattle.satl_step.proofs.RunLemmas.{run_more, run_start}
use Rattle.satl_usb.specs.Answering.{Answered, AnsweredInPart, desk, point, request_taken}
use Rattle.satl_usb.specs.Bridge.{Bridged, BridgedInPart, BridgedWhole, HasTaken, Talk, talk_of, wire_of}
use Rattle.satl_usb.specs.Exchanges.{Exchange, is_told_kept, request_of}
use Rattle.satl_usb.specs.Exchanges.Exchange.{start, asked, sent}
use Rattle.satl_usb.specs.Headline.{RanTo, stop_at}
use Rattle.satl_usb.specs.Items.{AreItems, IsItem, Item, asked_of_item, bytes_of_items, item_bytes, sent_length}
use Rattle.satl_usb.specs.Reading.{ItemAwaits, ItemMissed, TookItem, WasAtEnd}
use Rattle.satl_usb.specs.Serving.{BothCarried}
use Rattle.satl_usb.specs.Wire.{kept_of, kept_on_wire, reply_on_wire}
use Rattle.satl_usb.specs.declared.items.ItemFault.{ItemFault}
use Rattle.satl_usb.specs.declared.items.ItemFault.TheVariants as missed
use Rattle.satl_usb.specs.declared.items.Taken.{Taken}

-- ---- items that were taken

pub bytes_of_items-push : (items : List Item) (i : Item) → bytes_of_items (items ++ i ∷ []) ≡ bytes_of_items items ++ item_bytes i
bytes_of_items-push items i = sym (flat_map_more item_bytes [] items i)

are_items-push : (limit offset : ℕ) (items : List Item) (i : Item) → AreItems limit offset items → IsItem i → offset + length (bytes_of_items items) + length (item_bytes i) ≤ limit → AreItems limit offset (items ++ i ∷ [])
are_items-push limit offset [] i each is fits = (is, omega (arith, fits), tt)
are_items-push limit offset (x ∷ items) i (a, b, c) is fits = (a, b, are_items-push limit (offset + length (item_bytes x)) items i c is (let long = length-append (item_bytes x) (bytes_of_items items) in omega (arith, long, fits)))

taken_more : (limit offset room : ℕ) (left mid left' : Option (List ℕ)) (items : List Item) (taken : Taken) → offset ≡ length (bytes_of_items items) → HasTaken limit left mid items → (t : TookItem limit offset room mid left' taken) → HasTaken limit left left' (items ++ t.item ∷ [])
taken_more limit offset room left mid left' items taken at h t = record {
  took = subst (Took left left') (sym (bytes_of_items-push items t.item)) (Took-more h.took t.took);
  each = are_items-push limit 0 items t.item h.each t.is_item (let within = t.within in omega (arith, within, at));
}

taken_none : (limit : ℕ) (left mid left' : Option (List ℕ)) (items : List Item) → HasTaken limit left mid items → Took mid left' [] → HasTaken limit left left' items
taken_none limit left mid left' items h none = record { took = subst (Took left left') (append-nil (bytes_of_items items)) (Took-more h.took none); each = h.each }

-- ---- a request of an item

whole_request : (taken : Taken) (room : ℕ) (i : Item) → taken.command ≡ i.command → taken.body ≡ take room (pages_of i.body) → length i.body ≡ sent_length i.command → request_taken taken ≡ record (request_of i) { body = take room (pages_of i.body) }
whole_request taken room i command body size =
    let is : taken ≡ record { command = i.command; body = take room (pages_of i.body) } = ap (λ (c : Cbw). record taken { command = c }) command ∙ ap (λ b. record { command = i.command; body = b }) body in
    ap request_taken is ∙ ap (λ (n : ℕ). record (request_of i) { body = take room (pages_of i.body); data_len = n }) (sym size)

is_whole : (limit offset room : ℕ) (left left' : Option (List ℕ)) (taken : Taken) (t : TookItem limit offset room left left' taken) → IsWholeOf (frames.Request (request_taken taken)) (frames.Request (request_of t.item))
is_whole limit offset room left left' taken t = record { room = room; cut = ap frames.Request (whole_request taken room t.item t.command t.body t.is_item.sent) }

run_both : (a b c : Stand) (events : List Frame) (groups : List (List Answer)) (r w : Request) → RunSoFar a b events groups → IsWholeOf (frames.Request r) (frames.Request w) → (both : BothCarried r b c) → RunSoFar a c (events ++ frames.Request w ∷ frames.Turn 1 ∷ []) (groups ++ both.first ∷ both.second ∷ [])
run_both a b c events groups r w run whole both =
    let one = run_more a b both.mid events groups (frames.Request r) (frames.Request w) both.first run whole both.arrives both.arrival_tallied in
    let two = run_more a both.mid c (events ++ frames.Request w ∷ []) (groups ++ both.first ∷ []) (frames.Turn 1) (frames.Turn 1) both.second one (record { room = 0; cut = refl }) both.turns both.turn_tallied in
    subst (λ gs. RunSoFar a c (events ++ frames.Request w ∷ frames.Turn 1 ∷ []) gs) (append_assoc groups (both.first ∷ []) (both.second ∷ []))
    (subst (λ fs. RunSoFar a c fs ((groups ++ both.first ∷ []) ++ both.second ∷ [])) (append_assoc events (frames.Request w ∷ []) (frames.Turn 1 ∷ [])) two)

-- ---- one item more

-- what became of items, and of one more
abbrev said : Talk → Item → List ℕ → Option (ArrayVec ℕ) → Talk
said t i answer kept = talk_of (t.items ++ i ∷ []) (t.told ++ answer ∷ []) kept

bridged_asked : (limit : ℕ) (a b c : Spot) (t : Talk) (i : Item) (sense : ArrayVec ℕ) → Bridged limit a b t → HasTaken limit a.left c.left (t.items ++ i ∷ []) → t.kept ≡ Some sense → is_told_kept t.kept i.command ≡ true → c.stand ≡ b.stand
    → Bridged limit a c (said t i (kept_on_wire i.command sense) None)
bridged_asked limit a b c t i sense so taken was asks same = record {
  events = so.events;
  groups = so.groups;
  taken = taken;
  exchange = asked i sense (subst (Exchange t.items so.events so.groups t.told) was so.exchange) (ap (λ k. is_told_kept k i.command) (sym was) ∙ asks);
  run = subst (λ s. RunSoFar a.stand s so.events so.groups) (sym same) so.run;
  idle = ap (λ (s : Stand). s.device.tasks) same ∙ so.idle;
  unplugs = ap (λ (s : Stand). s.tally.unplugs) same ∙ so.unplugs;
  orders = ap (λ (s : Stand). s.tally.orders) same ∙ so.orders;
}

bridged_sent : (limit : ℕ) (a b c : Spot) (t : Talk) (i : Item) (r : Request) → Bridged limit a b t → HasTaken limit a.left c.left (t.items ++ i ∷ []) → is_told_kept t.kept i.command ≡ false → IsWholeOf (frames.Request r) (frames.Request (request_of i)) → (both : BothCarried r b.stand c.stand)
    → Bridged limit a c (said t i (reply_on_wire i.command both.reply) (kept_of both.reply))
bridged_sent limit a b c t i r so taken other whole both = record {
  events = so.events ++ frames.Request (request_of i) ∷ frames.Turn 1 ∷ [];
  groups = so.groups ++ both.first ∷ both.second ∷ [];
  taken = taken;
  exchange = sent i both.reply both.first both.second so.exchange other both.one;
  run = run_both a.stand b.stand c.stand so.events so.groups r (request_of i) so.run whole both;
  idle = both.none;
  unplugs = both.turn_tallied.unplugs ∙ (both.arrival_tallied.unplugs ∙ so.unplugs);
  orders = both.turn_tallied.orders ∙ (both.arrival_tallied.orders ∙ so.orders);
}

-- ---- the items so far

pub record Going (limit : ℕ) (before now : Spot) (kept : Option (ArrayVec ℕ)) (offset : ℕ) : Type 0 where
  pub items : List Item
  pub told : List (List ℕ)
  pub bridged : Bridged limit before now (talk_of items told kept)
  pub at : offset ≡ length (bytes_of_items items)
  pub wrote : Wrote before.written now.written (wire_of told)

wrote_more : (a b c : Option (List ℕ)) (told : List (List ℕ)) (answer : List ℕ) → Wrote a b (wire_of told) → Wrote b c answer → Wrote a c (wire_of (told ++ answer ∷ []))
wrote_more a b c told answer first second = subst (Wrote a c) (flat_map_more (λ one. one) [] told answer) (Wrote-more first second)

pub going_start : (limit : ℕ) (a : Spot) → a.stand.device.tasks ≡ [] → Going limit a a None 0
going_start limit a idle = record {
  items = [];
  told = [];
  bridged = record { events = []; groups = []; taken = record { took = Took-none a.left; each = tt }; exchange = start; run = run_start a.stand idle; idle = idle; unplugs = refl; orders = refl };
  at = refl;
  wrote = Wrote-none a.written;
}

-- nothing that the layer lends is seen
pub going_same : (limit : ℕ) (a b : Spot) (s : Stand) (kept : Option (ArrayVec ℕ)) (offset : ℕ) → s ≡ b.stand → Going limit a b kept offset → Going limit a (record b { stand = s }) kept offset
going_same limit a b s kept offset same g = subst (λ (x : Stand). Going limit a (record b { stand = x }) kept offset) (sym same) g

module _ (limit offset room : ℕ) (a b c : Spot) (kept : Option (ArrayVec ℕ)) (taken : Taken) (g : Going limit a b kept offset) (t : TookItem limit offset room b.left c.left taken) where
  abbrev talk : Talk
  talk = talk_of g.items g.told kept

  all_taken : HasTaken limit a.left c.left (g.items ++ t.item ∷ [])
  all_taken = taken_more limit offset room a.left b.left c.left g.items taken g.at g.bridged.taken t

  further : (end : ℕ) → end ≡ offset + 31 + sent_length taken.command → end ≡ length (bytes_of_items (g.items ++ t.item ∷ []))
  further end is =
      let all = ap length (bytes_of_items-push g.items t.item) ∙ length-append (bytes_of_items g.items) (item_bytes t.item) in
      let one = length-append t.item.head t.item.body in
      let size = t.is_item.size in
      let sent = t.is_item.sent ∙ ap sent_length (sym t.command) in
      let at = g.at in
      omega (arith, is, all, one, size, sent, at)

  asked_bridged : (sense : ArrayVec ℕ) → kept ≡ Some sense → is_told_kept kept taken.command ≡ true → c.stand ≡ b.stand → Bridged limit a c (said talk t.item (kept_on_wire taken.command sense) None)
  asked_bridged sense was asks same =
      subst (λ l. Bridged limit a c (said talk t.item l None)) (ap (λ x. kept_on_wire x sense) (sym t.command))
      (bridged_asked limit a b c talk t.item sense g.bridged all_taken was (ap (is_told_kept kept) (sym t.command) ∙ asks) same)

  sent_bridged : is_told_kept kept taken.command ≡ false → (both : BothCarried (request_taken taken) b.stand c.stand) → Bridged limit a c (said talk t.item (reply_on_wire taken.command both.reply) (kept_of both.reply))
  sent_bridged other both =
      subst (λ l. Bridged limit a c (said talk t.item l (kept_of both.reply))) (ap (λ x. reply_on_wire x both.reply) (sym t.command))
      (bridged_sent limit a b c talk t.item (request_taken taken) g.bridged all_taken (ap (is_told_kept kept) (sym t.command) ∙ other) (is_whole limit offset room b.left c.left taken t) both)

  -- an item was answered
  pub going_more : (kept' : Option (ArrayVec ℕ)) (end : ℕ) → Answered taken (desk (point b.stand b.written) kept) (desk (point c.stand c.written) kept') → end ≡ offset + 31 + sent_length taken.command → Going limit a c kept' end
  going_more kept' end (inl r) is = record {
    items = g.items ++ t.item ∷ [];
    told = g.told ++ kept_on_wire taken.command r.sense ∷ [];
    bridged = subst (λ k. Bridged limit a c (said talk t.item (kept_on_wire taken.command r.sense) k)) (sym r.kept_is) (asked_bridged r.sense r.was_kept r.asks r.stays);
    at = further end is;
    wrote = wrote_more a.written b.written c.written g.told (kept_on_wire taken.command r.sense) g.wrote r.wrote;
  }
  going_more kept' end (inr (other, r)) is = record {
    items = g.items ++ t.item ∷ [];
    told = g.told ++ reply_on_wire taken.command r.both.reply ∷ [];
    bridged = subst (λ k. Bridged limit a c (said talk t.item (reply_on_wire taken.command r.both.reply) k)) (sym r.kept_is) (sent_bridged other r.both);
    at = further end is;
    wrote = wrote_more a.written b.written c.written g.told (reply_on_wire taken.command r.both.reply) g.wrote r.wrote;
  }

  -- or in part
  pub stopped_in_part : AnsweredInPart taken (desk (point b.stand b.written) kept) (point c.stand c.written) → c.waited ≡ false → BridgedInPart limit a c
  stopped_in_part (inl r) unwaited = record {
    earlier = g.items;
    last = t.item;
    due = g.told;
    answer = kept_on_wire taken.command r.sense;
    kept = None;
    behind = b.written;
    bridged = asked_bridged r.sense r.was_kept r.asks r.stays;
    unwaited = unwaited;
    wrote = g.wrote;
    part = r.part;
  }
  stopped_in_part (inr (other, r)) unwaited = record {
    earlier = g.items;
    last = t.item;
    due = g.told;
    answer = reply_on_wire taken.command r.both.reply;
    kept = kept_of r.both.reply;
    behind = b.written;
    bridged = sent_bridged other r.both;
    unwaited = unwaited;
    wrote = g.wrote;
    part = r.part;
  }

-- an item ends within the limit
pub within_limit : (limit offset room end : ℕ) (left left' : Option (List ℕ)) (taken : Taken) → TookItem limit offset room left left' taken → end ≡ offset + 31 + sent_length taken.command → end ≤ limit
within_limit limit offset room end left left' taken t is =
    let one = length-append t.item.head t.item.body in
    let size = t.is_item.size in
    let sent = t.is_item.sent ∙ ap sent_length (sym t.command) in
    let within = t.within in
    omega (arith, is, one, size, sent, within)

-- ---- how it ends

-- whether a byte was waited for is not seen in what was bridged
unseen : (limit : ℕ) (a b : Spot) (waited : Bool) (t : Talk) → Bridged limit a b t → Bridged limit a (record b { waited = waited }) t
unseen limit a b waited t so = record { events = so.events; groups = so.groups; taken = so.taken; exchange = so.exchange; run = so.run; idle = so.idle; unplugs = so.unplugs; orders = so.orders }

-- at the end of the source
pub bridged_whole : (limit offset : ℕ) (a b : Spot) (left : Option (List ℕ)) (waited : Bool) (kept : Option (ArrayVec ℕ)) → IsDeep a.stand.tally → Going limit a b kept offset → WasAtEnd b.left left → BridgedWhole limit a (record b { left = left; waited = waited })
bridged_whole limit offset a b left waited kept deep g e = record {
  talk = talk_of g.items g.told kept;
  bridged = record { events = g.bridged.events; groups = g.bridged.groups; taken = taken_none limit a.left b.left left g.items g.bridged.taken e.took; exchange = g.bridged.exchange; run = g.bridged.run; idle = g.bridged.idle; unplugs = g.bridged.unplugs; orders = g.bridged.orders };
  at_end = e.end;
  wrote = g.wrote;
  deep = g.bridged.run.covered deep;
}

-- at what is refused or not read
pub bridged_missed : (limit offset : ℕ) (a b : Spot) (left : Option (List ℕ)) (waited : Bool) (kept : Option (ArrayVec ℕ)) (fault : ItemFault) → Going limit a b kept offset → ItemMissed limit offset b.left left fault → ItemAwaits limit offset b.left waited fault → RanTo limit a (record b { left = left; waited = waited }) (stop_at offset fault)
bridged_missed limit offset a b left waited kept missed.Bad g (none, front) awaits = record {
  talk = talk_of g.items g.told kept;
  mid = b.left;
  bridged = unseen limit a b waited (talk_of g.items g.told kept) g.bridged;
  offset_is = g.at;
  refused = none;
  front = front;
  awaits = awaits;
  wrote = g.wrote;
}
bridged_missed limit offset a b left waited kept missed.Failed g cut_off awaits = record {
  talk = talk_of g.items g.told kept;
  mid = b.left;
  bridged = unseen limit a b waited (talk_of g.items g.told kept) g.bridged;
  cut_off = subst (λ n. FewerThan b.left left (asked_of_item limit n)) g.at cut_off;
  wrote = g.wrote;
}
