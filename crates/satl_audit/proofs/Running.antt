-- A step is an event of a run.
use Rattle.std.proofs.Common.{◌≡◌, refl, sym, ap, ◌∙◌, subst, ℕ, true, List, [], ◌∷◌, map}
use Rattle.std.specs.Prelude.{max}
use Rattle.std.proofs.lemmas.Bool.{and_parts}
use Rattle.satl_base.specs.declared.bench.BenchEvent.{BenchEvent}
use Rattle.satl_base.specs.declared.bench.BenchEvent.TheVariants as events
use Rattle.satl_base.specs.declared.request.Request.{Request}
use Rattle.satl_base.specs.declared.reply.Reply.{Reply}
use Rattle.satl_base.specs.Cells.{Cell}
use Rattle.satl_base.specs.Lists.{IsIn}
use Rattle.satl_base.specs.Moves.{Moves}
use Rattle.satl_cdb.specs.Table.{says}
use Rattle.satl_frame.specs.declared.frames.Frame.{Frame}
use Rattle.satl_frame.specs.declared.frames.Frame.TheVariants as frames
use Rattle.satl_frame.specs.Output.{Answer}
use Rattle.satl_frame.specs.Output.Answer.{replied}
use Rattle.satl_direct.specs.Device.{Device}
use Rattle.satl_direct.specs.Arrival.{ArrivesAs, Arrives, arrival, is_unit_0}
use Rattle.satl_direct.specs.Quiet.{Quiet}
use Rattle.satl_direct.specs.Run.{Does, MayLose, depth, losses_in}
use Rattle.satl_direct.proofs.Quieting.{quiet_none}
use Rattle.satl_audit.specs.Deeds.{Deed, DoneBy, Walks}
use Rattle.satl_audit.specs.Deeds.Deed.{shows, powers}
use Rattle.satl_cover.specs.Known.{is_known, is_known_frame}
use Rattle.satl_audit.specs.Skeleton.{Benched, Stepped, after_power_cycle, bare, pairs_shown}
use Rattle.satl_audit.proofs.Coming.{arrival_comes}
use Rattle.satl_audit.proofs.Keeping.{IsSane, sane_on}
use Rattle.satl_audit.proofs.ArrivalSplit.{arrival_bare, arrives_made}
use Rattle.satl_audit.proofs.Stepping.{quiet_made, quiet_sane, still_up}
use Rattle.satl_audit.proofs.Turning.{turns_made}

pub record EventMade (event : Frame) (s : Device) (now : List Answer) (cells : List Cell) (bared : Device) : Type 0 where
  pub new : Device
  pub deep : ℕ
  pub does : Does event s now new deep
  pub no_loss : losses_in event s new ≡ 0
  pub bared_is : bare new ≡ bared
  pub cells_are : new.cells ≡ cells
  pub sane : IsSane new

module _ (s bared : Device) (now : List Answer) (cells : List Cell) (h : IsSane s) where
  request_made : (r : Request) (replies : List Reply) → is_known (says r.cdb s.identity.trim) ≡ true → now ≡ map replied replies → Arrives r (bare s) replies bared → Moves (λ p. IsIn p (pairs_shown (bare s))) s.cells cells → EventMade (frames.Request r) s now cells bared
  request_made r replies k is e m =
      let u : Device = record s { cells = cells } in
      let q : Quiet s u = quiet_made s cells h m in
      let sane_u : IsSane u = quiet_sane s u h q in
      let x = arrives_made (arrival u r) r u bared replies (arrival_comes u r k) sane_u (subst (λ w. ArrivesAs w r (bare u) replies bared) (arrival_bare u r) e) in
      record {
        new = x.new;
        deep = depth x.new;
        does = (replies, is, record { before = u; after = x.new; quiet_before = q; step = MayLose.keeps x.arrives; quiet_after = quiet_none x.new }, refl);
        no_loss = still_up s x.new (x.sane).up;
        bared_is = x.bared_is;
        cells_are = x.cells;
        sane = x.sane;
      }

  order_made : (order : _) → now ≡ [] → bared ≡ bare s → s.cells ≡ cells → EventMade (frames.Bench (events.Order order)) s now cells bared
  order_made order is e c = record {
    new = s;
    deep = depth s;
    does = ([], is, record { before = s; after = s; quiet_before = quiet_none s; step = record { none = refl; new_is = refl }; quiet_after = quiet_none s }, refl);
    no_loss = refl;
    bared_is = sym e;
    cells_are = c;
    sane = h;
  }

  power_made : now ≡ [] → bared ≡ after_power_cycle (bare s) → Walks DoneBy (shows (pairs_shown (bare s)) ∷ powers ∷ []) s.cells cells → EventMade (frames.Bench events.Power) s now cells bared
  power_made is e w =
      let u : Device = record s { cells = w.0 } in
      let q : Quiet s u = quiet_made s w.0 h w.1 in
      let sane_u : IsSane u = quiet_sane s u h q in
      let rest = w.2 in
      let new : Device = record (after_power_cycle u) { cells = rest.0 } in
      record {
        new = new;
        deep = depth new;
        does = ([], is, record { before = u; after = new; quiet_before = q; step = record { none = refl; cells = rest.1; stays = refl }; quiet_after = quiet_none new }, refl);
        no_loss = refl;
        bared_is = sym e;
        cells_are = rest.2;
        sane = sane_on powers u new rest.1 refl refl sane_u.glitches refl tt sane_u;
      }

  bench_made : (event : BenchEvent) (deeds : List Deed) → now ≡ [] → Benched event (bare s) deeds bared → Walks DoneBy deeds s.cells cells → EventMade (frames.Bench event) s now cells bared
  bench_made (events.Strike which lba) deeds is e w = absurd e
  bench_made (events.Mend lba) deeds is e w = absurd e
  bench_made (events.Glitch count) deeds is e w = absurd e
  bench_made (events.Order order) deeds is e w = order_made order is e.1 (subst (λ l. Walks DoneBy l s.cells cells) e.0 w)
  bench_made events.Power deeds is e w = power_made is e.1 (subst (λ l. Walks DoneBy l s.cells cells) e.0 w)
  bench_made events.Unplug deeds is e w = absurd e

  pub event_made : (event : Frame) (deeds : List Deed) → is_known_frame s.identity.trim event ≡ true → Stepped event (bare s) now deeds bared → Walks DoneBy deeds s.cells cells → EventMade event s now cells bared
  event_made (frames.Request r) deeds k e w =
      let v : Walks DoneBy (shows (pairs_shown (bare s)) ∷ []) s.cells cells = subst (λ l. Walks DoneBy l s.cells cells) e.3 w in
      request_made r e.0 (and_parts (is_unit_0 r.lun) (is_known (says r.cdb s.identity.trim)) k).1 e.1 e.2 (subst (Moves (λ p. IsIn p (pairs_shown (bare s))) s.cells) v.2 v.1)
  event_made (frames.Manage m) deeds k e w = absurd cc
  event_made (frames.Turn n) deeds k e w =
      let t = turns_made s h e.2 cells w in
      record { new = t.new; deep = max t.deep (depth t.new); does = (e.0, t.deep, e.1, t.turns, refl); no_loss = still_up s t.new (t.sane).up; bared_is = t.bared_is; cells_are = t.cells_are; sane = t.sane }
  event_made (frames.Bench event) deeds k e w = bench_made event deeds e.0 e.1 w
  event_made frames.End deeds k e w =
      let t = turns_made s h e.3 cells w in
      record {
        new = t.new;
        deep = t.deep;
        does = (e.0, e.1, record { count = e.2; turns = t.turns; empty = ap (λ (d : Device). d.tasks) t.bared_is ∙ e.4 });
        no_loss = still_up s t.new (t.sane).up;
        bared_is = t.bared_is;
        cells_are = t.cells_are;
        sane = t.sane;
      }
