-- An event of a run is a step.
use Rattle.std.proofs.Common.{◌≡◌, ⊎_elim, refl, sym, ap, ◌∙◌, subst, ℕ, true, false, List, [], ◌∷◌, ◌++◌, map}
use Rattle.std.proofs.lemmas.List.{append-nil}
use Rattle.std.specs.List.{AllByRecursion}
use Rattle.std.proofs.lemmas.Bool.{both_ways, and_parts}
use Rattle.satl_base.specs.declared.bench.BenchEvent.{BenchEvent}
use Rattle.satl_base.specs.declared.bench.BenchEvent.TheVariants as events
use Rattle.satl_base.specs.declared.request.Request.{Request}
use Rattle.satl_base.specs.declared.reply.Reply.{Reply}
use Rattle.satl_base.specs.Cells.{Cell}
use Rattle.satl_base.specs.Lists.{IsIn}
use Rattle.satl_base.specs.Moves.{Moves}
use Rattle.satl_cdb.specs.Table.{says}
use Rattle.satl_frame.specs.declared.frames.Frame.{Frame}
use Rattle.satl_frame.specs.declared.frames.Frame.TheVariants as frames
use Rattle.satl_frame.specs.Output.{Answer}
use Rattle.satl_frame.specs.Output.Answer.{replied, closed}
use Rattle.satl_direct.specs.Device.{Device}
use Rattle.satl_direct.specs.Arrival.{ArrivesAs, Arrives, arrival, is_unit_0}
use Rattle.satl_direct.specs.Bench.{Happens}
use Rattle.satl_direct.specs.Quiet.{Around, Quiet}
use Rattle.satl_direct.specs.Run.{Does, MayLose, TurnsOf, losses_in}
use Rattle.satl_audit.specs.Deeds.{Deed, DoneBy, Walks}
use Rattle.satl_audit.specs.Deeds.Deed.{shows, powers}
use Rattle.satl_cover.specs.Known.{is_known, is_known_frame}
use Rattle.satl_audit.specs.Skeleton.{Stepped, after_power_cycle, bare, pairs_shown}
use Rattle.satl_audit.proofs.Coming.{arrival_comes}
use Rattle.satl_audit.proofs.Keeping.{IsSane, sane_on}
use Rattle.satl_audit.proofs.Stepping.{Behind, behind_now, not_lost, quiet_bare, quiet_behind, quiet_down, quiet_sane, walks_on}
use Rattle.satl_audit.proofs.ArrivalSplit.{arrival_bare, arrives_split}
use Rattle.satl_audit.proofs.Turning.{turns_split}

pub record EventSplit (first : List Cell) (ds : List Deed) (event : Frame) (s : Device) (now : List Answer) (new : Device) : Type 0 where
  pub deeds : List Deed
  pub stepped : Stepped event (bare s) now deeds (bare new)
  pub behind : Behind first (ds ++ deeds) new
  pub sane : IsSane new

module _ (first : List Cell) (ds : List Deed) (s new : Device) (now : List Answer) (h : IsSane s) (b : Behind first ds s) where
  -- an arrival that is not lost
  arrived : (r : Request) (replies : List Reply) (u v : Device) → is_known (says r.cdb s.identity.trim) ≡ true → now ≡ map replied replies → Quiet s u → Arrives r u replies v → Quiet v new → EventSplit first ds (frames.Request r) s now new
  arrived r replies u v k is q m q' =
      let same : bare u ≡ bare s = quiet_bare s u q in
      let behind_u : Behind first ds u = quiet_behind first ds s u h q b in
      let x = arrives_split (arrival u r) r u v replies (arrival_comes u r (ap (λ (d : Device). is_known (says r.cdb d.identity.trim)) same ∙ k)) (quiet_sane s u h q) m in
      let stepped : Arrives r (bare u) replies (bare v) = subst (λ w. ArrivesAs w r (bare u) replies (bare v)) (sym (arrival_bare u r)) x.bared in
      let w : Walks DoneBy (ds ++ shows (pairs_shown (bare s)) ∷ []) first v.cells =
      walks_on ds (shows (pairs_shown (bare s)) ∷ []) first behind_u.mid v.cells behind_u.walk (u.cells, subst (λ d. Moves (λ p. IsIn p (pairs_shown d)) behind_u.mid u.cells) same behind_u.moves, sym x.cells) in
      record {
        deeds = shows (pairs_shown (bare s)) ∷ [];
        stepped = (replies, is, subst (λ d. Arrives r d replies (bare new)) same (subst (Arrives r (bare u) replies) (sym (quiet_bare v new q')) stepped), refl);
        behind = quiet_behind first (ds ++ shows (pairs_shown (bare s)) ∷ []) v new x.sane q' (behind_now first (ds ++ shows (pairs_shown (bare s)) ∷ []) v w);
        sane = quiet_sane v new x.sane q';
      }

  not_lost_arrival : (r : Request) (replies : List Reply) (u v : Device) → is_known (says r.cdb s.identity.trim) ≡ true → now ≡ map replied replies → Quiet s u → MayLose (Arrives r) u replies v → Quiet v new → new.down ≡ false → EventSplit first ds (frames.Request r) s now new
  not_lost_arrival r replies u v k is q (MayLose.keeps m) q' up = arrived r replies u v k is q m q'
  not_lost_arrival r _ u v k is q (MayLose.keeps_and_loses m q'' l) q' up = absurd (both_ways _ up (quiet_down v new q' (ap (λ (d : Device). d.down) l.stays)))

  -- a loss of power
  power_split : (replies : List Reply) → now ≡ map replied replies → Around (Happens events.Power) s replies new → EventSplit first ds (frames.Bench events.Power) s now new
  power_split replies is a =
      let u = a.before in
      let v = a.after in
      let p = a.step in
      let same : bare u ≡ bare s = quiet_bare s u a.quiet_before in
      let behind_u : Behind first ds u = quiet_behind first ds s u h a.quiet_before b in
      let sane_u = quiet_sane s u h a.quiet_before in
      let sane_v : IsSane v =
      sane_on powers u v p.cells (ap (λ (d : Device). d.down) p.stays) (ap (λ (d : Device). d.started) p.stays) (ap (λ (d : Device). d.glitches) p.stays ∙ sane_u.glitches) (ap (λ (d : Device). d.identity) p.stays)
      (subst (AllByRecursion _) (sym (ap (λ (d : Device). d.tasks) p.stays)) tt) sane_u in
      let more : List Deed = shows (pairs_shown (bare s)) ∷ powers ∷ [] in
      let w : Walks DoneBy (ds ++ more) first v.cells =
      walks_on ds more first behind_u.mid v.cells behind_u.walk (u.cells, subst (λ d. Moves (λ p. IsIn p (pairs_shown d)) behind_u.mid u.cells) same behind_u.moves, (v.cells, p.cells, refl)) in
      record {
        deeds = more;
        stepped = (is ∙ ap (map replied) p.none, (refl, quiet_bare v new a.quiet_after ∙ ap bare p.stays ∙ ap after_power_cycle same));
        behind = quiet_behind first (ds ++ more) v new sane_v a.quiet_after (behind_now first (ds ++ more) v w);
        sane = quiet_sane v new sane_v a.quiet_after;
      }

  -- choices of the drive
  order_split : (replies : List Reply) (order : _) → now ≡ map replied replies → Around (Happens (events.Order order)) s replies new → EventSplit first ds (frames.Bench (events.Order order)) s now new
  order_split replies order is a =
      let u = a.before in
      let v = a.after in
      let p = a.step in
      let same : bare u ≡ bare s = quiet_bare s u a.quiet_before in
      let sane_v : IsSane v = subst IsSane (sym p.new_is) (quiet_sane s u h a.quiet_before) in
      let behind_v : Behind first ds v = subst (Behind first ds) (sym p.new_is) (quiet_behind first ds s u h a.quiet_before b) in
      record {
        deeds = [];
        stepped = (is ∙ ap (map replied) p.none, (refl, quiet_bare v new a.quiet_after ∙ ap bare p.new_is ∙ same));
        behind = subst (λ l. Behind first l new) (sym (append-nil ds)) (quiet_behind first ds v new sane_v a.quiet_after behind_v);
        sane = quiet_sane v new sane_v a.quiet_after;
      }

  bench_split : (event : BenchEvent) (replies : List Reply) → is_known_frame s.identity.trim (frames.Bench event) ≡ true → now ≡ map replied replies → Around (Happens event) s replies new → EventSplit first ds (frames.Bench event) s now new
  bench_split (events.Strike which lba) replies k is a = absurd cc
  bench_split (events.Mend lba) replies k is a = absurd cc
  bench_split (events.Glitch count) replies k is a = absurd cc
  bench_split (events.Order order) replies k is a = order_split replies order is a
  bench_split events.Power replies k is a = power_split replies is a
  bench_split events.Unplug replies k is a = absurd cc

  turn_event : (n deep : ℕ) (replies : List Reply) → now ≡ map replied replies → TurnsOf n s replies new deep → new.down ≡ false → EventSplit first ds (frames.Turn n) s now new
  turn_event n deep replies is t up =
      ⊎_elim (λ d. absurd (both_ways _ up d)) (λ r. record { deeds = r.deeds; stepped = (replies, is, r.turns); behind = r.behind; sane = r.sane }) (turns_split first ds t h b)

  end_event : (count deep : ℕ) (replies : List Reply) → now ≡ map replied replies ++ closed ∷ [] → TurnsOf count s replies new deep → new.tasks ≡ [] → new.down ≡ false → EventSplit first ds frames.End s now new
  end_event count deep replies is t empty up =
      ⊎_elim (λ d. absurd (both_ways _ up d)) (λ r. record { deeds = r.deeds; stepped = (replies, is, count, r.turns, empty); behind = r.behind; sane = r.sane }) (turns_split first ds t h b)

  pub event_split : (event : Frame) (deep : ℕ) → is_known_frame s.identity.trim event ≡ true → Does event s now new deep → losses_in event s new ≡ 0 → EventSplit first ds event s now new
  event_split (frames.Request r) deep k e l =
      not_lost_arrival r e.0 (e.2).before (e.2).after (and_parts (is_unit_0 r.lun) (is_known (says r.cdb s.identity.trim)) k).1 e.1 (e.2).quiet_before (e.2).step (e.2).quiet_after (not_lost s new h.up l)
  event_split (frames.Manage m) deep k e l = absurd cc
  event_split (frames.Turn n) deep k e l = turn_event n e.1 e.0 e.2 e.3 (not_lost s new h.up l)
  event_split (frames.Bench event) deep k e l = bench_split event e.0 k e.1 e.2
  event_split frames.End deep k e l = end_event (e.2).count deep e.0 e.1 (e.2).turns (e.2).empty (not_lost s new h.up l)
