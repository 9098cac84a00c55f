-- Turns without a loss are turns of the bare device and deeds of the sectors, and back.
use Rattle.std.proofs.Common.{◌≡◌, ◌⊎◌, ⊎_elim, inl, inr, refl, sym, ap, ◌∙◌, subst, ℕ, suc, true, List, [], ◌∷◌, ◌++◌}
use Rattle.std.specs.Prelude.{max}
use Rattle.std.proofs.lemmas.List.{append-nil}
use Rattle.satl_base.specs.declared.reply.Reply.{Reply}
use Rattle.satl_base.specs.Cells.{Cell}
use Rattle.satl_direct.specs.Device.{Device}
use Rattle.satl_direct.specs.Quiet.{Around, Quiet}
use Rattle.satl_direct.specs.Run.{TurnsOf, depth}
use Rattle.satl_direct.specs.Turn.{Turn}
use Rattle.satl_direct.specs.Turn.Turn.{idle, ends, loses, ends_and_loses}
use Rattle.satl_direct.proofs.Quieting.{quiet_none}
use Rattle.satl_audit.specs.Deeds.{Deed, DoneBy, Walks}
use Rattle.satl_audit.specs.Deeds.Deed.{shows}
use Rattle.satl_audit.specs.Skeleton.{TaskDone, TurnsDone, bare, pairs_shown}
use Rattle.satl_audit.proofs.Ended.{turn_made}
use Rattle.satl_audit.proofs.Keeping.{IsSane}
use Rattle.satl_audit.proofs.Stepping.{Behind, quiet_bare, quiet_behind, quiet_down, quiet_made, quiet_sane, turn_went, walks_split}
use Rattle.satl_laws.proofs.InOrderSteps.{one_down}

-- ---- a lost link stays lost

turn_down : (s : Device) (replies : List Reply) (new : Device) → Turn s replies new → s.down ≡ true → new.down ≡ true
turn_down s _ _ (idle e) h = h
turn_down s _ new (ends reply e) h = one_down s new reply h e
turn_down s _ new (loses some l) h = ap (λ (x : Device). x.down) l.stays
turn_down s _ new (ends_and_loses reply e q l) h = ap (λ (x : Device). x.down) l.stays

around_down : (s : Device) (replies : List Reply) (new : Device) → Around Turn s replies new → s.down ≡ true → new.down ≡ true
around_down s replies new a h = quiet_down a.after new a.quiet_after (turn_down a.before replies a.after a.step (quiet_down s a.before a.quiet_before h))

-- ---- turns

pub record TurnsSplit (first : List Cell) (ds : List Deed) (n : ℕ) (s : Device) (replies : List Reply) (new : Device) : Type 0 where
  pub deeds : List Deed
  pub turns : TurnsDone (bare s) n replies deeds (bare new)
  pub behind : Behind first (ds ++ deeds) new
  pub sane : IsSane new

module _ (first : List Cell) (ds : List Deed) where
  around_split : {n : ℕ} (s mid new : Device) (earlier rest : List Reply) → Around Turn mid rest new → TurnsSplit first ds n s earlier mid → (new.down ≡ true) ⊎ TurnsSplit first ds (suc n) s (earlier ++ rest) new
  around_split {n} s mid new earlier rest a t =
      let h = quiet_sane mid a.before t.sane a.quiet_before in
      let b = quiet_behind first (ds ++ t.deeds) mid a.before t.sane a.quiet_before t.behind in
      let so_far : TurnsDone (bare s) n earlier t.deeds (bare a.before) = subst (TurnsDone (bare s) n earlier t.deeds) (sym (quiet_bare mid a.before a.quiet_before)) t.turns in
      ⊎_elim
      (λ d. inl (quiet_down a.after new a.quiet_after d))
      (λ w. inr (record {
        deeds = w.deeds;
        turns = subst (TurnsDone (bare s) (suc n) (earlier ++ rest) w.deeds) (sym (quiet_bare a.after new a.quiet_after)) w.turns;
        behind = quiet_behind first (ds ++ w.deeds) a.after new w.sane a.quiet_after w.behind;
        sane = quiet_sane a.after new w.sane a.quiet_after;
      }))
      (turn_went first ds t.deeds s a.before n earlier rest a.after so_far h b a.step)

  pub turns_split : {n : ℕ} {s : Device} {replies : List Reply} {new : Device} {deep : ℕ} → TurnsOf n s replies new deep → IsSane s → Behind first ds s → (new.down ≡ true) ⊎ TurnsSplit first ds n s replies new
  turns_split {new = new} TurnsOf.none h b = inr (record { deeds = []; turns = TurnsDone.none; behind = subst (λ l. Behind first l new) (sym (append-nil ds)) b; sane = h })
  turns_split {s = s} {new = new} (TurnsOf.more {mid = mid} {earlier = earlier} {rest = rest} so_far a) h b =
      ⊎_elim (λ d. inl (around_down mid rest new a d)) (λ t. around_split s mid new earlier rest a t) (turns_split so_far h b)

-- ---- and back

pub record TurnsMade (n : ℕ) (s : Device) (replies : List Reply) (cells : List Cell) (bared : Device) : Type 0 where
  pub new : Device
  pub deep : ℕ
  pub turns : TurnsOf n s replies new deep
  pub bared_is : bare new ≡ bared
  pub cells_are : new.cells ≡ cells
  pub sane : IsSane new

turns_idle : (n : ℕ) (s : Device) (replies : List Reply) (cells : List Cell) (bared : Device) → bared.tasks ≡ [] → TurnsMade n s replies cells bared → TurnsMade (suc n) s replies cells bared
turns_idle n s replies cells bared e m = record {
  new = m.new;
  deep = max m.deep (depth m.new);
  turns = subst (λ l. TurnsOf (suc n) s l m.new (max m.deep (depth m.new))) (append-nil replies)
      (TurnsOf.more m.turns (record { before = m.new; after = m.new; quiet_before = quiet_none m.new; step = idle (ap (λ (x : Device). x.tasks) m.bared_is ∙ e); quiet_after = quiet_none m.new }));
  bared_is = m.bared_is;
  cells_are = m.cells_are;
  sane = m.sane;
}

turns_more : (n : ℕ) (s : Device) (replies : List Reply) (cells : List Cell) (mid bared : Device) (reply : Reply) (deed : Deed) (new_cells : List Cell) →
    TaskDone mid reply deed bared → Walks DoneBy (shows (pairs_shown mid) ∷ deed ∷ []) cells new_cells → TurnsMade n s replies cells mid → TurnsMade (suc n) s (replies ++ reply ∷ []) new_cells bared
turns_more n s replies cells mid bared reply deed new_cells d w m =
    let rest = w.2 in
    let q : Quiet m.new (record m.new { cells = w.0 }) =
    quiet_made m.new w.0 m.sane (subst (λ l. DoneBy (shows (pairs_shown (bare m.new))) l w.0) (sym m.cells_are) (subst (λ x. DoneBy (shows (pairs_shown x)) cells w.0) (sym m.bared_is) w.1)) in
    let before : Device = record m.new { cells = w.0 } in
    let t = turn_made before reply deed bared rest.0 (quiet_sane m.new before m.sane q) (subst (λ x. TaskDone x reply deed bared) (sym m.bared_is) d) rest.1 in
    record {
      new = t.new;
      deep = max m.deep (depth t.new);
      turns = TurnsOf.more m.turns (record { before = before; after = t.new; quiet_before = q; step = ends reply t.ends; quiet_after = quiet_none t.new });
      bared_is = t.bared_is;
      cells_are = t.cells_are ∙ rest.2;
      sane = t.sane;
    }

pub turns_made : (s : Device) → IsSane s → {n : ℕ} {replies : List Reply} {deeds : List Deed} {bared : Device} → TurnsDone (bare s) n replies deeds bared → (cells : List Cell) → Walks DoneBy deeds s.cells cells → TurnsMade n s replies cells bared
turns_made s h TurnsDone.none cells w = record { new = s; deep = 0; turns = TurnsOf.none; bared_is = refl; cells_are = w; sane = h }
turns_made s h {bared = bared} (TurnsDone.idle {n = n} {replies = replies} t e) cells w = turns_idle n s replies cells bared e (turns_made s h t cells w)
turns_made s h {bared = bared} (TurnsDone.more {n = n} {replies = replies} {deeds = deeds} {mid = mid} reply deed t d) cells w =
    let r = walks_split deeds (shows (pairs_shown mid) ∷ deed ∷ []) s.cells cells w in
    turns_more n s replies r.mid mid bared reply deed cells d r.after (turns_made s h t r.mid r.before)
