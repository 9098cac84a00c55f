-- Steps of a sane device without a loss are steps of its bare device, and a deed of its sectors.
use Rattle.std.proofs.Common.{◌≡◌, ◌⊎◌, inl, inr, refl, sym, ap, ◌∙◌, subst, ℕ, suc, Bool, true, false, List, [], ◌∷◌, ◌++◌, append_assoc}
use Rattle.std.specs.Prelude.{if◌then◌else◌}
use Rattle.std.proofs.lemmas.List.{append-nil}
use Rattle.std.specs.List.{AllByRecursion}
use Rattle.satl_base.specs.declared.reply.Reply.{Reply}
use Rattle.satl_base.specs.Cells.{Cell}
use Rattle.satl_base.specs.Lists.{IsIn}
use Rattle.satl_base.specs.Moves.{Moves}
use Rattle.satl_base.specs.Moves.{stay}
use Rattle.satl_base.proofs.MovesLemmas.{moves_on}
use Rattle.satl_direct.specs.Device.{Device}
use Rattle.satl_direct.specs.Quiet.{Quiet}
use Rattle.satl_direct.specs.Run.{losses_of}
use Rattle.satl_direct.specs.Turn.{Turn}
use Rattle.satl_direct.specs.Turn.Turn.{idle, ends, loses, ends_and_loses}
use Rattle.satl_audit.specs.Deeds.{Deed, DoneBy, Walks}
use Rattle.satl_audit.specs.Deeds.Deed.{shows}
use Rattle.satl_audit.specs.Skeleton.{TurnsDone, bare, pairs_shown}
use Rattle.satl_audit.proofs.Coming.{IsKnown}
use Rattle.satl_audit.proofs.Ending.{turn_split}
use Rattle.satl_audit.proofs.Keeping.{IsSane, sane_on}
use Rattle.satl_audit.proofs.Showing.{may_of_moves, moves_of_may}

-- ---- walks

pub walks_on : (ds es : List Deed) (a b c : List Cell) → Walks DoneBy ds a b → Walks DoneBy es b c → Walks DoneBy (ds ++ es) a c
walks_on [] es a b c p q = subst (λ x. Walks DoneBy es x c) (sym p) q
walks_on (d ∷ ds) es a b c p q = (p.0, p.1, walks_on ds es p.0 b c p.2 q)

pub record WalkSplit (ds es : List Deed) (a c : List Cell) : Type 0 where
  pub mid : List Cell
  pub before : Walks DoneBy ds a mid
  pub after : Walks DoneBy es mid c

pub walks_split : (ds es : List Deed) (a c : List Cell) → Walks DoneBy (ds ++ es) a c → WalkSplit ds es a c
walks_split [] es a c p = record { mid = a; before = refl; after = p }
walks_split (d ∷ ds) es a c p = let r = walks_split ds es p.0 c p.2 in record { mid = r.mid; before = (p.0, p.1, r.before); after = r.after }

-- ---- quiet moves

-- a walk, and then moves that may show
pub record Behind (first : List Cell) (ds : List Deed) (s : Device) : Type 0 where
  pub mid : List Cell
  pub walk : Walks DoneBy ds first mid
  pub moves : Moves (λ p. IsIn p (pairs_shown (bare s))) mid s.cells

-- no moves
pub behind_now : (first : List Cell) (ds : List Deed) (s : Device) → Walks DoneBy ds first s.cells → Behind first ds s
behind_now first ds s w = record { mid = s.cells; walk = w; moves = stay }

pub quiet_bare : (s u : Device) → Quiet s u → bare u ≡ bare s
quiet_bare s u q = ap bare q.stays

pub quiet_sane : (s u : Device) → IsSane s → Quiet s u → IsSane u
quiet_sane s u h q =
    sane_on (shows (pairs_shown (bare s))) s u (moves_of_may s.identity.capacity s h.known q.cells)
    (ap (λ (x : Device). x.down) q.stays ∙ h.up) (ap (λ (x : Device). x.started) q.stays ∙ h.started) (ap (λ (x : Device). x.glitches) q.stays ∙ h.glitches) (ap (λ (x : Device). x.identity) q.stays)
    (subst (AllByRecursion (IsKnown s.identity.capacity)) (sym (ap (λ (x : Device). x.tasks) q.stays)) h.known) h

pub quiet_behind : (first : List Cell) (ds : List Deed) (s u : Device) → IsSane s → Quiet s u → Behind first ds s → Behind first ds u
quiet_behind first ds s u h q b = record {
  mid = b.mid;
  walk = b.walk;
  moves = subst (λ x. Moves (λ p. IsIn p (pairs_shown x)) b.mid u.cells) (sym (quiet_bare s u q)) (moves_on b.moves (moves_of_may s.identity.capacity s h.known q.cells));
}

-- moves that may show are quiet
pub quiet_made : (s : Device) (cells : List Cell) → IsSane s → Moves (λ p. IsIn p (pairs_shown (bare s))) s.cells cells → Quiet s (record s { cells = cells })
quiet_made s cells h m = record { cells = may_of_moves s.identity.capacity s h.known h.up h.started m; active = inl refl; stays = refl }

pub quiet_down : (s u : Device) → Quiet s u → s.down ≡ true → u.down ≡ true
quiet_down s u q h = ap (λ (x : Device). x.down) q.stays ∙ h

-- ---- turns

-- one turn: nothing, or a task that is done
pub record TurnWent (first : List Cell) (ds : List Deed) (before : Device) (n : ℕ) (s : Device) (earlier : List Reply) (so_far : List Deed) (rest : List Reply) (after : Device) : Type 0 where
  pub deeds : List Deed
  pub turns : TurnsDone (bare s) (suc n) (earlier ++ rest) deeds (bare after)
  pub behind : Behind first (ds ++ deeds) after
  pub sane : IsSane after

module _ (first : List Cell) (ds so_far : List Deed) (s before : Device) (n : ℕ) (earlier : List Reply) where
  pub turn_went : (rest : List Reply) (after : Device) → TurnsDone (bare s) n earlier so_far (bare before) → IsSane before → Behind first (ds ++ so_far) before → Turn before rest after →
      (after.down ≡ true) ⊎ TurnWent first ds before n s earlier so_far rest after
  turn_went _ _ t h b (idle e) = inr (record { deeds = so_far; turns = subst (λ l. TurnsDone (bare s) (suc n) l so_far (bare before)) (sym (append-nil earlier)) (TurnsDone.idle t e); behind = b; sane = h })
  turn_went _ after t h b (ends reply e) =
      let r = turn_split before reply after h e in
      let more : List Deed = shows (pairs_shown (bare before)) ∷ r.deed ∷ [] in
      let w : Walks DoneBy ((ds ++ so_far) ++ more) first after.cells = walks_on (ds ++ so_far) more first b.mid after.cells b.walk (before.cells, b.moves, (after.cells, r.does, refl)) in
      inr (record {
        deeds = so_far ++ more;
        turns = TurnsDone.more reply r.deed t r.done;
        behind = behind_now first (ds ++ (so_far ++ more)) after (subst (λ l. Walks DoneBy l first after.cells) (append_assoc ds so_far more) w);
        sane = r.sane;
      })
  turn_went _ after t h b (loses some l) = inl (ap (λ (x : Device). x.down) l.stays)
  turn_went _ after t h b (ends_and_loses reply e q l) = inl (ap (λ (x : Device). x.down) l.stays)

-- ---- losses

-- losses by whether the link was lost before and after
abbrev lost_by : Bool → Bool → ℕ
lost_by a b = if a then 0 else (if b then 1 else 0)

-- no loss: the link is still up
pub not_lost : (s new : Device) → s.down ≡ false → losses_of s new ≡ 0 → new.down ≡ false
not_lost s new up e = cases s.down new.down up e
  where
    cases : (a b : Bool) → a ≡ false → lost_by a b ≡ 0 → b ≡ false
    cases true b p q = absurd cc
    cases false true p q = absurd cc
    cases false false p q = refl

pub still_up : (s new : Device) → new.down ≡ false → losses_of s new ≡ 0
still_up s new up = cases s.down new.down up
  where
    cases : (a b : Bool) → b ≡ false → lost_by a b ≡ 0
    cases true b p = refl
    cases false true p = absurd cc
    cases false false p = refl
