-- A sector by itself goes along with few deeds where it does with all.
use Rattle.std.proofs.Common.{◌≡◌, refl, sym, ap, ◌∙◌, subst, ℕ, List, [], ◌∷◌, ◌++◌, None}
use Rattle.std.proofs.lemmas.List.{append-nil}
use Rattle.std.specs.List.{AllByRecursion}
use Rattle.satl_base.specs.declared.reply.Reply.{Reply}
use Rattle.satl_base.specs.Cells.{Cell, Pair}
use Rattle.satl_direct.specs.Device.{Device}
use Rattle.satl_direct.specs.Valid.{AreOwn}
use Rattle.satl_audit.specs.Deeds.{Deed, DoneAt, Walks, few}
use Rattle.satl_audit.specs.Deeds.Deed.{shows, powers}
use Rattle.satl_audit.specs.Skeleton.{TaskDone, pairs_shown}
use Rattle.satl_audit.proofs.EarlyNear.{Near, near_moves, near_on, near_powered}
use Rattle.satl_audit.proofs.EarlyShown.{ShownAt}
use Rattle.satl_audit.proofs.Early.{near_done}
use Rattle.satl_audit.proofs.Forming.{IsFormed}
use Rattle.satl_audit.proofs.FewWalks.{on, cut, few_append, few_done}

module _ (x : ℕ) where
  pub record Reach (first : Cell) (ds : List Deed) (s : Device) (a : Cell) : Type 0 where
    pub cell : Cell
    pub walk : Walks (DoneAt x) (few ds) first cell
    pub near : Near x s a cell

  abbrev pub Follows : Cell → List Deed → Device → Type 0
  Follows first ds s = (a : Cell) → Walks (DoneAt x) ds first a → Reach first ds s a

  module _ (first : Cell) (ds : List Deed) (s u : Device) (formed : AllByRecursion IsFormed s.tasks) where
    pub follow_shows : Follows first ds s → ((p : Pair) → ShownAt x s p → ShownAt x u p) → Follows first (ds ++ shows (pairs_shown s) ∷ []) u
    follow_shows f stay a w =
        let c = cut x ds (shows (pairs_shown s) ∷ []) first a w in
        let r = f c.mid c.before in
        let v = c.after in
        let n : Near x s v.0 r.cell = near_moves x s formed c.mid v.0 r.cell v.1 r.near in
        record {
          cell = r.cell;
          walk = subst (λ l. Walks (DoneAt x) l first r.cell) (sym (few_append None ds (pairs_shown s) [] ∙ append-nil (few ds))) r.walk;
          near = subst (λ y. Near x u y r.cell) v.2 (near_on x s u v.0 r.cell stay n);
        }

    pub follow_done : (reply : Reply) (deed : Deed) → AreOwn s.tasks → TaskDone s reply deed u → Follows first ds s → Follows first (ds ++ shows (pairs_shown s) ∷ deed ∷ []) u
    follow_done reply deed own d f a w =
        let c = cut x ds (shows (pairs_shown s) ∷ deed ∷ []) first a w in
        let r = f c.mid c.before in
        let v = c.after in
        let y = v.2 in
        let n : Near x s v.0 r.cell = near_moves x s formed c.mid v.0 r.cell v.1 r.near in
        let e = near_done x s u reply deed v.0 r.cell y.0 formed own d y.1 n in
        let more : Walks (DoneAt x) (few ds ++ deed ∷ []) first e.last = on x (few ds) (deed ∷ []) first r.cell e.last r.walk (e.last, e.done, refl) in
        let is : few (ds ++ shows (pairs_shown s) ∷ deed ∷ []) ≡ few ds ++ deed ∷ [] =
        few_append None ds (pairs_shown s) (deed ∷ []) ∙ ap (λ l. few ds ++ l) (few_done (d.task).command s d.task d.blocks deed (pairs_shown s) d.done) in
        record { cell = e.last; walk = subst (λ l. Walks (DoneAt x) l first e.last) (sym is) more; near = subst (λ z. Near x u z e.last) y.2 e.near }

    pub follow_powers : Follows first ds s → Follows first (ds ++ shows (pairs_shown s) ∷ powers ∷ []) u
    follow_powers f a w =
        let c = cut x ds (shows (pairs_shown s) ∷ powers ∷ []) first a w in
        let r = f c.mid c.before in
        let v = c.after in
        let y = v.2 in
        let n : Near x s v.0 r.cell = near_moves x s formed c.mid v.0 r.cell v.1 r.near in
        let e = near_powered x s u v.0 r.cell y.0 n y.1 in
        let more : Walks (DoneAt x) (few ds ++ shows (pairs_shown s) ∷ powers ∷ []) first e.last =
        on x (few ds) (shows (pairs_shown s) ∷ powers ∷ []) first r.cell e.last r.walk (e.mid, e.moves, (e.last, e.left, refl)) in
        record {
          cell = e.last;
          walk = subst (λ l. Walks (DoneAt x) l first e.last) (sym (few_append None ds (pairs_shown s) (powers ∷ []))) more;
          near = subst (λ z. Near x u z e.last) y.2 e.near;
        }
