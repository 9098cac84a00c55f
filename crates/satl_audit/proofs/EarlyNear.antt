-- A sector, and the one where nothing has shown early.
use Rattle.std.proofs.Common.{◌≡◌, ◌⊎◌, ⊎_elim, inl, inr, refl, sym, ap, ◌∙◌, subst, ℕ, true, false, [], ◌∷◌, ◌++◌}
use Rattle.std.specs.Prelude.{if◌then◌else◌}
use Rattle.std.specs.List.{AllByRecursion}
use Rattle.satl_base.specs.declared.block.Block.{Block}
use Rattle.satl_base.specs.Cells.{Cell, Pair, put}
use Rattle.satl_base.specs.Lists.{IsIn}
use Rattle.satl_base.proofs.CellsLemmas.{put-sound}
use Rattle.satl_base.proofs.ListsLemmas.{in_either, in_left, leaves_in}
use Rattle.satl_regs.specs.Sectors.{IsLeftBehind}
use Rattle.satl_direct.specs.Device.{Device}
use Rattle.satl_audit.specs.Deeds.{MovesAt}
use Rattle.satl_audit.specs.Deeds.MovesAt.{still, fewer, gets}
use Rattle.satl_audit.specs.Skeleton.{pairs_shown}
use Rattle.satl_audit.proofs.Forming.{IsFormed}
use Rattle.satl_audit.proofs.EarlyShown.{ShownAt, one_shown}

module _ (x : ℕ) where
  pub data Near (s : Device) (a b : Cell) : Type 0 where
    same : a.now ≡ b.now → ((w : Block) → IsIn w a.may → IsIn w b.may) → Near s a b
    early : (p : Pair) → ShownAt x s p → a.now ≡ p.block → ((w : Block) → IsIn w a.may → ((p.cached ≡ true) × IsIn w b.may) ⊎ (w ≡ p.block)) → Near s a b

  pub near_on : (s u : Device) (a b : Cell) → ((p : Pair) → ShownAt x s p → ShownAt x u p) → Near s a b → Near u a b
  near_on s u a b f (same e m) = same e m
  near_on s u a b f (early p i e m) = early p (f p i) e m

  -- what is left by a put
  of_put : (a : Cell) (p : Pair) (w : Block) → IsIn w (put a p.block p.cached).may → ((p.cached ≡ true) × IsIn w a.may) ⊎ (w ≡ p.block)
  of_put a p w =
      (elim p.cached as (λ b. p.cached ≡ b → IsIn w (if b then a.may ++ p.block ∷ [] else p.block ∷ []) → ((p.cached ≡ true) × IsIn w a.may) ⊎ (w ≡ p.block)) [
        | true ↦ λ c i. ⊎_elim (λ l. inl (c, l)) (λ r. inr (⊎_elim (λ e. e) (λ n. absurd n) r)) (in_either w a.may (p.block ∷ []) i)
        | false ↦ λ c i. inr (⊎_elim (λ e. e) (λ n. absurd n) i)
      ]) refl

  to_put : (b : Cell) (p : Pair) (w : Block) → ((p.cached ≡ true) × IsIn w b.may) ⊎ (w ≡ p.block) → IsIn w (put b p.block p.cached).may
  to_put b p w h =
      ⊎_elim
      (λ l. subst (λ c. IsIn w (if c then b.may ++ p.block ∷ [] else p.block ∷ [])) (sym l.0) (in_left w b.may (p.block ∷ []) l.1))
      (λ e. subst (λ v. IsIn v (put b p.block p.cached).may) (sym e) (put-sound b p.block p.cached))
      h

  module _ (s : Device) (formed : AllByRecursion IsFormed s.tasks) where
    -- moves
    near_put : (p : Pair) (a b : Cell) → ShownAt x s p → Near s a b → Near s (put a p.block p.cached) b
    near_put p a b i (same e m) = early p i refl (λ w h. ⊎_elim (λ l. inl (l.0, m w l.1)) (λ r. inr r) (of_put a p w h))
    near_put p a b i (early q j e m) =
        let one : q ≡ p = one_shown x s q p formed j i in
        early p i refl (λ w h. ⊎_elim (λ l. ⊎_elim (λ k. inl (l.0, k.1)) (λ r. inr (r ∙ ap (λ y. y.block) one)) (m w l.1)) (λ r. inr r) (of_put a p w h))

    near_lost : (a c b : Cell) → c.now ≡ a.now → ((w : Block) → IsIn w c.may → IsIn w a.may) → Near s a b → Near s c b
    near_lost a c b e f (same g m) = same (e ∙ g) (λ w h. m w (f w h))
    near_lost a c b e f (early p i g m) = early p i (e ∙ g) (λ w h. m w (f w h))

    pub near_moves : (a c b : Cell) → MovesAt (λ p. IsIn p (pairs_shown s)) x a c → Near s a b → Near s c b
    near_moves a c b still n = n
    near_moves a c b (fewer {b = mid} l m) n = near_moves mid c b m (near_lost a mid b l.now (λ w h. leaves_in w a.may mid.may l.fewer h) n)
    near_moves a c b (gets p i e m) n = near_moves (put a p.block p.cached) c b m (near_put p a b (record { among = i; here = e }) n)

    -- a WRITE ends
    pub near_written : (p : Pair) (a b : Cell) → ShownAt x s p → Near s a b → (u : Device) → Near u (put a p.block p.cached) (put b p.block p.cached)
    near_written p a b i (same e m) u = same refl (λ w h. to_put b p w (⊎_elim (λ l. inl (l.0, m w l.1)) (λ r. inr r) (of_put a p w h)))
    near_written p a b i (early q j e m) u =
        let one : q ≡ p = one_shown x s q p formed j i in
        same refl (λ w h. to_put b p w (⊎_elim (λ l. ⊎_elim (λ k. inl (l.0, k.1)) (λ r. inr (r ∙ ap (λ y. y.block) one)) (m w l.1)) (λ r. inr r) (of_put a p w h)))

  -- the power is lost
  pub record Powered (s u : Device) (b c : Cell) : Type 0 where
    pub mid : Cell
    pub last : Cell
    pub moves : MovesAt (λ p. IsIn p (pairs_shown s)) x b mid
    pub left : IsLeftBehind mid last
    pub near : Near u c last

  left_of : (s u : Device) (b mid c : Cell) → MovesAt (λ p. IsIn p (pairs_shown s)) x b mid → IsIn c.now mid.may → c.may ≡ c.now ∷ [] → Powered s u b c
  left_of s u b mid c m i alone = record {
    mid = mid;
    last = record { now = c.now; may = c.now ∷ []; read_flaw = mid.read_flaw; write_flaw = mid.write_flaw };
    moves = m;
    left = record { one = i; alone = refl; read_flaw = refl; write_flaw = refl };
    near = same refl (λ w h. subst (IsIn w) alone h);
  }

  pub near_powered : (s u : Device) (a b c : Cell) → Near s a b → IsLeftBehind a c → Powered s u b c
  near_powered s u a b c (same e m) l = left_of s u b b c still (m c.now l.one) l.alone
  near_powered s u a b c (early p i e m) l =
      left_of s u b (put b p.block p.cached) c (gets p i.among i.here still) (to_put b p c.now (m c.now l.one)) l.alone
