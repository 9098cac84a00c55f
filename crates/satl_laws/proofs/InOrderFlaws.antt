-- Flaws that come and go keep the order of arrival.
use Rattle.std.proofs.Common.{◌≡◌, refl, sym, ◌∙◌, subst, ℕ, zero, suc, Bool, true, List, ◌∷◌}
use Rattle.std.specs.Prelude.{◌&&◌, not}
use Rattle.satl_base.specs.declared.bench.Which.{Which}
use Rattle.satl_base.specs.declared.bench.Which.TheVariants as flaws
use Rattle.satl_base.specs.Cells.{Cell}
use Rattle.satl_base.specs.Lists.{change_at}
use Rattle.satl_base.proofs.CellsLemmas.{change_at-length}
use Rattle.satl_regs.specs.Sectors.{with_flaw}
use Rattle.satl_frame.specs.declared.frames.Frame.{Frame}
use Rattle.satl_frame.specs.Output.{Answer}
use Rattle.satl_direct.specs.Device.{Device}
use Rattle.satl_laws.specs.ArrivalOrder.{read_at}
use Rattle.satl_laws.proofs.InOrder.{Begin, cells_in_order, holds, InOrder}
use Rattle.satl_laws.proofs.InOrderSteps.{InOrderAt}
use Rattle.satl_laws.proofs.Standing.{Stands}

module _ (first : Begin) (exact : Bool) where
  -- flaws that come and go leave what is read
  pub flaws_at : (events : List Frame) (answers : List Answer) (s new : Device) (lba : ℕ) (f : Cell → Cell) → ((c : Cell) → (f c).now ≡ c.now) → (exact ≡ true → ⊥) → new ≡ record s { cells = change_at s.cells lba f }
      → InOrderAt first exact events answers s → InOrderAt first exact events answers new
  flaws_at events answers s new lba f same loose is o =
      subst (InOrderAt first exact events answers) (sym is)
      (record {
        identity = o.identity;
        order = cells_in_order first events answers s.cells (change_at s.cells lba f) s.tasks (exact && not s.down) p (change_at-length s.cells lba f ∙ p.size)
            (λ x inside. subst (λ v. Stands x v (holds first p.items x) s.tasks) (sym (unchanged s.cells lba x)) (p.stands x inside));
        calm = λ x. absurd (loose x);
        steady = λ x. absurd (loose x);
      })
    where
      p : InOrder first events answers s.cells s.tasks (exact && not s.down)
      p = o.order

      unchanged : (cells : List Cell) (lba x : ℕ) → read_at (change_at cells lba f) x ≡ read_at cells x
      unchanged (c ∷ cs) zero zero = same c
      unchanged (c ∷ cs) (suc lba) (suc x) = unchanged cs lba x
      unchanged _ _ _ = refl

  pub flaw_now : (which : Which) (c : Cell) → (with_flaw which c).now ≡ c.now
  flaw_now flaws.Read c = refl
  flaw_now flaws.Write c = refl
