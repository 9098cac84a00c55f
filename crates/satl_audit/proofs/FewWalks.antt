-- Deeds with pairs that show at losses of power alone.
use Rattle.std.proofs.Common.{◌≡◌, refl, sym, ap, subst, ℕ, List, [], ◌∷◌, ◌++◌, Option, Some, None}
use Rattle.satl_base.specs.declared.block.Block.{Block}
use Rattle.satl_base.specs.Cells.{Cell, Pair}
use Rattle.satl_cdb.specs.declared.command.Command.{Command}
use Rattle.satl_cdb.specs.declared.command.Command.TheVariants as commands
use Rattle.satl_line.specs.declared.entry.Entry.{Entry}
use Rattle.satl_direct.specs.Device.{Device}
use Rattle.satl_audit.specs.Deeds.{Deed, DoneAt, Walks, few_from}
use Rattle.satl_audit.specs.Deeds.Deed.{shows, puts, gives, settles, powers}
use Rattle.satl_audit.specs.Skeleton.{DoneAs}

-- ---- walks

module _ (x : ℕ) where
  pub on : (ds es : List Deed) (a b c : Cell) → Walks (DoneAt x) ds a b → Walks (DoneAt x) es b c → Walks (DoneAt x) (ds ++ es) a c
  on [] es a b c p q = subst (λ y. Walks (DoneAt x) es y c) (sym p) q
  on (d ∷ ds) es a b c p q = (p.0, p.1, on ds es p.0 b c p.2 q)

  pub record Cut (ds es : List Deed) (a c : Cell) : Type 0 where
    pub mid : Cell
    pub before : Walks (DoneAt x) ds a mid
    pub after : Walks (DoneAt x) es mid c

  pub cut : (ds es : List Deed) (a c : Cell) → Walks (DoneAt x) (ds ++ es) a c → Cut ds es a c
  cut [] es a c p = record { mid = a; before = refl; after = p }
  cut (d ∷ ds) es a c p = let r = cut ds es p.0 c p.2 in record { mid = r.mid; before = (p.0, p.1, r.before); after = r.after }

-- few deeds of deeds and then shows
pub few_append : (o : Option (List Pair)) (ds : List Deed) (pairs : List Pair) (es : List Deed) → few_from o (ds ++ shows pairs ∷ es) ≡ few_from o ds ++ few_from (Some pairs) es
few_append None [] pairs es = refl
few_append (Some last) [] pairs es = refl
few_append None (shows q ∷ ds) pairs es = few_append (Some q) ds pairs es
few_append (Some last) (shows q ∷ ds) pairs es = few_append (Some q) ds pairs es
few_append None (powers ∷ ds) pairs es = ap (λ l. powers ∷ l) (few_append None ds pairs es)
few_append (Some last) (powers ∷ ds) pairs es = ap (λ l. shows last ∷ powers ∷ l) (few_append None ds pairs es)
few_append None (puts q ∷ ds) pairs es = ap (λ l. puts q ∷ l) (few_append None ds pairs es)
few_append (Some last) (puts q ∷ ds) pairs es = ap (λ l. puts q ∷ l) (few_append None ds pairs es)
few_append None (gives lba vs ∷ ds) pairs es = ap (λ l. gives lba vs ∷ l) (few_append None ds pairs es)
few_append (Some last) (gives lba vs ∷ ds) pairs es = ap (λ l. gives lba vs ∷ l) (few_append None ds pairs es)
few_append None (settles ∷ ds) pairs es = ap (λ l. settles ∷ l) (few_append None ds pairs es)
few_append (Some last) (settles ∷ ds) pairs es = ap (λ l. settles ∷ l) (few_append None ds pairs es)

-- what a task does is among the few
pub few_done : (c : Command) (s : Device) (t : Entry) (blocks : List Block) (deed : Deed) (pairs : List Pair) → DoneAs c s t blocks deed → few_from (Some pairs) (deed ∷ []) ≡ deed ∷ []
few_done (commands.Read form lba count fua) s t blocks deed pairs e = subst (λ d. few_from (Some pairs) (d ∷ []) ≡ d ∷ []) (sym e.1) refl
few_done (commands.Write form lba count fua) s t blocks deed pairs e = subst (λ d. few_from (Some pairs) (d ∷ []) ≡ d ∷ []) (sym e.1) refl
few_done (commands.Flush form lba count) s t blocks deed pairs e = subst (λ d. few_from (Some pairs) (d ∷ []) ≡ d ∷ []) (sym e.1) refl
few_done _ s t blocks deed pairs e = absurd e
