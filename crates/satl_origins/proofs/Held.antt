-- Cells of which each block is so: what keeps that.
use Rattle.std.proofs.Common.{◌≡◌, ◌⊎◌, ⊎_elim, inl, inr, refl, sym, ap, subst, ℕ, zero, suc, Bool, true, false, List, [], ◌∷◌, Some, map}
use Rattle.std.specs.List.{AllZip}
use Rattle.satl_base.specs.declared.bench.Which.{Which}
use Rattle.satl_base.specs.declared.bench.Which.TheVariants as flaws
use Rattle.satl_base.specs.declared.block.Block.{Block}
use Rattle.satl_base.specs.Cells.{Cell, Pair, Part, put, put_at, settle, whole}
use Rattle.satl_base.specs.Lists.{IsIn, change_at}
use Rattle.satl_base.specs.Losses.{Lost}
use Rattle.satl_base.specs.Moves.{Moves, stay, lose, write}
use Rattle.satl_base.proofs.CellsLemmas.{part_whole}
use Rattle.satl_base.proofs.ListsLemmas.{in_either, leaves_in}
use Rattle.satl_regs.specs.Sectors.{IsLeftBehind, with_flaw, without_flaws}
use Rattle.satl_origins.specs.Origins.{MayHave, MayHold}

-- ---- what a sector has after a change

-- a sector has no block that it did not have
abbrev pub HasNoMore : Cell → Cell → Type 0
HasNoMore c d = (block : Block) → MayHave (Some d) block → MayHave (Some c) block

-- each of two lists of sectors
holds_by : (R : Cell → Cell → Type 0) → ((c d : Cell) → R c d → HasNoMore c d) → (old new : List Cell) → AllZip R old new → (x : ℕ) (block : Block) → MayHold new x block → MayHold old x block
holds_by R fewer [] [] all x block h = h
holds_by R fewer (c ∷ cs) (d ∷ ds) all zero block h = fewer c d all.0 block h
holds_by R fewer (c ∷ cs) (d ∷ ds) all (suc x) block h = holds_by R fewer cs ds all.1 x block h
holds_by R fewer _ _ all x block h = absurd all

-- a change at one place
holds_changed : (f : Cell → Cell) → ((c : Cell) → HasNoMore c (f c)) → (cells : List Cell) (place x : ℕ) (block : Block) → MayHold (change_at cells place f) x block → MayHold cells x block
holds_changed f fewer [] place x block h = h
holds_changed f fewer (c ∷ cs) zero zero block h = fewer c block h
holds_changed f fewer (c ∷ cs) zero (suc x) block h = h
holds_changed f fewer (c ∷ cs) (suc place) zero block h = h
holds_changed f fewer (c ∷ cs) (suc place) (suc x) block h = holds_changed f fewer cs place x block h

-- a change at each place
holds_mapped : (f : Cell → Cell) → ((c : Cell) → HasNoMore c (f c)) → (cells : List Cell) (x : ℕ) (block : Block) → MayHold (map f cells) x block → MayHold cells x block
holds_mapped f fewer [] x block h = h
holds_mapped f fewer (c ∷ cs) zero block h = fewer c block h
holds_mapped f fewer (c ∷ cs) (suc x) block h = holds_mapped f fewer cs x block h

-- a block that is put
put_has : (c : Cell) (v block : Block) (cached : Bool) → MayHave (Some (put c v cached)) block → MayHave (Some c) block ⊎ (block ≡ v)
put_has c v block cached (inl now) = inr now
put_has c v block true (inr may) = ⊎_elim (λ old. inl (inr old)) (λ new. inr (⊎_elim (λ same. same) (λ none. absurd none) new)) (in_either block c.may (v ∷ []) may)
put_has c v block false (inr may) = inr (⊎_elim (λ same. same) (λ none. absurd none) may)

holds_put : (v : Block) (cached : Bool) (cells : List Cell) (place x : ℕ) (block : Block) → MayHold (change_at cells place (λ c. put c v cached)) x block → MayHold cells x block ⊎ ((place ≡ x) × (v ≡ block))
holds_put v cached [] place x block h = inl h
holds_put v cached (c ∷ cs) zero zero block h = ⊎_elim (λ old. inl old) (λ new. inr (refl, sym new)) (put_has c v block cached h)
holds_put v cached (c ∷ cs) zero (suc x) block h = inl h
holds_put v cached (c ∷ cs) (suc place) zero block h = inl h
holds_put v cached (c ∷ cs) (suc place) (suc x) block h = ⊎_elim (λ old. inl old) (λ new. inr (ap suc new.0, new.1)) (holds_put v cached cs place x block h)

-- ---- all blocks are so

module _ (B : ℕ → Block → Type 0) where
  -- each block that a sector has, or may be left with, is so for this sector
  pub record AllSo (cells : List Cell) : Type 0 where
    pub each : (x : ℕ) (block : Block) → MayHold cells x block → B x block

  -- and so is that of each of these pairs
  abbrev pub PairsSo : List Pair → Type 0
  PairsSo pairs = (p : Pair) → IsIn p pairs → B p.lba p.block

  pub so_same : (old new : List Cell) → new ≡ old → AllSo old → AllSo new
  so_same old new same so = subst AllSo (sym same) so

  pub so_put : (cells : List Cell) (p : Pair) → B p.lba p.block → AllSo cells → AllSo (put_at cells p)
  so_put cells p its so = record {
    each = λ x block h.
        ⊎_elim (λ old. so.each x block old) (λ new. subst (λ y. B y block) new.0 (subst (B p.lba) new.1 its)) (holds_put p.block p.cached cells p.lba x block h);
  }

  -- pairs that are put in order or left out
  pub so_part : (pairs : List Pair) (old new : List Cell) → PairsSo pairs → Part old pairs new → AllSo old → AllSo new
  so_part [] old new its h so = so_same old new h so
  so_part (p ∷ ps) old new its h so =
      ⊎_elim (λ left. so_part ps old new (λ q i. its q (inr i)) left so) (λ done. so_part ps (put_at old p) new (λ q i. its q (inr i)) done (so_put old p (its p (inl refl)) so)) h

  pub so_whole : (pairs : List Pair) (old new : List Cell) → PairsSo pairs → new ≡ whole old pairs → AllSo old → AllSo new
  so_whole pairs old new its same so = so_part pairs old new its (subst (Part old pairs) (sym same) (part_whole old pairs)) so

  -- all is written back
  pub so_settled : (cells : List Cell) → AllSo cells → AllSo (map settle cells)
  so_settled cells so = record { each = λ x block h. so.each x block (holds_mapped settle (λ c v k. ⊎_elim (λ now. inl now) (λ may. ⊎_elim (λ now. inl now) (λ none. absurd none) may) k) cells x block h) }

  -- a loss of entries
  lost_less : (c d : Cell) → Lost c d → HasNoMore c d
  lost_less c d l block h = ⊎_elim (λ now. inl (subst (λ v. block ≡ v) l.now now)) (λ may. inr (leaves_in block c.may d.may l.fewer may)) h

  -- moves
  pub so_moved : {P : Pair → Type 0} → ((p : Pair) → P p → B p.lba p.block) → {old new : List Cell} → Moves P old new → AllSo old → AllSo new
  so_moved its stay so = so
  so_moved its (lose {old = a} {mid = m} l rest) so = so_moved its rest (record { each = λ x block h. so.each x block (holds_by Lost lost_less a m l x block h) })
  so_moved its (write {old = a} p h rest) so = so_moved its rest (so_put a p (its p h) so)

  -- a flaw comes
  pub so_struck : (which : Which) (lba : ℕ) (cells : List Cell) → AllSo cells → AllSo (change_at cells lba (with_flaw which))
  so_struck which lba cells so = record { each = λ x block h. so.each x block (holds_changed (with_flaw which) (flawed which) cells lba x block h) }
    where
      flawed : (w : Which) (c : Cell) → HasNoMore c (with_flaw w c)
      flawed flaws.Read c block h = h
      flawed flaws.Write c block h = h

  -- flaws go
  pub so_mended : (lba : ℕ) (cells : List Cell) → AllSo cells → AllSo (change_at cells lba without_flaws)
  so_mended lba cells so = record { each = λ x block h. so.each x block (holds_changed without_flaws (λ c v k. k) cells lba x block h) }

  -- the power is lost
  left_less : (c d : Cell) → IsLeftBehind c d → HasNoMore c d
  left_less c d l block h =
      ⊎_elim (λ now. inr (subst (λ v. IsIn v c.may) (sym now) l.one)) (λ may. inr (⊎_elim (λ now. subst (λ v. IsIn v c.may) (sym now) l.one) (λ none. absurd none) (subst (IsIn block) l.alone may))) h

  pub so_left : (old new : List Cell) → AllZip IsLeftBehind old new → AllSo old → AllSo new
  so_left old new left so = record { each = λ x block h. so.each x block (holds_by IsLeftBehind left_less old new left x block h) }
