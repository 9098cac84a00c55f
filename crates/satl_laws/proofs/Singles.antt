-- Sectors of which one block alone is left to a loss of power.
use Rattle.std.proofs.Common.{◌≡◌, ◌⊎◌, ⊎_elim, inl, inr, refl, sym, ap, ◌∙◌, subst, ℕ, zero, suc, ◌+◌, Bool, true, false, List, [], ◌∷◌, Some, map, eqb-true}
use Rattle.std.specs.Prelude.{◌==◌, ◌&&◌, ◌||◌, not, slice_get}
use Rattle.std.specs.List.{AllByRecursion, list_any}
use Rattle.std.proofs.lemmas.Bool.{and_right, eqb-false}
use Rattle.std.proofs.lemmas.Option.{same_Some}
use Rattle.satl_base.specs.declared.block.Block.{Block}
use Rattle.satl_base.specs.Cells.{Cell, Pair, pairs_from, put, put_at, settle, whole}
use Rattle.satl_base.specs.Lists.{IsIn, change_at}
use Rattle.satl_laws.proofs.SparedCells.{elsewhere}

-- a loss of power leaves what a read gives
pub record IsSingle (x : ℕ) (cells : List Cell) : Type 0 where
  pub each : (c : Cell) → slice_get cells x ≡ Some c → (v : Block) → IsIn v c.may → v ≡ c.now

-- a sector that was written back is single
settled_here : (cells : List Cell) (x : ℕ) (c : Cell) → slice_get (map settle cells) x ≡ Some c → (v : Block) → IsIn v c.may → v ≡ c.now
settled_here [] x c h = absurd cc
settled_here (d ∷ ds) zero c h =
    subst (λ e. (v : Block) → IsIn v e.may → v ≡ e.now) (same_Some (settle d) c h) (λ v i. ⊎_elim (λ same. same) (λ other. absurd other) i)
settled_here (d ∷ ds) (suc x) c h = settled_here ds x c h

-- so is each where all were written back
pub settled_single : (x : ℕ) (cells new : List Cell) → new ≡ map settle cells → IsSingle x new
settled_single x cells new is = subst (IsSingle x) (sym is) (record { each = settled_here cells x })

-- a block that is written past the cache is single
put_here : (cells : List Cell) (x : ℕ) (block : Block) (d : Cell) → slice_get (change_at cells x (λ c. put c block false)) x ≡ Some d → (v : Block) → IsIn v d.may → v ≡ d.now
put_here [] x block d h = absurd cc
put_here (c ∷ cs) zero block d h =
    subst (λ e. (v : Block) → IsIn v e.may → v ≡ e.now) (same_Some (put c block false) d h) (λ v i. ⊎_elim (λ same. same) (λ other. absurd other) i)
put_here (c ∷ cs) (suc x) block d h = put_here cs x block d h

-- whether a pair is written past the cache to this sector
abbrev pub past_cache : ℕ → Pair → Bool
past_cache x p = (p.lba == x) && not p.cached

-- a pair past the cache makes its sector single
put_single : (x : ℕ) (cells : List Cell) (p : Pair) → p.cached ≡ false → (p.lba == x) ≡ true → IsSingle x (put_at cells p)
put_single x cells p past here =
    subst (λ (b : Bool). IsSingle x (change_at cells p.lba (λ c. put c p.block b))) (sym past)
    (subst (λ (l : ℕ). IsSingle x (change_at cells l (λ c. put c p.block false))) (sym (eqb-true p.lba x here)) (record { each = put_here cells x p.block }))

-- a pair for another sector leaves it single
put_still : (x : ℕ) (cells : List Cell) (p : Pair) → (p.lba == x) ≡ false → IsSingle x cells → IsSingle x (put_at cells p)
put_still x cells p other s = record { each = λ c h. s.each c (sym (elsewhere (λ d. put d p.block p.cached) cells p.lba x (eqb-false p.lba x other)) ∙ h) }

-- pairs past the cache make their sectors single
whole_single : (x : ℕ) (ps : List Pair) (cells : List Cell) → AllByRecursion (λ p. p.cached ≡ false) ps → IsSingle x cells ⊎ (list_any (past_cache x) ps ≡ true) → IsSingle x (whole cells ps)
whole_single x [] cells past h = ⊎_elim (λ s. s) (λ clash. absurd cc) h
whole_single x (p ∷ ps) cells past h =
    (elim (p.lba == x) as (λ b. (p.lba == x) ≡ b → IsSingle x cells ⊎ (((b && not p.cached) || list_any (past_cache x) ps) ≡ true) → IsSingle x (whole (put_at cells p) ps)) [
      | true ↦ λ here g. whole_single x ps (put_at cells p) past.1 (inl (put_single x cells p past.0 here))
      | false ↦ λ other g. whole_single x ps (put_at cells p) past.1 (⊎_elim (λ s. inl (put_still x cells p other s)) (λ later. inr later) g)
    ]) refl h

-- pairs through the cache are not past it
none_past : (x lba : ℕ) (blocks : List Block) → list_any (past_cache x) (pairs_from lba blocks true) ≡ false
none_past x lba [] = refl
none_past x lba (v ∷ vs) = ap (λ b. b || list_any (past_cache x) (pairs_from (lba + 1) vs true)) (and_right (lba == x) false refl) ∙ none_past x (lba + 1) vs

-- and those past it all are
all_past : (lba : ℕ) (blocks : List Block) → AllByRecursion (λ p. p.cached ≡ false) (pairs_from lba blocks false)
all_past lba [] = tt
all_past lba (v ∷ vs) = (refl, all_past (lba + 1) vs)

-- a write some pair of which goes past the cache makes that pair's sector single
pub written_single : (x lba : ℕ) (blocks : List Block) (cells : List Cell) (b : Bool) → list_any (past_cache x) (pairs_from lba blocks b) ≡ true → IsSingle x (whole cells (pairs_from lba blocks b))
written_single x lba blocks cells true h = absurd (let clash : true ≡ false = sym h ∙ none_past x lba blocks in cc)
written_single x lba blocks cells false h = whole_single x (pairs_from lba blocks false) cells (all_past lba blocks) (inr h)
