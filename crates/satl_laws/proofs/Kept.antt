-- A sector that keeps its block, whatever else happens to it.
use Rattle.std.proofs.Common.{◌≡◌, ◌⊎◌, ⊎_elim, inl, inr, refl, sym, ap, ◌∙◌, subst, ℕ, zero, suc, List, [], ◌∷◌, Option, Some, None, map}
use Rattle.std.specs.Prelude.{slice_get}
use Rattle.std.specs.Option.{option_map}
use Rattle.satl_base.specs.declared.bench.Which.{Which}
use Rattle.satl_base.specs.declared.bench.Which.TheVariants as flaws
use Rattle.satl_base.specs.declared.block.Block.{Block}
use Rattle.satl_base.specs.Cells.{Cell, settle}
use Rattle.satl_base.specs.Lists.{IsIn, change_at}
use Rattle.satl_regs.specs.Sectors.{with_flaw, without_flaws}
use Rattle.satl_laws.specs.Untouched.{now_at}

-- the same block is read, and a loss of power leaves no other block than before but for that one
pub record Kept (old new : Cell) : Type 0 where
  pub now : new.now ≡ old.now
  pub fewer : (v : Block) → IsIn v new.may → IsIn v old.may ⊎ (v ≡ old.now)

-- a sector keeps itself
pub kept_none : (c : Cell) → Kept c c
kept_none c = record { now = refl; fewer = λ v i. inl i }

-- and what keeps one that keeps it
kept_on : (a b c : Cell) → Kept a b → Kept b c → Kept a c
kept_on a b c p q = record { now = q.now ∙ p.now; fewer = λ v i. ⊎_elim (λ j. p.fewer v j) (λ same. inr (same ∙ p.now)) (q.fewer v i) }

-- a sector that there is, or none
abbrev pub KeptAs : Option Cell → Option Cell → Type 0
KeptAs None None = Unit {0}
KeptAs (Some c) (Some d) = Kept c d
KeptAs _ _ = ⊥

-- the same of a sector that there is, or none
pub as_none : (o : Option Cell) → KeptAs o o
as_none None = tt
as_none (Some c) = kept_none c

as_on : (a b c : Option Cell) → KeptAs a b → KeptAs b c → KeptAs a c
as_on None None None p q = tt
as_on None (Some y) c p q = absurd p
as_on (Some x) None c p q = absurd p
as_on (Some x) (Some y) (Some z) p q = kept_on x y z p q
as_on _ _ _ p q = absurd q

-- a sector of these cells
pub record KeptAt (x : ℕ) (old new : List Cell) : Type 0 where
  pub at : KeptAs (slice_get old x) (slice_get new x)

-- the same of a sector of some cells
pub at_none : (x : ℕ) (cells : List Cell) → KeptAt x cells cells
at_none x cells = record { at = as_none (slice_get cells x) }

pub at_same : (x : ℕ) (old new : List Cell) → new ≡ old → KeptAt x old new
at_same x old new same = subst (KeptAt x old) (sym same) (at_none x old)

pub at_on : (x : ℕ) (a b c : List Cell) → KeptAt x a b → KeptAt x b c → KeptAt x a c
at_on x a b c p q = record { at = as_on (slice_get a x) (slice_get b x) (slice_get c x) p.at q.at }

-- what is read of it stays
pub at_now : (x : ℕ) (old new : List Cell) → KeptAt x old new → now_at new x ≡ now_at old x
at_now x old new k = of (slice_get old x) (slice_get new x) k.at
  where
    of : (a b : Option Cell) → KeptAs a b → option_map (λ c. c.now) b ≡ option_map (λ c. c.now) a
    of None None h = refl
    of (Some c) (Some d) h = ap Some h.now
    of _ _ h = absurd h

-- each cell is kept
at_map : (f : Cell → Cell) → ((c : Cell) → Kept c (f c)) → (x : ℕ) (cells : List Cell) → KeptAs (slice_get cells x) (slice_get (map f cells) x)
at_map f h x [] = tt
at_map f h zero (c ∷ cs) = h c
at_map f h (suc x) (c ∷ cs) = at_map f h x cs

-- writing back keeps each sector
pub settle_keeps : (x : ℕ) (cells : List Cell) → KeptAt x cells (map settle cells)
settle_keeps x cells = record { at = at_map settle (λ c. record { now = refl; fewer = λ v i. ⊎_elim (λ same. inr same) (λ other. absurd other) i }) x cells }

-- a change at one place that keeps its cell
at_change : (f : Cell → Cell) → ((c : Cell) → Kept c (f c)) → (x lba : ℕ) (cells : List Cell) → KeptAs (slice_get cells x) (slice_get (change_at cells lba f) x)
at_change f h x lba [] = tt
at_change f h zero zero (c ∷ cs) = h c
at_change f h (suc x) zero (c ∷ cs) = as_none (slice_get cs x)
at_change f h zero (suc lba) (c ∷ cs) = kept_none c
at_change f h (suc x) (suc lba) (c ∷ cs) = at_change f h x lba cs

-- a flaw keeps each sector
pub strike_keeps : (which : Which) (x lba : ℕ) (cells : List Cell) → KeptAt x cells (change_at cells lba (with_flaw which))
strike_keeps which x lba cells = record { at = at_change (with_flaw which) (flawed which) x lba cells }
  where
    flawed : (w : Which) (c : Cell) → Kept c (with_flaw w c)
    flawed flaws.Read c = record { now = refl; fewer = λ v i. inl i }
    flawed flaws.Write c = record { now = refl; fewer = λ v i. inl i }

-- and so does taking flaws away
pub mend_keeps : (x lba : ℕ) (cells : List Cell) → KeptAt x cells (change_at cells lba without_flaws)
mend_keeps x lba cells = record { at = at_change without_flaws (λ c. record { now = refl; fewer = λ v i. inl i }) x lba cells }
