-- Writes that spare a sector, and losses, keep its block.
use Rattle.std.proofs.Common.{◌≡◌, ⊎_elim, inl, refl, sym, ap, ◌∙◌, subst, ℕ, zero, suc, false, List, [], ◌∷◌}
use Rattle.std.specs.Prelude.{◌≢◌, ◌==◌, slice_get}
use Rattle.std.specs.List.{list_any}
use Rattle.std.proofs.lemmas.Bool.{or_parts, eqb-false}
use Rattle.satl_base.specs.Cells.{Cell, Pair, Part, put, put_at}
use Rattle.satl_base.specs.Lists.{IsIn, change_at}
use Rattle.satl_base.specs.Losses.{Lost, Loses}
use Rattle.satl_base.specs.Moves.{Moves, stay, lose, write}
use Rattle.satl_base.proofs.ListsLemmas.{leaves_in}
use Rattle.satl_laws.specs.Untouched.{Spares}
use Rattle.satl_laws.proofs.Kept.{Kept, KeptAs, KeptAt, as_none, at_none, at_on, at_same}

-- a change at another place
pub elsewhere : (f : Cell → Cell) (cells : List Cell) (lba x : ℕ) → lba ≢ x → slice_get (change_at cells lba f) x ≡ slice_get cells x
elsewhere f (c ∷ cs) zero zero other = absurd (other refl)
elsewhere f (c ∷ cs) (suc lba) (suc x) other = elsewhere f cs lba x (λ same. other (ap suc same))
elsewhere f _ _ _ other = refl

-- a pair for another sector
put_keeps : (x : ℕ) (cells : List Cell) (p : Pair) → (p.lba == x) ≡ false → KeptAt x cells (put_at cells p)
put_keeps x cells p other =
    record { at = subst (KeptAs (slice_get cells x)) (sym (elsewhere (λ c. put c p.block p.cached) cells p.lba x (eqb-false p.lba x other))) (as_none (slice_get cells x)) }

-- a write that spares the sector, or a part of one
pub part_keeps : (x : ℕ) (ps : List Pair) (cells new : List Cell) → Spares x ps → Part cells ps new → KeptAt x cells new
part_keeps x [] cells new spares h = at_same x cells new h
part_keeps x (p ∷ ps) cells new spares h =
    ⊎_elim
    (λ left. part_keeps x ps cells new rest left)
    (λ done. at_on x cells (put_at cells p) new (put_keeps x cells p (or_parts (p.lba == x) (list_any (λ q. q.lba == x) ps) spares).0) (part_keeps x ps (put_at cells p) new rest done))
    h
  where
    rest : Spares x ps
    rest = (or_parts (p.lba == x) (list_any (λ q. q.lba == x) ps) spares).1

-- a loss of entries keeps a sector
lost_keeps : (c d : Cell) → Lost c d → Kept c d
lost_keeps c d l = record { now = l.now; fewer = λ v i. inl (leaves_in v c.may d.may l.fewer i) }

-- so do losses of all sectors
loses_keep : (x : ℕ) (a b : List Cell) → Loses a b → KeptAs (slice_get a x) (slice_get b x)
loses_keep x [] [] l = tt
loses_keep zero (c ∷ cs) (d ∷ ds) l = lost_keeps c d l.0
loses_keep (suc x) (c ∷ cs) (d ∷ ds) l = loses_keep x cs ds l.1
loses_keep x _ _ l = absurd l

-- moves that put nothing there
pub moves_keep : {P : Pair → Type 0} {a b : List Cell} (x : ℕ) → ((p : Pair) → P p → (p.lba == x) ≡ false) → Moves P a b → KeptAt x a b
moves_keep {a = a} x far stay = at_none x a
moves_keep {b = b} x far (lose {old = a} {mid = m} l rest) = at_on x a m b (record { at = loses_keep x a m l }) (moves_keep x far rest)
moves_keep {b = b} x far (write {old = a} p h rest) = at_on x a (put_at a p) b (put_keeps x a p (far p h)) (moves_keep x far rest)

-- each pair of those that spare a sector
pub spared_in : (x : ℕ) (ps : List Pair) (p : Pair) → Spares x ps → IsIn p ps → (p.lba == x) ≡ false
spared_in x [] p spares i = elim i [ ]
spared_in x (q ∷ qs) p spares i =
    ⊎_elim
    (λ same. ap (λ r. r.lba == x) same ∙ (or_parts (q.lba == x) (list_any (λ r. r.lba == x) qs) spares).0)
    (λ later. spared_in x qs p (or_parts (q.lba == x) (list_any (λ r. r.lba == x) qs) spares).1 later)
    i
