-- Moves one after another, and what part of a write is.
use Rattle.std.proofs.Common.{◌≡◌, ⊎_elim, refl, sym, ◌∙◌, subst, List, [], ◌∷◌, length}
use Rattle.std.specs.List.{AllByRecursion}
use Rattle.satl_base.specs.Cells.{Cell, Pair, AreSound, put, put_at, whole, Part}
use Rattle.satl_base.specs.Losses.{Loses}
use Rattle.satl_base.specs.Moves.{Moves}
use Rattle.satl_base.specs.Moves.{stay, lose, write}
use Rattle.satl_base.proofs.CellsLemmas.{change_at-length, change_at-sound, put-sound}
use Rattle.satl_base.proofs.LossesLemmas.{loses-length, loses-sound}

pub moves_on : {P : Pair → Type 0} {a b c : List Cell} → Moves P a b → Moves P b c → Moves P a c
moves_on stay n = n
moves_on (lose l m) n = lose l (moves_on m n)
moves_on (write p h m) n = write p h (moves_on m n)

pub moves_weaker : {P Q : Pair → Type 0} → ((p : Pair) → P p → Q p) → {a b : List Cell} → Moves P a b → Moves Q a b
moves_weaker f stay = stay
moves_weaker f (lose l m) = lose l (moves_weaker f m)
moves_weaker f (write p h m) = write p (f p h) (moves_weaker f m)

-- a loss is a move
pub lose_once : {P : Pair → Type 0} {a b : List Cell} → Loses a b → Moves P a b
lose_once l = lose l stay

-- part of a write is moves, where each pair may be put
pub moves_of_part : (P : Pair → Type 0) (ps : List Pair) (old new : List Cell) → AllByRecursion P ps → Part old ps new → Moves P old new
moves_of_part P [] old new all h = subst (λ c. Moves P old c) (sym h) stay
moves_of_part P (p ∷ ps) old new all h =
    ⊎_elim (λ left. moves_of_part P ps old new all.1 left) (λ done. write p all.0 (moves_of_part P ps (put_at old p) new all.1 done)) h

-- carrying a write out is moves, where each pair may be put
pub moves_of_whole : (P : Pair → Type 0) (ps : List Pair) (old : List Cell) → AllByRecursion P ps → Moves P old (whole old ps)
moves_of_whole P [] old all = stay
moves_of_whole P (p ∷ ps) old all = write p all.0 (moves_of_whole P ps (put_at old p) all.1)

-- no move changes how many cells there are
pub moves-length : {P : Pair → Type 0} {a b : List Cell} → Moves P a b → length b ≡ length a
moves-length stay = refl
moves-length (lose {old = a} {mid = b} l m) = moves-length m ∙ loses-length a b l
moves-length (write {old = a} p h m) = moves-length m ∙ change_at-length a p.lba (λ c. put c p.block p.cached)

-- moves keep cells sound
pub moves-sound : {P : Pair → Type 0} {a b : List Cell} → Moves P a b → AreSound a → AreSound b
moves-sound stay s = s
moves-sound (lose {old = a} {mid = b} l m) s = moves-sound m (loses-sound a b l)
moves-sound (write {old = a} p h m) s = moves-sound m (change_at-sound a p.lba (λ c. put c p.block p.cached) (λ c. put-sound c p.block p.cached) s)
