-- Pairs are put in order or left out, or every sector is written back.
use Rattle.std.proofs.Common.{◌≡◌, sym, ap, ◌∙◌, subst, ℕ, List, [], map, length}
use Rattle.std.proofs.lemmas.List.{length-map}
use Rattle.satl_base.specs.Cells.{Cell, Pair, Part, settle, whole}
use Rattle.satl_base.proofs.CellsLemmas.{part_whole, part-length}
use Rattle.satl_laws.specs.Untouched.{Spares}
use Rattle.satl_laws.proofs.Kept.{KeptAt, settle_keeps}
use Rattle.satl_laws.proofs.SparedCells.{part_keeps}

-- pairs are put in order or left out, or every sector is written back
pub data Steps (pairs : List Pair) (old : List Cell) : List Cell → Type 0 where
  parts : {new : List Cell} → Part old pairs new → Steps pairs old new
  settles : {new : List Cell} → new ≡ map settle old → Steps pairs old new

-- nothing is put
pub stays : (old new : List Cell) → new ≡ old → Steps [] old new
stays old new same = parts same

-- every pair is put
pub all_of : (pairs : List Pair) (old new : List Cell) → new ≡ whole old pairs → Steps pairs old new
all_of pairs old new same = parts (subst (Part old pairs) (sym same) (part_whole old pairs))

-- there are as many sectors as before
pub steps-length : (pairs : List Pair) (old new : List Cell) → Steps pairs old new → length new ≡ length old
steps-length pairs old new (parts p) = part-length old new pairs p
steps-length pairs old new (settles s) = ap length s ∙ length-map old settle

-- a sector that the pairs spare is kept
pub steps_keep : (x : ℕ) (pairs : List Pair) (old new : List Cell) → Spares x pairs → Steps pairs old new → KeptAt x old new
steps_keep x pairs old new spares (parts p) = part_keeps x pairs old new spares p
steps_keep x pairs old new spares (settles s) = subst (KeptAt x old) (sym s) (settle_keeps x old)
