-- Drives that are made one after the other.
use Rattle.std.proofs.Common.{List, [], ◌∷◌, ◌++◌, map}
use Rattle.std.specs.List.{AllByRecursion}
use Rattle.satl_drive.specs.State.{DriveState}
use Rattle.satl_barrier.specs.Leaving.{IsFree}

pub one_more : {D : Type 0} (f : D → DriveState) (ds : List D) (d : D) → AllByRecursion IsFree (map f ds) → IsFree (f d) → AllByRecursion IsFree (map f (ds ++ d ∷ []))
one_more f [] d all able = (able, tt)
one_more f (x ∷ xs) d all able = (all.0, one_more f xs d all.1 able)
