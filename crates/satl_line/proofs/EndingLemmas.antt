-- What the end of a ranged task leaves of the cells.
use Rattle.std.proofs.Common.{◌≡◌, sym, subst, Bool, List, length}
use Rattle.std.specs.List.{AllByRecursion}
use Rattle.satl_base.specs.Cells.{Pair, AreSound}
use Rattle.satl_base.specs.Moves.{Moves}
use Rattle.satl_base.proofs.ListsLemmas.{All-in}
use Rattle.satl_base.proofs.CellsLemmas.{part_whole, part-length, part-sound}
use Rattle.satl_base.proofs.MovesLemmas.{moves_of_part}
use Rattle.satl_base.specs.Cells.{Part}
use Rattle.satl_line.specs.declared.entry.Entry.{Entry}
use Rattle.satl_line.specs.Eligible.{IsEligible}
use Rattle.satl_line.specs.Ranged.{MayPut, RangedTask, written_pairs, ranged_of}
use Rattle.satl_line.specs.Ending.{EndsAs, Outcome, Surface}
use Rattle.satl_line.specs.Ending.Outcome.{ends_done, ends_flawed, ends_glitched}
use Rattle.std.specs.Prelude.{Some}

-- each way to end writes a part of what the task writes
pub ends_in_part : (cache_on : Bool) (task : RangedTask) (outcome : Outcome) (old new : Surface) → EndsAs cache_on task outcome old new → Part old.cells (written_pairs cache_on task) new.cells
ends_in_part cache_on task (ends_done data_in) old new e = subst (Part old.cells (written_pairs cache_on task)) (sym e.written) (part_whole old.cells (written_pairs cache_on task))
ends_in_part cache_on task (ends_flawed lba) old new e = e.written
ends_in_part cache_on task ends_glitched old new e = e.written

-- and so is made of moves, where each of these pairs may be put
pub ends_by_moves : (P : Pair → Type 0) (cache_on : Bool) (task : RangedTask) (outcome : Outcome) (old new : Surface) → AllByRecursion P (written_pairs cache_on task) → EndsAs cache_on task outcome old new → Moves P old.cells new.cells
ends_by_moves P cache_on task outcome old new may e = moves_of_part P (written_pairs cache_on task) old.cells new.cells may (ends_in_part cache_on task outcome old new e)

-- as each pair of an eligible task may
pub may_put : (cache_on : Bool) (tasks : List Entry) (task : Entry) (ranged : RangedTask) → IsEligible tasks task → ranged_of task ≡ Some ranged → AllByRecursion (MayPut cache_on tasks) (written_pairs cache_on ranged)
may_put cache_on tasks task ranged e is = All-in (MayPut cache_on tasks) (written_pairs cache_on ranged) (λ pair among. record { task = task; eligible = e; ranged = ranged; of_task = is; among = among })

-- no cell comes or goes
pub ends-length : (cache_on : Bool) (task : RangedTask) (outcome : Outcome) (old new : Surface) → EndsAs cache_on task outcome old new → length new.cells ≡ length old.cells
ends-length cache_on task outcome old new e = part-length old.cells new.cells (written_pairs cache_on task) (ends_in_part cache_on task outcome old new e)

-- sound cells stay sound
pub ends-sound : (cache_on : Bool) (task : RangedTask) (outcome : Outcome) (old new : Surface) → AreSound old.cells → EndsAs cache_on task outcome old new → AreSound new.cells
ends-sound cache_on task outcome old new sound e = part-sound old.cells new.cells (written_pairs cache_on task) sound (ends_in_part cache_on task outcome old new e)
