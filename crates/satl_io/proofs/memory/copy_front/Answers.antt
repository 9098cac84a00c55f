use Rattle.std.proofs.Common.{◌≡◌, List, ℕ, ◌++◌, length, take, drop, arith, refl, sym}
use Rattle.std.proofs.lemmas.List.{take-append-drop, take_at}
use Rattle.std.proofs.lemmas.Grind.{common_steps}
use Rattle.satl_io.proofs.memory.copy_front.Goals as goal

-- what stands in front after the front was overwritten
front_is : (n : ℕ) (front rest from : List ℕ) → front ≡ take n from → n ≡ length front → from ≡ take n (front ++ rest) ++ drop n from
front_is n front rest from e l = rw (take_at front rest n (sym l), e, take-append-drop) refl

pub returns-clause-copied : goal.returns-clause-copied
returns-clause-copied c = front_is c.min-count.result c.copy_from_slice.new.self _ c.args.from.now c.copy_from_slice.ensures.after (grind (arith, common_steps, c.copy_from_slice.ensures.len))
