use Rattle.satl_line.specs.Conflict.{conflicts}
use Rattle.satl_line.specs.Layout.{held_in}
use Rattle.satl_line.proofs.AmongLemmas.{Looked}
use Rattle.satl_line.proofs.set.mask_against.Given as goal

abbrev pub invariant-loop-rest : goal.invariant-loop-rest
invariant-loop-rest l = Looked (λ q. conflicts (held_in l.slots q).entry l.entry) l.among l.rest l.mask

abbrev pub decreases-loop-rest : goal.decreases-loop-rest
decreases-loop-rest l = l.rest
