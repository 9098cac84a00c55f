use Rattle.std.proofs.Common.{◌+◌, length}
use Rattle.std.specs.Prelude.{◌==◌, nat_lt}
use Rattle.std.proofs.lemmas.Bool.{eq-eqb, lt-ltb, or_left, or_right}
use Rattle.satl_direct.specs.Tasks.{held_blocks, held_by}
use Rattle.satl_direct.proofs.Steps.{full_answers, placed_below, stays_within}
use Rattle.satl_direct.proofs.laws.a_full_task_set_takes_nothing.Goals as goal

pub returns-clause-tasks : goal.returns-clause-tasks
returns-clause-tasks c = λ s r command many.
    full_answers s r command (or_left (length s.tasks == 64) (nat_lt 32768 (held_by s.tasks + held_blocks command)) (eq-eqb (length s.tasks) 64 many))

pub returns-clause-blocks : goal.returns-clause-blocks
returns-clause-blocks c = λ s r command many.
    full_answers s r command (or_right (length s.tasks == 64) (nat_lt 32768 (held_by s.tasks + held_blocks command)) (lt-ltb 32768 (held_by s.tasks + held_blocks command) many))

pub returns-clause-never_more : goal.returns-clause-never_more
returns-clause-never_more c = λ s r command t few is. stays_within s.tasks t few (placed_below s r command t is)
