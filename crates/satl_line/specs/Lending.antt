-- A write through a borrowed task.
use Rattle.std.specs.Borrow.{Lends, MutBor, Fml}
use Rattle.satl_line.specs.declared.entry.Entry.{Entry}
use Rattle.satl_line.specs.contracts.entry.Entry.{the_row as entry_row}
use Rattle.satl_line.specs.contracts.boxed.TaskBox.{the_row as box_row}

-- a box ends with the last task that was written through the result (profile)
abbrev pub LendsEntry : MutBor Entry → MutBor Entry → Fml
LendsEntry s r = Lends box_row entry_row s r (λ w. w)
