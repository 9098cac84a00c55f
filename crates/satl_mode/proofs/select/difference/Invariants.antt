use Rattle.satl_mode.specs.SelectList.{difference}
use Rattle.std.proofs.Common.{◌≡◌, ◌-◌}
use Rattle.satl_mode.specs.ModePages.{row_of, size_of}
use Rattle.satl_mode.proofs.select.difference.Given as goal

abbrev pub invariant-loop-at : goal.invariant-loop-at
invariant-loop-at l = difference l.identity l.modes l.list l.page l.place l.at (size_of l.page - l.at) ≡ difference l.identity l.modes l.list l.page l.place 2 (row_of l.page).length
