use Rattle.std.proofs.Common.{ap, ◌∙◌, arith}
use Rattle.satl_regs.specs.Sectors.{with_flaw}
use Rattle.satl_drive.proofs.Commands.{change_behind}
use Rattle.satl_drive.proofs.laws.a_strike_outside_the_capacity_changes_nothing.Goals as goal

pub returns : goal.returns
returns c = λ which lba old new fit beyond struck.
    struck ∙ ap (λ cells. record old { cells = cells }) (change_behind (with_flaw which) old.cells lba (omega (arith, beyond, fit.sectors)))
