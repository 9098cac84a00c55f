use Rattle.satl_regs.proofs.Commands.{other_has_no_row, no_row_is_other}
use Rattle.satl_regs.proofs.reading.command_of.Goals as goal

pub returns-clause-other : goal.returns-clause-other
returns-clause-other c =
    rw c.listed_or_other.ensures (other_has_no_row c.args.regs.now, no_row_is_other c.args.regs.now)
