use Rattle.satl_regs.proofs.Commands.{command_back}
use Rattle.satl_regs.proofs.writing.put_command.Goals as goal

pub returns-clause-again : goal.returns-clause-again
returns-clause-again c = rw c.registers_of.ensures (command_back c.args.command.now c.requires)
