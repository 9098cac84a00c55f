use Rattle.std.proofs.Common.{sym, subst}
use Rattle.std.specs.Prelude.{IfNone}
use Rattle.satl_cdb.specs.declared.command.Command.{Command}
use Rattle.satl_cdb.specs.declared.command.Command.TheVariants as commands
use Rattle.satl_asks.specs.Commands.{CanPass}
use Rattle.satl_asks.proofs.Passing.{can_unless_refused}
use Rattle.satl_asks.proofs.commands.fields_fault.Goals as goal

pub returns-in-Pass-clause-can : goal.returns-in-Pass-clause-can
returns-in-Pass-clause-can c =
    subst (λ (command : Command). IfNone c.err.result (CanPass command)) (sym c.in-Pass.is)
    (subst (λ o. IfNone o (CanPass (commands.Pass c.in-Pass.cdb))) (sym c.err.ensures.value) (can_unless_refused c.in-Pass.cdb c.read_pass.result c.read_pass.ensures.says c.read_pass.ensures.can_run))
