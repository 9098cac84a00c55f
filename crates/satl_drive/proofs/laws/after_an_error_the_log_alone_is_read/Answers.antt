use Rattle.std.proofs.Common.{sym, ◌∙◌, subst}
use Rattle.satl_regs.specs.Commands.{command_in}
use Rattle.satl_drive.specs.Rules.{MayRun}
use Rattle.satl_drive.proofs.laws.after_an_error_the_log_alone_is_read.Goals as goal

pub returns-clause-issue : goal.returns-clause-issue
returns-clause-issue c = λ d e r slots command pages failed can. absurd cc (sym failed ∙ can.no_error)

pub returns-clause-poll : goal.returns-clause-poll
returns-clause-poll c = λ d e slots failed can. absurd cc (sym failed ∙ can.no_error)

pub returns-clause-run : goal.returns-clause-run
returns-clause-run c = λ d e r pages failed can. subst (λ error. MayRun error (command_in r)) failed can.error
