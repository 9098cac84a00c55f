use Rattle.std.proofs.Common.{arith}
use Rattle.satl_drive.proofs.laws.a_lost_link_is_counted.Goals as goal

pub returns-clause-run : goal.returns-clause-run
returns-clause-run c = λ old new r given few lost. omega (arith, few, lost.cut.rose)

pub returns-clause-issue : goal.returns-clause-issue
returns-clause-issue c = λ old new command pages few lost. omega (arith, few, (lost.0).rose)

pub returns-clause-poll : goal.returns-clause-poll
returns-clause-poll c = λ old new slots taken few lost. omega (arith, few, lost.cut.rose)

pub returns-clause-reset : goal.returns-clause-reset
returns-clause-reset c = λ old new few lost. omega (arith, few, (lost.0).rose)
