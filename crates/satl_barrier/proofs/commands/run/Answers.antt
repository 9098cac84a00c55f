use Rattle.satl_barrier.proofs.CommandsLemmas.{can_run, cut_short, cut_stays, has_run, run_stays}
use Rattle.satl_barrier.proofs.commands.run.Goals as goal

pub run-requires : goal.run-requires
run-requires g c = can_run _ c.args.command.now _ _ c.requires.free.idle c.requires.free.no_error c.requires.named c.requires.room c.put_command-regs.ensures.exact c.put_command-regs.ensures.again

pub returns-in-Ok-clause-ok : goal.returns-in-Ok-clause-ok
returns-in-Ok-clause-ok g c = has_run c.args.command.now _ _ _ c.requires.free.no_error c.put_command-regs.ensures.exact c.put_command-regs.ensures.again c.in-Ok.ensures.ok

pub returns-in-Ok-clause-stays : goal.returns-in-Ok-clause-stays
returns-in-Ok-clause-stays g c = run_stays c.args.command.now _ _ _ c.requires.free (c.run.ensures.fit c.requires.free.fit) (has_run c.args.command.now _ _ _ c.requires.free.no_error c.put_command-regs.ensures.exact c.put_command-regs.ensures.again c.in-Ok.ensures.ok)

pub returns-in-Err-clause-err : goal.returns-in-Err-clause-err
returns-in-Err-clause-err g c = cut_short _ c.args.command.now _ _ _ c.put_command-regs.ensures.again c.in-Err.ensures.err

pub returns-in-Err-clause-stays : goal.returns-in-Err-clause-stays
returns-in-Err-clause-stays g c = cut_stays _ _ _ (c.run.ensures.fit c.requires.free.fit) (cut_short _ c.args.command.now _ _ _ c.put_command-regs.ensures.again c.in-Err.ensures.err)
