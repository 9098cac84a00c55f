use Rattle.satl_barrier.proofs.CommandsLemmas.{told}
use Rattle.satl_barrier.proofs.commands.tell_identity.Goals as goal

pub returns-clause-told : goal.returns-clause-told
returns-clause-told g c = told _ _ _ c.in_ok-run.ensures.ok
