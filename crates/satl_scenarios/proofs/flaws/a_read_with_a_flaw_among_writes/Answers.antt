use Rattle.satl_scenarios.proofs.FlawRuns.{read_fails_among_writes}
use Rattle.satl_scenarios.proofs.KeepingLaws.{of_untouched}
use Rattle.satl_scenarios.proofs.flaws.a_read_with_a_flaw_among_writes.Goals as goal

pub returns-clause-run : goal.returns-clause-run
returns-clause-run c = read_fails_among_writes

pub returns-clause-law : goal.returns-clause-law
returns-clause-law c = of_untouched
