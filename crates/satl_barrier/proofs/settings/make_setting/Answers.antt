use Rattle.std.proofs.lemmas.Result.{on_ok_weaker}
use Rattle.satl_barrier.proofs.CommandsLemmas.{set_on}
use Rattle.satl_barrier.proofs.settings.make_setting.Goals as goal

pub returns-clause-set : goal.returns-clause-set
returns-clause-set g c = on_ok_weaker c.run_bare.result (λ x. set_on _ _ _ _ _ c.subcommand-what.ensures c.requires.has x.run) c.run_bare.ensures.ok
