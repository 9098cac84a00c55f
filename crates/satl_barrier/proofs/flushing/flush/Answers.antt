use Rattle.std.proofs.lemmas.Result.{on_ok_weaker}
use Rattle.satl_barrier.proofs.FlushingLemmas.{flushed}
use Rattle.satl_barrier.proofs.flushing.flush.Goals as goal

pub returns-clause-flushed : goal.returns-clause-flushed
returns-clause-flushed g c = on_ok_weaker c.run_bare.result (flushed _ _) c.run_bare.ensures.ok
