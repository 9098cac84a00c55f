use Rattle.std.proofs.lemmas.Result.{on_ok_weaker}
use Rattle.satl_barrier.proofs.FlushingLemmas.{flushed_if, not_flushed}
use Rattle.satl_barrier.proofs.flushing.flush_unless.Goals as goal

pub returns-then-no_flush-clause-flushed : goal.returns-then-no_flush-clause-flushed
returns-then-no_flush-clause-flushed g c = not_flushed c.args.no_flush (g.D.Drive.state c.args.drive.now) c.if-no_flush.true c.requires.up c.requires.sound

pub returns-clause-flushed : goal.returns-clause-flushed
returns-clause-flushed g c = on_ok_weaker c.flush.result (flushed_if c.args.no_flush _ _ c.if-no_flush.false) c.flush.ensures.flushed
