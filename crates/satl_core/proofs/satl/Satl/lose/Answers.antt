use Rattle.std.proofs.Common.{sym, subst}
use Rattle.std.specs.List.{AllByRecursion}
use Rattle.satl_frame.specs.Output.{IsWritable}
use Rattle.satl_line.proofs.SlotsLemmas.{All-append}
use Rattle.satl_core.specs.Turning.{lost_replies}
use Rattle.satl_core.proofs.TurningLemmas.{lost_writable}
use Rattle.satl_core.proofs.satl.Satl.lose.Goals as goal

pub returns-clause-writable : goal.returns-clause-writable
returns-clause-writable c = λ all.
    subst (AllByRecursion IsWritable) (sym c.lose_tasks.ensures.answers)
    (All-append IsWritable c.args.replies.now (lost_replies c.self.inside.modes.d_sense c.self.inside.queue.tasks) all (lost_writable c.self.inside.modes.d_sense c.self.inside.identity c.self.inside.queue.tasks c.self.invariant.kept))
