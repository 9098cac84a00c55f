use Rattle.std.proofs.Common.{refl}
use Rattle.std.proofs.lemmas.Result.{on_err_weaker}
use Rattle.satl_barrier.proofs.CommandsLemmas.{among, cut_stays, lost_first, passed_cut, passed_stays}
use Rattle.satl_barrier.proofs.FinishingLemmas.{either_way}
use Rattle.satl_barrier.proofs.passing.pass_through.Goals as goal

pub returns-clause-lost : goal.returns-clause-lost
returns-clause-lost g c = on_err_weaker c.run-ended.result (λ x. lost_first _ _ _ _ (among _ _ refl) (passed_cut _ c.args.regs.now c.args.pages.now _ x)) c.run-ended.ensures.err

pub returns-clause-stays : goal.returns-clause-stays
returns-clause-stays g c =
    either_way c.run-ended.result
    (λ ended x. passed_stays (record { registers = c.args.regs.now; given = c.args.pages.now; ended = ended; taken = c.run-ended.new.pages }) _ _ c.requires.free (c.run-ended.ensures.fit c.requires.free.fit) x)
    (λ x. cut_stays _ _ _ (c.run-ended.ensures.fit c.requires.free.fit) (passed_cut _ c.args.regs.now c.args.pages.now _ x))
    c.run-ended.ensures.ok
    c.run-ended.ensures.err
