use Rattle.std.proofs.lemmas.Result.{IfOk-weaker, on_err_weaker}
use Rattle.satl_barrier.proofs.CommandsLemmas.{stays_on}
use Rattle.satl_barrier.proofs.VerifyingLemmas.{compares_on, lost_on, still_clean, verified_done}
use Rattle.satl_barrier.proofs.comparing.compare.Goals as goal

pub compare_pieces-requires-clause-clean : goal.compare_pieces-requires-clause-clean
compare_pieces-requires-clause-clean g c = still_clean _ _ _ (verified_done c.args.range _ _ _ c.in_default.is c.in_ok-lba.ensures.verified)

pub returns-clause-compares : goal.returns-clause-compares
returns-clause-compares g c =
    IfOk-weaker c.compare_pieces.result _ _
    (λ it x. compares_on _ _ (g.D.Drive.state c.verify.new.drive) _ (verified_done c.args.range _ _ _ c.in_default.is c.in_ok-lba.ensures.verified) c.in_ok-lba.ensures.stays c.args.blocks.now it x)
    c.compare_pieces.ensures.compares

pub returns-clause-lost : goal.returns-clause-lost
returns-clause-lost g c =
    on_err_weaker c.compare_pieces.result
    (λ x. lost_on _ _ (g.D.Drive.state c.verify.new.drive) _ (verified_done c.args.range _ _ _ c.in_default.is c.in_ok-lba.ensures.verified) c.in_ok-lba.ensures.stays x)
    c.compare_pieces.ensures.lost

pub returns-clause-stays : goal.returns-clause-stays
returns-clause-stays g c = stays_on _ (g.D.Drive.state c.verify.new.drive) _ c.in_ok-lba.ensures.stays c.compare_pieces.ensures.stays
