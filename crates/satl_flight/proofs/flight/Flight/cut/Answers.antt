use Rattle.std.proofs.lemmas.Result.{on_err_weaker, on_ok_weaker}
use Rattle.satl_flight.proofs.LaunchedLemmas.{cut_all, lost_reset}
use Rattle.satl_flight.proofs.SettlingLemmas.{can_poll}
use Rattle.satl_flight.proofs.flight.Flight.cut.Goals as goal

pub soft_reset-reset-requires : goal.soft_reset-reset-requires
soft_reset-reset-requires g c = (can_poll _ _ _ c.requires.lending _ c.requires.tie).filled

pub returns-clause-ok : goal.returns-clause-ok
returns-clause-ok g c = on_ok_weaker c.soft_reset-reset.result (λ reset. cut_all _ _ _ c.requires.tie _ reset) c.soft_reset-reset.ensures.ok

pub returns-clause-err : goal.returns-clause-err
returns-clause-err g c = on_err_weaker c.soft_reset-reset.result (λ lost. lost_reset _ _ _ c.requires.tie _ lost) c.soft_reset-reset.ensures.err
