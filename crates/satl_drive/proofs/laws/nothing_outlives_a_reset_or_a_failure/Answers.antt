use Rattle.std.proofs.Common.{ap, sym, ◌∙◌}
use Rattle.satl_drive.proofs.laws.nothing_outlives_a_reset_or_a_failure.Goals as goal

pub returns-clause-reset : goal.returns-clause-reset
returns-clause-reset c = λ old new reset. (ap (λ d. d.outstanding) reset.stays, ap (λ d. d.error) reset.stays)

pub returns-clause-failure : goal.returns-clause-failure
returns-clause-failure c = λ old new slots taken polled.
    let failed = polled.reports in
    (ap (λ d. d.outstanding) failed.stays, λ none. absurd cc (sym none ∙ ap (λ d. d.error) failed.stays))
