use Rattle.std.proofs.Common.{refl, sym, ap, ◌∙◌, arith}
use Rattle.satl_base.proofs.OutcomeLemmas.{any_err}
use Rattle.satl_barrier.specs.Commands.IsUndisturbed.{cut_off, untouched, written_back}
use Rattle.satl_flight.specs.Lending.{Waiting}
use Rattle.satl_core.specs.Layer.{held_pages}
use Rattle.satl_barrier.proofs.CommandsLemmas.{cut_nows}
use Rattle.satl_core.proofs.OpeningLemmas.{judged_as_told, opened, told_nows}
use Rattle.satl_core.proofs.satl.Satl.open.Goals as goal

pub returns-in_err-tell_identity-clause-nows : goal.returns-in_err-tell_identity-clause-nows
returns-in_err-tell_identity-clause-nows g c = cut_nows _ _ c.in_err-tell_identity.ensures.lost

pub returns-in_err-identity-clause-nows : goal.returns-in_err-identity-clause-nows
returns-in_err-identity-clause-nows g c = told_nows _ _ _ _ c.in_ok-tell_identity.ensures.told

pub returns-clause-opened : goal.returns-clause-opened
returns-clause-opened g c =
    opened _ _ _ _ _ _ _ _ _ c.requires.idle c.requires.no_error c.in_ok-tell_identity.ensures.told c.requires.fit c.tell_identity.ensures.stays.free.fit
    (sym (judged_as_told _ _ _ _ _ _ c.in_ok-tell_identity.ensures.told c.block.ensures c.read_identity.ensures.judged) ∙ c.in_ok-identity.was) c.first_modes.ensures.wce c.first_modes.ensures.dra c.first_modes.ensures.d_sense c.in_ok-queue.ensures c.no_attentions.ensures
    (omega (arith, c.in_ok-pool.ensures.out, c.in-Some.ensures.out, c.in-Some.ensures.pages, c.tell_identity.ensures.size, c.give.ensures.out, ap (λ (w : Waiting). held_pages w.tasks) c.in_ok-queue.ensures))

pub returns-clause-nows : goal.returns-clause-nows
returns-clause-nows g c = told_nows _ _ _ _ c.in_ok-tell_identity.ensures.told

pub returns-in_err-queue-clause-alone : goal.returns-in_err-queue-clause-alone
returns-in_err-queue-clause-alone g c = any_err c.from_residual.result _ (untouched refl)

pub returns-in_err-desk-clause-alone : goal.returns-in_err-desk-clause-alone
returns-in_err-desk-clause-alone g c = any_err c.from_residual-in_err-desk.result _ (untouched refl)

pub returns-in_err-pool-clause-alone : goal.returns-in_err-pool-clause-alone
returns-in_err-pool-clause-alone g c = any_err c.from_residual-in_err-pool.result _ (untouched refl)

pub returns-in_err-tell_identity-clause-alone : goal.returns-in_err-tell_identity-clause-alone
returns-in_err-tell_identity-clause-alone g c = any_err c.from_residual-in_err-tell_identity.result _ (cut_off c.in_err-tell_identity.ensures.lost)

pub returns-in_err-identity-clause-alone : goal.returns-in_err-identity-clause-alone
returns-in_err-identity-clause-alone g c = any_err c.from_residual-in_err-identity.result _ (written_back c.in_ok-tell_identity.ensures.told.lost c.in_ok-tell_identity.ensures.told.stays)
