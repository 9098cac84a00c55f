use Rattle.std.proofs.Common.{ap, sym, ◌∙◌}
use Rattle.std.specs.Prelude.{not}
use Rattle.std.proofs.lemmas.Result.{err_from_is_err_and}
use Rattle.satl_barrier.proofs.CommandsLemmas.{lost_first}
use Rattle.satl_barrier.proofs.SettingsLemmas.{tuned_lost, tuned_on, tuned_up}
use Rattle.satl_barrier.proofs.settings.tune.Goals as goal

pub returns-in_err-set_cache-clause-lost : goal.returns-in_err-set_cache-clause-lost
returns-in_err-set_cache-clause-lost g c =
    let p = err_from_is_err_and c.from_residual.result c.from_residual.ensures.1 in
    rw p.1 (lost_first _ _ _ _ tt c.in_err-set_cache.ensures.lost)

pub set_look-requires-clause-up : goal.set_look-requires-clause-up
set_look-requires-clause-up g c = tuned_up _ _ _ _ c.in_ok-set_cache.ensures.tuned

pub set_look-requires-clause-is : goal.set_look-requires-clause-is
set_look-requires-clause-is g c = c.in_ok-set_cache.ensures.tuned.look_is ∙ c.requires.set.look

pub set_look-requires-clause-may : goal.set_look-requires-clause-may
set_look-requires-clause-may g c = λ none. ap not (c.requires.may.look (sym c.set_cache.ensures.stays.says.look ∙ none))

pub returns-in_err-set_look-clause-lost : goal.returns-in_err-set_look-clause-lost
returns-in_err-set_look-clause-lost g c =
    let p = err_from_is_err_and c.from_residual-in_err-set_look.result c.from_residual-in_err-set_look.ensures.1 in
    rw p.1 (tuned_lost _ (g.D.Drive.state c.set_cache.new.drive) _ _ _ c.requires.sound c.in_ok-set_cache.ensures.tuned c.in_err-set_look.ensures.lost)

pub returns-clause-tuned : goal.returns-clause-tuned
returns-clause-tuned g c = tuned_on _ (g.D.Drive.state c.set_cache.new.drive) _ _ _ c.in_ok-set_cache.ensures.tuned c.in_ok-set_look.ensures.tuned
