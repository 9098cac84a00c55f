use Rattle.std.proofs.Common.{refl, ◌∙◌}
use Rattle.std.proofs.lemmas.Result.{on_ok_weaker}
use Rattle.satl_barrier.proofs.SettingsLemmas.{both_so, cache_tuned, tuned_already}
use Rattle.satl_barrier.proofs.settings.set_cache.Goals as goal

pub returns-then-is_on-on-clause-tuned : goal.returns-then-is_on-on-clause-tuned
returns-then-is_on-on-clause-tuned g c = tuned_already _ _ _ c.requires.up c.requires.sound (c.requires.is ∙ both_so _ _ c.if-is_on-on.true) refl

pub returns-clause-tuned : goal.returns-clause-tuned
returns-clause-tuned g c = on_ok_weaker c.make_setting.result (cache_tuned _ _ _ c.requires.sound) c.make_setting.ensures.set
