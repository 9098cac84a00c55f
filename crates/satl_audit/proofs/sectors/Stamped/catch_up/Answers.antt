use Rattle.std.proofs.Common.{sym, ap, ◌∙◌}
use Rattle.std.specs.Prelude.{nat_lt}
use Rattle.satl_audit.specs.Sweeps.{after_first}
use Rattle.satl_audit.proofs.CatchingUp.{caught_is, copied_at, if_lost}
use Rattle.satl_audit.proofs.sectors.Stamped.catch_up.Goals as goal

pub returns-clause-kept : goal.returns-clause-kept
returns-clause-kept c =
    c.in_ok-power_if.ensures
    ∙ ap (if_lost (nat_lt c.args.self.now.seen c.args.swept_at_loss)) (c.settle_first.ensures ∙ ap (λ o. after_first o c.args.self.now.kept) (c.copied-first.ensures ∙ copied_at c.args.sweeps.now c.args.self.now.seen c.get.result c.get.ensures.lookup.3))
    ∙ sym (caught_is c.args.self.now.seen c.args.swept_at_loss c.args.sweeps.now c.args.self.now.kept c.requires.at_loss)
