use Rattle.std.proofs.Common.{sym, ap, subst, ◌∙◌, ◌≡◌, map, drop, List}
use Rattle.std.specs.Prelude.{nat_lt}
use Rattle.satl_audit.specs.Kept.{kept_settle}
use Rattle.satl_audit.specs.Sweeps.{has_power}
use Rattle.satl_audit.specs.declared.sectors.Sweep.{Sweep}
use Rattle.satl_audit.specs.declared.sectors.Sweep.TheVariants.{Settled}
use Rattle.satl_audit.proofs.SweepLemmas.{AllSeen, all_swept, now_kept, power_settled, seen_still}
use Rattle.satl_audit.proofs.sectors.Sectors.settle.Goals as goal

pub invariant_of-self-2 : goal.invariant_of-self-2
invariant_of-self-2 c =
    let old = c.self.inside in
    let more = sym c.in_ok-push.ensures.items in (
      subst (λ (ss : List Sweep). AllSeen ss old.stamped.items) more (seen_still old.sweeps.items Settled old.stamped.items c.self.invariant.0),
      λ n. subst (λ (ss : List Sweep). has_power (drop n ss) ≡ nat_lt n old.swept_at_loss) more (power_settled n old.sweeps.items ∙ c.self.invariant.1 n),
    )

pub returns-clause-settled : goal.returns-clause-settled
returns-clause-settled c =
    let old = c.self.inside in
    ap (λ (ss : List Sweep). map (now_kept ss) old.stamped.items) c.in_ok-push.ensures.items ∙ all_swept old.sweeps.items Settled old.stamped.items c.self.invariant.0 ∙ ap (map kept_settle) c.self.view_is
