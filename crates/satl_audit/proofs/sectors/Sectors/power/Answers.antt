use Rattle.std.proofs.Common.{sym, ap, subst, ◌∙◌, ◌≡◌, map, drop, ℕ, List, length}
use Rattle.std.specs.Prelude.{nat_lt}
use Rattle.satl_audit.specs.Kept.{kept_power}
use Rattle.satl_audit.specs.Sweeps.{has_power}
use Rattle.satl_audit.specs.declared.sectors.Sweep.{Sweep}
use Rattle.satl_audit.specs.declared.sectors.Sweep.TheVariants.{Powered}
use Rattle.satl_audit.proofs.SweepLemmas.{AllSeen, all_swept, now_kept, power_powered, seen_still}
use Rattle.satl_audit.proofs.sectors.Sectors.power.Goals as goal

pub invariant_of-self-2 : goal.invariant_of-self-2
invariant_of-self-2 c =
    let old = c.self.inside in
    let more = sym c.in_ok-push.ensures.items in (
      subst (λ (ss : List Sweep). AllSeen ss old.stamped.items) more (seen_still old.sweeps.items Powered old.stamped.items c.self.invariant.0),
      λ n. subst (λ (m : ℕ). has_power (drop n c.push.new.self.items) ≡ nat_lt n m) (sym (c.len-self-inside.ensures ∙ c.push.new.self.ok.0))
          (subst (λ (ss : List Sweep). has_power (drop n ss) ≡ nat_lt n (length ss)) more (power_powered n old.sweeps.items)),
    )

pub returns-clause-lost : goal.returns-clause-lost
returns-clause-lost c =
    let old = c.self.inside in
    ap (λ (ss : List Sweep). map (now_kept ss) old.stamped.items) c.in_ok-push.ensures.items ∙ all_swept old.sweeps.items Powered old.stamped.items c.self.invariant.0 ∙ ap (map kept_power) c.self.view_is
