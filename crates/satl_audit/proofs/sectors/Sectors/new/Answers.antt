use Rattle.std.proofs.Common.{arith, sym, ap, subst, ◌∙◌, ◌≡◌, map, drop, ℕ, List, []}
use Rattle.std.specs.Prelude.{nat_lt, replicate}
use Rattle.satl_audit.specs.Sweeps.{has_power}
use Rattle.satl_audit.specs.declared.stamped.Sweep.{Sweep}
use Rattle.satl_audit.specs.Kept.{blank_keeping}
use Rattle.satl_audit.proofs.SweepLemmas.{AllSeen, all_blank, no_power, none_missed, now_kept}
use Rattle.satl_audit.proofs.sectors.Sectors.new.Goals as goal

pub invariant_of-result : goal.invariant_of-result
invariant_of-result c =
    let none = sym c.new-sweeps.ensures.items in (
      subst (λ (ss : List Sweep). AllSeen ss c.loop.stamped.items) none (subst (AllSeen []) (sym c.loop.invariant) (none_missed c.loop.counter)),
      λ n. subst (λ (ss : List Sweep). has_power (drop n ss) ≡ nat_lt n 0) none (no_power n),
    )

pub returns : goal.returns
returns c =
    let all : c.loop.counter ≡ c.args.count = omega (arith, c.loop.auto.counter-end, c.loop-test.false) in
    ap (λ (ss : List Sweep). map (now_kept ss) c.loop.stamped.items) c.new-sweeps.ensures.items ∙ ap (map (now_kept [])) c.loop.invariant ∙ all_blank c.loop.counter ∙ ap (λ (n : ℕ). replicate n blank_keeping) all
