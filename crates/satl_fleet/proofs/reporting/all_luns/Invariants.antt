use Rattle.std.proofs.Common.{◌≡◌, ◌+◌, ◌*◌, ◌∷◌, ◌++◌, [], length}
use Rattle.satl_fleet.specs.Target.{luns_from}
use Rattle.satl_fleet.proofs.reporting.all_luns.Given as goal

abbrev pub invariant-loop-k : goal.invariant-loop-k
invariant-loop-k l = record {
  luns : l.luns.items ≡ (0 ∷ 0 ∷ 0 ∷ 8 * l.units ∷ 0 ∷ 0 ∷ 0 ∷ 0 ∷ []) ++ luns_from 0 l.k;
  long : length l.luns.items ≡ 8 + 8 * l.k;
}
