use Rattle.std.proofs.Common.{ap, arith, map, subst, sym}
use Rattle.std.specs.List.{AllByRecursion}
use Rattle.satl_disk.specs.Disk.{state_of}
use Rattle.satl_barrier.specs.Leaving.{IsFree}
use Rattle.satl.proofs.DriveLemmas.{one_more}
use Rattle.satl.proofs.modelled.Goals as goal

pub loop-preserved : goal.loop-preserved
loop-preserved c = record {
  count = omega (arith, c.in_ok-push.ensures.len, c.loop.invariant.count);
  free = subst (λ ds. AllByRecursion IsFree (map state_of ds)) (sym c.in_ok-push.ensures.items) (one_more state_of c.loop.drives.items c.in_ok-new.field-0 c.loop.invariant.free (record { idle = ap (λ d. (state_of d).outstanding) c.in_ok-new.ensures.made; no_error = ap (λ d. (state_of d).error) c.in_ok-new.ensures.made; fit = c.in_ok-new.ensures.fit }));
}
