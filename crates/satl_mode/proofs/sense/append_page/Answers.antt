use Rattle.std.proofs.Common.{arith}
use Rattle.satl_mode.proofs.PageSteps.{pushed}
use Rattle.satl_mode.proofs.sense.append_page.Goals as goal

pub loop-place-preserved : goal.loop-place-preserved
loop-place-preserved c = record {
  items = pushed _ _ _ c.loop-place.place c.byte.result _ c.push.ensures.items c.byte.ensures c.loop-place.invariant.items;
  len = let h = c.push.ensures.len in let k = c.loop-place.invariant.len in omega arith;
}
