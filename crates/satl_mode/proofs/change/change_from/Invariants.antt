use Rattle.std.proofs.Common.{◌<◌, ◌-◌, ◌^◌}
use Rattle.satl_mode.specs.Changes.{change_from, no_change}
use Rattle.satl_mode.proofs.ChangeSteps.{Left}
use Rattle.satl_mode.proofs.change.change_from.Given as goal

abbrev pub invariant-loop-page : goal.invariant-loop-page
invariant-loop-page l = record {
  left : Left l.list l.list_length l.place l.change (change_from l.list_length l.list l.list_length l.first no_change);
  near : l.place < 2 ^ 17;
}

abbrev pub decreases-loop-page : goal.decreases-loop-page
decreases-loop-page l = l.list_length - l.place
