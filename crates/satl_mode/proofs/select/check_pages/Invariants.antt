use Rattle.std.proofs.Common.{◌<◌, ◌-◌, ◌^◌}
use Rattle.satl_mode.proofs.Nested.{pages_fault}
use Rattle.satl_mode.proofs.SelectSteps.{Judged}
use Rattle.satl_mode.proofs.select.check_pages.Given as goal

abbrev pub invariant-loop-place : goal.invariant-loop-place
invariant-loop-place l = record {
  left : Judged l.identity l.modes l.list l.list_length (pages_fault l.identity l.modes l.list l.list_length l.list_length l.first) l.place;
  near : l.place < 2 ^ 17;
}

abbrev pub decreases-loop-place : goal.decreases-loop-place
decreases-loop-place l = l.list_length - l.place
