use Rattle.std.proofs.Common.{◌≡◌, ◌<◌, ◌≤◌, ◌+◌, ◌-◌, ◌%◌, false, length}
use Rattle.satl_frame.specs.Pulls.{FilledInReverse}
use Rattle.satl_frame.proofs.refill.fill_pages.Given as goal

abbrev pub invariant-loop-at : goal.invariant-loop-at
invariant-loop-at g l = record {
  filled : FilledInReverse (g.S.Source.left l.fn.source) (g.S.Source.left l.source) l.at (length l.fn.todo) l.fn.done l.done;
  within : l.at ≤ l.len;
  aligned : l.at < l.len → l.at % 512 ≡ 0;
  unwaited : g.S.Source.waited l.fn.source ≡ false → g.S.Source.waited l.source ≡ false;
  same : length l.todo + length l.done ≡ length l.fn.todo;
  later : g.S.Source.faults l.fn.source ≤ g.S.Source.faults l.source;
}

abbrev pub decreases-loop-at : goal.decreases-loop-at
decreases-loop-at g l = l.len - l.at
