use Rattle.std.proofs.Common.{take}
use Rattle.std.specs.List.{AllByRecursion}
use Rattle.satl_line.specs.Outlines.{LiesIn}
use Rattle.satl_line.proofs.outline.Span.of.Given as goal

abbrev pub invariant-loop-range : goal.invariant-loop-range
invariant-loop-range l = AllByRecursion (LiesIn l.span) (take l.range-index l.ranges)
