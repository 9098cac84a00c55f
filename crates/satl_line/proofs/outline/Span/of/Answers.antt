use Rattle.std.proofs.Common.{ℕ, ◌+◌, ◌<◌, List, length, take, get_or, subst, sym, add-one}
use Rattle.std.specs.List.{AllByRecursion}
use Rattle.std.proofs.lemmas.List.{get_or_default}
use Rattle.satl_base.specs.declared.block.Range.{Range}
use Rattle.satl_line.specs.declared.outline.Span.{Span}
use Rattle.satl_line.specs.Outlines.{LiesIn, Widens}
use Rattle.satl_line.proofs.OutlinesLemmas.{lie_more}
use Rattle.satl_line.proofs.outline.Span.of.Goals as goal

lie_more_at : (old new : Span) (ranges : List Range) (i : ℕ) (d : Range) → i < length ranges → Widens old new → LiesIn new (get_or ranges i d) → AllByRecursion (LiesIn old) (take i ranges) → AllByRecursion (LiesIn new) (take (i + 1) ranges)
lie_more_at old new ranges i d lt wide within h =
    subst (λ k. AllByRecursion (LiesIn new) (take k ranges)) (sym (add-one i))
    (lie_more old new ranges i (get_or ranges i d) lt (get_or_default ranges i d (get_or ranges i d) lt) wide within h)

pub loop-range-preserved : goal.loop-range-preserved
loop-range-preserved c =
    lie_more_at c.loop-range.span c.with-span.result c.args.ranges.now c.loop-range.range-index _ c.loop-range-test.true c.with-span.ensures.wide c.with-span.ensures.within c.loop-range.invariant
