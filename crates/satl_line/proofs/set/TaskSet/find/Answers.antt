use Rattle.std.proofs.Common.{ap, sym, ◌∙◌}
use Rattle.std.specs.List.{position_from}
use Rattle.satl_line.specs.Tasks.{is_named}
use Rattle.satl_line.specs.Outlines.{is_of_name, outlines_in}
use Rattle.satl_line.specs.Layout.{tasks_in}
use Rattle.satl_line.proofs.CountsLemmas.{not_counted}
use Rattle.satl_line.proofs.OutlinesLemmas.{found_by_outlines}
use Rattle.satl_line.proofs.set.TaskSet.find.Goals as goal

pub returns-then-count_at-eq0 : goal.returns-then-count_at-eq0
returns-then-count_at-eq0 c =
    sym (not_counted (tasks_in c.self.inside.slots.items c.self.inside.order) c.self.inside.tag_counts c.args.nexus c.args.tag c.count_at.result c.self.invariant.0.counted c.count_at.ensures c.if-count_at-eq0.true)
    ∙ ap (position_from (is_named c.args.nexus c.args.tag) 0) c.self.view_is

pub returns : goal.returns
returns c =
    c.find_in.ensures
    ∙ ap (λ order. position_from (is_of_name c.args.nexus c.args.tag) 0 (outlines_in c.self.inside.outlines order)) c.as_slice.ensures
    ∙ found_by_outlines c.self.inside.slots.items c.self.inside.outlines c.self.inside.order c.args.nexus c.args.tag 0 c.self.invariant.0.outlined.each
    ∙ ap (position_from (is_named c.args.nexus c.args.tag) 0) c.self.view_is
