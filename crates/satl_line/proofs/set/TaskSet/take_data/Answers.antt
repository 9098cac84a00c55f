use Rattle.std.proofs.Common.{ap, ◌∙◌, []}
use Rattle.std.specs.Option.{option_map}
use Rattle.satl_base.specs.Lists.{change_at}
use Rattle.satl_line.specs.Tasks.{entry_at, with_body}
use Rattle.satl_line.proofs.SlotsLemmas.{changes, body-changed, body_is}
use Rattle.satl_line.proofs.set.TaskSet.take_data.Goals as goal

pub invariant_of-self : goal.invariant_of-self
invariant_of-self c = (
  (changes _ c.args.self.now c.args.place c.at-slot.result c.default.result c.swap_body.new.slots.items
      c.self.invariant.0 c.self.view_is c.requires c.at-slot.ensures c.swap_body.ensures.items).sound,
  c.self.invariant.1,
  c.self.invariant.2,
  c.self.invariant.3,
  c.self.invariant.4,
  c.self.invariant.5,
)

pub returns-clause-value : goal.returns-clause-value
returns-clause-value c =
    body_is c.self.inside.slots.items c.self.inside.order c.args.self.now c.args.place c.at-slot.result c.swap_body.result c.self.view_is c.requires c.at-slot.ensures c.swap_body.ensures.value

pub returns-clause-others : goal.returns-clause-others
returns-clause-others c =
    (changes _ c.args.self.now c.args.place c.at-slot.result c.default.result c.swap_body.new.slots.items
    c.self.invariant.0 c.self.view_is c.requires c.at-slot.ensures c.swap_body.ensures.items).rest
    ∙ ap (λ b. change_at c.args.self.now c.args.place (with_body b)) c.default.ensures

pub returns-clause-emptied : goal.returns-clause-emptied
returns-clause-emptied c =
    ap (λ l. option_map (λ e. e.body) (entry_at l c.args.place))
    ((changes _ c.args.self.now c.args.place c.at-slot.result c.default.result c.swap_body.new.slots.items
    c.self.invariant.0 c.self.view_is c.requires c.at-slot.ensures c.swap_body.ensures.items).rest
    ∙ ap (λ b. change_at c.args.self.now c.args.place (with_body b)) c.default.ensures)
    ∙ body-changed c.args.self.now c.args.place [] c.requires
