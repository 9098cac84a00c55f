use Rattle.satl_line.proofs.SlotsLemmas.{changes}
use Rattle.satl_line.proofs.set.TaskSet.put_data.Goals as goal

pub invariant_of-self : goal.invariant_of-self
invariant_of-self c = (
  (changes _ c.args.self.now c.args.place c.at-slot.result c.args.body c.swap_body.new.slots.items
      c.self.invariant.0 c.self.view_is c.requires.within c.at-slot.ensures c.swap_body.ensures.items).sound,
  c.self.invariant.1,
  c.self.invariant.2,
  c.self.invariant.3,
  c.self.invariant.4,
  c.self.invariant.5,
)

pub returns : goal.returns
returns c =
    (changes _ c.args.self.now c.args.place c.at-slot.result c.args.body c.swap_body.new.slots.items
    c.self.invariant.0 c.self.view_is c.requires.within c.at-slot.ensures c.swap_body.ensures.items).rest
