use Rattle.std.proofs.Common.{arith}
use Rattle.satl_disk.proofs.StablesLemmas.{lengths_are, no_slot, own_slot}
use Rattle.satl_disk.proofs.slots.Slots.get.Goals as goal

pub has-requires : goal.has-requires
has-requires c =
    let i = c.self.inside in
    omega (arith, lengths_are i.given i.numbers.items c.self.view_is c.self.invariant, c.requires)

pub returns-then-has-clause-within : goal.returns-then-has-clause-within
returns-then-has-clause-within c =
    let i = c.self.inside in
    (own_slot i.given i.numbers.items c.self.view_is c.self.invariant c.args.place c.requires c.has.ensures c.if-has.true c.index.ensures).within

pub returns-else-has-clause-slot : goal.returns-else-has-clause-slot
returns-else-has-clause-slot c =
    let i = c.self.inside in
    no_slot i.given i.numbers.items c.self.view_is c.self.invariant c.args.place c.requires c.has.ensures c.if-has.false
