use Rattle.std.proofs.Common.{◌<◌, arith, length}
use Rattle.std.specs.Prelude.{slice_set}
use Rattle.satl_disk.proofs.StablesLemmas.{NextSlot, lengths_are, next_slot, own_slot}
use Rattle.satl_disk.proofs.slots.Slots.take.Goals as goal
use Rattle.satl_disk.proofs.slots.Slots.take.Goals.{After-index_mut, After-self}

-- the place is one of both lists
inside : (c : After-self) → (c.args.place < length c.self.inside.given) × (c.args.place < length c.self.inside.numbers.items)
inside c =
    let i = c.self.inside in
    let are = lengths_are i.given i.numbers.items c.self.view_is c.self.invariant in
    (omega (arith, are, c.requires), omega (arith, are, c.requires))

-- a sector that has no slot takes the next one
next : (c : After-index_mut) → NextSlot c.mark.new.self (slice_set c.self.inside.numbers.items c.args.place c.self.inside.used) c.args.self.now c.args.place c.self.inside.used
next c =
    let i = c.self.inside in
    next_slot i.given i.numbers.items c.self.view_is c.self.invariant c.args.place c.requires c.has.ensures c.if-has.false c.mark.ensures

pub has-requires : goal.has-requires
has-requires c = (inside (goal.at.has-requires c).After-self).0

pub returns-then-has : goal.returns-then-has
returns-then-has c =
    let i = c.self.inside in
    let own = own_slot i.given i.numbers.items c.self.view_is c.self.invariant c.args.place c.requires c.has.ensures c.if-has.true c.index.ensures in
    record { slots = own.stays; within = own.within; alone = own.alone }

pub mark-requires : goal.mark-requires
mark-requires c = (inside (goal.at.mark-requires c).After-self).0

pub index_mut-requires : goal.index_mut-requires
index_mut-requires c = omega (arith, inside (goal.at.index_mut-requires c).After-self, c.self.inside.numbers.ok.0)

pub overflow_add-self : goal.overflow_add-self
overflow_add-self c = omega (arith, (next (goal.at.overflow_add-self c).After-index_mut).few)

pub invariant_of-self : goal.invariant_of-self
invariant_of-self c = let n = next (goal.at.invariant_of-self c).After-index_mut in (n.size, n.are)

pub returns-clause-slots : goal.returns-clause-slots
returns-clause-slots c = (next (goal.at.returns-clause-slots c).After-index_mut).slots

pub returns-clause-within : goal.returns-clause-within
returns-clause-within c = (next (goal.at.returns-clause-within c).After-index_mut).within
