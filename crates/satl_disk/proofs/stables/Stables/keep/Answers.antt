use Rattle.std.proofs.Common.{arith}
use Rattle.satl_disk.proofs.StablesLemmas.{dirties_are, keep_has, keep_is, stables_are}
use Rattle.satl_disk.proofs.stables.Stables.keep.Goals as goal

pub take-slot-requires : goal.take-slot-requires
take-slot-requires c =
    let i = c.self.inside in
    omega (arith, stables_are i.kept i.dirty i.slots c.self.view_is c.self.invariant, c.requires)

pub mark-requires : goal.mark-requires
mark-requires c =
    let i = c.self.inside in
    omega (arith, dirties_are i.kept i.dirty i.slots c.self.view_is c.self.invariant, c.requires)

pub invariant_of-self : goal.invariant_of-self
invariant_of-self c =
    let i = c.self.inside in
    keep_has i.kept i.dirty i.slots c.self.view_is c.self.invariant c.args.place c.take-slot.result c.args.old.now c.set.ensures c.mark.ensures c.take-slot.ensures.slots

pub returns : goal.returns
returns c =
    let i = c.self.inside in
    keep_is i.kept i.dirty i.slots c.self.view_is c.self.invariant c.args.place c.take-slot.result c.args.old.now c.set.ensures c.mark.ensures c.take-slot.ensures.slots
    c.requires c.take-slot.ensures.within c.take-slot.ensures.alone
