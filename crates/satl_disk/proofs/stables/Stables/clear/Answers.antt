use Rattle.std.proofs.Common.{arith}
use Rattle.satl_disk.proofs.StablesLemmas.{clear_has, clear_is, dirties_are}
use Rattle.satl_disk.proofs.stables.Stables.clear.Goals as goal

pub unmark-requires : goal.unmark-requires
unmark-requires c =
    let i = c.self.inside in
    omega (arith, dirties_are i.kept i.dirty i.slots c.self.view_is c.self.invariant, c.requires)

pub invariant_of-self : goal.invariant_of-self
invariant_of-self c =
    let i = c.self.inside in
    clear_has i.kept i.dirty i.slots c.self.view_is c.self.invariant c.args.place c.unmark.ensures

pub returns : goal.returns
returns c =
    let i = c.self.inside in
    clear_is i.kept i.dirty i.slots c.self.view_is c.self.invariant c.args.place c.unmark.ensures
