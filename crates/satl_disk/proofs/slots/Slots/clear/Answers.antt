use Rattle.satl_disk.proofs.StablesLemmas.{none_are, none_given, none_size}
use Rattle.satl_disk.proofs.slots.Slots.clear.Goals as goal

pub invariant_of-self : goal.invariant_of-self
invariant_of-self c =
    let i = c.self.inside in
    (none_size i.given i.numbers.items c.self.view_is c.self.invariant c.unmark_all.ensures, none_are i.given i.numbers.items c.self.view_is c.self.invariant c.unmark_all.ensures)

pub returns : goal.returns
returns c =
    let i = c.self.inside in
    none_given i.given i.numbers.items c.self.view_is c.self.invariant c.unmark_all.ensures
