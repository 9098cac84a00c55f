use Rattle.satl_disk.proofs.StablesLemmas.{all_clear, all_clear_has}
use Rattle.satl_disk.proofs.stables.Stables.clear_all.Goals as goal

pub invariant_of-self : goal.invariant_of-self
invariant_of-self c =
    let i = c.self.inside in
    all_clear_has i.kept i.dirty i.slots c.self.view_is c.self.invariant c.unmark_all.ensures c.clear.ensures

pub returns : goal.returns
returns c =
    let i = c.self.inside in
    all_clear i.kept i.dirty i.slots c.self.view_is c.self.invariant c.unmark_all.ensures c.clear.ensures
