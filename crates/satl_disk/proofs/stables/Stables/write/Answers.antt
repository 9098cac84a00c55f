use Rattle.std.proofs.Common.{arith, ◌∙◌}
use Rattle.satl_disk.proofs.StablesLemmas.{clean_written, dirties_are, dirty_written}
use Rattle.satl_disk.proofs.stables.Stables.write.Goals as goal

pub has-requires : goal.has-requires
has-requires c =
    let i = c.self.inside in
    omega (arith, dirties_are i.kept i.dirty i.slots c.self.view_is c.self.invariant, c.requires)

pub returns-then-not-has : goal.returns-then-not-has
returns-then-not-has c =
    let i = c.self.inside in
    c.keep.ensures ∙ clean_written i.kept i.dirty i.slots c.self.view_is c.self.invariant c.args.place c.requires c.has.ensures c.args.old.now c.if-not-cached.false c.if-not-has.true

pub returns-else-not-has : goal.returns-else-not-has
returns-else-not-has c =
    let i = c.self.inside in
    dirty_written i.kept i.dirty i.slots c.self.view_is c.self.invariant c.args.place c.requires c.has.ensures c.args.old.now c.if-not-cached.false c.if-not-has.false
