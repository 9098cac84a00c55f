use Rattle.std.proofs.Common.{arith, ◌∙◌}
use Rattle.satl_disk.proofs.InsideLemmas.{now_is, size_is}
use Rattle.satl_disk.proofs.sectors.Sectors.load.Goals as goal

pub at-requires : goal.at-requires
at-requires c =
    let i = c.self.inside in
    omega (arith, size_is i.blocks i.stables i.flaws.items c.self.view_is c.self.invariant, c.self.invariant.0)

pub returns : goal.returns
returns c =
    let i = c.self.inside in
    c.set.ensures ∙ c.at.ensures ∙ now_is i.blocks i.stables i.flaws.items c.self.view_is c.self.invariant c.args.place (omega (arith, size_is i.blocks i.stables i.flaws.items c.self.view_is c.self.invariant))
