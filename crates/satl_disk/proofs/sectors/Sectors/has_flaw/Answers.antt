use Rattle.std.proofs.Common.{arith, ◌∙◌}
use Rattle.satl_disk.proofs.InsideLemmas.{flag_is, size_is}
use Rattle.satl_disk.proofs.SectorsLemmas.{flag_none}
use Rattle.satl_disk.proofs.sectors.Sectors.has_flaw.Goals as goal

pub returns-then-place-len : goal.returns-then-place-len
returns-then-place-len c =
    let i = c.self.inside in
    c.has.ensures ∙ flag_is i.blocks i.stables i.flaws.items c.self.view_is c.self.invariant c.args.place (omega (arith, i.flaws.ok.0)) c.args.which c.index.ensures

pub returns-else-place-len : goal.returns-else-place-len
returns-else-place-len c =
    let i = c.self.inside in
    flag_none c.args.self.now c.args.which c.args.place (omega (arith, i.flaws.ok.0, size_is i.blocks i.stables i.flaws.items c.self.view_is c.self.invariant))
