use Rattle.std.proofs.Common.{sym, ◌∙◌}
use Rattle.satl_disk.proofs.InsideLemmas.{size_is}
use Rattle.satl_disk.proofs.sectors.Sectors.len.Goals as goal

pub returns : goal.returns
returns c =
    let i = c.self.inside in
    c.len.ensures ∙ i.flaws.ok.0 ∙ sym (size_is i.blocks i.stables i.flaws.items c.self.view_is c.self.invariant)
