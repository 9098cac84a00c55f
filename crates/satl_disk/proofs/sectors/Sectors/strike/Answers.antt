use Rattle.std.proofs.Common.{arith, ap, ◌∙◌, length}
use Rattle.satl_base.proofs.CellsLemmas.{change_at-length}
use Rattle.satl_disk.specs.Sectors.{struck_sector}
use Rattle.satl_disk.proofs.InsideLemmas.{size_is, struck_is}
use Rattle.satl_disk.proofs.SectorsLemmas.{changed_none}
use Rattle.satl_disk.proofs.sectors.Sectors.strike.Goals as goal

pub returns-then-lba-len-clause-value : goal.returns-then-lba-len-clause-value
returns-then-lba-len-clause-value c =
    let i = c.self.inside in
    struck_is i.blocks i.stables i.flaws.items c.self.view_is c.self.invariant c.args.lba (omega (arith, i.flaws.ok.0)) c.args.which c.index_mut.ensures.value c.strike.ensures

pub returns-then-lba-len-clause-size : goal.returns-then-lba-len-clause-size
returns-then-lba-len-clause-size c = ap length (returns-then-lba-len-clause-value c) ∙ change_at-length c.args.self.now c.args.lba (struck_sector c.args.which)

pub returns-else-lba-len-clause-value : goal.returns-else-lba-len-clause-value
returns-else-lba-len-clause-value c =
    let i = c.self.inside in
    changed_none (struck_sector c.args.which) c.args.self.now c.args.lba (omega (arith, i.flaws.ok.0, size_is i.blocks i.stables i.flaws.items c.self.view_is c.self.invariant))
