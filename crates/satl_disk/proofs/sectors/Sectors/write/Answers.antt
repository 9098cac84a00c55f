use Rattle.std.proofs.Common.{arith, ap, ◌∙◌, length}
use Rattle.satl_base.proofs.CellsLemmas.{change_at-length}
use Rattle.satl_disk.specs.Sectors.{Sector, written_sector}
use Rattle.satl_disk.proofs.InsideLemmas.{size_is, write_is, write_unstruck}
use Rattle.satl_disk.proofs.SectorsLemmas.{changed_none}
use Rattle.satl_disk.proofs.sectors.Sectors.write.Goals as goal

pub returns-then-self-clause-value : goal.returns-then-self-clause-value
returns-then-self-clause-value c =
    let i = c.self.inside in
    write_is i.blocks i.stables i.flaws.items c.self.view_is c.self.invariant c.args.place (omega (arith, i.flaws.ok.0)) c.args.block.now c.args.cached
    c.index_mut.ensures.value c.overwrite.ensures c.at.ensures c.write.ensures c.set.ensures

pub returns-then-self-clause-size : goal.returns-then-self-clause-size
returns-then-self-clause-size c = ap length (returns-then-self-clause-value c) ∙ change_at-length c.args.self.now c.args.place (λ (s : Sector). written_sector s c.args.block.now c.args.cached)

pub returns-else-self-clause-value : goal.returns-else-self-clause-value
returns-else-self-clause-value c =
    let i = c.self.inside in
    write_unstruck i.blocks i.stables i.flaws.items c.self.view_is c.self.invariant c.args.place (omega (arith, i.flaws.ok.0)) c.if-self.false c.args.block.now c.args.cached
    c.at.ensures c.write.ensures c.set.ensures

pub returns-else-self-clause-size : goal.returns-else-self-clause-size
returns-else-self-clause-size c = ap length (returns-else-self-clause-value c) ∙ change_at-length c.args.self.now c.args.place (λ (s : Sector). written_sector s c.args.block.now c.args.cached)

pub returns-else-place-len-clause-value : goal.returns-else-place-len-clause-value
returns-else-place-len-clause-value c =
    let i = c.self.inside in
    changed_none (λ (s : Sector). written_sector s c.args.block.now c.args.cached) c.args.self.now c.args.place (omega (arith, i.flaws.ok.0, size_is i.blocks i.stables i.flaws.items c.self.view_is c.self.invariant))
