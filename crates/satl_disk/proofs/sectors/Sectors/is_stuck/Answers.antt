use Rattle.std.proofs.Common.{arith}
use Rattle.satl_disk.proofs.InsideLemmas.{size_is, stuck_is, unstuck_is}
use Rattle.satl_disk.proofs.SectorsLemmas.{stuck_none}
use Rattle.satl_disk.proofs.sectors.Sectors.is_stuck.Goals as goal

pub returns-then-not-self : goal.returns-then-not-self
returns-then-not-self c =
    let i = c.self.inside in
    unstuck_is i.blocks i.stables i.flaws.items c.self.view_is c.self.invariant c.if-not-self.true c.args.place

pub returns-then-place-len : goal.returns-then-place-len
returns-then-place-len c =
    let i = c.self.inside in
    stuck_is i.blocks i.stables i.flaws.items c.self.view_is c.self.invariant c.args.place (omega (arith, i.flaws.ok.0)) c.index.ensures

pub returns-else-place-len : goal.returns-else-place-len
returns-else-place-len c =
    let i = c.self.inside in
    stuck_none c.args.self.now c.args.place (omega (arith, i.flaws.ok.0, size_is i.blocks i.stables i.flaws.items c.self.view_is c.self.invariant))
