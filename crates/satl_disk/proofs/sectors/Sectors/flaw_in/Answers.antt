use Rattle.std.proofs.Common.{arith, ◌∙◌, sym, map}
use Rattle.satl_base.specs.Cells.{has_flaw}
use Rattle.satl_disk.specs.Sectors.{cells_of}
use Rattle.satl_disk.proofs.InsideLemmas.{none_is}
use Rattle.satl_disk.proofs.SectorsLemmas.{set_more, set_found, set_end}
use Rattle.satl_disk.proofs.sectors.Sectors.flaw_in.Goals as goal

pub returns-then-not-self : goal.returns-then-not-self
returns-then-not-self c =
    let i = c.self.inside in
    none_is i.blocks i.stables i.flaws.items c.self.view_is c.self.invariant c.if-not-self.true c.args.which c.args.lba c.args.count

pub loop-i-preserved : goal.loop-i-preserved
loop-i-preserved c = set_more (map (has_flaw c.args.which) (cells_of c.args.self.now)) c.args.lba c.args.count c.loop-i.i _ (omega arith) (sym c.has_flaw.ensures ∙ c.if-has_flaw.false) c.loop-i.invariant

pub returns-then-has_flaw : goal.returns-then-has_flaw
returns-then-has_flaw c = set_found (map (has_flaw c.args.which) (cells_of c.args.self.now)) c.args.lba c.args.count c.loop-i.i _ (omega arith) (sym c.has_flaw.ensures ∙ c.if-has_flaw.true) c.loop-i.invariant

pub returns : goal.returns
returns c = set_end (map (has_flaw c.args.which) (cells_of c.args.self.now)) c.args.lba c.args.count c.loop-i.i _ (omega arith) c.loop-i.invariant
