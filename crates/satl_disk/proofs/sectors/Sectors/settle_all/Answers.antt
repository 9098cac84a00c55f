use Rattle.std.proofs.Common.{ap, ◌∙◌, List, Option, length, map}
use Rattle.std.proofs.lemmas.List.{length-map}
use Rattle.satl_base.specs.declared.block.Block.{Block}
use Rattle.satl_disk.specs.Layout.{sector_of, zipped}
use Rattle.satl_disk.specs.Sectors.{settled_sector}
use Rattle.satl_disk.proofs.LayoutLemmas.{zipped-settled}
use Rattle.satl_disk.proofs.sectors.Sectors.settle_all.Goals as goal

pub returns-clause-value : goal.returns-clause-value
returns-clause-value c =
    let i = c.self.inside in
    ap (λ (os : List (Option Block)). zipped sector_of i.blocks os i.flaws.items) c.clear_all.ensures ∙ zipped-settled i.blocks i.stables i.flaws.items ∙ ap (map settled_sector) c.self.view_is

pub returns-clause-size : goal.returns-clause-size
returns-clause-size c = ap length (returns-clause-value c) ∙ length-map c.args.self.now settled_sector
