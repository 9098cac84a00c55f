use Rattle.std.proofs.Common.{arith, ◌∙◌}
use Rattle.satl_disk.proofs.LayoutLemmas.{kept_is, zeros_are}
use Rattle.satl_disk.proofs.blocks.Blocks.at.Goals as goal

pub returns-then-place-len : goal.returns-then-place-len
returns-then-place-len c =
    let i = c.self.inside in
    kept_is i.number i.kept.items c.args.self.now c.self.view_is c.args.place c.index.result.now c.requires (omega (arith, i.kept.ok.0)) c.index.ensures

pub returns-else-place-len : goal.returns-else-place-len
returns-else-place-len c =
    let i = c.self.inside in
    c.self.invariant.1 ∙ zeros_are i.number i.kept.items c.args.self.now c.self.view_is c.args.place c.requires (omega (arith, i.kept.ok.0))
