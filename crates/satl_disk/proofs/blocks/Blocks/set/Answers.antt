use Rattle.std.proofs.Common.{arith}
use Rattle.std.specs.Prelude.{◌-◌, replicate, vec_len}
use Rattle.std.proofs.lemmas.List.{length-append, length-replicate}
use Rattle.satl_base.specs.Blocks.{zero_block}
use Rattle.satl_disk.proofs.LayoutLemmas.{number_is, push_is, set_is}
use Rattle.satl_disk.proofs.blocks.Blocks.set.Goals as goal

pub push_at-requires : goal.push_at-requires
push_at-requires c =
    let i = c.self.inside in
    record { behind = omega arith; room = omega (arith, number_is i.number i.kept.items c.args.self.now c.self.view_is) }

pub returns-then-place-len : goal.returns-then-place-len
returns-then-place-len c =
    let i = c.self.inside in
    set_is i.number i.kept.items c.args.self.now c.self.view_is c.args.place c.args.block.now (omega (arith, i.kept.ok.0))

pub returns-else-place-len : goal.returns-else-place-len
returns-else-place-len c =
    let i = c.self.inside in
    let g = c.args.place - vec_len i.kept in
    push_is i.number i.kept.items c.args.self.now c.self.view_is c.args.place c.args.block.now g c.push_at.new.kept.items
    (omega (arith, length-append i.kept.items (replicate g zero_block), length-replicate g zero_block, i.kept.ok.0)) c.push_at.ensures.items
