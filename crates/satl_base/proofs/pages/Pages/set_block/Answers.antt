use Rattle.std.proofs.Common.{◌∙◌, ap, arith}
use Rattle.std.specs.Prelude.{slice_set}
use Rattle.satl_base.specs.Chains.{blocks_of}
use Rattle.satl_base.proofs.ChainLemmas.{written}
use Rattle.satl_base.proofs.pages.Pages.set_block.Goals as goal

pub returns : goal.returns
returns c =
    written (blocks_of c.self.inside.first) (blocks_of c.shift_many.new.onto) (blocks_of c.shift_many.new.from) (blocks_of c.set_first.new.self) (blocks_of c.shift_many-2.new.from) (blocks_of c.shift_many-2.new.onto) c.args.i c.args.block.now
    c.shift_many.ensures.same (omega (arith, c.shift_many.ensures.count)) c.set_first.ensures c.shift_many-2.ensures.same c.shift_many-2.ensures.count
    ∙ ap (λ l. slice_set l c.args.i c.args.block.now) c.self.view_is
