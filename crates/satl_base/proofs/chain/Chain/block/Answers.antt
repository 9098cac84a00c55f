use Rattle.std.proofs.Common.{ap, ◌∙◌, drop}
use Rattle.satl_base.specs.Chains.{blocks_of}
use Rattle.satl_base.proofs.ChainLemmas.{drop_one}
use Rattle.satl_base.proofs.chain.Chain.block.Goals as goal

pub loop-preserved : goal.loop-preserved
loop-preserved c = c.next-rest.ensures ∙ ap (drop 1) c.loop.invariant ∙ drop_one c.loop.counter (blocks_of c.args.self.now)
