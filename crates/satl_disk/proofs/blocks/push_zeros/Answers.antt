use Rattle.std.proofs.Common.{arith, ap, ◌∙◌, ◌++◌, ◌∷◌, [], ℕ, ◌≡◌}
use Rattle.std.specs.Prelude.{◌-◌, replicate, vec_len}
use Rattle.satl_base.specs.declared.block.Block.{Block}
use Rattle.satl_base.specs.Blocks.{zero_block}
use Rattle.satl_disk.proofs.LayoutLemmas.{zeros_more, zeros_start}
use Rattle.satl_disk.proofs.blocks.push_zeros.Goals as goal

pub loop-init : goal.loop-init
loop-init c = record {
  items = rw c.len-counter.ensures (zeros_start c.args.kept.now.items (vec_len c.args.kept.now));
  size = omega arith;
  capacity = omega arith;
}

pub loop-preserved : goal.loop-preserved
loop-preserved c = record {
  items = zeros_more c.args.kept.now.items c.loop.kept.items c.push.new.self.items (vec_len c.args.kept.now) c.loop.counter (omega arith) c.loop.invariant.items (c.in-Ok.ensures.items ∙ ap (λ (b : Block). c.loop.kept.items ++ b ∷ []) c.zero.ensures);
  size = omega (arith, c.in-Ok.ensures.len, c.loop.invariant.size);
  capacity = omega (arith, c.in-Ok.ensures.capacity, c.loop.invariant.capacity);
}

pub returns-clause-items : goal.returns-clause-items
returns-clause-items c =
    let all : c.loop.counter ≡ c.args.number = omega arith in
    c.loop.invariant.items ∙ ap (λ (n : ℕ). c.args.kept.now.items ++ replicate (n - vec_len c.args.kept.now) zero_block) all
