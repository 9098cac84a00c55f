use Rattle.std.proofs.Common.{◌∙◌, ap, arith, length}
use Rattle.std.specs.Prelude.{sum}
use Rattle.std.proofs.lemmas.List.{length-append, length-take}
use Rattle.satl_base.specs.Blocks.{bytes_of}
use Rattle.satl_text.proofs.SumLemmas.{sum_more}
use Rattle.satl_text.proofs.summary.data_sum.Goals as goal

pub loop-piece-init : goal.loop-piece-init
loop-piece-init c =
    let is = c.into_iter-piece-iterator.ensures.into_iter_gives ∙ c.pieces-piece-items.ensures in
    record {
      value = omega (arith, ap sum is);
      small = omega (arith, ap length is, length-take c.args.len (bytes_of c.args.pages.now));
    }

pub loop-piece-preserved : goal.loop-piece-preserved
loop-piece-preserved c =
    let before = c.loop-piece.invariant in
    let joins = c.in-Some.ensures.steps.0 in
    record {
      value = omega (arith, before.value, sum_more c.in-Some.piece.now c.next.new.self joins, c.sum_of.ensures.value, c.from-total.ensures);
      small = omega (arith, before.small, ap length joins, length-append c.in-Some.piece.now c.next.new.self, c.sum_of.ensures.small, c.from-total.ensures);
    }
