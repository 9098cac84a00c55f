use Rattle.std.proofs.Common.{arith, refl, ap, ◌∙◌, length}
use Rattle.satl_telling.proofs.TellingLemmas.{all_placed, none_placed, one_placed}
use Rattle.satl_telling.proofs.telling.in_pages.Goals as goal

pub loop-left-init : goal.loop-left-init
loop-left-init c =
    let empty = ap length c.default-done.ensures in
    record {
      within = omega (arith, c.div_ceil-left.ensures);
      placed = none_placed c.args.bytes.now c.div_ceil-left.result c.default-done.result (omega (arith, c.div_ceil-left.ensures)) c.default-done.ensures;
      fresh = c.in-Some.ensures.pages;
      count = omega (arith, empty, c.div_ceil-left.ensures);
      same = refl;
      free = refl;
      out = refl;
    }

pub loop-left-preserved : goal.loop-left-preserved
loop-left-preserved c =
    let more = ap length c.push_first.ensures in
    record {
      within = omega (arith, c.loop-left.invariant.within);
      placed = one_placed c.args.bytes.now c.loop-left.left _ c.loop-left.done c.push_first.new.self _ c.loop-left.invariant.within (omega (arith, c.loop-left-test.true)) c.loop-left.invariant.placed (c.set.ensures ∙ c.padded.ensures) c.push_first.ensures;
      fresh = omega (arith, c.in-Some-pop_first.ensures.len, c.loop-left.invariant.fresh);
      count = omega (arith, more, c.loop-left-test.true, c.loop-left.invariant.count);
      same = refl;
      free = c.loop-left.invariant.free;
      out = c.loop-left.invariant.out;
    }

pub returns-clause-pages : goal.returns-clause-pages
returns-clause-pages c = all_placed c.args.bytes.now c.loop-left.left c.loop-left.done (omega (arith, c.loop-left-test.false)) c.loop-left.invariant.placed
