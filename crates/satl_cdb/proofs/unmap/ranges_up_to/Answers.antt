use Rattle.std.proofs.Common.{◌+◌, ◌<◌, ◌≤◌, sym, ◌∙◌, arith}
use Rattle.satl_cdb.proofs.DescriptorSteps.{goes_on, outside, too_many, all_taken}
use Rattle.satl_cdb.proofs.unmap.ranges_up_to.Goals as goal

pub returns-then-goes_past-clause-refusal : goal.returns-then-goes_past-clause-refusal
returns-then-goes_past-clause-refusal c =
    rw c.list_out_of_range.ensures
    (outside _ _ _ _ _ _ c.descriptor_at-range.result c.loop-i-test.true c.descriptor_at-range.ensures (sym c.goes_past.ensures ∙ c.if-goes_past.true) c.loop-i.invariant.at)

pub returns-then-range-sum-clause-refusal : goal.returns-then-range-sum-clause-refusal
returns-then-range-sum-clause-refusal c =
    let more : 65536 < c.loop-i.sum + c.descriptor_at-range.result.count = let h = c.if-range-sum.true in let k = c.loop-i.invariant.few in omega arith in
    rw c.invalid_list_field.ensures
    (too_many _ _ _ _ _ _ c.descriptor_at-range.result c.loop-i-test.true c.descriptor_at-range.ensures (sym c.goes_past.ensures ∙ c.if-goes_past.false) more c.loop-i.invariant.at)

pub loop-i-preserved : goal.loop-i-preserved
loop-i-preserved c =
    let few : c.loop-i.sum + c.descriptor_at-range.result.count ≤ 65536 = let h = c.if-range-sum.false in let k = c.loop-i.invariant.few in omega arith in
    record {
      at = goes_on _ _ _ _ _ _ c.descriptor_at-range.result c.push_used.new.ranges.items c.loop-i-test.true c.descriptor_at-range.ensures (sym c.goes_past.ensures ∙ c.if-goes_past.false) few c.push_used.ensures.items c.loop-i.invariant.at;
      few = few;
      room = let h = c.push_used.ensures.len in let k = c.loop-i.invariant.room in omega arith;
    }

pub returns-clause-ranges : goal.returns-clause-ranges
returns-clause-ranges c = all_taken _ _ _ _ _ _ c.loop-i-test.false c.loop-i.invariant.at
