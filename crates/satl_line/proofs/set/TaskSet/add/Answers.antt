use Rattle.std.proofs.Common.{◌∙◌, ap, set, sym, subst, arith}
use Rattle.satl_line.specs.Layout.{AreBarred, with_slot}
use Rattle.satl_line.specs.Outlines.{is_of_alone}
use Rattle.satl_line.specs.Tasks.{count_of}
use Rattle.satl_line.proofs.PassedLemmas.{with_place}
use Rattle.satl_line.proofs.AmongLemmas.{taken_with}
use Rattle.satl_line.proofs.BarredLemmas.{barred_with}
use Rattle.satl_line.proofs.NearLemmas.{near_with, slot_free}
use Rattle.satl_line.proofs.SlotsLemmas.{comes_from, counts_few, noted_comes, slots_of_tasks}
use Rattle.satl_line.proofs.set.TaskSet.add.Goals as goal

pub invariant_of-self : goal.invariant_of-self
invariant_of-self c =
    let come = (comes_from _ c.pop.new.self.items c.in-Some.slot c.with_slot-self-inside.result c.mask_for-mask.result c.args.task.now c.entry-entry.result.now c.swap.new.x c.of-outline.result c.args.self.now
    c.push.new.self c.count_up.new.tag_counts c.of-outline.ensures c.self.invariant.0 c.self.view_is c.in-Some.ensures.items c.mask_for-mask.ensures c.push.ensures (omega arith) c.entry-entry.ensures c.swap.ensures.x_after (c.with_slot-self-inside.ensures ∙ ap (λ b. with_slot b c.in-Some.slot c.self.inside.active) c.is_active.ensures) c.count_up.ensures) in (
      come.sound,
      with_place c.self.inside.order c.push.new.self c.in-Some.slot c.self.inside.passed c.push.ensures c.self.invariant.1,
      near_with c.self.inside.regions c.note.new.self c.self.inside.outlines c.self.inside.order c.push.new.self c.in-Some.slot c.of-outline.result
          (slot_free _ c.pop.new.self.items c.in-Some.slot c.self.invariant.0 c.in-Some.ensures.items).0 (slot_free _ c.pop.new.self.items c.in-Some.slot c.self.invariant.0 c.in-Some.ensures.items).1
          c.push.ensures c.note.ensures.room c.note.ensures.noted c.note.ensures.others c.self.invariant.2,
      taken_with c.self.inside.order c.self.inside.free.items c.push.new.self c.pop.new.self.items c.in-Some.slot c.self.inside.taken
          c.self.invariant.0.small c.in-Some.ensures.items c.self.invariant.0.once come.sound.once c.self.invariant.3,
      let vacant = slot_free _ c.pop.new.self.items c.in-Some.slot c.self.invariant.0 c.in-Some.ensures.items in
          subst (AreBarred (set c.self.inside.masks c.in-Some.slot c.mask_for-mask.result)) (sym c.with_slot-self-inside-3.ensures)
          (barred_with c.self.inside.masks c.in-Some.slot c.mask_for-mask.result c.self.inside.barred (omega (arith, vacant.0, c.self.invariant.0.outlined.room, c.self.invariant.0.wide)) (omega (arith, vacant.0, c.self.invariant.0.outlined.room))
          (c.self.invariant.0.masked.empty c.in-Some.slot (ap (count_of c.in-Some.slot) (slots_of_tasks c.self.inside.slots.items c.self.inside.order) ∙ vacant.1)) c.self.invariant.4),
      noted_comes is_of_alone _ c.pop.new.self.items c.push.new.self c.in-Some.slot c.self.inside.alone c.with_slot-self-inside-2.result c.of-outline.result c.self.invariant.0 c.in-Some.ensures.items c.push.ensures
          (c.with_slot-self-inside-2.ensures ∙ ap (λ b. with_slot b c.in-Some.slot c.self.inside.alone) c.is_alone.ensures) c.self.invariant.5,
    )

pub returns-clause-ok : goal.returns-clause-ok
returns-clause-ok c =
    (comes_from _ c.pop.new.self.items c.in-Some.slot c.with_slot-self-inside.result c.mask_for-mask.result c.args.task.now c.entry-entry.result.now c.swap.new.x c.of-outline.result c.args.self.now
    c.push.new.self c.count_up.new.tag_counts c.of-outline.ensures c.self.invariant.0 c.self.view_is c.in-Some.ensures.items c.mask_for-mask.ensures c.push.ensures (omega arith) c.entry-entry.ensures c.swap.ensures.x_after (c.with_slot-self-inside.ensures ∙ ap (λ b. with_slot b c.in-Some.slot c.self.inside.active) c.is_active.ensures) c.count_up.ensures).adds

pub count_up-requires-clause-few : goal.count_up-requires-clause-few
count_up-requires-clause-few c = counts_few _ c.entry-entry.result.now.tag c.self.invariant.0
