use Rattle.std.proofs.Common.{refl, ◌∙◌, ap, arith, length}
use Rattle.std.proofs.lemmas.List.{length-map}
use Rattle.satl_line.specs.Layout.{held_in, one_fewer}
use Rattle.satl_line.specs.Outlines.{is_of_alone}
use Rattle.satl_line.proofs.PassedLemmas.{without_slot}
use Rattle.satl_line.proofs.AmongLemmas.{taken_without}
use Rattle.satl_line.proofs.NearLemmas.{near_without, only_near_wait, slot_gone}
use Rattle.satl_line.proofs.SlotsLemmas.{leaves, noted_leaves}
use Rattle.satl_line.proofs.set.TaskSet.remove.Goals as goal

pub clear_slot-self-inside-requires-clause-others : goal.clear_slot-self-inside-requires-clause-others
clear_slot-self-inside-requires-clause-others c =
    only_near_wait _ c.self.inside.regions c.args.place c.remove-slot.result c.self.inside.barred c.beside-waiting.result c.index-self-slot.result c.self.invariant.0 c.self.invariant.2 c.self.invariant.4
    (omega (arith, length-map c.self.inside.order (held_in c.self.inside.slots.items), ap length c.self.view_is, c.requires)) c.remove-slot.ensures.value c.beside-waiting.ensures.apart

pub count_down-requires-clause-some : goal.count_down-requires-clause-some
count_down-requires-clause-some c =
    (leaves _ c.args.self.now c.args.place c.remove-slot.result c.index_mut.result.now c.swap.new.x c.entry-entry.result.now
    c.remove-slot.new.self c.push.new.self.items c.clear_slot-self-inside.new.masks _ c.self.invariant.0 c.self.view_is c.requires c.remove-slot.ensures.value c.index_mut.ensures.value (c.entry-entry.ensures ∙ c.swap.ensures.y_after)
    c.remove-slot.ensures.others c.push.ensures.items c.clear_slot-self-inside.ensures.cleared refl).some

pub overflow_sub-self : goal.overflow_sub-self
overflow_sub-self c =
    (leaves _ c.args.self.now c.args.place c.remove-slot.result c.index_mut.result.now c.swap.new.x c.entry-entry.result.now
    c.remove-slot.new.self c.push.new.self.items c.clear_slot-self-inside.new.masks c.count_down.new.tag_counts c.self.invariant.0 c.self.view_is c.requires c.remove-slot.ensures.value c.index_mut.ensures.value (c.entry-entry.ensures ∙ c.swap.ensures.y_after)
    c.remove-slot.ensures.others c.push.ensures.items c.clear_slot-self-inside.ensures.cleared c.count_down.ensures).less

pub invariant_of-self : goal.invariant_of-self
invariant_of-self c =
    let left = (leaves _ c.args.self.now c.args.place c.remove-slot.result c.index_mut.result.now c.swap.new.x c.entry-entry.result.now
    c.remove-slot.new.self c.push.new.self.items c.clear_slot-self-inside.new.masks c.count_down.new.tag_counts c.self.invariant.0 c.self.view_is c.requires c.remove-slot.ensures.value c.index_mut.ensures.value (c.entry-entry.ensures ∙ c.swap.ensures.y_after)
    c.remove-slot.ensures.others c.push.ensures.items c.clear_slot-self-inside.ensures.cleared c.count_down.ensures) in (
      left.sound,
      without_slot c.self.inside.order c.remove-slot.new.self c.self.inside.free.items c.push.new.self.items c.args.place c.remove-slot.result c.self.inside.passed c.without-self-inside.result
          (omega (arith, length-map c.self.inside.order (held_in c.self.inside.slots.items), ap length c.self.view_is, c.requires)) c.remove-slot.ensures.value c.self.invariant.0.taken left.sound.taken c.push.ensures.items left.sound.once c.remove-slot.ensures.others c.without-self-inside.ensures c.self.invariant.1,
      near_without c.self.inside.regions c.forget.new.self c.self.inside.outlines c.self.inside.order c.remove-slot.new.self c.args.place c.remove-slot.result c.remove-slot.ensures.others
          (slot_gone c.remove-slot.new.self c.self.inside.free.items c.push.new.self.items c.remove-slot.result c.push.ensures.items left.sound.small left.sound.once) left.sound.taken c.forget.ensures.room c.forget.ensures.others c.self.invariant.2,
      taken_without c.self.inside.order c.self.inside.free.items c.remove-slot.new.self c.push.new.self.items c.remove-slot.result c.self.inside.taken
          left.sound.small c.push.ensures.items c.self.invariant.0.once left.sound.once c.self.invariant.3,
      c.clear_slot-self-inside.ensures.barred,
      noted_leaves is_of_alone _ c.args.place c.remove-slot.result c.remove-slot.new.self c.push.new.self.items c.self.inside.alone c.self.invariant.0 (omega (arith, length-map c.self.inside.order (held_in c.self.inside.slots.items), ap length c.self.view_is, c.requires))
          c.remove-slot.ensures.value c.remove-slot.ensures.others c.push.ensures.items c.self.invariant.5,
    )

pub returns-clause-value : goal.returns-clause-value
returns-clause-value c =
    (leaves _ c.args.self.now c.args.place c.remove-slot.result c.index_mut.result.now c.swap.new.x c.swap.new.y
    c.remove-slot.new.self c.push.new.self.items c.clear_slot-self-inside.new.masks (one_fewer c.self.inside.tag_counts c.swap.new.y.tag) c.self.invariant.0 c.self.view_is c.requires c.remove-slot.ensures.value c.index_mut.ensures.value c.swap.ensures.y_after
    c.remove-slot.ensures.others c.push.ensures.items c.clear_slot-self-inside.ensures.cleared refl).value

pub returns-clause-others : goal.returns-clause-others
returns-clause-others c =
    (leaves _ c.args.self.now c.args.place c.remove-slot.result c.index_mut.result.now c.swap.new.x c.entry-entry.result.now
    c.remove-slot.new.self c.push.new.self.items c.clear_slot-self-inside.new.masks c.count_down.new.tag_counts c.self.invariant.0 c.self.view_is c.requires c.remove-slot.ensures.value c.index_mut.ensures.value (c.entry-entry.ensures ∙ c.swap.ensures.y_after)
    c.remove-slot.ensures.others c.push.ensures.items c.clear_slot-self-inside.ensures.cleared c.count_down.ensures).rest
