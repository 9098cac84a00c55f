use Rattle.std.proofs.Common.{ap, subst, sym, ◌∙◌, ◌-◌, ◌≡◌, ℕ, false, [], length, Some}
use Rattle.std.specs.Prelude.{slice_get}
use Rattle.satl_base.specs.Lists.{change_at}
use Rattle.satl_line.specs.Tasks.{Held, with_body}
use Rattle.satl_flight.specs.Flown.{is_outstanding}
use Rattle.satl_flight.specs.Lending.{Waiting, whole_tasks}
use Rattle.satl_flight.proofs.LaunchingLemmas.{length-whole}
use Rattle.satl_flight.proofs.QueueLemmas.{fill_lending, fill_whole, last, last_bare, last_fresh}
use Rattle.satl_flight.proofs.queue.Queue.fill_last.Goals as goal

pub put_data-requires-clause-none : goal.put_data-requires-clause-none
put_data-requires-clause-none c =
    let same = ap (λ (n : ℕ). n - 1) (c.len-place.ensures.value ∙ (sym (length-whole c.self.inside.flight c.self.inside.dma c.self.inside.set) ∙ ap (λ (w : Waiting). length w.tasks) c.self.view_is)) in
    let waits = subst (λ n. (h : Held) → slice_get (whole_tasks c.self.inside.flight c.self.inside.dma c.self.inside.set) n ≡ Some h → (is_outstanding c.self.inside.flight h.slot ≡ false) × (h.entry.body ≡ [])) (sym same)
    (subst (λ (w : Waiting). (h : Held) → slice_get w.tasks (length c.args.self.now.tasks - 1) ≡ Some h → (is_outstanding w.flying h.slot ≡ false) × (h.entry.body ≡ [])) (sym c.self.view_is) c.requires.waits) in
    last_bare c.self.inside.flight c.self.inside.dma c.self.inside.set (c.len-place.result - 1) c.slot_of-alone.result c.slot_of-alone.ensures.value waits

pub invariant_of-self : goal.invariant_of-self
invariant_of-self c =
    let same = ap (λ (n : ℕ). n - 1) (c.len-place.ensures.value ∙ (sym (length-whole c.self.inside.flight c.self.inside.dma c.self.inside.set) ∙ ap (λ (w : Waiting). length w.tasks) c.self.view_is)) in
    let waits = subst (λ n. (h : Held) → slice_get (whole_tasks c.self.inside.flight c.self.inside.dma c.self.inside.set) n ≡ Some h → (is_outstanding c.self.inside.flight h.slot ≡ false) × (h.entry.body ≡ [])) (sym same)
    (subst (λ (w : Waiting). (h : Held) → slice_get w.tasks (length c.args.self.now.tasks - 1) ≡ Some h → (is_outstanding w.flying h.slot ≡ false) × (h.entry.body ≡ [])) (sym c.self.view_is) c.requires.waits) in
    let there = last c.self.inside.flight c.self.inside.dma c.self.inside.set (c.len-place.result - 1) c.slot_of-alone.result c.slot_of-alone.ensures.value waits in
    rw c.put_data.ensures (fill_lending c.self.inside.flight c.self.inside.dma c.args.body c.self.inside.set (c.len-place.result - 1) there.0 there.1 (last_fresh c.self.inside.flight c.self.inside.dma c.self.inside.set (c.len-place.result - 1) c.slot_of-alone.result c.slot_of-alone.ensures.value waits) c.self.invariant)

pub returns-clause-filled : goal.returns-clause-filled
returns-clause-filled c =
    let same = ap (λ (n : ℕ). n - 1) (c.len-place.ensures.value ∙ (sym (length-whole c.self.inside.flight c.self.inside.dma c.self.inside.set) ∙ ap (λ (w : Waiting). length w.tasks) c.self.view_is)) in
    let waits = subst (λ n. (h : Held) → slice_get (whole_tasks c.self.inside.flight c.self.inside.dma c.self.inside.set) n ≡ Some h → (is_outstanding c.self.inside.flight h.slot ≡ false) × (h.entry.body ≡ [])) (sym same)
    (subst (λ (w : Waiting). (h : Held) → slice_get w.tasks (length c.args.self.now.tasks - 1) ≡ Some h → (is_outstanding w.flying h.slot ≡ false) × (h.entry.body ≡ [])) (sym c.self.view_is) c.requires.waits) in
    let there = last c.self.inside.flight c.self.inside.dma c.self.inside.set (c.len-place.result - 1) c.slot_of-alone.result c.slot_of-alone.ensures.value waits in
    ap (whole_tasks c.self.inside.flight c.self.inside.dma) c.put_data.ensures
    ∙ (fill_whole c.self.inside.flight c.self.inside.dma c.args.body c.self.inside.set (c.len-place.result - 1) there.0 there.1 (last_fresh c.self.inside.flight c.self.inside.dma c.self.inside.set (c.len-place.result - 1) c.slot_of-alone.result c.slot_of-alone.ensures.value waits)
    ∙ (ap (λ (w : Waiting). change_at w.tasks (c.len-place.result - 1) (with_body c.args.body)) c.self.view_is ∙ ap (λ (at : ℕ). change_at c.args.self.now.tasks at (with_body c.args.body)) same))
