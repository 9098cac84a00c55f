use Rattle.std.proofs.Common.{◌≡◌, ⊎_elim, inl, inr, refl, sym, ap, subst, arith, ◌∙◌, ◌+◌, ◌-◌, Some, true, false, length}
use Rattle.std.specs.Prelude.{slice_get}
use Rattle.satl_line.specs.declared.entry.Entry.{Entry}
use Rattle.satl_line.specs.Kinds.{kind_of}
use Rattle.satl_line.specs.Tasks.{is_too_much}
use Rattle.satl_direct.specs.Tasks.{asks, held_blocks, needed}
use Rattle.satl_core.specs.Layer.{CanTrim, IsTask, Layer, entry_pages, held_pages}
use Rattle.satl_base.specs.Limits.{IsExpectable}
use Rattle.satl_core.proofs.JudgingLemmas.{list_held, long_enough}
use Rattle.std.specs.Prelude.{IfSome}
use Rattle.satl_mode.specs.Changes.{IsChangeOf}
use Rattle.satl_asks.specs.Commands.{HasList}
use Rattle.satl_core.specs.Submitting.{Becomes, trims}
use Rattle.satl_core.proofs.HeldLemmas.{held_is, on_ok}
use Rattle.satl_core.proofs.Transfers.{task_needs}
use Rattle.satl_core.specs.Refilling.{Comes}
use Rattle.satl_core.proofs.TieLemmas.{layer_of}
use Rattle.satl_core.proofs.AddingLemmas.{HasPages, becomes_added, can_trim, comes_with, count_with, fits_in, given_pages, held_with, kept_with, last_is, own_entries, tasks_with}
use Rattle.satl_core.proofs.AgreeingLemmas.{HasOwnEntries}
use Rattle.satl_core.proofs.satl.Satl.add_task.Goals as goal

pub put_task-requires-clause-holds : goal.put_task-requires-clause-holds
put_task-requires-clause-holds c =
    let long = long_enough c.args.self.now c.args.request c.args.command.now c.requires.judged in
    ⊎_elim inr (λ short. inl (list_held c.args.request (needed c.args.command.now) c.requires.holds long short)) (task_needs c.args.self.now.identity.capacity (held_blocks c.args.command.now) c.args.command.now c.requires.task)

pub put_task-requires-clause-list : goal.put_task-requires-clause-list
put_task-requires-clause-list c = subst (λ (l : Layer). HasList c.args.command.now c.args.request.body l.identity.capacity) (sym c.self.view_is) c.requires.list

pub own_pages-body-requires-clause-list : goal.own_pages-body-requires-clause-list
own_pages-body-requires-clause-list c = subst (λ (l : Layer). HasList c.args.command.now c.args.request.body l.identity.capacity) (sym c.self.view_is) c.requires.list

pub own_pages-body-requires-clause-trim : goal.own_pages-body-requires-clause-trim
own_pages-body-requires-clause-trim c = subst (λ (l : Layer). trims c.args.command.now ≡ true → l.identity.trim ≡ true) (sym c.self.view_is) c.requires.trims

pub own_pages-body-requires-clause-room : goal.own_pages-body-requires-clause-room
own_pages-body-requires-clause-room c =
    let adds = on_ok c.add.result _ (sym c.is_err.ensures.value ∙ c.if-is_err.false) c.add.ensures.ok in
    let total = fits_in c.self.inside.queue.tasks c.put_task.new.task (sym c.add.ensures.full ∙ (sym c.is_err.ensures.value ∙ c.if-is_err.false)) in
    let blocks = ap (λ (e : Entry). e.blocks) c.put_task.ensures in
    let held = held_is c.self.inside.identity c.self.inside.queue.tasks c.self.invariant.kept in
    let view = ap (λ (l : Layer). l.out) c.self.view_is in
    omega (arith, total, blocks, held, view, ap (λ (l : Layer). length l.tasks) c.self.view_is, c.requires.few, c.self.invariant.all, c.self.invariant.held, c.requires.can.pages)

pub own_pages-body-requires-clause-written : goal.own_pages-body-requires-clause-written
own_pages-body-requires-clause-written c =
    let needs = task_needs c.self.inside.identity.capacity (held_blocks c.args.command.now) c.args.command.now (subst (λ (l : Layer). IsTask l.identity.capacity c.args.command.now (held_blocks c.args.command.now)) (sym c.self.view_is) c.requires.task) in
    let room = own_pages-body-requires-clause-room c in
    let long = long_enough c.args.self.now c.args.request c.args.command.now c.requires.judged in
    let view = ap (λ (l : Layer). l.free) c.self.view_is in
    ⊎_elim (λ blocks. ⊎_elim (λ all. omega (arith, long, all)) (λ none. omega (arith, blocks, room, view, none)) c.requires.can.all) (λ short. list_held c.args.request (needed c.args.command.now) c.requires.holds long short) needs

pub fill_last-requires-clause-some : goal.fill_last-requires-clause-some
fill_last-requires-clause-some c =
    let adds = on_ok c.add.result _ (sym c.is_err.ensures.value ∙ c.if-is_err.false) c.add.ensures.ok in
    let count = count_with c.self.inside.queue.tasks c.add.new.self.tasks c.put_task.new.task adds in
    omega (arith, count)

pub fill_last-requires-clause-waits : goal.fill_last-requires-clause-waits
fill_last-requires-clause-waits c = λ h stands.
    let adds = on_ok c.add.result _ (sym c.is_err.ensures.value ∙ c.if-is_err.false) c.add.ensures.ok in
    let waits = on_ok c.add.result _ (sym c.is_err.ensures.value ∙ c.if-is_err.false) c.add.ensures.waits in
    let count = count_with c.self.inside.queue.tasks c.add.new.self.tasks c.put_task.new.task adds in
    let place : length c.add.new.self.tasks - 1 ≡ length c.self.inside.queue.tasks = omega (arith, count) in
    let at = subst (λ n. slice_get c.add.new.self.tasks n ≡ Some h) place stands in
    (waits h at, ap (λ (e : Entry). e.body) (last_is c.self.inside.queue.tasks c.add.new.self.tasks c.put_task.new.task (length c.self.inside.queue.tasks) adds refl h at ∙ c.put_task.ensures))

pub invariant_of-self-2 : goal.invariant_of-self-2
invariant_of-self-2 c =
    let adds = on_ok c.add.result _ (sym c.is_err.ensures.value ∙ c.if-is_err.false) c.add.ensures.ok in
    let count = count_with c.self.inside.queue.tasks c.add.new.self.tasks c.put_task.new.task adds in
    let task = c.put_task.ensures in
    let has = given_pages c.self.inside.queue.tasks c.add.new.self.tasks c.fill_last.new.self.tasks c.put_task.new.task c.own_pages-body.result (length c.add.new.self.tasks - 1) adds (omega (arith, count)) c.fill_last.ensures.filled in
    let held = held_with c.self.inside.queue.tasks c.fill_last.new.self.tasks c.put_task.new.task c.own_pages-body.result has in
    let view = ap (λ (l : Layer). l.out) c.self.view_is in
    let transfer = subst (λ (l : Layer). IsTask l.identity.capacity c.args.command.now (held_blocks c.args.command.now)) (sym c.self.view_is) c.requires.task in
    record {
      held = omega (arith, held, view, c.self.invariant.held, c.requires.can.pages, c.own_pages-body.ensures.size, c.own_pages-body.ensures.out);
      all = omega (arith, view, c.self.invariant.held, c.self.invariant.all, c.requires.can.pages, c.own_pages-body.ensures.free, c.own_pages-body.ensures.out);
      kept = kept_with c.self.inside.identity c.self.inside.queue.tasks c.fill_last.new.self.tasks c.put_task.new.task c.own_pages-body.result c.self.invariant.kept
          (subst (λ (e : Entry). length c.own_pages-body.result ≡ e.blocks + entry_pages e.command c.self.inside.identity.queued_trim) (sym task) c.own_pages-body.ensures.size)
          (subst (λ (e : Entry). CanTrim c.self.inside.identity e.command e.ranges.items) (sym task) (can_trim c.self.inside.identity c.args.request c.args.command.now (held_blocks c.args.command.now) c.self.invariant.identity_is transfer (subst (λ (l : Layer). HasList c.args.command.now c.args.request.body l.identity.capacity) (sym c.self.view_is) c.requires.list) (subst (λ (l : Layer). trims c.args.command.now ≡ true → l.identity.trim ≡ true) (sym c.self.view_is) c.requires.trims)))
          (subst (λ (e : Entry). IsTask c.self.inside.identity.capacity e.command e.blocks) (sym task) transfer)
          (subst (λ (e : Entry). e.kind ≡ kind_of e.command c.self.inside.identity.queued_trim) (sym task) refl)
          (subst (λ (e : Entry). IfSome e.change (IsChangeOf c.self.inside.identity)) (sym task) (subst (λ (l : Layer). IfSome ((asks c.args.command.now).change c.args.request.body) (IsChangeOf l.identity)) (sym c.self.view_is) c.requires.change))
          (subst (λ (e : Entry). IsExpectable e.expected) (sym task) c.requires.can.expected) has;
      identity_is = c.self.invariant.identity_is;
    }

pub returns-clause-becomes : goal.returns-clause-becomes
returns-clause-becomes c =
    let full = sym c.add.ensures.full ∙ (sym c.is_err.ensures.value ∙ c.if-is_err.false) in
    let adds = on_ok c.add.result _ (sym c.is_err.ensures.value ∙ c.if-is_err.false) c.add.ensures.ok in
    let count = count_with c.self.inside.queue.tasks c.add.new.self.tasks c.put_task.new.task adds in
    let task = c.put_task.ensures in
    let has = given_pages c.self.inside.queue.tasks c.add.new.self.tasks c.fill_last.new.self.tasks c.put_task.new.task c.own_pages-body.result (length c.add.new.self.tasks - 1) adds (omega (arith, count)) c.fill_last.ensures.filled in
    let layer = layer_of c.self.inside.identity c.self.inside.modes c.self.inside.started c.self.inside.down c.self.inside.attentions c.fill_last.new.self c.own_pages-body.new.pool in
    let old = layer_of c.self.inside.identity c.self.inside.modes c.self.inside.started c.self.inside.down c.self.inside.attentions c.self.inside.queue c.self.inside.pool in
    let held = held_with c.self.inside.queue.tasks c.fill_last.new.self.tasks c.put_task.new.task c.own_pages-body.result has in
    let view = ap (λ (l : Layer). l.out) c.self.view_is in
    let none : c.own_pages-body.new.pool.out - held_pages c.fill_last.new.self.tasks ≡ 0 = omega (arith, held, view, c.self.invariant.held, c.requires.can.pages, c.own_pages-body.ensures.size, c.own_pages-body.ensures.out) in
    subst (λ (l : Layer). Becomes c.args.request c.args.command.now l c.args.replies.now layer) c.self.view_is
    (becomes_added c.args.request c.args.command.now old c.args.replies.now layer (subst (λ (e : Entry). is_too_much c.self.inside.queue.tasks e ≡ false) task full)
    (record {
      none = c.requires.empty;
      last = tasks_with c.self.inside.queue.tasks c.fill_last.new.self.tasks c.args.request c.args.command.now c.self.inside.identity.queued_trim c.own_pages-body.result c.own_pages-body.ensures.data (subst (λ (e : Entry). HasPages c.self.inside.queue.tasks e c.own_pages-body.result c.fill_last.new.self.tasks) task has);
      stays = ap (λ n. record layer { out = n }) none ∙ (ap (λ fs. record layer { flying = fs; out = 0 }) (c.fill_last.ensures.flying ∙ c.add.ensures.flying) ∙ ap (λ ss. record layer { flying = c.self.inside.queue.flying; slots = ss; out = 0 }) (c.fill_last.ensures.slots ∙ c.add.ensures.slots));
    }))

pub returns-clause-long : goal.returns-clause-long
returns-clause-long c = λ none. own_pages-body-requires-clause-written c.before.before.before

pub returns-clause-comes : goal.returns-clause-comes
returns-clause-comes c = λ none.
    let adds = on_ok c.add.result _ (sym c.is_err.ensures.value ∙ c.if-is_err.false) c.add.ensures.ok in
    let count = count_with c.self.inside.queue.tasks c.add.new.self.tasks c.put_task.new.task adds in
    let has = given_pages c.self.inside.queue.tasks c.add.new.self.tasks c.fill_last.new.self.tasks c.put_task.new.task c.own_pages-body.result (length c.add.new.self.tasks - 1) adds (omega (arith, count)) c.fill_last.ensures.filled in
    subst (λ (l : Layer). Comes l.identity.capacity l.identity.queued_trim l.tasks c.fill_last.new.self.tasks) c.self.view_is
    (comes_with c.self.inside.identity c.self.inside.queue.tasks c.fill_last.new.self.tasks c.put_task.new.task c.own_pages-body.result (invariant_of-self-2 c).kept
    (subst (λ (e : Entry). HasOwnEntries e.command c.self.inside.identity.queued_trim e.ranges.items c.own_pages-body.result) (sym c.put_task.ensures) (own_entries c.args.request c.args.command.now c.self.inside.identity.queued_trim c.own_pages-body.result c.own_pages-body.ensures.entries)) has)
