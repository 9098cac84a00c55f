use Rattle.std.proofs.Common.{◌≡◌, ◌≤◌, arith, sym, ap, subst, ◌∙◌, ◌∷◌, [], true, false, length, Err, Ok}
use Rattle.std.specs.Prelude.{IfSome}
use Rattle.std.proofs.lemmas.List.{nil_from_length}
use Rattle.satl_base.specs.declared.request.Request.{Request}
use Rattle.satl_identify.proofs.Judging.{capacity_bounds}
use Rattle.satl_mode.specs.Changes.{IsChangeOf}
use Rattle.satl_line.specs.Tasks.{total_blocks}
use Rattle.satl_direct.specs.Tasks.{asks, held_blocks}
use Rattle.satl_direct.specs.Valid.{IsValid}
use Rattle.satl_core.specs.Layer.{IsTask, Layer, view}
use Rattle.satl_core.specs.Refilling.{Comes}
use Rattle.satl_asks.specs.Commands.{HasList}
use Rattle.satl_core.specs.Submitting.{Becomes, judged, once_judged, reply_at_once, trims}
use Rattle.satl_core.proofs.AddingLemmas.{becomes_whole}
use Rattle.satl_core.proofs.ArrivalLemmas.{answers_at_once, becomes_arrives, held_by_is}
use Rattle.satl_core.proofs.CutLemmas.{judged_whole}
use Rattle.satl_core.proofs.CountedLemmas.{becomes_more, few_tasks, tasks_seen}
use Rattle.satl_core.proofs.DeviceLemmas.{arrives_around}
use Rattle.satl_core.proofs.HeldLemmas.{held_is}
use Rattle.satl_core.proofs.OverlapLemmas.{sent_around}
use Rattle.satl_core.proofs.TieLemmas.{layer_of}
use Rattle.satl_core.proofs.ValidLemmas.{becomes_down, becomes_flying, came_agrees, came_last, filled_up, filled_up_cut, filled_up_holds, full_tied, once_judged_valid, tied_told}
use Rattle.satl_core.proofs.satl.Satl.submit.Goals as goal

pub judge-requires-clause-holds : goal.judge-requires-clause-holds
judge-requires-clause-holds g c = c.overlaps.ensures.holds c.requires.can (subst (λ n. n ≤ 32768) (held_by_is c.args.self.now.tasks) c.requires.tied.agrees.valid.blocks) (few_tasks c.args.self.now.tasks c.requires.tied.agrees.valid.few)

pub add_task-requires-clause-holds : goal.add_task-requires-clause-holds
add_task-requires-clause-holds g c = c.overlaps.ensures.holds c.requires.can (subst (λ n. n ≤ 32768) (held_by_is c.args.self.now.tasks) c.requires.tied.agrees.valid.blocks) (few_tasks c.args.self.now.tasks c.requires.tied.agrees.valid.few)

pub add_task-requires-clause-task : goal.add_task-requires-clause-task
add_task-requires-clause-task g c = subst (λ (l : Layer). IsTask l.identity.capacity c.in-Ok.command (held_blocks c.in-Ok.command)) (sym c.in-Ok.ensures.same) c.in-Ok.ensures.task

pub add_task-requires-clause-change : goal.add_task-requires-clause-change
add_task-requires-clause-change g c = subst (λ (l : Layer). IfSome ((asks c.in-Ok.command).change c.args.request.body) (IsChangeOf l.identity)) (sym c.in-Ok.ensures.same) (c.in-Ok.ensures.change c.requires.tied.agrees.valid.modes)

pub add_task-requires-clause-few : goal.add_task-requires-clause-few
add_task-requires-clause-few g c = subst (λ (l : Layer). length l.tasks ≤ 64) (sym c.in-Ok.ensures.same) (few_tasks c.args.self.now.tasks c.requires.tied.agrees.valid.few)

pub add_task-requires-clause-list : goal.add_task-requires-clause-list
add_task-requires-clause-list g c = subst (λ (l : Layer). HasList c.in-Ok.command c.args.request.body l.identity.capacity) (sym c.in-Ok.ensures.same) c.in-Ok.ensures.list

pub add_task-requires-clause-trims : goal.add_task-requires-clause-trims
add_task-requires-clause-trims g c = subst (λ (l : Layer). trims c.in-Ok.command ≡ true → l.identity.trim ≡ true) (sym c.in-Ok.ensures.same) c.in-Ok.ensures.trims

pub send_last-requires-clause-agrees : goal.send_last-requires-clause-agrees
send_last-requires-clause-agrees g c =
    let r = c.args.request in
    let holds = c.overlaps.ensures.holds c.requires.can (subst (λ n. n ≤ 32768) (held_by_is c.args.self.now.tasks) c.requires.tied.agrees.valid.blocks) (few_tasks c.args.self.now.tasks c.requires.tied.agrees.valid.few) in
    let becomes = subst (λ (l : Layer). Becomes r c.in-Ok.command l c.add_task.new.replies c.add_task.new.self) c.in-Ok.ensures.same c.add_task.ensures.becomes in
    came_agrees c.args.self.now c.add_task.new.self (g.D.Drive.state c.args.drive.now) (filled_up r) c.in-Ok.command c.add_task.new.replies
    (becomes_whole (filled_up r) r (length r.body) c.args.self.now.identity.capacity c.in-Ok.command c.args.self.now c.add_task.new.replies c.add_task.new.self (filled_up_cut r) c.in-Ok.ensures.task c.in-Ok.ensures.list c.add_task.ensures.long becomes)
    (nil_from_length c.add_task.new.replies (sym c.len.ensures.count ∙ c.if-len-eq0.true)) (subst (λ (l : Layer). c.add_task.new.replies ≡ [] → Comes l.identity.capacity l.identity.queued_trim l.tasks c.add_task.new.self.tasks) c.in-Ok.ensures.same c.add_task.ensures.comes) c.requires.tied
    (judged_whole c.args.self.now (filled_up r) r (length r.body) _ (filled_up_cut r) c.in-Ok.ensures.lengths holds (sym c.in-Ok.ensures.judged)) (filled_up_holds r) c.requires.can.expected

pub send_last-requires-clause-came : goal.send_last-requires-clause-came
send_last-requires-clause-came g c =
    let becomes = subst (λ (l : Layer). Becomes c.args.request c.in-Ok.command l c.add_task.new.replies c.add_task.new.self) c.in-Ok.ensures.same c.add_task.ensures.becomes in
    came_last c.args.self.now c.add_task.new.self (g.D.Drive.state c.args.drive.now) c.args.request c.in-Ok.command c.add_task.new.replies becomes
    (nil_from_length c.add_task.new.replies (sym c.len.ensures.count ∙ c.if-len-eq0.true)) (subst (λ (l : Layer). c.add_task.new.replies ≡ [] → Comes l.identity.capacity l.identity.queued_trim l.tasks c.add_task.new.self.tasks) c.in-Ok.ensures.same c.add_task.ensures.comes) c.requires.tied

pub send_last-requires-clause-room : goal.send_last-requires-clause-room
send_last-requires-clause-room g c =
    let becomes = subst (λ (l : Layer). Becomes c.args.request c.in-Ok.command l c.add_task.new.replies c.add_task.new.self) c.in-Ok.ensures.same c.add_task.ensures.becomes in
    let more = (becomes_more c.args.request c.in-Ok.command c.args.self.now c.add_task.new.replies c.add_task.new.self becomes).0 in
    let count = tasks_seen c.args.self.now.tasks in
    omega (arith, more, count, c.requires.tied.agrees.valid.few, c.len.ensures.count, c.if-len-eq0.true)

pub answer_at_once-requires-clause-capacity : goal.answer_at_once-requires-clause-capacity
answer_at_once-requires-clause-capacity g c = (capacity_bounds c.self.inside.identity c.self.invariant.identity_is).0

pub answer_at_once-requires-clause-room : goal.answer_at_once-requires-clause-room
answer_at_once-requires-clause-room g c =
    let same = ap (λ (l : Layer). l.tasks) (c.self.view_is ∙ c.in-Err.ensures.kept) in
    let blocks : total_blocks c.self.inside.queue.tasks ≤ 32768 = subst (λ ts. total_blocks ts ≤ 32768) (sym same) (subst (λ n. n ≤ 32768) (held_by_is c.args.self.now.tasks) c.requires.tied.agrees.valid.blocks) in
    let few : length c.self.inside.queue.tasks ≤ 64 = subst (λ ts. length ts ≤ 64) (sym same) (few_tasks c.args.self.now.tasks c.requires.tied.agrees.valid.few) in
    let held = held_is c.self.inside.identity c.self.inside.queue.tasks c.self.invariant.kept in
    let out = ap (λ (l : Layer). l.out) (c.self.view_is ∙ c.in-Err.ensures.kept) in
    omega (arith, blocks, few, held, out, c.requires.can.pages, c.self.invariant.all, c.self.invariant.held)

pub returns-then-len-eq0-clause-around : goal.returns-then-len-eq0-clause-around
returns-then-len-eq0-clause-around g c = λ w cut.
    let holds = c.overlaps.ensures.holds c.requires.can (subst (λ n. n ≤ 32768) (held_by_is c.args.self.now.tasks) c.requires.tied.agrees.valid.blocks) (few_tasks c.args.self.now.tasks c.requires.tied.agrees.valid.few) in
    let becomes = subst (λ (l : Layer). Becomes c.args.request c.in-Ok.command l c.add_task.new.replies c.add_task.new.self) c.in-Ok.ensures.same c.add_task.ensures.becomes in
    let judged_is : judged c.args.self.now w ≡ Ok c.in-Ok.command = judged_whole c.args.self.now w c.args.request cut.count _ cut.cut_is c.in-Ok.ensures.lengths holds (sym c.in-Ok.ensures.judged) in
    sent_around w _ (view c.add_task.new.self (g.D.Drive.state c.args.drive.now)) _ c.add_task.new.replies _ (becomes_arrives c.args.self.now c.add_task.new.self (g.D.Drive.state c.args.drive.now) w c.in-Ok.command c.add_task.new.replies judged_is
    (becomes_whole w c.args.request cut.count c.args.self.now.identity.capacity c.in-Ok.command c.args.self.now c.add_task.new.replies c.add_task.new.self cut.cut_is c.in-Ok.ensures.task c.in-Ok.ensures.list c.add_task.ensures.long becomes)) c.send_last.ensures.refills

pub returns-then-len-eq0-clause-more : goal.returns-then-len-eq0-clause-more
returns-then-len-eq0-clause-more g c =
    let becomes = subst (λ (l : Layer). Becomes c.args.request c.in-Ok.command l c.add_task.new.replies c.add_task.new.self) c.in-Ok.ensures.same c.add_task.ensures.becomes in
    let more = (becomes_more c.args.request c.in-Ok.command c.args.self.now c.add_task.new.replies c.add_task.new.self becomes).0 in
    omega (arith, more, c.send_last.ensures.rest.fewer)

pub returns-then-len-eq0-clause-modes : goal.returns-then-len-eq0-clause-modes
returns-then-len-eq0-clause-modes g c =
    let becomes = subst (λ (l : Layer). Becomes c.args.request c.in-Ok.command l c.add_task.new.replies c.add_task.new.self) c.in-Ok.ensures.same c.add_task.ensures.becomes in
    c.send_last.ensures.rest.modes ∙ (becomes_more c.args.request c.in-Ok.command c.args.self.now c.add_task.new.replies c.add_task.new.self becomes).1

pub returns-then-len-eq0-clause-unasked : goal.returns-then-len-eq0-clause-unasked
returns-then-len-eq0-clause-unasked g c = λ down.
    let becomes = subst (λ (l : Layer). Becomes c.args.request c.in-Ok.command l c.add_task.new.replies c.add_task.new.self) c.in-Ok.ensures.same c.add_task.ensures.becomes in
    c.send_last.ensures.unasked (becomes_down c.args.self.now c.add_task.new.self (g.D.Drive.state c.args.drive.now) c.args.request c.in-Ok.command c.add_task.new.replies becomes ∙ down)

pub returns-then-len-eq0-clause-uncalled : goal.returns-then-len-eq0-clause-uncalled
returns-then-len-eq0-clause-uncalled g c = λ down.
    let becomes = subst (λ (l : Layer). Becomes c.args.request c.in-Ok.command l c.add_task.new.replies c.add_task.new.self) c.in-Ok.ensures.same c.add_task.ensures.becomes in
    c.send_last.ensures.uncalled (becomes_down c.args.self.now c.add_task.new.self (g.D.Drive.state c.args.drive.now) c.args.request c.in-Ok.command c.add_task.new.replies becomes ∙ down)

pub returns-then-len-eq0-clause-calls : goal.returns-then-len-eq0-clause-calls
returns-then-len-eq0-clause-calls g c =
    let becomes = subst (λ (l : Layer). Becomes c.args.request c.in-Ok.command l c.add_task.new.replies c.add_task.new.self) c.in-Ok.ensures.same c.add_task.ensures.becomes in
    let more = (becomes_more c.args.request c.in-Ok.command c.args.self.now c.add_task.new.replies c.add_task.new.self becomes).0 in
    omega (arith, more, c.send_last.ensures.rest.fewer, c.send_last.ensures.steps)

pub returns-else-len-eq0-clause-around : goal.returns-else-len-eq0-clause-around
returns-else-len-eq0-clause-around g c = λ w cut.
    let holds = c.overlaps.ensures.holds c.requires.can (subst (λ n. n ≤ 32768) (held_by_is c.args.self.now.tasks) c.requires.tied.agrees.valid.blocks) (few_tasks c.args.self.now.tasks c.requires.tied.agrees.valid.few) in
    let becomes = subst (λ (l : Layer). Becomes c.args.request c.in-Ok.command l c.add_task.new.replies c.add_task.new.self) c.in-Ok.ensures.same c.add_task.ensures.becomes in
    let judged_is : judged c.args.self.now w ≡ Ok c.in-Ok.command = judged_whole c.args.self.now w c.args.request cut.count _ cut.cut_is c.in-Ok.ensures.lengths holds (sym c.in-Ok.ensures.judged) in
    arrives_around w _ _ _ (becomes_arrives c.args.self.now c.add_task.new.self (g.D.Drive.state c.args.drive.now) w c.in-Ok.command c.add_task.new.replies judged_is
    (becomes_whole w c.args.request cut.count c.args.self.now.identity.capacity c.in-Ok.command c.args.self.now c.add_task.new.replies c.add_task.new.self cut.cut_is c.in-Ok.ensures.task c.in-Ok.ensures.list c.add_task.ensures.long becomes))

pub returns-else-len-eq0-clause-tied : goal.returns-else-len-eq0-clause-tied
returns-else-len-eq0-clause-tied g c =
    let becomes = subst (λ (l : Layer). Becomes c.args.request c.in-Ok.command l c.add_task.new.replies c.add_task.new.self) c.in-Ok.ensures.same c.add_task.ensures.becomes in
    full_tied c.args.self.now c.add_task.new.self (g.D.Drive.state c.args.drive.now) c.args.request c.in-Ok.command c.add_task.new.replies becomes
    (λ none. c.if-len-eq0.false (c.len.ensures.count ∙ ap length none)) c.requires.tied

pub returns-in-Err-clause-around : goal.returns-in-Err-clause-around
returns-in-Err-clause-around g c = λ w cut.
    let holds = c.overlaps.ensures.holds c.requires.can (subst (λ n. n ≤ 32768) (held_by_is c.args.self.now.tasks) c.requires.tied.agrees.valid.blocks) (few_tasks c.args.self.now.tasks c.requires.tied.agrees.valid.few) in
    let judged_is : judged c.args.self.now w ≡ Err c.in-Err.answer = judged_whole c.args.self.now w c.args.request cut.count _ cut.cut_is c.in-Err.ensures.lengths holds (sym c.in-Err.ensures.judged) in
    arrives_around w _ _ _ (answers_at_once c.args.self.now _ (g.D.Drive.state c.args.drive.now) w c.in-Err.answer c.answer_at_once.new.replies c.requires.tied.agrees.mark judged_is
    (c.answer_at_once.ensures.reply ∙ (ap (λ (x : Request). reply_at_once c.self.inside.identity c.self.inside.modes x c.in-Err.answer ∷ []) cut.cut_is ∙ ap (λ (l : Layer). reply_at_once l.identity l.modes w c.in-Err.answer ∷ []) (c.self.view_is ∙ c.in-Err.ensures.kept)))
    (ap (λ l. view l (g.D.Drive.state c.args.drive.now)) (c.self.view_is ∙ c.in-Err.ensures.left) ∙ ap (λ (x : Request). view (once_judged c.args.self.now x) (g.D.Drive.state c.args.drive.now)) cut.cut_is))

pub returns-in-Err-clause-tied : goal.returns-in-Err-clause-tied
returns-in-Err-clause-tied g c =
    let d = g.D.Drive.state c.args.drive.now in
    let i = c.self.inside in
    let new = layer_of i.identity i.modes i.started i.down i.attentions i.queue c.answer_at_once.new.pool in
    tied_told c.args.self.now new d (ap (λ (l : Layer). record l { free = new.free; out = new.out }) (c.self.view_is ∙ c.in-Err.ensures.kept) ∙ ap (λ lists. record c.args.self.now { attentions = lists; free = new.free; out = new.out }) (sym (ap (λ (l : Layer). l.attentions) c.self.view_is)))
    (subst IsValid (sym (ap (λ l. view l d) (c.self.view_is ∙ c.in-Err.ensures.left))) (once_judged_valid c.args.self.now d c.args.request c.requires.tied.agrees.valid)) c.requires.tied

pub returns-then-overlaps-clause-issues : goal.returns-then-overlaps-clause-issues
returns-then-overlaps-clause-issues g c = λ apart up. let no : true ≡ false = sym c.if-overlaps.true ∙ (c.overlaps.ensures.value ∙ apart) in absurd cc

pub returns-then-len-eq0-clause-issues : goal.returns-then-len-eq0-clause-issues
returns-then-len-eq0-clause-issues g c = λ apart up.
    let becomes = subst (λ (l : Layer). Becomes c.args.request c.in-Ok.command l c.add_task.new.replies c.add_task.new.self) c.in-Ok.ensures.same c.add_task.ensures.becomes in
    let flying = ap length (becomes_flying c.args.self.now c.add_task.new.self (g.D.Drive.state c.args.drive.now) c.args.request c.in-Ok.command c.add_task.new.replies becomes) in
    omega (arith, flying, c.send_last.ensures.issues up)

pub returns-then-len-eq0-clause-resets : goal.returns-then-len-eq0-clause-resets
returns-then-len-eq0-clause-resets g c = λ meets up. let no : true ≡ false = sym meets ∙ (sym c.overlaps.ensures.value ∙ c.if-overlaps.false) in absurd cc

pub returns-else-len-eq0-clause-issues : goal.returns-else-len-eq0-clause-issues
returns-else-len-eq0-clause-issues g c = λ apart up.
    let becomes = subst (λ (l : Layer). Becomes c.args.request c.in-Ok.command l c.add_task.new.replies c.add_task.new.self) c.in-Ok.ensures.same c.add_task.ensures.becomes in
    let flying = ap length (becomes_flying c.args.self.now c.add_task.new.self (g.D.Drive.state c.args.drive.now) c.args.request c.in-Ok.command c.add_task.new.replies becomes) in
    omega (arith, flying)

pub returns-else-len-eq0-clause-resets : goal.returns-else-len-eq0-clause-resets
returns-else-len-eq0-clause-resets g c = λ meets up. let no : true ≡ false = sym meets ∙ (sym c.overlaps.ensures.value ∙ c.if-overlaps.false) in absurd cc

pub returns-in-Err-clause-issues : goal.returns-in-Err-clause-issues
returns-in-Err-clause-issues g c = λ apart up. omega (arith, ap (λ (l : Layer). length l.flying) (c.self.view_is ∙ c.in-Err.ensures.kept))

pub returns-in-Err-clause-resets : goal.returns-in-Err-clause-resets
returns-in-Err-clause-resets g c = λ meets up. let no : true ≡ false = sym meets ∙ (sym c.overlaps.ensures.value ∙ c.if-overlaps.false) in absurd cc
