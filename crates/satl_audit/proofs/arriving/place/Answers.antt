use Rattle.std.proofs.Common.{sym, ap, ◌∙◌, subst, List, [], ◌∷◌, ◌++◌}
use Rattle.std.specs.Prelude.{not, ◌≤◌}
use Rattle.satl_base.specs.declared.reply.Scsi.TheVariants.{TaskSetFull}
use Rattle.satl_line.specs.declared.entry.Entry.{Entry}
use Rattle.satl_cdb.specs.declared.command.Command.{Command}
use Rattle.satl_direct.specs.Arrival.{reply_to}
use Rattle.satl_direct.specs.Tasks.{held_blocks}
use Rattle.satl_audit.specs.Arriving.{ArrivesOn, device_without_sectors}
use Rattle.satl_audit.specs.Waiting.{AllFit, Fits, MayWait, Placed, has_no_room}
use Rattle.satl_base.proofs.ListsLemmas.{All-push_end}
use Rattle.satl_base.proofs.Booleans.{opposite_false, opposite_true}
use Rattle.satl_audit.proofs.ArrivingLemmas.{answered_goes, answered_sticks, full_is, placed_goes}
use Rattle.satl_audit.proofs.JudgingLemmas.{waits_known}
use Rattle.satl_audit.proofs.arriving.place.Goals as goal

pub returns-then-add-clause-goes : goal.returns-then-add-clause-goes
returns-then-add-clause-goes c = λ _ input body sent is.
    let i = c.args.identity.now in
    let old = c.args.followed.now in
    let r = record c.args.request.now { body = body } in
    let task = c.task_of-task.ensures body in
    let room = opposite_true _ _ (c.add.ensures.room ∙ ap (λ (t : Entry). not (has_no_room old.waiting t.blocks)) task) c.if-add.true in
    subst (λ (ps : List Placed). ArrivesOn r (device_without_sectors i input old.waiting old.attentions) (device_without_sectors i input ps old.attentions) old.output old.output)
    (sym (c.add.ensures.added c.if-add.true ∙ ap (λ (t : Entry). old.waiting ++ record { entry = t; at = c.args.at } ∷ []) task))
    (placed_goes i input old.waiting old.attentions r c.args.command c.args.at old.output is room (waits_known _ _ _ c.requires.waits).0 (waits_known _ _ _ c.requires.waits).1 sent.stands)

pub returns-clause-goes : goal.returns-clause-goes
returns-clause-goes c = λ yes input body sent is.
    let i = c.args.identity.now in
    let old = c.args.followed.now in
    let r = record c.args.request.now { body = body } in
    let task = c.task_of-task.ensures body in
    let room = opposite_false _ _ (c.add.ensures.room ∙ ap (λ (t : Entry). not (has_no_room old.waiting t.blocks)) task) c.if-add.false in
    subst (λ (ps : List Placed). ArrivesOn r (device_without_sectors i input old.waiting old.attentions) (device_without_sectors i input ps old.attentions) old.output c.pass_status.new.output)
    (sym (c.add.ensures.kept c.if-add.false))
    (answered_goes r (device_without_sectors i input old.waiting old.attentions) (reply_to r TaskSetFull []) old.output c.pass_status.new.output (full_is i input old.waiting old.attentions r c.args.command is room) (c.pass_status.ensures.passed yes))

pub returns-clause-sticks : goal.returns-clause-sticks
returns-clause-sticks c = λ no input body is.
    let i = c.args.identity.now in
    let old = c.args.followed.now in
    let r = record c.args.request.now { body = body } in
    let task = c.task_of-task.ensures body in
    let room = opposite_false _ _ (c.add.ensures.room ∙ ap (λ (t : Entry). not (has_no_room old.waiting t.blocks)) task) c.if-add.false in
    answered_sticks r (device_without_sectors i input old.waiting old.attentions) (reply_to r TaskSetFull []) old.output (full_is i input old.waiting old.attentions r c.args.command is room) (c.pass_status.ensures.other no)

pub task_of-task-requires : goal.task_of-task-requires
task_of-task-requires c = (waits_known _ _ _ c.requires.waits).0

pub returns-then-add-clause-fits : goal.returns-then-add-clause-fits
returns-then-add-clause-fits c = λ size within all.
    subst (AllFit c.args.identity.now.capacity size) (sym (c.add.ensures.added c.if-add.true))
    (All-push_end (Fits c.args.identity.now.capacity size) c.args.followed.now.waiting _ all (record { bytes = c.args.request.now.data_len; waits = subst (MayWait c.args.identity.now.capacity c.args.request.now.data_len) (sym (ap (λ (t : Entry). t.command) (c.task_of-task.ensures []))) c.requires.waits; stands = within; nexus = subst (λ n. n ≤ 3) (sym (ap (λ (t : Entry). t.nexus) (c.task_of-task.ensures []))) c.requires.nexus; held = ap (λ (t : Entry). t.blocks) (c.task_of-task.ensures []) ∙ ap (λ (x : Command). held_blocks x) (sym (ap (λ (t : Entry). t.command) (c.task_of-task.ensures []))) }))

pub returns-clause-fits : goal.returns-clause-fits
returns-clause-fits c = λ size within all. subst (AllFit c.args.identity.now.capacity size) (sym (c.add.ensures.kept c.if-add.false)) all
