use Rattle.std.proofs.Common.{sym, ap, ◌∙◌, subst, List, []}
use Rattle.satl_base.specs.declared.reply.Scsi.TheVariants.{Good}
use Rattle.satl_unit.specs.declared.attention.Attention.{Attention}
use Rattle.satl_direct.specs.Arrival.{check, reply_to}
use Rattle.satl_audit.specs.Arriving.{ArrivesOn, answers_at_once, device_without_sectors}
use Rattle.satl_audit.proofs.ArrivingLemmas.{answered_goes, answered_sticks, attention_goes, attention_sticks, code_next, serving}
use Rattle.satl_audit.proofs.arriving.arrive.Goals as goal

pub returns-in-Some-clause-goes : goal.returns-in-Some-clause-goes
returns-in-Some-clause-goes c = λ yes input body sent.
    let old = c.args.followed.now in
    attention_goes c.args.identity.now input old.waiting old.attentions (record c.args.request.now { body = body }) sent.unit sent.alone c.next_attention.new.attentions c.in-Some.what c.attention_sense.result old.output c.pass_check.new.output c.in-Some.ensures.next c.in-Some.ensures.left c.attention_sense.ensures (c.pass_check.ensures.passed yes)

pub returns-in-Some-clause-sticks : goal.returns-in-Some-clause-sticks
returns-in-Some-clause-sticks c = λ failed input body sent.
    let old = c.args.followed.now in
    attention_sticks c.args.identity.now input old.waiting old.attentions (record c.args.request.now { body = body }) sent.unit sent.alone c.in-Some.what c.attention_sense.result old.output c.in-Some.ensures.next c.attention_sense.ensures (c.pass_check.ensures.other failed)

pub returns-in-Err-Good-clause-goes : goal.returns-in-Err-Good-clause-goes
returns-in-Err-Good-clause-goes c = λ yes input body sent.
    let old = c.args.followed.now in
    let i = c.args.identity.now in
    let r = record c.args.request.now { body = body } in
    let s = device_without_sectors i input old.waiting old.attentions in
    let is = code_next i input old.waiting old.attentions r sent.unit sent.alone c.in_default.ensures.next ∙ c.in-Err-Good.ensures.judged s body (serving i input old.waiting old.attentions) ∙ ap (answers_at_once s r) c.in-Err-Good.field-0-is in
    subst (λ (l : List (List Attention)). ArrivesOn r s (device_without_sectors i input old.waiting l) old.output c.pass_status.new.output) (sym c.in_default.ensures.left)
    (answered_goes r s (reply_to r Good []) old.output c.pass_status.new.output is (c.pass_status.ensures.passed yes))

pub returns-in-Err-Good-clause-sticks : goal.returns-in-Err-Good-clause-sticks
returns-in-Err-Good-clause-sticks c = λ failed input body sent.
    let old = c.args.followed.now in
    let i = c.args.identity.now in
    let r = record c.args.request.now { body = body } in
    let s = device_without_sectors i input old.waiting old.attentions in
    let is = code_next i input old.waiting old.attentions r sent.unit sent.alone c.in_default.ensures.next ∙ c.in-Err-Good.ensures.judged s body (serving i input old.waiting old.attentions) ∙ ap (answers_at_once s r) c.in-Err-Good.field-0-is in
    answered_sticks r s (reply_to r Good []) old.output is (c.pass_status.ensures.other failed)

pub returns-in-Err-Check-clause-goes : goal.returns-in-Err-Check-clause-goes
returns-in-Err-Check-clause-goes c = λ yes input body sent.
    let old = c.args.followed.now in
    let i = c.args.identity.now in
    let r = record c.args.request.now { body = body } in
    let s = device_without_sectors i input old.waiting old.attentions in
    let is = code_next i input old.waiting old.attentions r sent.unit sent.alone c.in_default.ensures.next ∙ c.in-Err-Check.ensures.judged s body (serving i input old.waiting old.attentions) ∙ ap (answers_at_once s r) c.in-Err-Check.field-0-is in
    subst (λ (l : List (List Attention)). ArrivesOn r s (device_without_sectors i input old.waiting l) old.output c.pass_check-in-Err-Check.new.output) (sym c.in_default.ensures.left)
    (answered_goes r s (check s r c.in-Err-Check.sense) old.output c.pass_check-in-Err-Check.new.output is (c.pass_check-in-Err-Check.ensures.passed yes))

pub returns-in-Err-Check-clause-sticks : goal.returns-in-Err-Check-clause-sticks
returns-in-Err-Check-clause-sticks c = λ failed input body sent.
    let old = c.args.followed.now in
    let i = c.args.identity.now in
    let r = record c.args.request.now { body = body } in
    let s = device_without_sectors i input old.waiting old.attentions in
    let is = code_next i input old.waiting old.attentions r sent.unit sent.alone c.in_default.ensures.next ∙ c.in-Err-Check.ensures.judged s body (serving i input old.waiting old.attentions) ∙ ap (answers_at_once s r) c.in-Err-Check.field-0-is in
    answered_sticks r s (check s r c.in-Err-Check.sense) old.output is (c.pass_check-in-Err-Check.ensures.other failed)
