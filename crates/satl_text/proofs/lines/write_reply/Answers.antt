use Rattle.std.proofs.Common.{◌∙◌}
use Rattle.std.proofs.lemmas.Result.{on_err_weaker, on_ok_weaker}
use Rattle.satl_base.proofs.OutcomeLemmas.{any_err}
use Rattle.satl_text.proofs.LineLemmas.{line_written, line_failed, data_failed, end_failed}
use Rattle.satl_text.proofs.lines.write_reply.Goals as goal

pub returns-in_err-gather_bytes-clause-part : goal.returns-in_err-gather_bytes-clause-part
returns-in_err-gather_bytes-clause-part g c =
    any_err c.from_residual.result _
    (data_failed c.args.reply.now c.sent_len-len.result c.sent_len-len.ensures (c.of-buffer.ensures ∙ c.as_slice.ensures.value ∙ c.front_text.ensures.front) c.in_err-gather_bytes.ensures.part)

pub returns-in_err-gather-clause-part : goal.returns-in_err-gather-clause-part
returns-in_err-gather-clause-part g c =
    any_err c.from_residual-in_err-gather.result _
    (end_failed c.args.reply.now c.sent_len-len.result c.sent_len-len.ensures (c.of-buffer.ensures ∙ c.as_slice.ensures.value ∙ c.front_text.ensures.front) (c.as_slice-2.ensures.value ∙ c.end_text.ensures.end)
    c.in_ok-gather_bytes.ensures.all c.in_err-gather.ensures.part)

pub returns-clause-all : goal.returns-clause-all
returns-clause-all g c =
    on_ok_weaker c.push.result (λ all. line_written c.args.reply.now c.sent_len-len.result c.sent_len-len.ensures (c.of-buffer.ensures ∙ c.as_slice.ensures.value ∙ c.front_text.ensures.front) (c.as_slice-2.ensures.value ∙ c.end_text.ensures.end)
    c.in_ok-gather_bytes.ensures.all c.in_ok-gather.ensures.all (rw c.as_slice-3.ensures at all)) c.push.ensures.all

pub returns-clause-part : goal.returns-clause-part
returns-clause-part g c =
    on_err_weaker c.push.result (λ part. line_failed c.args.reply.now c.sent_len-len.result c.sent_len-len.ensures (c.of-buffer.ensures ∙ c.as_slice.ensures.value ∙ c.front_text.ensures.front) (c.as_slice-2.ensures.value ∙ c.end_text.ensures.end)
    c.in_ok-gather_bytes.ensures.all c.in_ok-gather.ensures.all (rw c.as_slice-3.ensures at part)) c.push.ensures.part
