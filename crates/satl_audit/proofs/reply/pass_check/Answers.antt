use Rattle.std.proofs.Common.{◌∙◌, ap, sym, refl, ℕ, List, ◌++◌}
use Rattle.satl_base.specs.declared.reply.Scsi.TheVariants.{CheckCondition}
use Rattle.satl_frame.specs.Output.{reply_bytes}
use Rattle.satl_direct.specs.Arrival.{reply_to}
use Rattle.satl_audit.proofs.reply.pass_check.Goals as goal

pub returns-clause-other : goal.returns-clause-other
returns-clause-other c = λ no rest is.
    c.pass_answer.ensures.other no rest (is ∙ ap (λ (l : List ℕ). reply_bytes (reply_to c.args.request.now CheckCondition l) ++ rest) (sym (c.sense_bytes-sense.ensures.fixed refl)))
