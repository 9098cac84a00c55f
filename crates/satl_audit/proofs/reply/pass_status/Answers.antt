use Rattle.std.proofs.Common.{◌∙◌, ap, sym, ℕ, List, ◌++◌}
use Rattle.satl_frame.specs.Output.{reply_bytes}
use Rattle.satl_direct.specs.Arrival.{reply_to}
use Rattle.satl_audit.proofs.reply.pass_status.Goals as goal

pub returns-clause-other : goal.returns-clause-other
returns-clause-other c = λ failed rest is.
    c.pass_answer.ensures.other failed rest (is ∙ ap (λ (l : List ℕ). reply_bytes (reply_to c.args.request.now c.args.status l) ++ rest) (sym c.new-none.ensures))
