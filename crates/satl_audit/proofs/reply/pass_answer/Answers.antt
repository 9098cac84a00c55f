use Rattle.std.proofs.Common.{◌∙◌, ap, sym, ℕ, List, ◌++◌}
use Rattle.satl_audit.specs.Finishing.{head_bytes}
use Rattle.satl_audit.proofs.ReplyLemmas.{answer_is}
use Rattle.satl_audit.proofs.reply.pass_answer.Goals as goal

pub returns-else-pass-clause-other : goal.returns-else-pass-clause-other
returns-else-pass-clause-other c = λ no rest is.
    let sense = c.args.sense.now.items in
    c.pass.ensures.other no (sense ++ rest)
    (is
    ∙ answer_is c.args.request.now c.args.status sense rest c.requires
    ∙ ap (λ n. head_bytes c.args.request.now.nexus c.args.request.now.tag.0 c.args.status n 0 ++ (sense ++ rest)) (sym c.len.ensures.value)
    ∙ ap (λ (l : List ℕ). l ++ (sense ++ rest)) (sym c.head-head.ensures))
