use Rattle.std.proofs.Common.{arith, sym, ap, ◌∙◌, ◌+◌, subst}
use Rattle.std.specs.Prelude.{nat_lt, ◌≤◌}
use Rattle.std.proofs.lemmas.Bool.{le-ltb, ltb-false}
use Rattle.satl_base.specs.declared.block.Range.{Range}
use Rattle.satl_cdb.specs.declared.command.Command.{Command}
use Rattle.satl_identify.specs.declared.identity.Identity.{Identity}
use Rattle.satl_direct.specs.Tasks.{needed, range_of}
use Rattle.satl_audit.proofs.JudgingLemmas.{if_ok_both, may_wait, passes}
use Rattle.satl_audit.proofs.judging.judge_command.Goals as goal

pub returns-clause-judged : goal.returns-clause-judged
returns-clause-judged c = λ s body serving.
    passes s (record c.args.request.now { body = body }) c.args.command _ c.requires
    (ap (λ (i : Identity). nat_lt i.capacity ((range_of c.args.command).lba + (range_of c.args.command).count)) serving.same
    ∙ ap (λ (g : Range). nat_lt c.args.identity.now.capacity (g.lba + g.count)) (sym c.range_of.ensures)
    ∙ sym c.goes_past.ensures
    ∙ c.if-goes_past.false)
    (le-ltb _ _ (omega (arith, c.if-from-needed.false, c.from.ensures, c.needed.ensures)))
    (c.begin.ensures.judged c.args.identity.now s (record c.args.request.now { body = body }) serving)

pub returns-clause-waits : goal.returns-clause-waits
returns-clause-waits c =
    if_ok_both c.begin.result _ _ _ c.begin.ensures.same c.begin.ensures.transfer
    (λ command same transfer.
    may_wait c.args.identity.now.capacity c.args.request.now.data_len command transfer
    (subst (λ (x : Command). (range_of x).lba + (range_of x).count ≤ c.args.identity.now.capacity) (sym same)
    (ltb-false _ _ (ap (λ (g : Range). nat_lt c.args.identity.now.capacity (g.lba + g.count)) (sym c.range_of.ensures) ∙ sym c.goes_past.ensures ∙ c.if-goes_past.false)))
    (subst (λ (x : Command). needed x ≤ c.args.request.now.data_len) (sym same) (omega (arith, c.if-from-needed.false, c.from.ensures, c.needed.ensures))))
