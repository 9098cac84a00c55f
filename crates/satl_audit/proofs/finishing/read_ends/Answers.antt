use Rattle.std.proofs.Common.{◌∙◌, ap, sym, ℕ, ◌*◌, List, ◌++◌}
use Rattle.std.proofs.lemmas.Result.{IfOk-weaker}
use Rattle.satl_base.specs.declared.reply.Scsi.TheVariants.{Good}
use Rattle.satl_audit.specs.Finishing.{head_bytes}
use Rattle.satl_audit.specs.Progress.{compared}
use Rattle.satl_audit.proofs.FinishingLemmas.{reads_as}
use Rattle.satl_audit.proofs.finishing.read_ends.Goals as goal

pub returns-then-not-pass-clause-reads : goal.returns-then-not-pass-clause-reads
returns-then-not-pass-clause-reads c = λ given rest read.
    absurd (c.pass.ensures.other c.if-not-pass.true (given ++ rest)
    (read.1
    ∙ ap (λ n. head_bytes c.args.name.nexus c.args.name.tag.0 Good 0 (512 * n) ++ (given ++ rest)) (sym c.from-len.ensures)
    ∙ ap (λ (l : List ℕ). l ++ (given ++ rest)) (sym c.head.ensures)))

pub returns-clause-reads : goal.returns-clause-reads
returns-clause-reads c =
    let given = c.in-Some.given.now in
    let left = c.take.new.self in
    IfOk-weaker c.show_blocks.result _ _
    (reads_as c.args.input.now c.args.name c.args.range given (compared c.args.output.now c.args.sectors.now) (compared left c.show_blocks.new.sectors) (
      c.in-Some.ensures.size ∙ ap (λ n. 512 * n) c.from-len.ensures,
      c.pass.ensures.passed c.if-not-pass.false
          ∙ ap (λ (l : List ℕ). l ++ c.pass.new.self) (c.head.ensures ∙ ap (λ n. head_bytes c.args.name.nexus c.args.name.tag.0 Good 0 (512 * n)) c.from-len.ensures)
          ∙ ap (λ (l : List ℕ). head_bytes c.args.name.nexus c.args.name.tag.0 Good 0 (512 * c.args.range.count) ++ l) c.in-Some.ensures.taken,
    ))
    c.show_blocks.ensures.gives
