use Rattle.std.proofs.Common.{◌≡◌, ◌++◌, ◌∙◌, ap, subst, List, ℕ}
use Rattle.std.specs.Prelude.{OnErr}
use Rattle.std.proofs.lemmas.Result.{on_err_weaker}
use Rattle.satl_base.specs.Blocks.{first_bytes}
use Rattle.satl_io.specs.Known.{WrotePart}
use Rattle.satl_frame.proofs.GatheringLemmas.{gathers_end_part}
use Rattle.satl_frame.proofs.writing.write_with_data.Goals as goal

pub returns-clause-part : goal.returns-clause-part
returns-clause-part g c =
    let items : c.put.new.self ≡ c.args.front.now.items = c.put.ensures ∙ ap (λ (xs : List ℕ). xs ++ c.as_slice.result.now) c.clear.ensures ∙ c.as_slice.ensures.value in
    subst (λ (xs : List ℕ). OnErr c.push.result (WrotePart (g.K.Sink.written c.args.sink.now) (g.K.Sink.written c.push.new.sink) (xs ++ first_bytes c.args.len c.args.pages.now))) items
    (on_err_weaker c.push.result (λ part. gathers_end_part c.in_ok-gather_data.ensures.all (rw c.as_slice-2.ensures at part)) c.push.ensures.part)
