use Rattle.std.proofs.Common.{ap, inl, sym, ◌∙◌, List}
use Rattle.std.specs.Prelude.{slice_index_or}
use Rattle.satl_base.specs.declared.block.Block.{Block}
use Rattle.satl_identify.specs.Refusals.{identity_of}
use Rattle.satl_record.proofs.identity.told_identity.Goals as goal

pub returns-in_err-read_identity-clause-cause : goal.returns-in_err-read_identity-clause-cause
returns-in_err-read_identity-clause-cause g c = λ _.
    let told = c.block.ensures ∙ ap (λ (pages : List Block). slice_index_or pages 0 c.block.result.now) c.in_ok-tell_identity.ensures.told.pages in
    inl (c.in_err-read_identity.field-0.0, ap (λ (b : Block). identity_of b.bytes) (sym told) ∙ sym c.read_identity.ensures.judged ∙ c.in_err-read_identity.was)
