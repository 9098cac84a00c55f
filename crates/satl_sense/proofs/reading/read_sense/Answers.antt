use Rattle.std.proofs.Common.{◌≡◌, refl, ap, ◌∙◌, arith}
use Rattle.satl_sense.specs.Descriptor.{descriptor_form}
use Rattle.satl_sense.specs.Fields.{sense_in}
use Rattle.satl_sense.proofs.Nearest.{told}
use Rattle.satl_sense.proofs.Faults.{not_whole, is_fault}
use Rattle.satl_sense.proofs.reading.read_sense.Goals as goal

pub returns-in-None-clause-only : goal.returns-in-None-clause-only
returns-in-None-clause-only c = λ s r. rw (c.told_by-sense.ensures, r.1, told s r.0) refl

pub returns-in-Some-clause-only : goal.returns-in-Some-clause-only
returns-in-Some-clause-only c = λ s r.
    let is : c.deref.result.now ≡ descriptor_form (sense_in c.args.bytes.now) = c.deref.ensures.0 ∙ c.sense_bytes.ensures.descriptor refl ∙ ap descriptor_form c.told_by-sense.ensures in
    absurd (not_whole _ _ _ is c.in-Some.ensures.1 s r)

pub returns-in-Some-clause-fault : goal.returns-in-Some-clause-fault
returns-in-Some-clause-fault c =
    let is : c.deref.result.now ≡ descriptor_form (sense_in c.args.bytes.now) = c.deref.ensures.0 ∙ c.sense_bytes.ensures.descriptor refl ∙ ap descriptor_form c.told_by-sense.ensures in
    is_fault _ _ _ is c.in-Some.ensures.1 (λ i. omega (arith, c.type_inv.bytes i)) c.in-Some.ensures.0
