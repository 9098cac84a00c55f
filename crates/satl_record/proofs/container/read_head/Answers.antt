use Rattle.std.proofs.Common.{rules, ◌≡◌, None, refl, sym, ◌∙◌, Option, Some, ok_or, ℕ, IsErrOf}
use Rattle.satl_record.proofs.ContainerLemmas.{no_head}
use Rattle.satl_record.specs.declared.fault.RecordFault.TheVariants as faults
use Rattle.satl_record.proofs.container.read_head.Goals as goal

pub returns-clause-none : goal.returns-clause-none
returns-clause-none g c = λ no.
    let none : c.told_length.result ≡ None = none_of c.told_length.result (sym c.ok_or.ensures.value ∙ no) in
    search (rules, no_head)
  where
    none_of : (told : Option ℕ) → IsErrOf (ok_or told faults.NoRecord) faults.NoRecord → told ≡ None
    none_of None is = refl
    none_of (Some n) is = absurd cc
