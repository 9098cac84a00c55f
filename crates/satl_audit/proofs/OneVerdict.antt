-- Of one record one thing is said.
use Rattle.std.proofs.Common.{◌≡◌, refl, ap, subst, ℕ, List, Option, Some, None}
use Rattle.std.specs.Prelude.{◌≢◌, Result, Ok, Err}
use Rattle.satl_identify.specs.declared.identity.Identity.{Identity}
use Rattle.satl_frame.specs.declared.frames.Frame.{Frame}
use Rattle.satl_cover.specs.declared.fault.AuditFault.{AuditFault}
use Rattle.satl_cover.specs.declared.fault.AuditFault.TheVariants as faults
use Rattle.satl_cover.specs.Reading.{Covers}
use Rattle.satl_cover.proofs.OneAnswer.{one_answer, one_whole}
use Rattle.satl_audit.specs.declared.verdict.Verdict.{Verdict}
use Rattle.satl_audit.specs.declared.verdict.Verdict.TheVariants as says
use Rattle.satl_audit.specs.Judged.{IsTaken, Judged, OneVerdict, blank}
use Rattle.satl_audit.specs.Skeleton.{IsExplained}

-- what a verdict says of the input alone
of_input : Result Verdict AuditFault → Result (Option ℕ) AuditFault
of_input (Ok says.Yes) = Ok None
of_input (Ok says.No) = Ok None
of_input (Ok (says.NotCovered offset)) = Ok (Some offset)
of_input (Err fault) = Err fault

module _ (identity : Identity) (input output : List ℕ) where
  covers : (r : Result Verdict AuditFault) → Judged identity input output r → Covers identity.trim input (of_input r)
  unfolding of_input
  covers (Ok says.Yes) (all, taken, explained) = (all, taken.whole, taken.covered)
  covers (Ok says.No) (all, taken, not_explained) = (all, taken.whole, taken.covered)
  covers (Ok (says.NotCovered offset)) j = j
  covers (Err fault) j = j

  -- the steps of one input
  one_run : {all other : List Frame} → IsTaken identity input all → IsTaken identity input other → IsExplained (blank identity) all output → IsExplained (blank identity) other output
  one_run t u e = subst (λ (fs : List Frame). IsExplained (blank identity) fs output) (one_whole t.whole u.whole).frames_are e

  remembers : (r : Result Verdict AuditFault) → r ≢ Err faults.NoMemory → of_input r ≢ Err faults.NoMemory
  unfolding of_input
  remembers (Ok says.Yes) m e = absurd cc
  remembers (Ok says.No) m e = absurd cc
  remembers (Ok (says.NotCovered offset)) m e = absurd cc
  remembers (Err fault) m e = m (ap again e)
    where
      again : Result (Option ℕ) AuditFault → Result Verdict AuditFault
      again (Ok x) = Ok says.Yes
      again (Err f) = Err f

  same_input : (a b : Result Verdict AuditFault) → Judged identity input output a → Judged identity input output b → a ≢ Err faults.NoMemory → b ≢ Err faults.NoMemory → of_input a ≡ of_input b
  same_input a b p q m n = one_answer identity.trim input (of_input a) (of_input b) (covers a p) (covers b q) (remembers a m) (remembers b n)

  by_input : (a b : Result Verdict AuditFault) → of_input a ≡ of_input b → Judged identity input output a → Judged identity input output b → a ≡ b
  unfolding of_input
  by_input (Ok says.Yes) (Ok says.Yes) e p q = refl
  by_input (Ok says.Yes) (Ok says.No) e (all, taken, explained) (other, also, not_explained) = absurd (not_explained (one_run taken also explained))
  by_input (Ok says.Yes) (Ok (says.NotCovered place)) e p q = absurd cc
  by_input (Ok says.Yes) (Err fault) e p q = absurd cc
  by_input (Ok says.No) (Ok says.Yes) e (all, taken, not_explained) (other, also, explained) = absurd (not_explained (one_run also taken explained))
  by_input (Ok says.No) (Ok says.No) e p q = refl
  by_input (Ok says.No) (Ok (says.NotCovered place)) e p q = absurd cc
  by_input (Ok says.No) (Err fault) e p q = absurd cc
  by_input (Ok (says.NotCovered offset)) (Ok says.Yes) e p q = absurd cc
  by_input (Ok (says.NotCovered offset)) (Ok says.No) e p q = absurd cc
  by_input (Ok (says.NotCovered offset)) (Ok (says.NotCovered place)) e p q = let same : offset ≡ place = cc in ap (λ (o : ℕ). Ok (says.NotCovered o)) same
  by_input (Ok (says.NotCovered offset)) (Err fault) e p q = absurd cc
  by_input (Err fault) (Ok says.Yes) e p q = absurd cc
  by_input (Err fault) (Ok says.No) e p q = absurd cc
  by_input (Err fault) (Ok (says.NotCovered place)) e p q = absurd cc
  by_input (Err fault) (Err other) e p q = let same : fault ≡ other = cc in ap (λ (f : AuditFault). Err f) same

pub one_verdict : OneVerdict
one_verdict identity input output a b p q m n = by_input identity input output a b (same_input identity input output a b p q m n) p q
