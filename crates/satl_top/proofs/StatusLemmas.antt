-- The status of a fault.
use Rattle.std.proofs.Common.{◌≡◌, ℕ, List, inl, inr, sym, subst}
use Rattle.satl_core.specs.declared.satl.OpenFault.TheVariants as opening
use Rattle.satl_serve.specs.Completeness.{MayStop}
use Rattle.satl_serve.specs.Headline.{IsStopped}
use Rattle.satl_serve.specs.Moments.{Moment}
use Rattle.satl_serve.specs.Stopping.{HasServeCause}
use Rattle.satl_serve.specs.declared.serving.ServeFault.{ServeFault}
use Rattle.satl_serve.specs.declared.serving.ServeFault.TheVariants as faults
use Rattle.satl_serve.specs.declared.telling.Form.{Form}
use Rattle.satl_top.specs.Faults.{status_of}
use Rattle.satl_top.specs.Top.{Completes, HasStatusCause, ServeEnds}
use Rattle.satl_top.specs.declared.status.Status.{Status}

-- a fault has the status that says how far the input was served
pub fault_ends : (form : Form) (limit : ℕ) (before after : Moment) (fault : ServeFault) (status : Status) → status ≡ status_of fault → IsStopped form limit before after fault → ServeEnds form limit before after status
fault_ends form limit before after fault status is stopped = subst (λ s. ServeEnds form limit before after s) (sym is) (by_fault fault stopped)
  where
    by_fault : (f : ServeFault) → IsStopped form limit before after f → ServeEnds form limit before after (status_of f)
    by_fault (faults.Open opening.NoMemory) stopped = stopped
    by_fault (faults.Open opening.LinkDown) stopped = stopped
    by_fault (faults.Open (opening.Identity fault)) stopped = stopped
    by_fault (faults.BadInput reason offset) stopped = (reason, offset, stopped)
    by_fault faults.Read stopped = stopped
    by_fault faults.Write stopped = stopped

-- and its cause
pub fault_causes : (before after : Moment) (fault : ServeFault) (status : Status) → status ≡ status_of fault → HasServeCause before after fault → HasStatusCause before after status
fault_causes before after fault status is cause = subst (HasStatusCause before after) (sym is) (by_fault fault cause)
  where
    by_fault : (f : ServeFault) → HasServeCause before after f → HasStatusCause before after (status_of f)
    by_fault (faults.Open opening.NoMemory) cause = tt
    by_fault (faults.Open opening.LinkDown) cause = inr cause
    by_fault (faults.Open (opening.Identity fault)) cause = inl (fault, cause)
    by_fault (faults.BadInput reason offset) cause = tt
    by_fault faults.Read cause = cause
    by_fault faults.Write cause = cause

-- a fault that is left to a good input has its status
pub fault_completes : (rest : List ℕ) (before after : Moment) (fault : ServeFault) (status : Status) → status ≡ status_of fault → MayStop before after fault → Completes rest before after status
fault_completes rest before after fault status is may = subst (λ s. Completes rest before after s) (sym is) (by_fault fault may)
  where
    by_fault : (f : ServeFault) → MayStop before after f → Completes rest before after (status_of f)
    by_fault (faults.Open opening.NoMemory) may = tt
    by_fault (faults.Open opening.LinkDown) may = may
    by_fault (faults.Open (opening.Identity fault)) may = absurd may
    by_fault (faults.BadInput reason offset) may = absurd may
    by_fault faults.Read may = absurd may
    by_fault faults.Write may = absurd may
