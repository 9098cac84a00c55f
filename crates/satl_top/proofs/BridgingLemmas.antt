-- The status of a fault of the bridge.
use Rattle.std.proofs.Common.{◌≡◌, ◌⊎◌, ◌∙◌, inl, inr, ap, sym, subst, ℕ, []}
use Rattle.satl_core.specs.declared.satl.OpenFault.TheVariants as opening
use Rattle.satl_identify.specs.declared.identity.IdentityFault.{IdentityFault}
use Rattle.satl_serve.specs.Moments.{Moment}
use Rattle.satl_usb.specs.Headline.{HasUsbCause, IsStopped, MayStop, TellsRefusal}
use Rattle.satl_usb.specs.declared.fault.UsbFault.{UsbFault}
use Rattle.satl_usb.specs.declared.fault.UsbFault.TheVariants as faults
use Rattle.satl_top.specs.Bridging.{BridgeEnds}
use Rattle.satl_top.specs.Faults.{status_of_usb}
use Rattle.satl_top.specs.Top.{Completes, HasStatusCause}
use Rattle.satl_top.specs.declared.status.Status.{Status}
use Rattle.satl_top.specs.declared.status.Status.TheVariants as statuses

module _ (before after : Moment) (fault : UsbFault) (status : Status) (is : status ≡ status_of_usb fault) where
  pub bridge_ends : (limit : ℕ) → IsStopped limit before after fault → BridgeEnds limit before after status
  bridge_ends limit stopped = subst (BridgeEnds limit before after) (sym is) (by_fault fault stopped)
    where
      by_fault : (f : UsbFault) → IsStopped limit before after f → BridgeEnds limit before after (status_of_usb f)
      by_fault (faults.Open opening.NoMemory) stopped = stopped
      by_fault (faults.Open opening.LinkDown) stopped = stopped
      by_fault (faults.Open (opening.Identity fault)) stopped = stopped
      by_fault (faults.BadInput offset) stopped = (offset, stopped)
      by_fault faults.Read stopped = stopped
      by_fault faults.Write stopped = stopped

  pub bridge_causes : HasUsbCause before after fault → HasStatusCause before after status
  bridge_causes cause = subst (HasStatusCause before after) (sym is) (by_fault fault cause)
    where
      by_fault : (f : UsbFault) → HasUsbCause before after f → HasStatusCause before after (status_of_usb f)
      by_fault (faults.Open opening.NoMemory) cause = tt
      by_fault (faults.Open opening.LinkDown) cause = inr cause
      by_fault (faults.Open (opening.Identity fault)) cause = inl (fault, cause)
      by_fault (faults.BadInput offset) cause = tt
      by_fault faults.Read cause = cause
      by_fault faults.Write cause = cause

  pub bridge_refuses : (refusal : IdentityFault) → TellsRefusal refusal fault → (status ≡ statuses.DriveRefused) ⊎ (status ≡ statuses.NoMemory)
  bridge_refuses refusal (inl told) = inl (is ∙ ap status_of_usb told)
  bridge_refuses refusal (inr told) = inr (is ∙ ap status_of_usb told)

  pub bridge_completes : MayStop before.drive after.drive fault → Completes [] before after status
  bridge_completes may = subst (Completes [] before after) (sym is) (by_fault fault may)
    where
      by_fault : (f : UsbFault) → MayStop before.drive after.drive f → Completes [] before after (status_of_usb f)
      by_fault (faults.Open opening.NoMemory) may = tt
      by_fault (faults.Open opening.LinkDown) may = may
      by_fault (faults.Open (opening.Identity fault)) may = absurd may
      by_fault (faults.BadInput offset) may = absurd may
      by_fault faults.Read may = absurd may
      by_fault faults.Write may = absurd may
