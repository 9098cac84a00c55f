-- Which status a fault of serving gives (profile).
use Rattle.satl_core.specs.declared.satl.OpenFault.{OpenFault}
use Rattle.satl_core.specs.declared.satl.OpenFault.TheVariants as opening
use Rattle.satl_serve.specs.declared.serving.ServeFault.{ServeFault}
use Rattle.satl_serve.specs.declared.serving.ServeFault.TheVariants as faults
use Rattle.satl_usb.specs.declared.fault.UsbFault.{UsbFault}
use Rattle.satl_usb.specs.declared.fault.UsbFault.TheVariants as bridge_faults
use Rattle.satl_top.specs.declared.status.Status.{Status}
use Rattle.satl_top.specs.declared.status.Status.TheVariants as statuses

-- the status of a fault of opening (profile)
abbrev pub status_of_open : OpenFault → Status
status_of_open opening.NoMemory = statuses.NoMemory
status_of_open opening.LinkDown = statuses.DriveRefused
status_of_open (opening.Identity fault) = statuses.DriveRefused

-- the status of a fault of serving (profile)
abbrev pub status_of : ServeFault → Status
status_of (faults.Open fault) = status_of_open fault
status_of (faults.BadInput reason offset) = statuses.BadInput
status_of faults.Read = statuses.ReadFault
status_of faults.Write = statuses.WriteFault

-- the status of a fault of the bridge (profile)
abbrev pub status_of_usb : UsbFault → Status
status_of_usb (bridge_faults.Open fault) = status_of_open fault
status_of_usb (bridge_faults.BadInput offset) = statuses.BadInput
status_of_usb bridge_faults.Read = statuses.ReadFault
status_of_usb bridge_faults.Write = statuses.WriteFault
