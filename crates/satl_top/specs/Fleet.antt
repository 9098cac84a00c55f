-- The words of the fleet, and what the program does with several drives (profile).
use Rattle.std.specs.Prelude.{◌≡◌, ◌↔◌, ◌⊎◌, ℕ, List, [], ◌∷◌, codes, true}
use Rattle.clap.specs.Words.{Text, takes}
use Rattle.satl_io.specs.Causes.{Rose}
use Rattle.satl_frame.specs.declared.frames.FrameFault.TheVariants.{Bad, ReadFault}
use Rattle.satl_frame.specs.declared.frames.Reason.{Reason}
use Rattle.satl_drive.specs.State.{DriveState}
use Rattle.satl_core.specs.declared.satl.OpenFault.{OpenFault}
use Rattle.satl_serve.specs.Moments.{Moment, moment}
use Rattle.satl_fleet.specs.Headline.{IsFleetBefore, IsFleetInPart, IsFleetNotServed, IsFleetWhole}
use Rattle.satl_fleet.specs.Moments.{FleetMoment}
use Rattle.satl_fleet.specs.Opening.{IsCauseOfOne}
use Rattle.satl_words.specs.Asked.{AreRefused}
use Rattle.satl_words.specs.CommandLine.{command_line}
use Rattle.satl_words.specs.Plain.{ArePlain, IsInRange}
use Rattle.satl_words.specs.declared.modes.Mode.{Mode}
use Rattle.satl_top.specs.Faults.{status_of_open}
use Rattle.satl_top.specs.Top.{HasCarriedOut, OutcomeByWords}
use Rattle.satl_top.specs.declared.status.Status.{Status}
use Rattle.satl_top.specs.declared.status.Status.TheVariants as statuses

-- two words, of which the second is `fleet` (profile)
abbrev pub AskForFleet : List Text → Type 0
AskForFleet words = (name : Text) × (words ≡ name ∷ codes "fleet" ∷ [])

-- what holds of the input, the output and the drives, by the status (profile): a whole input was served; or it was served up to
-- a frame that was refused or not read, or up to a write that failed; or it was not served; or nothing at all was done
abbrev pub FleetEnds : ℕ → FleetMoment → FleetMoment → Status → Type 0
FleetEnds limit before after statuses.Done = IsFleetWhole limit before after
FleetEnds limit before after statuses.Usage = after ≡ before
FleetEnds limit before after statuses.BadInput =
    (reason : Reason) × (offset : ℕ) × IsFleetBefore limit (Bad reason offset) before after
FleetEnds limit before after statuses.ReadFault = IsFleetBefore limit ReadFault before after
FleetEnds limit before after statuses.WriteFault = IsFleetInPart limit before after
FleetEnds limit before after statuses.NoMemory = IsFleetNotServed before after
FleetEnds limit before after statuses.DriveRefused = IsFleetNotServed before after
FleetEnds limit before after statuses.No = ⊥
FleetEnds limit before after statuses.NotCovered = ⊥

-- a read or a write fault comes only where the source's or the sink's count of faults rose, and a drive is refused only for a
-- cause of one of them (profile)
abbrev pub HasFleetStatusCause : FleetMoment → FleetMoment → Status → Type 0
HasFleetStatusCause before after statuses.ReadFault = Rose before.source.faults after.source.faults
HasFleetStatusCause before after statuses.WriteFault = Rose before.sink.faults after.sink.faults
HasFleetStatusCause before after statuses.DriveRefused =
    (fault : OpenFault) × (status_of_open fault ≡ statuses.DriveRefused) × IsCauseOfOne fault before.drives after.drives
HasFleetStatusCause before after _ = Unit {0}

-- a moment of several drives, of which one alone is seen (profile)
abbrev pub moment_of_one : FleetMoment → DriveState → Moment
moment_of_one m drive = moment m.source m.sink m.calls drive

-- what `satl` does with the first drive; the others stay as they are (profile). Plain words are carried out as the mode that
-- they spell. Status 2 comes only where the words are refused, and not where clap takes them; and where they are refused none
-- comes but 2 or, for want of memory, 6
pub record OnFirst (words : List Text) (limit : ℕ) (before after : FleetMoment) (status : Status) : Type 0 where
  pub first : DriveState
  pub last : DriveState
  pub others : List DriveState
  pub olds : before.drives ≡ first ∷ others
  pub news : after.drives ≡ last ∷ others
  pub plain : (mode : Mode) → IsInRange mode → ArePlain words mode
      → HasCarriedOut mode limit (moment_of_one before first) (moment_of_one after last) status
  pub usage : status ≡ statuses.Usage → AreRefused words
  pub refused : AreRefused words → (status ≡ statuses.Usage) ⊎ (status ≡ statuses.NoMemory)
  pub taken : takes command_line words ≡ true → status ≡ statuses.Usage → ⊥
  pub outcome : OutcomeByWords words limit (moment_of_one before first) (moment_of_one after last) status

-- all drives were served as one target, where the words ask for it: what holds by the status, and why it is that one (profile)
pub record HasServedFleet (words : List Text) (limit : ℕ) (before after : FleetMoment) (status : Status) : Type 0 where
  pub usage : (status ≡ statuses.Usage) ↔ (AskForFleet words → ⊥)
  pub ends : FleetEnds limit before after status
  pub causes : HasFleetStatusCause before after status

-- what the program has done by its words: all drives were served as one target, or the first was by itself (profile)
pub record HasDone (words : List Text) (limit : ℕ) (before after : FleetMoment) (status : Status) : Type 0 where
  pub fleet : AskForFleet words → HasServedFleet words limit before after status
  pub first : (AskForFleet words → ⊥) → OnFirst words limit before after status
