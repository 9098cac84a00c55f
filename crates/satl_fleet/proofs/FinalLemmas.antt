-- Serving, from before the units were opened to its end.
use Rattle.std.proofs.Common.{◌≡◌, inl, inr, refl, subst, arith, ℕ, ◌+◌, ◌≤◌, List, [], ◌∷◌, ◌++◌, length}
use Rattle.std.specs.List.{AllByRecursion}
use Rattle.satl_frame.specs.declared.frames.FrameFault.{FrameFault}
use Rattle.satl_frame.specs.declared.frames.FrameFault.TheVariants.{Bad, ReadFault}
use Rattle.satl_drive.specs.State.{DriveState}
use Rattle.satl_core.specs.Layer.{Layer}
use Rattle.satl_fleet.specs.Headline.{BrokeInFault, BrokeInMagic, BrokeInRound, IsFleetBefore, IsFleetInPart, IsFleetNotServed, IsFleetStopped, IsFleetWhole}
use Rattle.satl_fleet.specs.Moments.{FleetMoment}
use Rattle.satl_fleet.specs.Opening.{IsCauseOfOne, OpensTo}
use Rattle.satl_fleet.specs.Output.{Round}
use Rattle.satl_fleet.specs.Runs.{AreServed, HaveRun}
use Rattle.satl_fleet.specs.Stopping.{HasFleetCause, RanBefore, RanInPart, RanTo, RanWhole, Spot, StoppedInAnswers, StoppedInFault, StoppedInMagic}
use Rattle.satl_fleet.specs.Units.{IsTiedUnit, unit_states}
use Rattle.satl_core.specs.declared.satl.OpenFault.TheVariants.{NoMemory}
use Rattle.satl_serve.specs.declared.serving.ServeFault.{ServeFault}
use Rattle.satl_serve.specs.declared.serving.ServeFault.TheVariants as faults
use Rattle.satl_serve.specs.Stopping.{HasStreamCause}
use Rattle.satl_fleet.proofs.OpeningLemmas.{all_same}
use Rattle.satl_fleet.proofs.RunLemmas.{cut_so}
use Rattle.satl_fleet.proofs.ServingLemmas.{are_served, are_served_part}

-- ---- no unit was opened

-- there was not the memory to begin
pub no_memory : (a : FleetMoment) → IsFleetNotServed a a
no_memory a = record { read = refl; waits = refl; wrote = refl; alone = all_same a.drives; few_calls = omega arith }

pub lacks_memory : (ds : List DriveState) → 1 ≤ length ds → IsCauseOfOne NoMemory ds ds
lacks_memory [] some = absurd (omega (arith, some))
lacks_memory (d ∷ ds) some = inl tt

-- ---- all units were opened

pub stream_cause : (before after : FleetMoment) (fault : ServeFault) → HasStreamCause before.source after.source before.sink after.sink fault → HasFleetCause before after fault
stream_cause before after (faults.Open fault) cause = absurd cause
stream_cause before after (faults.BadInput reason offset) cause = tt
stream_cause before after faults.Read cause = cause
stream_cause before after faults.Write cause = cause

module _ (limit units : ℕ) (before after : FleetMoment) (mids : List DriveState) (opened : ℕ) (ls ls' : List Layer) (mid_drives last_units last_drives : ℕ) (o : OpensTo before.drives ls mids) (few : opened ≤ before.calls + length before.drives) (each : length ls ≡ length before.drives) (long : length ls' ≡ length after.drives) (is : units ≡ length before.drives) (tied : AllByRecursion IsTiedUnit (unit_states ls' after.drives)) where
  abbrev a : Spot
  a = record { left = before.source.left; waited = before.source.waited; stage = record { target = record { units = unit_states ls mids; layers = units; drives = mid_drives }; written = before.sink.written }; calls = opened }

  abbrev b : Spot
  b = record { left = after.source.left; waited = after.source.waited; stage = record { target = record { units = unit_states ls' after.drives; layers = last_units; drives = last_drives }; written = after.sink.written }; calls = after.calls }

  served : (rounds : List Round) → HaveRun (length before.drives) 0 rounds (unit_states ls mids) (unit_states ls' after.drives) → AreServed (length before.drives) 0 rounds before.drives after.drives
  served rounds run = are_served (length before.drives) 0 rounds ls' after.drives o each long run tied

  whole : RanWhole limit (length before.drives) a b → IsFleetWhole limit before after
  whole r = record { rounds = r.rounds; are_rounds = r.are_rounds; told = r.told; served = served r.rounds r.run; calls = omega (arith, few, r.calls) }

  pub fleet_whole : RanWhole limit units a b → IsFleetWhole limit before after
  fleet_whole r = whole (subst (λ n. RanWhole limit n a b) is r)

  early : (why : FrameFault) → RanBefore limit (length before.drives) why a b → IsFleetBefore limit why before after
  early why r = record { rounds = r.rounds; are_rounds = r.are_rounds; told = r.told; served = served r.rounds r.run; calls = omega (arith, few, r.calls) }

  in_magic : StoppedInMagic (length before.drives) a b → BrokeInMagic before after
  in_magic r = record { breaks = r.breaks; served = served [] r.run; calls = omega (arith, few, r.calls) }

  in_round : StoppedInAnswers limit (length before.drives) a b → BrokeInRound limit before after
  in_round r = record {
    rounds = r.rounds;
    round = r.round;
    are_rounds = r.are_rounds;
    breaks = r.breaks;
    cut = cut_so
        (λ run. served (r.rounds ++ r.round ∷ []) run)
        (λ stop cut run. are_served_part (length before.drives) stop cut 0 r.rounds r.round ls' after.drives o each long run tied)
        r.cut;
    calls = omega (arith, few, r.calls);
  }

  in_fault : StoppedInFault limit (length before.drives) a b → BrokeInFault limit before after
  in_fault r = record { rounds = r.rounds; are_rounds = r.are_rounds; breaks = r.breaks; served = served r.rounds r.run; calls = omega (arith, few, r.calls) }

  in_part : RanInPart limit (length before.drives) a b → IsFleetInPart limit before after
  in_part (inl r) = inl (in_magic r)
  in_part (inr (inl r)) = inr (inl (in_round r))
  in_part (inr (inr r)) = inr (inr (in_fault r))

  stops : (fault : ServeFault) → RanTo limit (length before.drives) a b fault → IsFleetStopped limit before after fault
  stops (faults.Open fault) r = absurd r
  stops (faults.BadInput reason offset) r = early (Bad reason offset) r
  stops faults.Read r = early ReadFault r
  stops faults.Write r = in_part r

  pub fleet_stops : (fault : ServeFault) → RanTo limit units a b fault → IsFleetStopped limit before after fault
  fleet_stops fault r = stops fault (subst (λ n. RanTo limit n a b fault) is r)
