-- One event on the unit of a number.
use Rattle.std.proofs.Common.{◌≡◌, sym, ap, subst, ◌∙◌, arith, ℕ, ◌+◌, ◌*◌, ◌<◌, ◌≤◌, List, [], length, map, mul-add, refl}
use Rattle.std.specs.Prelude.{Option, Some, IfSome, slice_get, slice_set, slice_index_or}
use Rattle.std.specs.List.{AllByRecursion}
use Rattle.std.proofs.lemmas.List.{map-set}
use Rattle.satl_base.specs.declared.reply.Reply.{Reply}
use Rattle.satl_base.proofs.ListsLemmas.{get-map}
use Rattle.satl_io.specs.Causes.{RoseBy}
use Rattle.satl_frame.specs.Output.{Answer}
use Rattle.satl_frame.specs.declared.frames.Frame.{Frame}
use Rattle.satl_direct.specs.Run.{Does, DoesInPart, losses_in}
use Rattle.satl_drive.specs.State.{DriveState}
use Rattle.satl_core.specs.Layer.{Layer, view}
use Rattle.satl_step.specs.Events.{CallsNone}
use Rattle.satl_fleet.specs.Rounds.{CallsNoneAt, DidAt, DidAtInPart, stage}
use Rattle.satl_fleet.specs.Serving.{CanServe, HasUnits, KeepsUnits, Target}
use Rattle.satl_fleet.specs.Units.{Did, IsReady, IsTiedUnit, UnitDid, UnitDidInPart, UnitState, device_of, pending, unit_state, unit_states}
use Rattle.satl_fleet.proofs.SpotLemmas.{all_at, all_set, pending_set, some_at, spots_at, spots_set}
use Rattle.satl_fleet.proofs.TargetLemmas.{all_tied, serves_on}

module _ {D : Type 0} (f : D → DriveState) (ls : List Layer) (ds : List D) (k : ℕ) (l : Layer) (d : D) (small : k < length ls) (less : k < length ds) (l_is : l ≡ slice_index_or ls k l) (d_is : d ≡ slice_index_or ds k d) where
  abbrev before : List UnitState
  before = unit_states ls (map f ds)

  pub here : slice_get before k ≡ Some (unit_state l (f d))
  here = spots_at ls (map f ds) k l (f d) (some_at ls k l small l_is) (get-map f ds k d (some_at ds k d less d_is))

  -- an event in which the unit does not call its drive
  pub none_here : (event : Frame) → CallsNoneAt k event before → CallsNone event (view l (f d))
  none_here event none = subst (λ o. IfSome o (λ s. CallsNone event (device_of s))) here none

  pub ready_here : AllByRecursion IsReady before → IsReady (unit_state l (f d))
  ready_here all = all_at IsReady before k (unit_state l (f d)) all here

  module _ (l' : Layer) (d' : D) where
    pub set_there : unit_states (slice_set ls k l') (map f (slice_set ds k d')) ≡ slice_set before k (unit_state l' (f d'))
    set_there = ap (unit_states (slice_set ls k l')) (map-set f ds k d') ∙ spots_set ls (map f ds) k l' (f d')

    module _ (layers drives : ℕ) where
      abbrev target_before : Target
      target_before = record { units = before; layers = layers; drives = drives }

      abbrev target_there : Target
      target_there = record { units = unit_states (slice_set ls k l') (map f (slice_set ds k d')); layers = layers; drives = drives }

      pub did_at : (event : Frame) (written written' : Option (List ℕ)) → UnitDid k event (unit_state l (f d)) (unit_state l' (f d')) written written' → DidAt k event (stage target_before written) (stage target_there written')
      did_at event written written' u = record { old = unit_state l (f d); new = unit_state l' (f d'); answers = u.answers; here = here; set = set_there; did = u.did; wrote = u.wrote }

      pub did_at_in_part : (event : Frame) (written written' : Option (List ℕ)) → UnitDidInPart k event (unit_state l (f d)) (unit_state l' (f d')) written written' → DidAtInPart k event (stage target_before written) (stage target_there written')
      did_at_in_part event written written' u = record { old = unit_state l (f d); new = unit_state l' (f d'); cut = u.cut; here = here; set = set_there; did = u.did; told = u.told }

      pub keeps_there : AllByRecursion IsReady before → IsTiedUnit (unit_state l' (f d')) → KeepsUnits target_before target_there
      keeps_there all tied = record {
        tied = subst (AllByRecursion IsTiedUnit) (sym set_there) (all_set IsTiedUnit before k (unit_state l' (f d')) (all_tied before all) tied);
        layers = refl;
        drives = refl;
      }

      pub serves_there : (replies : List Reply) → HasUnits target_before → IsTiedUnit (unit_state l' (f d')) → l'.out ≡ 0 → replies ≡ [] → CanServe target_there replies
      serves_there replies has tied all_in none =
          serves_on target_before target_there replies has (keeps_there has.ready tied)
          (subst (AllByRecursion IsReady) (sym set_there) (all_set IsReady before k (unit_state l' (f d')) has.ready (record { tied = tied; all_in = all_in }))) none

    pub calls_there : (turn calls calls' allowed : ℕ) → calls' + turn * length l'.tasks ≤ calls + turn * length l.tasks + allowed → calls' + turn * pending (unit_states (slice_set ls k l') (map f (slice_set ds k d'))) ≤ calls + turn * pending before + allowed
    calls_there turn calls calls' allowed few =
        let new = ap (λ s. turn * pending s) set_there in
        let sums = ap (λ n. turn * n) (pending_set before k (unit_state l (f d)) (unit_state l' (f d')) here) in
        let left : turn * (pending (slice_set before k (unit_state l' (f d'))) + length l.tasks) ≡ turn * pending (slice_set before k (unit_state l' (f d'))) + turn * length l.tasks = mul-add turn _ _ in
        let right : turn * (pending before + length l'.tasks) ≡ turn * pending before + turn * length l'.tasks = mul-add turn _ _ in
        omega (arith, few, new, sums, left, right)

-- what a unit did from where pages were lent is what it did
module _ (l mid : Layer) (d : DriveState) (same : record mid { free = 0; out = 0 } ≡ record l { free = 0; out = 0 }) where
  device_lent : view mid d ≡ view l d
  device_lent = ap (λ (x : Layer). view x d) same

  did_lent : (event : Frame) (answers : List Answer) (new : UnitState) → Did event (unit_state mid d) answers new → Did event (unit_state l d) answers new
  did_lent event answers new x = record {
    deep = x.deep;
    does = subst (λ s. Does event s answers (device_of new) x.deep) device_lent x.does;
    covered = x.covered;
    faults = subst (λ s. RoseBy (losses_in event s (device_of new)) d.faults new.drive.faults) device_lent x.faults;
    unplugs = x.unplugs;
    orders = x.orders;
    queue = x.queue;
  }

  pub unit_did_lent : (k : ℕ) (event : Frame) (new : UnitState) (written written' : Option (List ℕ)) → UnitDid k event (unit_state mid d) new written written' → UnitDid k event (unit_state l d) new written written'
  unit_did_lent k event new written written' u = record { answers = u.answers; did = did_lent event u.answers new u.did; wrote = u.wrote }

  pub unit_did_in_part_lent : (k : ℕ) (event : Frame) (new : UnitState) (written written' : Option (List ℕ)) → UnitDidInPart k event (unit_state mid d) new written written' → UnitDidInPart k event (unit_state l d) new written written'
  unit_did_in_part_lent k event new written written' u = record {
    cut = u.cut;
    did = record {
      does = subst (λ s. DoesInPart event s u.cut.earlier u.cut.last (device_of new)) device_lent u.did.does;
      faults = subst (λ s. RoseBy (losses_in event s (device_of new)) d.faults new.drive.faults) device_lent u.did.faults;
      unplugs = u.did.unplugs;
      orders = u.did.orders;
      queue = u.did.queue;
    };
    told = u.told;
  }
