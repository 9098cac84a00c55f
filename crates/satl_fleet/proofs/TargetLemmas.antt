-- What stays of a target.
use Rattle.std.proofs.Common.{◌≡◌, refl, sym, subst, ◌∙◌, ◌≤◌, List, []}
use Rattle.std.specs.List.{AllByRecursion}
use Rattle.satl_base.specs.declared.reply.Reply.{Reply}
use Rattle.satl_base.proofs.ListsLemmas.{All-weaken}
use Rattle.satl_fleet.specs.Serving.{CanServe, HasUnits, KeepsUnits, Target}
use Rattle.satl_fleet.specs.Units.{IsReady, IsTiedUnit, UnitState}

-- units that are ready are tied to their drives
pub all_tied : (ss : List UnitState) → AllByRecursion IsReady ss → AllByRecursion IsTiedUnit ss
all_tied ss ready = All-weaken IsReady IsTiedUnit (λ s r. r.tied) ss ready

-- a target that is as it was
pub keeps_same : (t : Target) → HasUnits t → KeepsUnits t t
keeps_same t has = record { tied = all_tied t.units has.ready; layers = refl; drives = refl }

-- the next frame can be served, where the units are still ready
pub serves_on : (a b : Target) (replies : List Reply) → HasUnits a → KeepsUnits a b → AllByRecursion IsReady b.units → replies ≡ [] → CanServe b replies
serves_on a b replies has stays ready none = record {
  has = record {
    same = stays.drives ∙ (has.same ∙ sym stays.layers);
    some = subst (λ n. 1 ≤ n) (sym stays.layers) has.some;
    few = subst (λ n. n ≤ 4) (sym stays.layers) has.few;
    ready = ready;
  };
  none = none;
}
