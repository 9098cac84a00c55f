-- Units that are opened one after the other.
use Rattle.std.proofs.Common.{◌≡◌, inl, inr, refl, sym, ap, subst, ◌∙◌, arith, ℕ, zero, suc, ◌<◌, List, [], ◌∷◌, ◌++◌, length, map}
use Rattle.std.specs.Prelude.{Some, slice_get, slice_index_or, slice_set}
use Rattle.std.proofs.lemmas.List.{map-set}
use Rattle.std.specs.List.{AllByRecursion, AllZip}
use Rattle.satl_base.proofs.ListsLemmas.{get-map}
use Rattle.satl_drive.specs.State.{DriveState}
use Rattle.satl_core.specs.Layer.{Layer}
use Rattle.satl_core.specs.Opening.{IsCause}
use Rattle.satl_barrier.specs.Commands.IsUndisturbed.{untouched, written_back}
use Rattle.satl_core.specs.declared.satl.OpenFault.{OpenFault}
use Rattle.satl_barrier.specs.Leaving.{IsFree}
use Rattle.satl_fleet.specs.Opening.{IsCauseOfOne, IsLeftAlone, Opens, OpensTo}
use Rattle.satl_fleet.specs.Opening.OpensTo.{rest, more}
use Rattle.satl_fleet.specs.Runs.{HasNoTask}
use Rattle.satl_fleet.specs.Units.{IsReady, unit_states}
use Rattle.satl_fleet.proofs.SpotLemmas.{all_at, some_at}

-- ---- one drive

pub opened_alone : (old new : DriveState) (l : Layer) → Opens old l new → IsLeftAlone old new
opened_alone old new l o = record { undisturbed = written_back o.opened.lost o.opened.stays; nows = o.nows; unplugs = ap (λ (d : DriveState). d.unplugs) o.opened.stays; orders = ap (λ (d : DriveState). d.orders) o.opened.stays }

same_alone : (d : DriveState) → IsLeftAlone d d
same_alone d = record { undisturbed = untouched refl; nows = refl; unplugs = refl; orders = refl }

pub all_same : (ds : List DriveState) → AllZip IsLeftAlone ds ds
all_same [] = tt
all_same (d ∷ ds) = (same_alone d, all_same ds)

-- ---- so many drives

-- the next drive is as it was
pub next_is : {olds news : List DriveState} {ls : List Layer} (d : DriveState) (k : ℕ) → OpensTo olds ls news → length ls ≡ k → slice_get news k ≡ Some d → slice_get olds k ≡ Some d
next_is {olds = ds} d zero rest long is = is
next_is d (suc k) rest long is = absurd (omega (arith, long))
next_is d zero (more o os) long is = absurd (omega (arith, long))
next_is d (suc k) (more o os) long is = next_is d k os (omega (arith, long)) is

first_opens : (ds : List DriveState) (old new : DriveState) (l : Layer) → slice_get ds 0 ≡ Some old → Opens old l new → OpensTo ds (l ∷ []) (slice_set ds 0 new)
first_opens [] old new l is o = absurd cc
first_opens (d ∷ ds) old new l is o = let same : old ≡ d = cc in subst (λ x. OpensTo (x ∷ ds) (l ∷ []) (new ∷ ds)) same (more o rest)

pub opens_push : {olds news : List DriveState} {ls : List Layer} (old new : DriveState) (l : Layer) (k : ℕ) → OpensTo olds ls news → length ls ≡ k → slice_get news k ≡ Some old → Opens old l new → OpensTo olds (ls ++ l ∷ []) (slice_set news k new)
opens_push {olds = ds} old new l zero rest long is o = first_opens ds old new l is o
opens_push old new l (suc k) rest long is o = absurd (omega (arith, long))
opens_push old new l zero (more p os) long is o = absurd (omega (arith, long))
opens_push old new l (suc k) (more p os) long is o = more p (opens_push old new l k os (omega (arith, long)) is o)

first_alone : (ds : List DriveState) (old new : DriveState) → slice_get ds 0 ≡ Some old → IsLeftAlone old new → AllZip IsLeftAlone ds (slice_set ds 0 new)
first_alone [] old new is a = absurd cc
first_alone (d ∷ ds) old new is a = let same : old ≡ d = cc in (subst (λ x. IsLeftAlone x new) same a, all_same ds)

-- the drives so far, and one more that was left alone
pub alone_push : {olds news : List DriveState} {ls : List Layer} (old new : DriveState) (k : ℕ) → OpensTo olds ls news → length ls ≡ k → slice_get news k ≡ Some old → IsLeftAlone old new → AllZip IsLeftAlone olds (slice_set news k new)
alone_push {olds = ds} old new zero rest long is a = first_alone ds old new is a
alone_push old new (suc k) rest long is a = absurd (omega (arith, long))
alone_push old new zero (more o os) long is a = absurd (omega (arith, long))
alone_push {olds = d ∷ ds} {news = w ∷ ws} {ls = x ∷ xs} old new (suc k) (more o os) long is a = (opened_alone d w x o, alone_push old new k os (omega (arith, long)) is a)

first_cause : (ds : List DriveState) (fault : OpenFault) (old new : DriveState) → slice_get ds 0 ≡ Some old → IsCause old new fault → IsCauseOfOne fault ds (slice_set ds 0 new)
first_cause [] fault old new is c = absurd cc
first_cause (d ∷ ds) fault old new is c = let same : old ≡ d = cc in inl (subst (λ x. IsCause x new fault) same c)

pub cause_push : {olds news : List DriveState} {ls : List Layer} (fault : OpenFault) (old new : DriveState) (k : ℕ) → OpensTo olds ls news → length ls ≡ k → slice_get news k ≡ Some old → IsCause old new fault → IsCauseOfOne fault olds (slice_set news k new)
cause_push {olds = ds} fault old new zero rest long is c = first_cause ds fault old new is c
cause_push fault old new (suc k) rest long is c = absurd (omega (arith, long))
cause_push fault old new zero (more o os) long is c = absurd (omega (arith, long))
cause_push fault old new (suc k) (more o os) long is c = inr (cause_push fault old new k os (omega (arith, long)) is c)

module _ {D : Type 0} (f : D → DriveState) (olds : List DriveState) (ls : List Layer) (ds : List D) (k : ℕ) (d : D) (to : OpensTo olds ls (map f ds)) (long : length ls ≡ k) (small : k < length ds) (is : d ≡ slice_index_or ds k d) where
  there : slice_get (map f ds) k ≡ Some (f d)
  there = get-map f ds k d (some_at ds k d small is)

  pub able : AllByRecursion IsFree olds → IsFree (f d)
  able all = all_at IsFree olds k (f d) all (next_is (f d) k to long there)

  pub opened_more : (new : D) (l : Layer) → Opens (f d) l (f new) → OpensTo olds (ls ++ l ∷ []) (map f (slice_set ds k new))
  opened_more new l o = subst (OpensTo olds (ls ++ l ∷ [])) (sym (map-set f ds k new)) (opens_push (f d) (f new) l k to long there o)

  pub alone_more : (new : D) → IsLeftAlone (f d) (f new) → AllZip IsLeftAlone olds (map f (slice_set ds k new))
  alone_more new a = subst (AllZip IsLeftAlone olds) (sym (map-set f ds k new)) (alone_push (f d) (f new) k to long there a)

  pub cause_more : (new : D) (fault : OpenFault) → IsCause (f d) (f new) fault → IsCauseOfOne fault olds (map f (slice_set ds k new))
  cause_more new fault c = subst (IsCauseOfOne fault olds) (sym (map-set f ds k new)) (cause_push fault (f d) (f new) k to long there c)

-- ---- all drives

pub all_ready : {olds news : List DriveState} {ls : List Layer} → OpensTo olds ls news → AllByRecursion IsReady (unit_states ls news)
all_ready rest = tt
all_ready (more o os) = (record { tied = record { tied = o.opened.tied; queue = o.queue }; all_in = o.opened.out }, all_ready os)

pub all_idle : {olds news : List DriveState} {ls : List Layer} → AllByRecursion IsFree olds → OpensTo olds ls news → AllByRecursion HasNoTask (unit_states ls news)
all_idle able rest = tt
all_idle {olds = d ∷ ds} {news = w ∷ ws} able (more o os) =
    (record { tasks = o.opened.tasks; covers = let none = ap length (ap (λ (x : DriveState). x.outstanding) o.opened.stays ∙ able.0.idle) in omega (arith, none) }, all_idle able.1 os)
