-- Units in their list.
use Rattle.std.proofs.Common.{◌≡◌, refl, sym, ap, subst, ◌∙◌, arith, ℕ, zero, suc, ◌+◌, ◌<◌, List, [], ◌∷◌, length, map}
use Rattle.std.specs.Prelude.{Some, slice_get, slice_set, slice_index_or}
use Rattle.std.proofs.lemmas.List.{length-map}
use Rattle.std.proofs.lemmas.List.Sums.{sum_by-cons}
use Rattle.std.specs.List.{AllByRecursion}
use Rattle.satl_drive.specs.State.{DriveState}
use Rattle.satl_core.specs.Layer.{Layer}
use Rattle.satl_fleet.specs.Units.{UnitState, pending, unit_state, unit_states}

-- the element of an index
pub some_at : {X : Type 0} (xs : List X) (k : ℕ) (x : X) → k < length xs → x ≡ slice_index_or xs k x → slice_get xs k ≡ Some x
some_at [] k x less is = absurd (omega (arith, less))
some_at (y ∷ ys) zero x less is = ap Some (sym is)
some_at (y ∷ ys) (suc k) x less is = some_at ys k x (omega (arith, less)) is

pub spots_at : (ls : List Layer) (ds : List DriveState) (k : ℕ) (l : Layer) (d : DriveState) → slice_get ls k ≡ Some l → slice_get ds k ≡ Some d → slice_get (unit_states ls ds) k ≡ Some (unit_state l d)
spots_at [] ds k l d is there = absurd cc
spots_at (x ∷ xs) [] k l d is there = absurd cc
spots_at (x ∷ xs) (y ∷ ys) zero l d is there =
    let same : x ≡ l = cc in
    let drive : y ≡ d = cc in
    ap (λ z. Some (unit_state z y)) same ∙ ap (λ z. Some (unit_state l z)) drive
spots_at (x ∷ xs) (y ∷ ys) (suc k) l d is there = spots_at xs ys k l d is there

pub spots_set : (ls : List Layer) (ds : List DriveState) (k : ℕ) (l : Layer) (d : DriveState) → unit_states (slice_set ls k l) (slice_set ds k d) ≡ slice_set (unit_states ls ds) k (unit_state l d)
spots_set [] ds k l d = refl
spots_set (x ∷ xs) [] zero l d = refl
spots_set (x ∷ xs) [] (suc k) l d = refl
spots_set (x ∷ xs) (y ∷ ys) zero l d = refl
spots_set (x ∷ xs) (y ∷ ys) (suc k) l d = ap (λ (ss : List UnitState). unit_state x y ∷ ss) (spots_set xs ys k l d)

pub length_spots : (ls : List Layer) (ds : List DriveState) → length ds ≡ length ls → length (unit_states ls ds) ≡ length ls
length_spots [] ds same = refl
length_spots (x ∷ xs) [] same = same
length_spots (x ∷ xs) (y ∷ ys) same = ap suc (length_spots xs ys (omega (arith, same)))

pub all_at : {X : Type 0} (P : X → Type 0) (xs : List X) (k : ℕ) (x : X) → AllByRecursion P xs → slice_get xs k ≡ Some x → P x
all_at P [] k x all is = absurd cc
all_at P (y ∷ ys) zero x all is = let same : y ≡ x = cc in subst P same all.0
all_at P (y ∷ ys) (suc k) x all is = all_at P ys k x all.1 is

pub all_set : {X : Type 0} (P : X → Type 0) (xs : List X) (k : ℕ) (x : X) → AllByRecursion P xs → P x → AllByRecursion P (slice_set xs k x)
all_set P [] k x all p = tt
all_set P (y ∷ ys) zero x all p = (p, all.1)
all_set P (y ∷ ys) (suc k) x all p = (all.0, all_set P ys k x all.1 p)

pub pending_cons : (s : UnitState) (ss : List UnitState) → pending (s ∷ ss) ≡ length s.layer.tasks + pending ss
pending_cons s ss = sum_by-cons (λ (x : UnitState). length x.layer.tasks) s ss

-- the tasks that wait, once those of one unit are others
pub pending_set : (ss : List UnitState) (k : ℕ) (old new : UnitState) → slice_get ss k ≡ Some old → pending (slice_set ss k new) + length old.layer.tasks ≡ pending ss + length new.layer.tasks
pending_set [] k old new is = absurd cc
pending_set (s ∷ ss) zero old new is =
    let same : s ≡ old = cc in
    let tasks = ap (λ (x : UnitState). length x.layer.tasks) same in
    omega (arith, tasks, pending_cons new ss, pending_cons s ss)
pending_set (s ∷ ss) (suc k) old new is = let more = pending_set ss k old new is in omega (arith, more, pending_cons s (slice_set ss k new), pending_cons s ss)

pub length_states : {D : Type 0} (f : D → DriveState) (ls : List Layer) (ds : List D) → length ds ≡ length ls → length (unit_states ls (map f ds)) ≡ length ls
length_states f ls ds same = length_spots ls (map f ds) (length-map ds f ∙ same)
