-- The task that the next answer names.
use Rattle.std.proofs.Common.{arith, ◌≡◌, refl, sym, ap, ◌∙◌, subst, ℕ, zero, suc, ◌+◌, Bool, true, false, List, [], ◌∷◌, length, cond}
use Rattle.std.specs.Prelude.{◌<◌, if◌then◌else◌, Some, remove, slice_get}
use Rattle.std.specs.List.{AllByRecursion, position_from}
use Rattle.satl_base.specs.Lists.{remove_first}
use Rattle.satl_line.specs.declared.entry.Entry.{Entry}
use Rattle.satl_line.specs.Conflict.{conflicts}
use Rattle.satl_line.specs.Eligible.{eligible_at}
use Rattle.satl_line.proofs.EligibleLemmas.{eligible_by-formed}
use Rattle.satl_direct.specs.Device.{is_called, without}
use Rattle.satl_direct.specs.Valid.{AreOwn}
use Rattle.satl_direct.proofs.Naming.{called_apart, called_self, own_first, own_rest}
use Rattle.satl_audit.specs.Waiting.{Placed, device_tasks, entries_in, has_name, task_in}

module _ (input : List ℕ) where
  -- a task among those of which none passes
  none_passes : (f : Entry → Bool) (ps : List Placed) (place : ℕ) (p : Placed) → AllByRecursion (λ t. f t ≡ false) (device_tasks input ps) → slice_get ps place ≡ Some p → f (task_in input p) ≡ false
  none_passes f [] place p none at = absurd cc
  none_passes f (q ∷ ps) zero p none at = let same : q ≡ p = cc in ap (λ (x : Placed). f (task_in input x)) (sym same) ∙ none.0
  none_passes f (q ∷ ps) (suc place) p none at = none_passes f ps place p none.1 at

  -- an earlier task has another name
  earlier_apart : (q : Placed) (ps : List Placed) (place : ℕ) (p : Placed) → AreOwn (device_tasks input (q ∷ ps)) → slice_get ps place ≡ Some p → is_called p.entry.nexus (p.entry.tag).0 (task_in input q) ≡ false
  earlier_apart q ps place p own at = called_apart (task_in input q) (task_in input p) (none_passes (is_called q.entry.nexus (q.entry.tag).0) ps place p (own_first (task_in input q) (device_tasks input ps) own) at)

  pub named_at : (ps : List Placed) (place n : ℕ) (p : Placed) → AreOwn (device_tasks input ps) → slice_get ps place ≡ Some p → position_from (has_name p.entry.nexus (p.entry.tag).0) n ps ≡ Some (n + place)
  named_at [] place n p own at = absurd cc
  named_at (q ∷ ps) zero n p own at =
      let same : q ≡ p = cc in
      let here : n ≡ n + 0 = omega arith in
      ap (λ (b : Bool). cond b (Some n) (position_from (has_name p.entry.nexus (p.entry.tag).0) (n + 1) ps)) (ap (has_name p.entry.nexus (p.entry.tag).0) same ∙ called_self p.entry) ∙ ap Some here
  named_at (q ∷ ps) (suc place) n p own at =
      let further : (n + 1) + place ≡ n + suc place = omega arith in
      ap (λ (b : Bool). cond b (Some n) (position_from (has_name p.entry.nexus (p.entry.tag).0) (n + 1) ps)) (earlier_apart q ps place p own at)
      ∙ named_at ps place (n + 1) p (own_rest (task_in input q) (device_tasks input ps) own) at
      ∙ ap Some further

  pub removed_at : (ps : List Placed) (place : ℕ) (p : Placed) → AreOwn (device_tasks input ps) → slice_get ps place ≡ Some p → device_tasks input (remove ps place) ≡ without (task_in input p) (device_tasks input ps)
  removed_at [] place p own at = absurd cc
  removed_at (q ∷ ps) zero p own at =
      let same : q ≡ p = cc in
      sym (ap (λ (b : Bool). if b then device_tasks input ps else task_in input q ∷ remove_first (is_called p.entry.nexus (p.entry.tag).0) (device_tasks input ps)) (ap (λ (x : Placed). is_called p.entry.nexus (p.entry.tag).0 (task_in input x)) same ∙ called_self p.entry))
  removed_at (q ∷ ps) (suc place) p own at =
      ap (λ (l : List Entry). task_in input q ∷ l) (removed_at ps place p (own_rest (task_in input q) (device_tasks input ps) own) at)
      ∙ sym (ap (λ (b : Bool). if b then device_tasks input ps else task_in input q ∷ remove_first (is_called p.entry.nexus (p.entry.tag).0) (device_tasks input ps)) (earlier_apart q ps place p own at))

  -- the task of the device at a place
  pub record At (ps : List Placed) (place : ℕ) (t : Entry) : Type 0 where
    pub placed : Placed
    pub at : slice_get ps place ≡ Some placed
    pub is : task_in input placed ≡ t

  pub at_device : (ps : List Placed) (place : ℕ) (t : Entry) → slice_get (device_tasks input ps) place ≡ Some t → At ps place t
  at_device [] place t h = absurd cc
  at_device (p ∷ ps) zero t h = let same : task_in input p ≡ t = cc in record { placed = p; at = refl; is = same }
  at_device (p ∷ ps) (suc place) t h = let r = at_device ps place t h in record { placed = r.placed; at = r.at; is = r.is }

  pub device_at_place : (ps : List Placed) (place : ℕ) (p : Placed) → slice_get ps place ≡ Some p → slice_get (device_tasks input ps) place ≡ Some (task_in input p)
  device_at_place [] place p h = absurd cc
  device_at_place (q ∷ ps) zero p h = let same : q ≡ p = cc in ap (λ (x : Placed). Some (task_in input x)) same
  device_at_place (q ∷ ps) (suc place) p h = device_at_place ps place p h

  -- pages have no part in a conflict
  pub eligible_same : (ps : List Placed) (place : ℕ) → eligible_at (device_tasks input ps) place ≡ eligible_at (entries_in ps) place
  eligible_same ps place =
      eligible_by-formed (λ (a b : Placed). conflicts a.entry b.entry) conflicts (task_in input) (λ a b. refl) ps place
      ∙ sym (eligible_by-formed (λ (a b : Placed). conflicts a.entry b.entry) conflicts (λ (a : Placed). a.entry) (λ a b. refl) ps place)

-- each of some that hold
pub all_at : (P : Placed → Type 0) (ps : List Placed) (place : ℕ) (p : Placed) → AllByRecursion P ps → slice_get ps place ≡ Some p → P p
all_at P [] place p all at = absurd cc
all_at P (q ∷ ps) zero p all at = let same : q ≡ p = cc in subst P same all.0
all_at P (q ∷ ps) (suc place) p all at = all_at P ps place p all.1 at

-- what a search finds lies in the list
pub found_within : {X : Type 0} (p : X → Bool) (n : ℕ) (xs : List X) (i : ℕ) → position_from p n xs ≡ Some i → i < n + length xs
found_within p n [] i h = absurd cc
found_within p n (x ∷ xs) i h = by (p x) (found_within p (n + 1) xs i) h
  where
    by : (b : Bool) → (position_from p (n + 1) xs ≡ Some i → i < (n + 1) + length xs) → cond b (Some n) (position_from p (n + 1) xs) ≡ Some i → i < n + length (x ∷ xs)
    by true rest e = let same : n ≡ i = cc in omega (arith, same)
    by false rest e = omega (arith, rest e)
