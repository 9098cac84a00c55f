-- Tasks of a list: which are eligible, and which stay when one leaves.
use Rattle.std.proofs.Common.{◌≡◌, ◌⊎◌, ⊎_elim, inl, inr, refl, sym, ap, ◌∙◌, true, false, List, [], ◌∷◌, ◌++◌}
use Rattle.std.specs.Prelude.{if◌then◌else◌}
use Rattle.std.specs.List.{AllByRecursion}
use Rattle.satl_base.specs.Lists.{IsIn}
use Rattle.satl_base.proofs.ListsLemmas.{in_right}
use Rattle.satl_line.specs.declared.entry.Entry.{Entry}
use Rattle.satl_line.specs.Conflict.{conflicts}
use Rattle.satl_line.specs.Eligible.{IsEligible}
use Rattle.satl_direct.specs.Device.{is_called, without}
use Rattle.satl_direct.specs.Valid.{AreOwn}
use Rattle.satl_direct.proofs.Naming.{called_apart, called_self, own_first, own_rest}
use Rattle.satl_laws.proofs.Rows.{in_all}

-- one of a list, by its place
pub record SplitAt {X : Type 0} (xs : List X) (x : X) : Type 0 where
  pub before : List X
  pub later : List X
  pub split : xs ≡ before ++ x ∷ later

pub split_at : {X : Type 0} (xs : List X) (x : X) → IsIn x xs → SplitAt xs x
split_at [] x i = elim i [ ]
split_at (y ∷ ys) x i =
    ⊎_elim
    (λ same. record { before = []; later = ys; split = ap (λ k. k ∷ ys) (sym same) })
    (λ later. let r = split_at ys x later in record { before = y ∷ r.before; later = r.later; split = ap (λ l. y ∷ l) r.split })
    i

-- tasks with names of their own, but for one
pub without_is : (before : List Entry) (t : Entry) (later : List Entry) → AreOwn (before ++ t ∷ later) → without t (before ++ t ∷ later) ≡ before ++ later
without_is [] t later own = ap (λ b. if b then later else t ∷ without t later) (called_self t)
without_is (u ∷ us) t later own =
    let other : is_called t.nexus (t.tag).0 u ≡ false = called_apart u t (in_all (λ v. is_called u.nexus (u.tag).0 v ≡ false) (us ++ t ∷ later) t (own_first u (us ++ t ∷ later) own) (in_right t us (t ∷ later) (inl refl))) in
    ap (λ b. if b then us ++ t ∷ later else u ∷ without t (us ++ t ∷ later)) other ∙ ap (λ l. u ∷ l) (without_is us t later (own_rest u (us ++ t ∷ later) own))

-- no task before an eligible one conflicts with it
pub before_free : (before : List Entry) (t : Entry) (later : List Entry) → AreOwn (before ++ t ∷ later) → IsEligible (before ++ t ∷ later) t → AllByRecursion (λ u. conflicts u t ≡ false) before
before_free [] t later own el = tt
before_free (u ∷ us) t later own el =
    ⊎_elim
    (λ same. absurd (let no : true ≡ false =
    sym (ap (λ k. is_called u.nexus (u.tag).0 k) (sym same) ∙ called_self u)
    ∙ in_all (λ v. is_called u.nexus (u.tag).0 v ≡ false) (us ++ t ∷ later) t (own_first u (us ++ t ∷ later) own) (in_right t us (t ∷ later) (inl refl)) in cc))
    (λ rest. (rest.0, before_free us t later (own_rest u (us ++ t ∷ later) own) rest.1))
    el

-- another one that is eligible stays so without it
pub still_eligible : (before : List Entry) (t : Entry) (later : List Entry) (u : Entry) → IsEligible (before ++ t ∷ later) u → (u ≡ t) ⊎ IsEligible (before ++ later) u
still_eligible [] t later u el = ⊎_elim (λ same. inl (sym same)) (λ rest. inr rest.1) el
still_eligible (b ∷ bs) t later u el =
    ⊎_elim (λ same. inr (inl same)) (λ rest. ⊎_elim (λ is. inl is) (λ e. inr (inr (rest.0, e))) (still_eligible bs t later u rest.1)) el
