-- No two tasks are called the same.
use Rattle.std.proofs.Common.{◌≡◌, ⊎_elim, sym, ◌∙◌, subst, Bool, true, false, List, [], ◌∷◌}
use Rattle.std.specs.Prelude.{if◌then◌else◌}
use Rattle.std.proofs.lemmas.Bool.{both_ways}
use Rattle.satl_base.specs.Lists.{IsIn, remove_first}
use Rattle.satl_base.proofs.ListsLemmas.{All-remove_first}
use Rattle.satl_line.specs.declared.entry.Entry.{Entry}
use Rattle.satl_direct.specs.Device.{is_called}
use Rattle.satl_direct.specs.Valid.{AreOwn}
use Rattle.satl_direct.proofs.Naming.{called_back, own_first, own_more, own_rest}
use Rattle.satl_laws.proofs.Rows.{in_all as all_of}

pub own_removed : (q : Entry → Bool) (ts : List Entry) → AreOwn ts → AreOwn (remove_first q ts)
own_removed q [] h = h
own_removed q (t ∷ ts) h =
    elim (q t) as (λ b. AreOwn (if b then ts else t ∷ remove_first q ts)) [
      | true ↦ own_rest t ts h
      | false ↦ own_more t (remove_first q ts) (All-remove_first (λ u. is_called t.nexus (t.tag).0 u ≡ false) q ts (own_first t ts h)) (own_removed q ts (own_rest t ts h))
    ]

-- of two tasks that are there, one that is called as the other is the other
pub called_there : (ts : List Entry) (t u : Entry) → AreOwn ts → IsIn t ts → IsIn u ts → is_called t.nexus (t.tag).0 u ≡ true → u ≡ t
called_there [] t u own i j h = absurd i
called_there (v ∷ ts) t u own i j h =
    ⊎_elim
    (λ e. ⊎_elim (λ f. f ∙ sym e) (λ k. absurd (both_ways _ (none v ts u own k) (subst (λ w. is_called w.nexus (w.tag).0 u ≡ true) e h))) j)
    (λ l. ⊎_elim (λ f. absurd (both_ways _ (none v ts t own l) (subst (λ w. is_called w.nexus (w.tag).0 t ≡ true) f (called_back t u h)))) (λ k. called_there ts t u (own_rest v ts own) l k h) j)
    i
  where
    none : (v : Entry) (ts : List Entry) (w : Entry) → AreOwn (v ∷ ts) → IsIn w ts → is_called v.nexus (v.tag).0 w ≡ false
    none v ts w own k = all_of (λ u. is_called v.nexus (v.tag).0 u ≡ false) ts w (own_first v ts own) k
