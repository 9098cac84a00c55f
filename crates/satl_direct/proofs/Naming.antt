-- Tasks by their nexus and tag.
use Rattle.std.proofs.Common.{◌≡◌, refl, sym, ap, ◌∙◌, Bool, true, false, List, [], ◌∷◌, ◌++◌}
use Rattle.std.specs.Prelude.{if◌then◌else◌, filter, ◌==◌, ◌&&◌}
use Rattle.std.specs.List.{AllByRecursion, IsDistinct, list_any}
use Rattle.std.proofs.lemmas.Bool.{or_parts, eq-eqb}
use Rattle.std.proofs.lemmas.Map.Keys.{IsDistinct-cons, IsDistinct-head, IsDistinct-tail}
use Rattle.satl_base.proofs.Booleans.{eqb-sym}
use Rattle.satl_base.proofs.ListsLemmas.{All-filter, All-push_end}
use Rattle.satl_line.specs.declared.entry.Entry.{Entry}
use Rattle.satl_direct.specs.Device.{is_called}
use Rattle.satl_direct.specs.Valid.{AreOwn}

-- of two tasks each is called as the other, or neither is
pub called-sym : (t u : Entry) → is_called t.nexus (t.tag).0 u ≡ is_called u.nexus (u.tag).0 t
called-sym t u = ap (λ b. b && ((u.tag).0 == (t.tag).0)) (eqb-sym u.nexus t.nexus) ∙ ap (λ b. (t.nexus == u.nexus) && b) (eqb-sym (u.tag).0 (t.tag).0)

pub called_back : (t u : Entry) → is_called t.nexus (t.tag).0 u ≡ true → is_called u.nexus (u.tag).0 t ≡ true
called_back t u h = sym (called-sym t u) ∙ h

pub called_apart : (t u : Entry) → is_called t.nexus (t.tag).0 u ≡ false → is_called u.nexus (u.tag).0 t ≡ false
called_apart t u h = sym (called-sym t u) ∙ h

-- a task is called as itself
pub called_self : (t : Entry) → is_called t.nexus (t.tag).0 t ≡ true
called_self t = ap (λ b. b && ((t.tag).0 == (t.tag).0)) (eq-eqb t.nexus t.nexus refl) ∙ eq-eqb (t.tag).0 (t.tag).0 refl

pub called_same : (u t : Entry) → u ≡ t → is_called t.nexus (t.tag).0 u ≡ true
called_same u t one = ap (is_called t.nexus (t.tag).0) one ∙ called_self t

-- a test passes for none
pub none_of_each : {X : Type 0} (p : X → Bool) (xs : List X) → AllByRecursion (λ x. p x ≡ false) xs → list_any p xs ≡ false
none_of_each p [] each = refl
none_of_each p (x ∷ xs) each = rw each.0 (none_of_each p xs each.1)

pub each_of_none : {X : Type 0} (p : X → Bool) (xs : List X) → list_any p xs ≡ false → AllByRecursion (λ x. p x ≡ false) xs
each_of_none p [] none = tt
each_of_none p (x ∷ xs) none = let both = or_parts (p x) (list_any p xs) none in (both.0, each_of_none p xs both.1)

-- tasks of their own nexus and tag: none, and one more
pub own_none : AreOwn []
unfolding IsDistinct
own_none = tt

pub own_more : (t : Entry) (ts : List Entry) → AllByRecursion (λ u. is_called t.nexus (t.tag).0 u ≡ false) ts → AreOwn ts → AreOwn (t ∷ ts)
own_more t ts first rest = IsDistinct-cons _ t ts first rest

pub own_first : (t : Entry) (ts : List Entry) → AreOwn (t ∷ ts) → AllByRecursion (λ u. is_called t.nexus (t.tag).0 u ≡ false) ts
own_first t ts own = IsDistinct-head _ t ts own

pub own_rest : (t : Entry) (ts : List Entry) → AreOwn (t ∷ ts) → AreOwn ts
own_rest t ts own = IsDistinct-tail _ t ts own

-- they stay so where some go
pub own_filtered : (q : Entry → Bool) (ts : List Entry) → AreOwn ts → AreOwn (filter q ts)
own_filtered q [] own = own
own_filtered q (t ∷ ts) own =
    elim (q t) as (λ b. AreOwn (if b then t ∷ filter q ts else filter q ts)) [
      | true ↦ own_more t (filter q ts) (All-filter (λ u. is_called t.nexus (t.tag).0 u ≡ false) q ts (own_first t ts own)) (own_filtered q ts (own_rest t ts own))
      | false ↦ own_filtered q ts (own_rest t ts own)
    ]

-- and where one comes that none is called as
pub own_pushed : (ts : List Entry) (t : Entry) → list_any (is_called t.nexus (t.tag).0) ts ≡ false → AreOwn ts → AreOwn (ts ++ t ∷ [])
own_pushed [] t none own = own_more t [] tt own_none
own_pushed (u ∷ ts) t none own =
    let both = or_parts (is_called t.nexus (t.tag).0 u) (list_any (is_called t.nexus (t.tag).0) ts) none in
    own_more u (ts ++ t ∷ []) (All-push_end (λ v. is_called u.nexus (u.tag).0 v ≡ false) ts t (own_first u ts own) (called_apart t u both.0)) (own_pushed ts t both.1 (own_rest u ts own))
