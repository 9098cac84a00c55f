-- A sector by itself goes along with all deeds where it does with few.
use Rattle.std.proofs.Common.{◌≡◌, refl, subst, ℕ, List, [], ◌∷◌, Option, Some, None}
use Rattle.satl_base.specs.Cells.{Cell, Pair}
use Rattle.satl_base.specs.Lists.{IsIn}
use Rattle.satl_audit.specs.Deeds.{Alone, Deed, DoneAt, MovesAt, Walks, few, few_from}
use Rattle.satl_audit.specs.Deeds.Deed.{shows, puts, gives, settles, powers}
use Rattle.satl_audit.specs.Deeds.MovesAt.{still}

module _ (x : ℕ) where
  abbrev First : Option (List Pair) → Cell → Cell → Type 0
  First None a m = m ≡ a
  First (Some pairs) a m = MovesAt (λ p. IsIn p pairs) x a m

  pub record Fuller (o : Option (List Pair)) (ds : List Deed) (a b : Cell) : Type 0 where
    pub mid : Cell
    pub first : First o a mid
    pub walk : Walks (DoneAt x) ds mid b

  still_first : (o : Option (List Pair)) (a : Cell) → First o a a
  still_first None a = refl
  still_first (Some pairs) a = still

  -- one deed more
  after : (o : Option (List Pair)) (d : Deed) (ds : List Deed) (a mid b : Cell) → DoneAt x d a mid → Fuller None ds mid b → Fuller o (d ∷ ds) a b
  after o d ds a mid b done f = record { mid = a; first = still_first o a; walk = (mid, done, subst (λ y. Walks (DoneAt x) ds y b) f.first f.walk) }

  fuller : (ds : List Deed) (o : Option (List Pair)) (a b : Cell) → Walks (DoneAt x) (few_from o ds) a b → Fuller o ds a b
  fuller [] o a b w = record { mid = a; first = still_first o a; walk = w }
  fuller (shows q ∷ ds) o a b w = let f = fuller ds (Some q) a b w in record { mid = a; first = still_first o a; walk = (f.mid, f.first, f.walk) }
  fuller (powers ∷ ds) None a b w = after None powers ds a w.0 b w.1 (fuller ds None w.0 b w.2)
  fuller (powers ∷ ds) (Some q) a b w =
      let v = w.2 in
      let f = fuller ds None v.0 b v.2 in
      record { mid = w.0; first = w.1; walk = (v.0, v.1, subst (λ y. Walks (DoneAt x) ds y b) f.first f.walk) }
  fuller (puts q ∷ ds) o a b w = after o (puts q) ds a w.0 b w.1 (fuller ds None w.0 b w.2)
  fuller (gives lba vs ∷ ds) o a b w = after o (gives lba vs) ds a w.0 b w.1 (fuller ds None w.0 b w.2)
  fuller (settles ∷ ds) o a b w = after o settles ds a w.0 b w.1 (fuller ds None w.0 b w.2)

  pub alone_of_few : (ds : List Deed) (c : Cell) → Alone x (few ds) c → Alone x ds c
  alone_of_few ds c h = let f = fuller ds None c h.last h.walks in record { last = h.last; walks = subst (λ y. Walks (DoneAt x) ds y h.last) f.first f.walk }
