-- The first of several drives.
use Rattle.std.proofs.Common.{◌≡◌, refl, sym, ap, arith, ◌<◌, List, [], ◌∷◌, length, map}
use Rattle.std.specs.Prelude.{drop, slice_index_or, slice_set}
use Rattle.satl_drive.specs.State.{DriveState}

module _ {D : Type 0} (f : D → DriveState) where
  pub first_old : (ds : List D) (d : D) → 0 < length ds → d ≡ slice_index_or ds 0 d → map f ds ≡ f d ∷ map f (drop 1 ds)
  first_old [] d some is = absurd (omega (arith, some))
  first_old (x ∷ xs) d some is = ap (λ y. f y ∷ map f xs) (sym is)

  pub first_new : (ds : List D) (d : D) → 0 < length ds → map f (slice_set ds 0 d) ≡ f d ∷ map f (drop 1 ds)
  first_new [] d some = absurd (omega (arith, some))
  first_new (x ∷ xs) d some = refl
