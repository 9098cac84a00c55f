-- Deeds one after the other, and what they leave of each sector.
use Rattle.std.proofs.Common.{◌≡◌, refl, sym, ap, ◌∙◌, subst, ℕ, ◌<◌, List, [], ◌∷◌, ◌++◌, Option, Some, None}
use Rattle.satl_base.specs.Cells.{Pair}
use Rattle.satl_audit.specs.Deeds.{Deed}
use Rattle.satl_audit.specs.Deeds.Deed.{shows, puts, gives, settles, powers}
use Rattle.satl_audit.specs.Following.{Follows, SomeRefuses, along}
use Rattle.satl_audit.specs.Kept.{Keeping, known_sector_at}
use Rattle.satl_audit.specs.Sectors.{KnownSector, sector_gives, sector_power, sector_puts, settled_in}

pub none_along : (x : ℕ) (o : Option (List Pair)) (ds : List Deed) → along x o ds None ≡ None
none_along x o [] = refl
none_along x o (d ∷ ds) = refl

-- what has shown before matters no more once pairs show again
pub along_push : (x : ℕ) (o r : Option (List Pair)) (ds : List Deed) (pairs : List Pair) (es : List Deed) (m : Option KnownSector) → along x o (ds ++ shows pairs ∷ es) m ≡ along x r (shows pairs ∷ es) (along x o ds m)
along_push x o r ds pairs es None = none_along x o (ds ++ shows pairs ∷ es) ∙ sym (ap (along x r (shows pairs ∷ es)) (none_along x o ds) ∙ none_along x r (shows pairs ∷ es))
along_push x o r [] pairs es (Some s) = refl
along_push x o r (shows qs ∷ ds) pairs es (Some s) = along_push x (Some qs) r ds pairs es (Some s)
along_push x o r (puts qs ∷ ds) pairs es (Some s) = along_push x None r ds pairs es (Some (sector_puts x qs s))
along_push x o r (gives lba blocks ∷ ds) pairs es (Some s) = along_push x None r ds pairs es (sector_gives x lba blocks (Some s))
along_push x o r (settles ∷ ds) pairs es (Some s) = along_push x None r ds pairs es (Some (settled_in s.now s.may))
along_push x o r (powers ∷ ds) pairs es (Some s) = along_push x None r ds pairs es (Some (sector_power x o s))

-- a sector that does not go along with deeds does not with more of them
pub along_stuck : (x : ℕ) (o : Option (List Pair)) (ds es : List Deed) (m : Option KnownSector) → along x o ds m ≡ None → along x o (ds ++ es) m ≡ None
along_stuck x o ds es None h = none_along x o (ds ++ es)
along_stuck x o [] es (Some s) h = absurd cc
along_stuck x o (shows qs ∷ ds) es (Some s) h = along_stuck x (Some qs) ds es (Some s) h
along_stuck x o (puts qs ∷ ds) es (Some s) h = along_stuck x None ds es (Some (sector_puts x qs s)) h
along_stuck x o (gives lba blocks ∷ ds) es (Some s) h = along_stuck x None ds es (sector_gives x lba blocks (Some s)) h
along_stuck x o (settles ∷ ds) es (Some s) h = along_stuck x None ds es (Some (settled_in s.now s.may)) h
along_stuck x o (powers ∷ ds) es (Some s) h = along_stuck x None ds es (Some (sector_power x o s)) h

pub follows_push : (input : List ℕ) (ds : List Deed) (pairs : List Pair) (es : List Deed) (old mid new : List Keeping) → Follows input ds old mid → Follows input (shows pairs ∷ es) mid new → Follows input (ds ++ shows pairs ∷ es) old new
follows_push input ds pairs es old mid new f g = (
  g.0 ∙ f.0,
  λ x less. along_push x None None ds pairs es (Some (known_sector_at input old x)) ∙ ap (along x None (shows pairs ∷ es)) (f.1 x less) ∙ g.1 x (subst (λ n. x < n) (sym f.0) less),
)

pub refuses_push : (input : List ℕ) (ds : List Deed) (pairs : List Pair) (es : List Deed) (old mid : List Keeping) → Follows input ds old mid → SomeRefuses input (shows pairs ∷ es) mid → SomeRefuses input (ds ++ shows pairs ∷ es) old
refuses_push input ds pairs es old mid f r =
    let less = subst (λ n. r.0 < n) f.0 r.1 in
    (r.0, less, along_push r.0 None None ds pairs es (Some (known_sector_at input old r.0)) ∙ ap (along r.0 None (shows pairs ∷ es)) (f.1 r.0 less) ∙ r.2)

pub refuses_more : (input : List ℕ) (ds es : List Deed) (old : List Keeping) → SomeRefuses input ds old → SomeRefuses input (ds ++ es) old
refuses_more input ds es old r = (r.0, r.1, along_stuck r.0 None ds es (Some (known_sector_at input old r.0)) r.2)
