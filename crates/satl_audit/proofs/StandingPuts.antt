-- A sector that is kept, once pairs were put.
use Rattle.std.proofs.Common.{◌≡◌, inl, refl, ap, ◌∙◌, subst, ℕ, Bool, true, false, List, [], ◌∷◌, ◌++◌, Option, Some, None}
use Rattle.std.specs.Prelude.{◌==◌, if◌then◌else◌}
use Rattle.std.proofs.lemmas.List.{append-nil}
use Rattle.satl_base.specs.declared.block.Block.{Block}
use Rattle.satl_base.specs.Cells.{Cell, Pair, put}
use Rattle.satl_base.specs.Lists.{IsIn}
use Rattle.satl_base.proofs.ListsLemmas.{in_right}
use Rattle.satl_audit.specs.Deeds.{put_at_one}
use Rattle.satl_audit.specs.Guesses.{after_put}
use Rattle.satl_audit.specs.Sectors.{KnownSector, guesses_in, guesses_of, sector_put, sector_puts}
use Rattle.satl_audit.proofs.Fitting.{After, Fits, fits_same}
use Rattle.satl_audit.proofs.GuessPuts.{Next, Put, next, put_fits, stay_fits}
use Rattle.satl_audit.proofs.Covering.{all_sure, Stands}

puts_one : (v : Block) (cached : Bool) (o : Option Block) (may : List Block) → (w : Block) × IsIn w may → after_put v cached (guesses_in o may) ≡ record { now = v; may = if cached then may ++ v ∷ [] else v ∷ [] } ∷ []
puts_one v cached None [] some = absurd some.1
puts_one v cached None (m ∷ ms) some = ap (λ l. record { now = v; may = if cached then l ++ v ∷ [] else v ∷ [] } ∷ []) (all_sure (m ∷ ms))
puts_one v cached (Some u) may some = ap (λ l. record { now = v; may = if cached then l ++ v ∷ [] else v ∷ [] } ∷ []) (append-nil may)

put_some : (v : Block) (cached : Bool) (may : List Block) → IsIn v (if cached then may ++ v ∷ [] else v ∷ [])
put_some v true may = in_right v may (v ∷ []) (inl refl)
put_some v false may = inl refl

put_stands : (v : Block) (cached : Bool) (K : Cell → Type 0) (s : KnownSector) → Stands K s → Stands (Put v cached K) (sector_put v cached s)
put_stands v cached K s h = record {
  fits = subst (Fits (Put v cached K)) (puts_one v cached s.now s.may h.some) (put_fits v cached K (guesses_of s) h.fits);
  some = (v, put_some v cached s.may);
}

pub stands_same : (K Q : Cell → Type 0) (s : KnownSector) → ((c : Cell) → K c → Q c) → ((c : Cell) → Q c → K c) → Stands K s → Stands Q s
stands_same K Q s f g h = record { fits = fits_same K Q (guesses_of s) f g h.fits; some = h.some }

next_stands : (p : Pair) (x : ℕ) (K : Cell → Type 0) (s : KnownSector) → Stands K s → Stands (Next p x K) (if p.lba == x then sector_put p.block p.cached s else s)
next_stands p x K s h = by (p.lba == x)
  where
    by : (t : Bool) → Stands (After K (λ a b. b ≡ (if t then put a p.block p.cached else a))) (if t then sector_put p.block p.cached s else s)
    by true = put_stands p.block p.cached K s h
    by false = record { fits = stay_fits K (guesses_of s) h.fits; some = h.some }

pub puts_stand : (x : ℕ) (ps : List Pair) (K : Cell → Type 0) (s : KnownSector) → Stands K s → Stands (After K (λ a b. b ≡ put_at_one x ps a)) (sector_puts x ps s)
puts_stand x [] K s h = record { fits = stay_fits K (guesses_of s) h.fits; some = h.some }
puts_stand x (p ∷ ps) K s h =
    stands_same (After (Next p x K) (λ a b. b ≡ put_at_one x ps a)) (After K (λ a b. b ≡ put_at_one x (p ∷ ps) a)) (sector_puts x (p ∷ ps) s)
    (λ c q. ((q.1).0, (q.1).1, q.2 ∙ ap (put_at_one x ps) (q.1).2)) (λ c q. (next p x q.0, (q.0, q.1, refl), q.2))
    (puts_stand x ps (Next p x K) (if p.lba == x then sector_put p.block p.cached s else s) (next_stands p x K s h))
