-- What is kept of a sector, and the guesses that it stands for.
use Rattle.std.proofs.Common.{◌≡◌, inl, refl, sym, ap, ◌∙◌, subst, List, [], ◌∷◌, map, Option, Some, None}
use Rattle.std.proofs.lemmas.List.{append-nil}
use Rattle.satl_base.specs.declared.block.Block.{Block}
use Rattle.satl_base.specs.Cells.{Cell}
use Rattle.satl_base.specs.Lists.{IsIn}
use Rattle.satl_audit.specs.Guesses.{Guess, all_may, sure}
use Rattle.satl_audit.specs.Sectors.{KnownSector, guesses_in, guesses_of}
use Rattle.satl_audit.proofs.Fitting.{Fits}
use Rattle.satl_audit.proofs.GuessLists.{in_map, map_in}

-- each guess of one list is covered by one of the other
pub record Covered (hs : List Guess) (g : Guess) : Type 0 where
  pub guess : Guess
  pub among : IsIn guess hs
  pub now : guess.now ≡ g.now
  pub may : (w : Block) → IsIn w g.may → IsIn w guess.may

abbrev pub Covers : List Guess → List Guess → Type 0
Covers gs hs = (g : Guess) → IsIn g gs → Covered hs g

pub fits_as : (K : Cell → Type 0) (gs hs : List Guess) → Covers gs hs → Covers hs gs → ((g : Guess) → IsIn g hs → IsIn g.now g.may) → Fits K gs → Fits K hs
fits_as K gs hs f b own h = record {
  sound = h.sound;
  only = λ c k. let m = h.only c k in let v = f m.guess m.among in record { guess = v.guess; among = v.among; now = m.now ∙ sym v.now; may = λ w i. v.may w (m.may w i) };
  each = λ g i w m. let v = b g i in let r = h.each v.guess v.among w (v.may w m) in record { cell = r.cell; reached = r.reached; now = r.now ∙ v.now; may = r.may };
  own = own;
}

-- what is left of blocks each of which is alone
pub all_sure : (vs : List Block) → all_may (map sure vs) ≡ vs
all_sure [] = refl
all_sure (v ∷ vs) = ap (λ l. v ∷ l) (all_sure vs)

pub all_in : (o : Option Block) (may : List Block) → all_may (guesses_in o may) ≡ may
all_in None may = all_sure may
all_in (Some v) may = append-nil may

pub sure_now : (vs : List Block) → map (λ g. sure g.now) (map sure vs) ≡ map sure vs
sure_now [] = refl
sure_now (v ∷ vs) = ap (λ l. sure v ∷ l) (sure_now vs)

-- blocks among others
pub sure_covers : (us vs : List Block) → ((w : Block) → IsIn w us → IsIn w vs) → Covers (map sure us) (map sure vs)
sure_covers us vs f g i = let t = in_map sure us g i in record { guess = g; among = subst (λ y. IsIn y (map sure vs)) (sym t.same) (map_in sure vs t.of (f t.of t.among)); now = refl; may = λ w m. m }

pub sure_own : (vs : List Block) (g : Guess) → IsIn g (map sure vs) → IsIn g.now g.may
sure_own vs g i = let t = in_map sure vs g i in subst (λ y. IsIn y.now y.may) (sym t.same) (inl refl)

-- a sector that fits, and that may be left with something
pub record Stands (K : Cell → Type 0) (s : KnownSector) : Type 0 where
  pub fits : Fits K (guesses_of s)
  pub some : (w : Block) × IsIn w s.may
