-- Guesses that fit the cells that there can be.
use Rattle.std.proofs.Common.{◌≡◌, List, []}
use Rattle.satl_base.specs.declared.block.Block.{Block}
use Rattle.satl_base.specs.Cells.{Cell, IsSound}
use Rattle.satl_base.specs.Lists.{IsIn}
use Rattle.satl_audit.specs.Guesses.{Guess}

pub record Among (gs : List Guess) (c : Cell) : Type 0 where
  pub guess : Guess
  pub among : IsIn guess gs
  pub now : c.now ≡ guess.now
  pub may : (w : Block) → IsIn w c.may → IsIn w guess.may

pub record Reached (K : Cell → Type 0) (v w : Block) : Type 0 where
  pub cell : Cell
  pub reached : K cell
  pub now : cell.now ≡ v
  pub may : IsIn w cell.may

pub record Fits (K : Cell → Type 0) (gs : List Guess) : Type 0 where
  pub sound : (c : Cell) → K c → IsSound c
  pub only : (c : Cell) → K c → Among gs c
  pub each : (g : Guess) → IsIn g gs → (w : Block) → IsIn w g.may → Reached K g.now w
  pub own : (g : Guess) → IsIn g gs → IsIn g.now g.may

-- the same cells
pub fits_same : (K Q : Cell → Type 0) (gs : List Guess) → ((c : Cell) → K c → Q c) → ((c : Cell) → Q c → K c) → Fits K gs → Fits Q gs
fits_same K Q gs f g h = record {
  sound = λ c q. h.sound c (g c q);
  only = λ c q. h.only c (g c q);
  each = λ k i w m. let r = h.each k i w m in record { cell = r.cell; reached = f r.cell r.reached; now = r.now; may = r.may };
  own = h.own;
}

-- no guess, no cell
pub fits_none : (K Q : Cell → Type 0) → ((c : Cell) → Q c → (d : Cell) × K d) → Fits K [] → Fits Q []
fits_none K Q f h = record {
  sound = λ c q. absurd ((h.only (f c q).0 (f c q).1).among);
  only = λ c q. absurd ((h.only (f c q).0 (f c q).1).among);
  each = λ g i w m. absurd i;
  own = λ g i. absurd i;
}

-- cells after a step
abbrev pub After : (Cell → Type 0) → (Cell → Cell → Type 0) → Cell → Type 0
After K R b = (a : Cell) × K a × R a b
