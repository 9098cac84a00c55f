-- Blocks behind the end of a list, and three lists side by side.
use Rattle.std.proofs.Common.{◌≡◌, refl, sym, ◌∙◌, ap, ℕ, ◌+◌, ◌<◌, ◌≤◌, zero, suc, false, List, [], ◌∷◌, ◌++◌, append_assoc, arith, length, map, Option, None}
use Rattle.std.specs.Prelude.{◌-◌, replicate, slice_index_or, slice_set}
use Rattle.std.proofs.lemmas.List.{append-nil, get_or_default, get_or_past}
use Rattle.satl_base.specs.declared.block.Block.{Block}
use Rattle.satl_base.specs.declared.bench.Which.{Which}
use Rattle.satl_base.specs.declared.bench.Which.TheVariants.{Read, Write}
use Rattle.satl_base.specs.Blocks.{zero_block}
use Rattle.satl_base.specs.Cells.{has_flaw}
use Rattle.satl_disk.specs.declared.sectors.Flaws.{Flaws}
use Rattle.satl_disk.specs.Layout.{block_at, is_flawed, front_blocks, no_flaws, sector_of, struck_flaws, zipped}
use Rattle.satl_disk.specs.Sectors.{cell_of, settled_sector, struck_sector}

pub filled-length : (n : ℕ) (bs : List Block) → length (front_blocks n bs) ≡ n
filled-length zero bs = refl
filled-length (suc n) [] = ap suc (filled-length n [])
filled-length (suc n) (b ∷ bs) = ap suc (filled-length n bs)

pub filled_none : (n : ℕ) → front_blocks n [] ≡ replicate n zero_block
filled_none zero = refl
filled_none (suc n) = ap (λ bs. zero_block ∷ bs) (filled_none n)

pub filled_at : (n place : ℕ) (bs : List Block) → place < n → block_at bs place ≡ block_at (front_blocks n bs) place
filled_at zero place bs h = absurd (omega arith)
filled_at (suc n) zero [] h = refl
filled_at (suc n) (suc place) [] h = filled_at n place [] (omega arith)
filled_at (suc n) zero (b ∷ bs) h = refl
filled_at (suc n) (suc place) (b ∷ bs) h = filled_at n place bs (omega arith)

-- a block before the end is set
pub filled_set : (n place : ℕ) (bs : List Block) (b : Block) → place < length bs → front_blocks n (slice_set bs place b) ≡ slice_set (front_blocks n bs) place b
filled_set zero place bs b h = refl
filled_set (suc n) place [] b h = absurd (omega arith)
filled_set (suc n) zero (x ∷ bs) b h = refl
filled_set (suc n) (suc place) (x ∷ bs) b h = ap (λ xs. x ∷ xs) (filled_set n place bs b (omega arith))

-- zeros at the end make no difference
filled_zeros : (n g : ℕ) (bs : List Block) → front_blocks n (bs ++ replicate g zero_block) ≡ front_blocks n bs
filled_zeros zero g bs = refl
filled_zeros (suc n) zero [] = refl
filled_zeros (suc n) (suc g) [] = ap (λ xs. zero_block ∷ xs) (filled_zeros n g [])
filled_zeros (suc n) g (x ∷ bs) = ap (λ xs. x ∷ xs) (filled_zeros n g bs)

filled_last : (n place : ℕ) (bs : List Block) (b : Block) → length bs ≡ place → front_blocks n (bs ++ b ∷ []) ≡ slice_set (front_blocks n bs) place b
filled_last zero place bs b h = refl
filled_last (suc n) zero [] b h = refl
filled_last (suc n) (suc place) [] b h = absurd (omega arith)
filled_last (suc n) zero (x ∷ bs) b h = absurd (omega arith)
filled_last (suc n) (suc place) (x ∷ bs) b h = ap (λ xs. x ∷ xs) (filled_last n place bs b (omega arith))

-- a block behind the end is pushed, with zeros up to it
pub filled_push : (n g place : ℕ) (bs : List Block) (b : Block) → length (bs ++ replicate g zero_block) ≡ place → front_blocks n ((bs ++ replicate g zero_block) ++ b ∷ []) ≡ slice_set (front_blocks n bs) place b
filled_push n g place bs b h = filled_last n place (bs ++ replicate g zero_block) b h ∙ ap (λ xs. slice_set xs place b) (filled_zeros n g bs)

-- the blocks of which a list is the front
module _ (n : ℕ) (bs olds : List Block) (view : front_blocks n bs ≡ olds) where
  pub number_is : length olds ≡ n
  number_is = sym (ap length view) ∙ filled-length n bs

  module _ (place : ℕ) where
    pub kept_is : (b : Block) → place < length olds → place < length bs → b ≡ slice_index_or bs place b → b ≡ block_at olds place
    kept_is b within h e = e ∙ get_or_default bs place b zero_block h ∙ filled_at n place bs (omega (arith, number_is, within)) ∙ ap (λ xs. block_at xs place) view

    pub zeros_are : place < length olds → length bs ≤ place → zero_block ≡ block_at olds place
    zeros_are within h = sym (get_or_past bs place zero_block h) ∙ filled_at n place bs (omega (arith, number_is, within)) ∙ ap (λ xs. block_at xs place) view

    pub set_is : (b : Block) → place < length bs → front_blocks n (slice_set bs place b) ≡ slice_set olds place b
    set_is b h = filled_set n place bs b h ∙ ap (λ xs. slice_set xs place b) view

    pub push_is : (b : Block) (g : ℕ) (new : List Block) → length (bs ++ replicate g zero_block) ≡ place → new ≡ (bs ++ replicate g zero_block) ++ b ∷ [] → front_blocks n new ≡ slice_set olds place b
    push_is b g new h is = ap (front_blocks n) is ∙ filled_push n g place bs b h ∙ ap (λ xs. slice_set xs place b) view

-- zeros that are pushed one by one
last_zero : (g : ℕ) → replicate g zero_block ++ zero_block ∷ [] ≡ zero_block ∷ replicate g zero_block
last_zero zero = refl
last_zero (suc g) = ap (λ xs. zero_block ∷ xs) (last_zero g)

pub zeros_start : (bs : List Block) (a : ℕ) → bs ≡ bs ++ replicate (a - a) zero_block
zeros_start bs a = let none : 0 ≡ a - a = omega arith in sym (append-nil bs) ∙ ap (λ k. bs ++ replicate k zero_block) none

pub zeros_more : (bs now new : List Block) (a i : ℕ) → a ≤ i → now ≡ bs ++ replicate (i - a) zero_block → new ≡ now ++ zero_block ∷ [] → new ≡ bs ++ replicate (i + 1 - a) zero_block
zeros_more bs now new a i h is pushed =
    let more : suc (i - a) ≡ i + 1 - a = omega arith in
    pushed
    ∙ ap (λ xs. xs ++ zero_block ∷ []) is
    ∙ append_assoc bs (replicate (i - a) zero_block) (zero_block ∷ [])
    ∙ ap (λ xs. bs ++ xs) (last_zero (i - a))
    ∙ ap (λ k. bs ++ replicate k zero_block) more

-- three lists side by side
pub zipped-length : {A B C D : Type 0} (f : A → B → C → D) (xs : List A) (ys : List B) (zs : List C) → length xs ≡ length zs → length ys ≡ length zs → length (zipped f xs ys zs) ≡ length zs
zipped-length f [] ys zs hx hy = hx
zipped-length f (x ∷ xs) [] zs hx hy = hy
zipped-length f (x ∷ xs) (y ∷ ys) [] hx hy = refl
zipped-length f (x ∷ xs) (y ∷ ys) (z ∷ zs) hx hy = ap suc (zipped-length f xs ys zs (omega arith) (omega arith))

pub zipped-replicate : {A B C D : Type 0} (f : A → B → C → D) (x : A) (y : B) (z : C) (n : ℕ) → zipped f (replicate n x) (replicate n y) (replicate n z) ≡ replicate n (f x y z)
zipped-replicate f x y z zero = refl
zipped-replicate f x y z (suc n) = ap (λ ds. f x y z ∷ ds) (zipped-replicate f x y z n)

-- what stands at a place
pub zipped-at : {A B C D : Type 0} (f : A → B → C → D) (xs : List A) (ys : List B) (zs : List C) (place : ℕ) (x : A) (y : B) (z : C) (d : D) → place < length zs → length xs ≡ length zs → length ys ≡ length zs →
    f (slice_index_or xs place x) (slice_index_or ys place y) (slice_index_or zs place z) ≡ slice_index_or (zipped f xs ys zs) place d
zipped-at f [] ys zs place x y z d h hx hy = absurd (omega arith)
zipped-at f (a ∷ xs) [] zs place x y z d h hx hy = absurd (omega arith)
zipped-at f (a ∷ xs) (b ∷ ys) [] place x y z d h hx hy = absurd (omega arith)
zipped-at f (a ∷ xs) (b ∷ ys) (c ∷ zs) zero x y z d h hx hy = refl
zipped-at f (a ∷ xs) (b ∷ ys) (c ∷ zs) (suc place) x y z d h hx hy = zipped-at f xs ys zs place x y z d (omega arith) (omega arith) (omega arith)

-- one of each is set
pub zipped-set : {A B C D : Type 0} (f : A → B → C → D) (xs : List A) (ys : List B) (zs : List C) (place : ℕ) (x : A) (y : B) (z : C) →
    zipped f (slice_set xs place x) (slice_set ys place y) (slice_set zs place z) ≡ slice_set (zipped f xs ys zs) place (f x y z)
zipped-set f [] ys zs place x y z = refl
zipped-set f (a ∷ xs) [] zs zero x y z = refl
zipped-set f (a ∷ xs) [] zs (suc place) x y z = refl
zipped-set f (a ∷ xs) (b ∷ ys) [] zero x y z = refl
zipped-set f (a ∷ xs) (b ∷ ys) [] (suc place) x y z = refl
zipped-set f (a ∷ xs) (b ∷ ys) (c ∷ zs) zero x y z = refl
zipped-set f (a ∷ xs) (b ∷ ys) (c ∷ zs) (suc place) x y z = ap (λ ds. f a b c ∷ ds) (zipped-set f xs ys zs place x y z)

-- no sector is dirty any more
pub zipped-settled : (bs : List Block) (os : List (Option Block)) (fs : List Flaws) → zipped sector_of bs (replicate (length os) None) fs ≡ map settled_sector (zipped sector_of bs os fs)
zipped-settled [] os fs = refl
zipped-settled (b ∷ bs) [] fs = refl
zipped-settled (b ∷ bs) (o ∷ os) [] = refl
zipped-settled (b ∷ bs) (o ∷ os) (f ∷ fs) = ap (λ ss. settled_sector (sector_of b o f) ∷ ss) (zipped-settled bs os fs)

pub struck_of : (which : Which) (b : Block) (o : Option Block) (f : Flaws) → sector_of b o (struck_flaws which f) ≡ struck_sector which (sector_of b o f)
struck_of Read b o f = refl
struck_of Write b o f = refl

pub flawed_of : (which : Which) (b : Block) (o : Option Block) (f : Flaws) → is_flawed which f ≡ has_flaw which (cell_of (sector_of b o f))
flawed_of Read b o f = refl
flawed_of Write b o f = refl

pub no_flaw_of : (which : Which) → is_flawed which no_flaws ≡ false
no_flaw_of Read = refl
no_flaw_of Write = refl
