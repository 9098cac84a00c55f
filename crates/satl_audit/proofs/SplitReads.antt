-- A WRITE and a READ of all sectors are those of each.
use Rattle.std.proofs.Common.{arith, ◌≡◌, refl, sym, ap, ◌∙◌, ℕ, zero, suc, ◌+◌, List, [], ◌∷◌, length, map}
use Rattle.std.specs.Prelude.{◌≤◌, ◌<◌, ◌≢◌, ◌-◌, take, drop}
use Rattle.std.proofs.lemmas.Bool.{ne_eqb}
use Rattle.satl_audit.proofs.Each.{is_same}
use Rattle.satl_base.specs.declared.block.Block.{Block}
use Rattle.satl_base.specs.Cells.{Cell, Pair, put, put_at, whole, nows}
use Rattle.satl_base.specs.Lists.{EachAt}
use Rattle.satl_audit.specs.Deeds.{GivesAt, put_at_one}
use Rattle.satl_audit.proofs.Each.{each_change, each_from, each_one, each_same, each_weaker}

-- a pair that names the sector, and one that does not
module _ (ps : List Pair) (p : Pair) where
  put_here : (c d : Cell) → d ≡ put_at_one p.lba ps (put c p.block p.cached) → d ≡ put_at_one p.lba (p ∷ ps) c
  put_here c d h = rw (is_same p.lba) h

  put_there : (x : ℕ) → x ≢ p.lba → (c d : Cell) → d ≡ put_at_one x ps c → d ≡ put_at_one x (p ∷ ps) c
  put_there x apart c d h = rw (ne_eqb p.lba x (λ e. apart (sym e))) h

-- pairs put to all are put to each
pub whole_each : (pairs : List Pair) (cells : List Cell) → EachAt (λ x c d. d ≡ put_at_one x pairs c) 0 cells (whole cells pairs)
whole_each [] cells = each_same (λ x c d. d ≡ c) (λ x c. refl) 0 cells
whole_each (p ∷ ps) cells =
    each_change (λ x c d. d ≡ put_at_one x ps c) (λ x c d. d ≡ put_at_one x (p ∷ ps) c) (λ c. put c p.block p.cached) p.lba
    (put_here ps p) (put_there ps p) 0 p.lba (omega arith) cells (whole (put_at cells p) ps) (whole_each ps (put_at cells p))

pub whole_all : (pairs : List Pair) (old new : List Cell) → EachAt (λ x c d. d ≡ put_at_one x pairs c) 0 old new → new ≡ whole old pairs
whole_all pairs old new h = each_one (λ x c d. d ≡ put_at_one x pairs c) (λ x c d e p q. p ∙ sym q) 0 old new (whole old pairs) h (whole_each pairs old)

-- ---- a READ

-- the first cells have these blocks
abbrev Tells : List Cell → List Block → Type 0
Tells cs [] = Unit {0}
Tells [] (v ∷ vs) = ⊥
Tells (c ∷ cs) (v ∷ vs) = (c.now ≡ v) × Tells cs vs

tells : (vs : List Block) (cs : List Cell) → map (λ c. c.now) (take (length vs) cs) ≡ vs → Tells cs vs
tells [] cs h = tt
tells (v ∷ vs) [] h = absurd cc
tells (v ∷ vs) (c ∷ cs) h = let first : c.now ≡ v = cc in let rest : map (λ c. c.now) (take (length vs) cs) ≡ vs = cc in (first, tells vs cs rest)

told : (vs : List Block) (cs : List Cell) → Tells cs vs → map (λ c. c.now) (take (length vs) cs) ≡ vs
told [] cs h = refl
told (v ∷ vs) [] h = absurd h
told (v ∷ vs) (c ∷ cs) h = ap (λ w. w ∷ map (λ c. c.now) (take (length vs) cs)) h.0 ∙ ap (λ l. v ∷ l) (told vs cs h.1)

-- a READ behind a sector does not go over it
gives_apart : (x lba : ℕ) (vs : List Block) (c : Cell) → x < lba → GivesAt x lba vs c
gives_apart x lba [] c lt = tt
gives_apart x lba (v ∷ vs) c lt = ((λ e. absurd (omega (arith, e, lt))), gives_apart x (lba + 1) vs c (omega (arith, lt)))

gives_each : (vs : List Block) (x j : ℕ) (cs : List Cell) (lba : ℕ) → lba ≡ x + j → Tells (drop j cs) vs → EachAt (λ y c d. GivesAt y lba vs c) x cs cs
gives_each vs x j [] lba e h = tt
gives_each vs x (suc j) (c ∷ cs) lba e h = (gives_apart x lba vs c (omega (arith, e)), gives_each vs (suc x) j cs lba (omega (arith, e)) h)
gives_each [] x zero (c ∷ cs) lba e h = (tt, each_same (λ y c d. Unit {0}) (λ y c. tt) (suc x) cs)
gives_each (v ∷ vs) x zero (c ∷ cs) lba e h = (
  ((λ here. h.0), gives_apart x (lba + 1) vs c (omega (arith, e))),
  each_from (λ y c d. GivesAt y (lba + 1) vs c) (λ y c d. GivesAt y lba (v ∷ vs) c) (suc x) (λ y le c d g. ((λ here. absurd (omega (arith, here, e, le))), g))
      (suc x) (omega arith) cs cs (gives_each vs (suc x) 0 cs (lba + 1) (omega (arith, e)) h.1),
)

gives_all : (vs : List Block) (x j : ℕ) (cs ds : List Cell) (lba : ℕ) → lba ≡ x + j → j + length vs ≤ length cs → EachAt (λ y c d. GivesAt y lba vs c) x cs ds → Tells (drop j cs) vs
gives_all [] x j cs ds lba e le h = tt
gives_all (v ∷ vs) x j [] ds lba e le h = absurd (omega (arith, le))
gives_all (v ∷ vs) x j (c ∷ cs) [] lba e le h = absurd h
gives_all (v ∷ vs) x (suc j) (c ∷ cs) (d ∷ ds) lba e le h = gives_all (v ∷ vs) (suc x) j cs ds lba (omega (arith, e)) (omega (arith, le)) h.1
gives_all (v ∷ vs) x zero (c ∷ cs) (d ∷ ds) lba e le h = (
  h.0.0 (omega (arith, e)),
  gives_all vs (suc x) 0 cs ds (lba + 1) (omega (arith, e)) (omega (arith, le))
      (each_weaker (λ y c d. GivesAt y lba (v ∷ vs) c) (λ y c d. GivesAt y (lba + 1) vs c) (λ y c d g. g.1) (suc x) cs ds h.1),
)

module _ (cells : List Cell) (lba : ℕ) (vs : List Block) where
  same_count : (lba + length vs) - lba ≡ length vs
  same_count = omega arith

  pub nows_each : nows cells lba (length vs) ≡ vs → EachAt (λ y c d. GivesAt y lba vs c) 0 cells cells
  nows_each h = gives_each vs 0 lba cells lba (omega arith) (tells vs (drop lba cells) (ap (λ n. map (λ c. c.now) (take n (drop lba cells))) (sym same_count) ∙ h))

  pub nows_all : (ds : List Cell) → lba + length vs ≤ length cells → EachAt (λ y c d. GivesAt y lba vs c) 0 cells ds → nows cells lba (length vs) ≡ vs
  nows_all ds le h = ap (λ n. map (λ c. c.now) (take n (drop lba cells))) same_count ∙ told vs (drop lba cells) (gives_all vs 0 lba cells ds lba (omega arith) le h)
