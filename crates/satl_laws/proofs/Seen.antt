-- What reads of a sector give, as writes and quiet moves change it.
use Rattle.std.proofs.Common.{◌≡◌, ◌⊎◌, ⊎_elim, inl, inr, refl, sym, ap, ◌∙◌, subst, ℕ, zero, suc, ◌+◌, ◌≤◌, ◌<◌, Bool, true, false, List, [], ◌∷◌, Some, arith, map, length, take, drop}
use Rattle.std.specs.Prelude.{◌-◌, if◌then◌else◌, get_or, nat_le, nat_lt, ◌&&◌, slice_get}
use Rattle.std.proofs.lemmas.Bool.{cases_lt, le-leb, leb-true, lt-ltb, ltb-true, and_parts}
use Rattle.std.proofs.lemmas.List.{get_or_past}
use Rattle.satl_base.specs.declared.block.Block.{Block}
use Rattle.satl_base.specs.Cells.{Cell, Pair, nows, pairs_from, put, put_at, whole}
use Rattle.satl_base.specs.Lists.{IsIn, change_at}
use Rattle.satl_base.proofs.CellsLemmas.{change_at-length}
use Rattle.std.specs.List.{range_with_len}
use Rattle.satl_laws.specs.ArrivalOrder.{read_at}
use Rattle.satl_base.specs.Blocks.{lies_in}

-- a block that was put is read
pub put_seen : (cells : List Cell) (x : ℕ) (v : Block) (cached : Bool) → x < length cells → read_at (change_at cells x (λ c. put c v cached)) x ≡ v
put_seen [] x v cached h = absurd (omega (arith, h))
put_seen (c ∷ cs) zero v cached h = refl
put_seen (c ∷ cs) (suc x) v cached h = put_seen cs x v cached (omega (arith, h))

-- elsewhere the same is read as before
pub put_elsewhere : (cells : List Cell) (lba x : ℕ) (v : Block) (cached : Bool) → (lba ≡ x → ⊥) → read_at (change_at cells lba (λ c. put c v cached)) x ≡ read_at cells x
put_elsewhere (c ∷ cs) zero zero v cached other = absurd (other refl)
put_elsewhere (c ∷ cs) (suc lba) (suc x) v cached other = put_elsewhere cs lba x v cached (λ same. other (ap suc same))
put_elsewhere _ _ _ v cached other = refl

-- blocks in a row leave the sectors before them
row_before : (vs : List Block) (lba x : ℕ) (cached : Bool) (cells : List Cell) → x < lba → read_at (whole cells (pairs_from lba vs cached)) x ≡ read_at cells x
row_before [] lba x cached cells h = refl
row_before (v ∷ vs) lba x cached cells h =
    row_before vs (lba + 1) x cached (put_at cells (record { lba = lba; block = v; cached = cached })) (omega (arith, h))
    ∙ put_elsewhere cells lba x v cached (λ same. omega (arith, same, h))

-- and are read where they were put
row_at : (vs : List Block) (lba i : ℕ) (cached : Bool) (cells : List Cell) → lba + i < length cells → read_at (whole cells (pairs_from lba vs cached)) (lba + i) ≡ get_or vs i (read_at cells (lba + i))
row_at [] lba i cached cells h = refl
row_at (v ∷ vs) lba zero cached cells h =
    let here : lba + 0 ≡ lba = omega arith in
    ap (read_at (whole (put_at cells (record { lba = lba; block = v; cached = cached })) (pairs_from (lba + 1) vs cached))) here
    ∙ row_before vs (lba + 1) lba cached (put_at cells (record { lba = lba; block = v; cached = cached })) (omega arith)
    ∙ put_seen cells lba v cached (omega (arith, h))
row_at (v ∷ vs) lba (suc i) cached cells h =
    let there : lba + suc i ≡ (lba + 1) + i = omega arith in
    let other : read_at (put_at cells (record { lba = lba; block = v; cached = cached })) ((lba + 1) + i) ≡ read_at cells (lba + suc i) =
    put_elsewhere cells lba ((lba + 1) + i) v cached (λ same. omega (arith, same)) ∙ ap (read_at cells) (sym there) in
    ap (read_at (whole (put_at cells (record { lba = lba; block = v; cached = cached })) (pairs_from (lba + 1) vs cached))) there
    ∙ row_at vs (lba + 1) i cached (put_at cells (record { lba = lba; block = v; cached = cached })) (omega (arith, h, change_at-length cells lba (λ c. put c v cached)))
    ∙ ap (get_or vs i) other

-- by the two cases of a test
pub by_test : (P : Bool → Type 0) (b : Bool) → (b ≡ true → P true) → (b ≡ false → P false) → P b
by_test P b hit miss = (elim b as (λ c. b ≡ c → P c) [ true ↦ hit | false ↦ miss ]) refl

-- the numbers of a sector in a range
pub within_from : (lba count x : ℕ) → lies_in lba count x ≡ true → (lba ≤ x) × (x < lba + count)
within_from lba count x h =
    (leb-true lba x (and_parts (nat_le lba x) (nat_lt x (lba + count)) h).0, ltb-true x (lba + count) (and_parts (nat_le lba x) (nat_lt x (lba + count)) h).1)

-- and of one in a range, the range
pub within_to : (lba count x : ℕ) → lba ≤ x → x < lba + count → lies_in lba count x ≡ true
within_to lba count x h k = ap (λ b. b && nat_lt x (lba + count)) (le-leb lba x h) ∙ lt-ltb x (lba + count) k

-- blocks in a row, at most as many as a range has, are read in the range, and nothing else changes
pub row_seen : (vs : List Block) (lba count x : ℕ) (cached : Bool) (cells : List Cell) → length vs ≤ count → x < length cells
    → read_at (whole cells (pairs_from lba vs cached)) x ≡ (if lies_in lba count x then get_or vs (x - lba) (read_at cells x) else read_at cells x)
row_seen vs lba count x cached cells fits inside = of (cases_lt x lba)
  where
    at : lba ≤ x → read_at (whole cells (pairs_from lba vs cached)) x ≡ get_or vs (x - lba) (read_at cells x)
    at from =
        let place : lba + (x - lba) ≡ x = omega (arith, from) in
        subst (λ y. read_at (whole cells (pairs_from lba vs cached)) y ≡ get_or vs (x - lba) (read_at cells y)) place (row_at vs lba (x - lba) cached cells (omega (arith, place, inside)))

    of : (x < lba) ⊎ (lba ≤ x) → read_at (whole cells (pairs_from lba vs cached)) x ≡ (if lies_in lba count x then get_or vs (x - lba) (read_at cells x) else read_at cells x)
    of (inl before) =
        by_test (λ b. read_at (whole cells (pairs_from lba vs cached)) x ≡ (if b then get_or vs (x - lba) (read_at cells x) else read_at cells x)) (lies_in lba count x)
        (λ t. absurd (let r = within_from lba count x t in omega (arith, r.0, before)))
        (λ f. row_before vs lba x cached cells before)
    of (inr from) =
        by_test (λ b. read_at (whole cells (pairs_from lba vs cached)) x ≡ (if b then get_or vs (x - lba) (read_at cells x) else read_at cells x)) (lies_in lba count x)
        (λ t. at from)
        (λ f. at from ∙ get_or_past vs (x - lba) (read_at cells x) (⊎_elim (λ less. absurd (let no : true ≡ false = sym (within_to lba count x from less) ∙ f in cc)) (λ past. omega (arith, past, fits)) (cases_lt x (lba + count))))

-- one of the blocks in a row
pub record IsPlaced (lba : ℕ) (vs : List Block) (p : Pair) : Type 0 where
  pub place : ℕ
  pub small : place < length vs
  pub at : p.lba ≡ lba + place
  pub block : (v : Block) → get_or vs place v ≡ p.block

-- each pair of a row is one of its blocks
pub in_row : (vs : List Block) (lba : ℕ) (cached : Bool) (p : Pair) → IsIn p (pairs_from lba vs cached) → IsPlaced lba vs p
in_row [] lba cached p i = elim i [ ]
in_row (v ∷ vs) lba cached p i =
    ⊎_elim
    (λ same. record { place = 0; small = omega arith; at = omega (arith, ap (λ q. q.lba) same); block = λ w. sym (ap (λ q. q.block) same) })
    (λ later. let r = in_row vs (lba + 1) cached p later in record { place = suc r.place; small = omega (arith, r.small); at = omega (arith, r.at); block = r.block })
    i

-- the sectors from one on: that one, and those from the next on
record IsFrom (cells : List Cell) (lba : ℕ) : Type 0 where
  pub first : Cell
  pub rest : drop lba cells ≡ first ∷ drop (suc lba) cells
  pub now : first.now ≡ read_at cells lba

from : (cells : List Cell) (lba : ℕ) → lba < length cells → IsFrom cells lba
from [] lba h = absurd (omega (arith, h))
from (c ∷ cs) zero h = record { first = c; rest = refl; now = refl }
from (c ∷ cs) (suc lba) h = let r = from cs lba (omega (arith, h)) in record { first = r.first; rest = r.rest; now = r.now }

-- reads of a range, sector by sector
taken_seen : (count lba : ℕ) (cells : List Cell) → lba + count ≤ length cells → map (λ c. c.now) (take count (drop lba cells)) ≡ map (read_at cells) (range_with_len lba count)
taken_seen zero lba cells h = refl
taken_seen (suc count) lba cells h =
    let r = from cells lba (omega (arith, h)) in
    let next : suc lba ≡ lba + 1 = omega arith in
    ap (λ cs. map (λ c. c.now) (take (suc count) cs)) r.rest
    ∙ ap (λ v. v ∷ map (λ c. c.now) (take count (drop (suc lba) cells))) r.now
    ∙ ap (λ vs. read_at cells lba ∷ vs) (ap (λ n. map (λ c. c.now) (take count (drop n cells))) next ∙ taken_seen count (lba + 1) cells (omega (arith, h)))

pub nows_seen : (lba count : ℕ) (cells : List Cell) → lba + count ≤ length cells → nows cells lba count ≡ map (read_at cells) (range_with_len lba count)
nows_seen lba count cells h = let n : (lba + count) - lba ≡ count = omega arith in ap (λ k. map (λ c. c.now) (take k (drop lba cells))) n ∙ taken_seen count lba cells h

-- two that agree on each sector of a range
pub range_same : (count lba : ℕ) (f g : ℕ → Block) → ((x : ℕ) → lba ≤ x → x < lba + count → f x ≡ g x) → map f (range_with_len lba count) ≡ map g (range_with_len lba count)
range_same zero lba f g h = refl
range_same (suc count) lba f g h =
    ap (λ v. v ∷ map f (range_with_len (lba + 1) count)) (h lba (omega arith) (omega arith))
    ∙ ap (λ vs. g lba ∷ vs) (range_same count (lba + 1) f g (λ x a b. h x (omega (arith, a)) (omega (arith, b))))

-- a range of no sector
pub range_none : (lba : ℕ) (f : ℕ → Block) → map f (range_with_len lba 0) ≡ []
range_none lba f = refl

-- a sector that there is
pub seen_get : (cells : List Cell) (x : ℕ) (c : Cell) → slice_get cells x ≡ Some c → c.now ≡ read_at cells x
seen_get [] x c h = absurd cc
seen_get (d ∷ cs) zero c h = let same : d ≡ c = cc in ap (λ k. k.now) (sym same)
seen_get (d ∷ cs) (suc x) c h = seen_get cs x c h
