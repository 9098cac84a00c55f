-- Blocks that are read, compared with those that are wanted.
use Rattle.std.proofs.Common.{◌≡◌, sym, ap, arith, ◌∙◌, ℕ, suc, ◌+◌, ◌≤◌, Bool, true, false, List, ◌∷◌, ◌++◌, length, map, take, drop, Some, None, Bor, take_all}
use Rattle.std.specs.Prelude.{Option, nat_eq, ◌-◌}
use Rattle.std.specs.Option.{option_eq}
use Rattle.std.specs.Iterator.{YieldsFirstRef}
use Rattle.std.specs.Cmp.Lexicographic.{pointwise, other_text, same_text}
use Rattle.std.proofs.Math.Seq.{take-add, take-append_seam}
use Rattle.std.proofs.lemmas.List.{drop-drop, drop-map, drop-take, take-map, take-take}
use Rattle.satl_base.specs.declared.block.Block.{Block}
use Rattle.satl_base.specs.Cells.{Cell, nows}
use Rattle.satl_base.specs.Losses.{Loses}
use Rattle.satl_base.proofs.LossesLemmas.{loses-nows}
use Rattle.satl_base.proofs.CellsLemmas.{nows-length}

-- ---- the next of two lists

abbrev pub same_bytes : Bor Block → Bor Block → Bool
same_bytes x y = pointwise nat_eq x.now.bytes y.now.bytes

pub record NextSame (wanted read wanted' read' : List Block) : Type 0 where
  pub block : Block
  pub wanted_is : wanted ≡ block ∷ wanted'
  pub read_is : read ≡ block ∷ read'

pub wanted_length : (wanted read wanted' read' : List Block) → NextSame wanted read wanted' read' → length wanted ≡ suc (length wanted')
wanted_length wanted read wanted' read' next = ap length next.wanted_is

pub read_length : (wanted read wanted' read' : List Block) → NextSame wanted read wanted' read' → length read ≡ suc (length read')
read_length wanted read wanted' read' next = ap length next.read_is

pub record NextDiffers (wanted read : List Block) : Type 0 where
  pub first : Block
  pub second : Block
  pub others : List Block
  pub rest : List Block
  pub wanted_is : wanted ≡ first ∷ others
  pub read_is : read ≡ second ∷ rest
  pub differ : first ≡ second → ⊥

pub next_same : (wanted read wanted' read' : List Block) (w r : Option (Bor Block)) → 1 ≤ length wanted → 1 ≤ length read → YieldsFirstRef (λ s. s) wanted w wanted' → YieldsFirstRef (λ s. s) read r read' → true ≡ option_eq same_bytes w r → NextSame wanted read wanted' read'
next_same wanted read wanted' read' None r more room ws rs same = absurd (omega (arith, ap length ws.0, more))
next_same wanted read wanted' read' (Some x) None more room ws rs same = absurd (omega (arith, ap length rs.0, room))
next_same wanted read wanted' read' (Some x) (Some y) more room ws rs same = record {
  block = x.now;
  wanted_is = ws;
  read_is = rs ∙ ap (λ bytes. record { bytes = bytes } ∷ read') (sym (same_text x.now.bytes y.now.bytes same));
}

pub next_differs : (wanted read wanted' read' : List Block) (w r : Option (Bor Block)) → 1 ≤ length wanted → 1 ≤ length read → YieldsFirstRef (λ s. s) wanted w wanted' → YieldsFirstRef (λ s. s) read r read' → false ≡ option_eq same_bytes w r → NextDiffers wanted read
next_differs wanted read wanted' read' None r more room ws rs same = absurd (omega (arith, ap length ws.0, more))
next_differs wanted read wanted' read' (Some x) None more room ws rs same = absurd (omega (arith, ap length rs.0, room))
next_differs wanted read wanted' read' (Some x) (Some y) more room ws rs same = record {
  first = x.now;
  second = y.now;
  others = wanted';
  rest = read';
  wanted_is = ws;
  read_is = rs;
  differ = λ e. other_text x.now.bytes y.now.bytes same (ap (λ (b : Block). b.bytes) e);
}

-- the first so many, one by one
pub all_more : {A : Type 0} (left k : ℕ) (wanted read wanted' read' : List Block) → left ≡ suc k → NextSame wanted read wanted' read' → (take left read ≡ take left wanted → A) → take k read' ≡ take k wanted' → A
all_more left k wanted read wanted' read' is next all same =
    all (ap (λ n. take n read) is ∙ (ap (take (suc k)) next.read_is ∙ (ap (λ bs. next.block ∷ bs) same ∙ (sym (ap (take (suc k)) next.wanted_is) ∙ sym (ap (λ n. take n wanted) is)))))

pub each_more : {A : Type 0} (left k : ℕ) (wanted read wanted' read' : List Block) → left ≡ suc k → NextSame wanted read wanted' read' → (A → take left read ≡ take left wanted) → A → take k read' ≡ take k wanted'
each_more left k wanted read wanted' read' is next each a =
    let both : next.block ∷ take k read' ≡ next.block ∷ take k wanted' =
    sym (ap (take (suc k)) next.read_is) ∙ (sym (ap (λ n. take n read) is) ∙ (each a ∙ (ap (λ n. take n wanted) is ∙ ap (take (suc k)) next.wanted_is))) in
    ap (drop 1) both

pub rest_more : (left k : ℕ) (wanted wanted' read read' rest : List Block) → left ≡ suc k → NextSame wanted read wanted' read' → drop left wanted ≡ rest → drop k wanted' ≡ rest
rest_more left k wanted wanted' read read' rest is next left_is = sym (ap (drop (suc k)) next.wanted_is) ∙ (sym (ap (λ n. drop n wanted) is) ∙ left_is)

pub none_same : {A : Type 0} (left k : ℕ) (wanted read : List Block) → left ≡ suc k → NextDiffers wanted read → (A → take left read ≡ take left wanted) → A → ⊥
none_same left k wanted read is next each a =
    let both : next.second ∷ take k next.rest ≡ next.first ∷ take k next.others =
    sym (ap (take (suc k)) next.read_is) ∙ (sym (ap (λ n. take n read) is) ∙ (each a ∙ (ap (λ n. take n wanted) is ∙ ap (take (suc k)) next.wanted_is))) in
    let heads : next.second ≡ next.first = cc in
    next.differ (sym heads)

-- ---- what reads give

-- the first of the pages are those that were read
pub first_read : (cells : List Cell) (lba count : ℕ) (given taken : List Block) → lba + count ≤ length cells → taken ≡ nows cells lba count ++ drop (length (nows cells lba count)) given → take count taken ≡ nows cells lba count
first_read cells lba count given taken within is =
    let size = nows-length cells lba count within in
    ap (take count) is ∙ (ap (λ n. take n (nows cells lba count ++ drop (length (nows cells lba count)) given)) (sym size) ∙ take-append_seam (nows cells lba count) (drop (length (nows cells lba count)) given))

nows-map : (cells : List Cell) (lba count : ℕ) → nows cells lba count ≡ take count (drop lba (map (λ c. c.now) cells))
nows-map cells lba count =
    let size : lba + count - lba ≡ count = omega arith in
    ap (λ n. map (λ (c : Cell). c.now) (take n (drop lba cells))) size
    ∙ (sym (take-map (λ (c : Cell). c.now) count (drop lba cells)) ∙ ap (take count) (sym (drop-map (λ (c : Cell). c.now) lba cells)))

-- a loss leaves what reads of a range give
pub loses-nows_at : (old new : List Cell) (lba count : ℕ) → Loses old new → nows new lba count ≡ nows old lba count
loses-nows_at old new lba count lost = nows-map new lba count ∙ (ap (λ vs. take count (drop lba vs)) (loses-nows old new lost) ∙ sym (nows-map old lba count))

-- reads of a part of a range give that part
pub nows_part : (old mid : List Cell) (lba at done k count : ℕ) → map (λ c. c.now) mid ≡ map (λ c. c.now) old → at ≡ lba + done → done + k ≤ count → nows mid at k ≡ take k (drop done (nows old lba count))
nows_part old mid lba at done k count same at_is within =
    let left : count ≡ done + (count - done) = omega arith in
    nows-map mid at k
    ∙ (ap (λ vs. take k (drop at vs)) same
    ∙ (ap (λ n. take k (drop n (map (λ (c : Cell). c.now) old))) at_is
    ∙ (ap (take k) (sym (drop-drop done lba (map (λ (c : Cell). c.now) old)))
    ∙ (sym (take-take k (count - done) (drop done (drop lba (map (λ (c : Cell). c.now) old))) (omega arith))
    ∙ (ap (take k) (sym (drop-take done (count - done) (drop lba (map (λ (c : Cell). c.now) old))))
    ∙ ap (λ n. take k (drop done (take n (drop lba (map (λ (c : Cell). c.now) old))))) (sym left)
    ∙ ap (λ vs. take k (drop done vs)) (sym (nows-map old lba count)))))))

-- the first blocks are the same, and the next too
pub same_on : (done k : ℕ) (xs ys : List Block) → take done xs ≡ take done ys → take k (drop done xs) ≡ take k (drop done ys) → take (done + k) xs ≡ take (done + k) ys
same_on done k xs ys first next = take-add done k xs ∙ (ap (λ bs. bs ++ take k (drop done xs)) first ∙ ap (λ bs. take done ys ++ bs) next ∙ sym (take-add done k ys))

-- all are the same
pub same_all : (n done : ℕ) (xs ys : List Block) → done ≡ n → length xs ≡ n → length ys ≡ n → take done xs ≡ take done ys → xs ≡ ys
same_all n done xs ys is xs_are ys_are same = sym (take_all done xs (omega arith)) ∙ (same ∙ take_all done ys (omega arith))

-- so many more are taken off
pub dropped_on : (done k : ℕ) (xs wanted rest : List Block) → wanted ≡ drop done xs → rest ≡ drop k wanted → rest ≡ drop (done + k) xs
dropped_on done k xs wanted rest wanted_is is = is ∙ (ap (drop k) wanted_is ∙ drop-drop k done xs)
