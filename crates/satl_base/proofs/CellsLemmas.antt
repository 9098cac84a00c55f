-- What puts do to cells, one at a time and in a row.
use Rattle.std.proofs.Common.{◌≡◌, ⊎_elim, inl, inr, ℕ, zero, suc, ◌+◌, List, [], ◌∷◌, ◌++◌, Bool, true, false, map, length, refl, ap, sym, ◌∙◌, subst, arith}
use Rattle.std.specs.Prelude.{◌≤◌, ◌-◌, drop, slice_range}
use Rattle.std.proofs.lemmas.List.{length-drop, length-map, length-take}
use Rattle.satl_base.specs.declared.block.Block.{Block}
use Rattle.satl_base.specs.declared.bench.Which.TheVariants.{Write}
use Rattle.satl_base.specs.Cells.{Cell, Pair, IsSound, AreSound, put, put_at, whole, Part, has_flaw, nows}
use Rattle.satl_base.specs.Lists.{change_at}
use Rattle.satl_base.proofs.ListsLemmas.{in_right}

-- pairs after pairs
pub whole-append : (cells : List Cell) (ps qs : List Pair) → whole cells (ps ++ qs) ≡ whole (whole cells ps) qs
whole-append cells [] qs = refl
whole-append cells (p ∷ ps) qs = whole-append (put_at cells p) ps qs

pub part_append : (a b c : List Cell) (ps qs : List Pair) → Part a ps b → Part b qs c → Part a (ps ++ qs) c
part_append a b c [] qs h k = subst (λ x. Part x qs c) h k
part_append a b c (p ∷ ps) qs h k =
    ⊎_elim (λ l. inl (part_append a b c ps qs l k)) (λ r. inr (part_append (put_at a p) b c ps qs r k)) h

pub part_split : (a c : List Cell) (ps qs : List Pair) → Part a (ps ++ qs) c → (b : List Cell) × (Part a ps b × Part b qs c)
part_split a c [] qs h = (a, (refl, h))
part_split a c (p ∷ ps) qs h =
    ⊎_elim
    (λ l. let r = part_split a c ps qs l in (r.0, (inl r.1.0, r.1.1)))
    (λ d. let r = part_split (put_at a p) c ps qs d in (r.0, (inr r.1.0, r.1.1)))
    h

-- all of it is a part
pub part_whole : (cells : List Cell) (ps : List Pair) → Part cells ps (whole cells ps)
part_whole cells [] = refl
part_whole cells (p ∷ ps) = inr (part_whole (put_at cells p) ps)

-- none of it is a part
pub part_none : (cells : List Cell) (ps : List Pair) → Part cells ps cells
part_none cells [] = refl
part_none cells (p ∷ ps) = inl (part_none cells ps)

-- no write changes how many cells there are
pub change_at-length : {X : Type 0} (xs : List X) (place : ℕ) (f : X → X) → length (change_at xs place f) ≡ length xs
change_at-length [] place f = refl
change_at-length (x ∷ xs) zero f = refl
change_at-length (x ∷ xs) (suc place) f = ap suc (change_at-length xs place f)

pub whole-length : (cells : List Cell) (ps : List Pair) → length (whole cells ps) ≡ length cells
whole-length cells [] = refl
whole-length cells (p ∷ ps) = whole-length (put_at cells p) ps ∙ change_at-length cells p.lba (λ c. put c p.block p.cached)

pub part-length : (cells new : List Cell) (ps : List Pair) → Part cells ps new → length new ≡ length cells
part-length cells new [] h = ap length h
part-length cells new (p ∷ ps) h =
    ⊎_elim (λ l. part-length cells new ps l) (λ r. part-length (put_at cells p) new ps r ∙ change_at-length cells p.lba (λ c. put c p.block p.cached)) h

-- a write leaves the write flaws
pub change_at-write_flaws : (cells : List Cell) (p : Pair) (lba : ℕ) → map (has_flaw Write) (change_at cells lba (λ c. put c p.block p.cached)) ≡ map (has_flaw Write) cells
change_at-write_flaws [] p lba = refl
change_at-write_flaws (c ∷ cs) p zero = refl
change_at-write_flaws (c ∷ cs) p (suc lba) = ap (λ r. c.write_flaw ∷ r) (change_at-write_flaws cs p lba)

pub part-write_flaws : (cells new : List Cell) (ps : List Pair) → Part cells ps new → map (has_flaw Write) new ≡ map (has_flaw Write) cells
part-write_flaws cells new [] h = ap (map (has_flaw Write)) h
part-write_flaws cells new (p ∷ ps) h =
    ⊎_elim (λ l. part-write_flaws cells new ps l) (λ r. part-write_flaws (put_at cells p) new ps r ∙ change_at-write_flaws cells p p.lba) h

-- a cell that was written is sound
pub put-sound : (c : Cell) (v : Block) (cached : Bool) → IsSound (put c v cached)
put-sound c v true = in_right v c.may (v ∷ []) (inl refl)
put-sound c v false = inl refl

pub change_at-sound : (cells : List Cell) (lba : ℕ) (f : Cell → Cell) → ((c : Cell) → IsSound (f c)) → AreSound cells → AreSound (change_at cells lba f)
change_at-sound [] lba f h s = s
change_at-sound (c ∷ cs) zero f h s = (h c, s.1)
change_at-sound (c ∷ cs) (suc lba) f h s = (s.0, change_at-sound cs lba f h s.1)

pub part-sound : (cells new : List Cell) (ps : List Pair) → AreSound cells → Part cells ps new → AreSound new
part-sound cells new [] s h = subst AreSound (sym h) s
part-sound cells new (p ∷ ps) s h =
    ⊎_elim
    (λ l. part-sound cells new ps s l)
    (λ r. part-sound (put_at cells p) new ps (change_at-sound cells p.lba (λ c. put c p.block p.cached) (λ c. put-sound c p.block p.cached) s) r)
    h

-- a READ gives as many blocks
pub nows-length : (cells : List Cell) (lba count : ℕ) → lba + count ≤ length cells → length (nows cells lba count) ≡ count
nows-length cells lba count h =
    length-map (slice_range cells lba (lba + count)) (λ (c : Cell). c.now)
    ∙ length-take (lba + count - lba) (drop lba cells)
    ∙ omega (arith, length-drop lba cells)
