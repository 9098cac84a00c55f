-- Losses of entries, before and after writing.
use Rattle.std.proofs.Common.{◌≡◌, ⊎_elim, inl, inr, refl, sym, ◌∙◌, ap, subst, ℕ, zero, suc, Bool, true, false, List, [], ◌∷◌, ◌++◌, length, map}
use Rattle.std.specs.Prelude.{if◌then◌else◌}
use Rattle.satl_base.specs.declared.block.Block.{Block}
use Rattle.satl_base.specs.declared.bench.Which.{Which}
use Rattle.satl_base.specs.declared.bench.Which.TheVariants.{Read, Write}
use Rattle.satl_base.specs.Lists.{LeavesOut, change_at}
use Rattle.satl_base.specs.Cells.{Cell, Pair, AreSound, put, put_at, whole, Part, has_flaw}
use Rattle.satl_base.specs.Losses.{Lost, Loses}
use Rattle.satl_base.proofs.ListsLemmas.{leaves_none, leaves_on, leaves_push}
use Rattle.satl_base.proofs.CellsLemmas.{put-sound}

pub lost_on : (a b c : Cell) → Lost a b → Lost b c → Lost a c
lost_on a b c p q = record {
  now = q.now ∙ p.now;
  read_flaw = q.read_flaw ∙ p.read_flaw;
  write_flaw = q.write_flaw ∙ p.write_flaw;
  fewer = leaves_on a.may b.may c.may p.fewer q.fewer;
  sound = q.sound;
}

pub loses_on : (a b c : List Cell) → Loses a b → Loses b c → Loses a c
loses_on [] [] [] p q = tt
loses_on [] [] (z ∷ c) p q = q
loses_on [] (y ∷ b) c p q = absurd p
loses_on (x ∷ a) [] c p q = absurd p
loses_on (x ∷ a) (y ∷ b) [] p q = absurd q
loses_on (x ∷ a) (y ∷ b) (z ∷ c) p q = (lost_on x y z p.0 q.0, loses_on a b c p.1 q.1)

-- sound cells may lose nothing
pub loses_none : (a : List Cell) → AreSound a → Loses a a
loses_none [] s = tt
loses_none (x ∷ a) s = (record { now = refl; read_flaw = refl; write_flaw = refl; fewer = leaves_none x.may; sound = s.0 }, loses_none a s.1)

-- cells are sound after a loss
pub loses-sound : (a b : List Cell) → Loses a b → AreSound b
loses-sound [] [] l = tt
loses-sound [] (y ∷ b) l = absurd l
loses-sound (x ∷ a) [] l = absurd l
loses-sound (x ∷ a) (y ∷ b) l = (l.0.sound, loses-sound a b l.1)

pub loses-length : (a b : List Cell) → Loses a b → length b ≡ length a
loses-length [] [] l = refl
loses-length [] (y ∷ b) l = absurd l
loses-length (x ∷ a) [] l = absurd l
loses-length (x ∷ a) (y ∷ b) l = ap suc (loses-length a b l.1)

-- a loss leaves the flaws and what reads give
pub loses-flaws : (which : Which) (a b : List Cell) → Loses a b → map (has_flaw which) b ≡ map (has_flaw which) a
loses-flaws which [] [] l = refl
loses-flaws which [] (y ∷ b) l = absurd l
loses-flaws which (x ∷ a) [] l = absurd l
loses-flaws Read (x ∷ a) (y ∷ b) l = rw (l.0.read_flaw, loses-flaws Read a b l.1) refl
loses-flaws Write (x ∷ a) (y ∷ b) l = rw (l.0.write_flaw, loses-flaws Write a b l.1) refl

pub loses-nows : (a b : List Cell) → Loses a b → map (λ c. c.now) b ≡ map (λ c. c.now) a
loses-nows [] [] l = refl
loses-nows [] (y ∷ b) l = absurd l
loses-nows (x ∷ a) [] l = absurd l
loses-nows (x ∷ a) (y ∷ b) l = rw (l.0.now, loses-nows a b l.1) refl

-- a change that keeps losses keeps the loss of the whole
pub loses_change : (f : Cell → Cell) → ((x y : Cell) → Lost x y → Lost (f x) (f y)) → (a b : List Cell) (lba : ℕ) → Loses a b → Loses (change_at a lba f) (change_at b lba f)
loses_change f h [] [] lba p = tt
loses_change f h [] (y ∷ b) lba p = absurd p
loses_change f h (x ∷ a) [] lba p = absurd p
loses_change f h (x ∷ a) (y ∷ b) zero p = (h x y p.0, p.1)
loses_change f h (x ∷ a) (y ∷ b) (suc lba) p = (p.0, loses_change f h a b lba p.1)

pub put_lost : (v : Block) (cached : Bool) (x y : Cell) → Lost x y → Lost (put x v cached) (put y v cached)
put_lost v cached x y l = record { now = refl; read_flaw = refl; write_flaw = l.write_flaw; fewer = fewer cached; sound = put-sound y v cached }
  where
    fewer : (b : Bool) → LeavesOut (if b then x.may ++ v ∷ [] else v ∷ []) (if b then y.may ++ v ∷ [] else v ∷ [])
    fewer true = leaves_push x.may y.may v l.fewer
    fewer false = leaves_none (v ∷ [])

pub put_loses : (p : Pair) (a b : List Cell) → Loses a b → Loses (put_at a p) (put_at b p)
put_loses p a b l = loses_change (λ c. put c p.block p.cached) (put_lost p.block p.cached) a b p.lba l

pub whole_loses : (ps : List Pair) (a b : List Cell) → Loses a b → Loses (whole a ps) (whole b ps)
whole_loses [] a b l = l
whole_loses (p ∷ ps) a b l = whole_loses ps (put_at a p) (put_at b p) (put_loses p a b l)

-- part of a write, and then a loss
pub record PartLossy (ps : List Pair) (old new : List Cell) : Type 0 where
  pub mid : List Cell
  pub part : Part old ps mid
  pub lost : Loses mid new

-- a loss before part of a write may come after it
pub part_after : (ps : List Pair) (a b c : List Cell) → Loses a b → Part b ps c → PartLossy ps a c
part_after [] a b c l h = record { mid = a; part = refl; lost = subst (λ x. Loses a x) (sym h) l }
part_after (p ∷ ps) a b c l h =
    ⊎_elim
    (λ left. let r = part_after ps a b c l left in record { mid = r.mid; part = inl r.part; lost = r.lost })
    (λ done. let r = part_after ps (put_at a p) (put_at b p) c (put_loses p a b l) done in record { mid = r.mid; part = inr r.part; lost = r.lost })
    h
