-- The blocks of sectors stay whole.
use Rattle.std.proofs.Common.{⊎_elim, sym, subst, ℕ, zero, suc, ◌+◌, Bool, true, false, List, [], ◌∷◌, ◌++◌, length, map}
use Rattle.std.specs.Prelude.{◌==◌, if◌then◌else◌, drop, slice_range}
use Rattle.std.specs.List.{AllByRecursion}
use Rattle.satl_base.specs.declared.block.Block.{Block}
use Rattle.satl_base.specs.Cells.{Cell, Pair, put}
use Rattle.satl_base.specs.Lists.{EachAt, IsIn}
use Rattle.satl_base.proofs.ListsLemmas.{in_either, leaves_in}
use Rattle.satl_audit.specs.Deeds.{Deed, DoneAt, DoneBy, MovesAt, put_at_one}
use Rattle.satl_audit.specs.Deeds.Deed.{shows, puts, gives, settles, powers}
use Rattle.satl_audit.specs.Deeds.MovesAt.{still, fewer, gets}
use Rattle.satl_audit.proofs.Forming.{all_taken}
use Rattle.satl_audit.specs.Deciding.{GivesWhole, IsWholeCell}
use Rattle.satl_base.specs.Blocks.{AreWhole, IsWhole}
use Rattle.satl_laws.proofs.Rows.{in_all as all_of}

abbrev pub IsWholePair : Pair → Type 0
IsWholePair p = IsWhole p.block

-- what a deed brings
abbrev pub BringsWhole : Deed → Type 0
BringsWhole (shows pairs) = AllByRecursion IsWholePair pairs
BringsWhole (puts pairs) = AllByRecursion IsWholePair pairs
BringsWhole (gives lba blocks) = Unit {0}
BringsWhole settles = Unit {0}
BringsWhole powers = Unit {0}

put_whole : (p : Pair) (c : Cell) → IsWholePair p → IsWholeCell c → IsWholeCell (put c p.block p.cached)
put_whole p c w h = record { now = w; may = either p.cached }
  where
    either : (b : Bool) → (v : Block) → IsIn v (if b then c.may ++ p.block ∷ [] else p.block ∷ []) → IsWhole v
    either true v i = ⊎_elim (λ l. h.may v l) (λ r. ⊎_elim (λ e. subst IsWhole (sym e) w) (λ n. absurd n) r) (in_either v c.may (p.block ∷ []) i)
    either false v i = ⊎_elim (λ e. subst IsWhole (sym e) w) (λ n. absurd n) i

puts_whole : (x : ℕ) (ps : List Pair) (c : Cell) → AllByRecursion IsWholePair ps → IsWholeCell c → IsWholeCell (put_at_one x ps c)
puts_whole x [] c w h = h
puts_whole x (p ∷ ps) c w h = puts_whole x ps (if p.lba == x then put c p.block p.cached else c) w.1 (either (p.lba == x))
  where
    either : (b : Bool) → IsWholeCell (if b then put c p.block p.cached else c)
    either true = put_whole p c w.0 h
    either false = h

moves_whole : (pairs : List Pair) {x : ℕ} {a b : Cell} → AllByRecursion IsWholePair pairs → MovesAt (λ p. IsIn p pairs) x a b → IsWholeCell a → IsWholeCell b
moves_whole pairs w still h = h
moves_whole pairs w (fewer {a = a} {b = b} l m) h = moves_whole pairs w m (record { now = subst IsWhole (sym l.now) h.now; may = λ v i. h.may v (leaves_in v a.may b.may l.fewer i) })
moves_whole pairs w (gets {a = a} p i e m) h = moves_whole pairs w m (put_whole p a (all_of IsWholePair pairs p w i) h)

done_whole : (x : ℕ) (d : Deed) (a b : Cell) → BringsWhole d → DoneAt x d a b → IsWholeCell a → IsWholeCell b
done_whole x (shows pairs) a b w m h = moves_whole pairs w m h
done_whole x (puts pairs) a b w m h = subst IsWholeCell (sym m) (puts_whole x pairs a w h)
done_whole x (gives lba blocks) a b w m h = subst IsWholeCell (sym m.1) h
done_whole x settles a b w m h = subst IsWholeCell (sym m) (record { now = h.now; may = λ v i. ⊎_elim (λ e. subst IsWhole (sym e) h.now) (λ n. absurd n) i })
done_whole x powers a b w m h =
    let now = h.may b.now m.one in
    record { now = now; may = λ v i. ⊎_elim (λ e. subst IsWhole (sym e) now) (λ n. absurd n) (subst (IsIn v) m.alone i) }

pub each_whole : (x : ℕ) (d : Deed) (us vs : List Cell) → BringsWhole d → EachAt (λ y. DoneAt y d) x us vs → AllByRecursion IsWholeCell us → AllByRecursion IsWholeCell vs
each_whole x d [] [] w h s = tt
each_whole x d [] (v ∷ vs) w h s = absurd h
each_whole x d (u ∷ us) [] w h s = absurd h
each_whole x d (u ∷ us) (v ∷ vs) w h s = (done_whole x d u v w h.0 s.0, each_whole (suc x) d us vs w h.1 s.1)

-- what a READ gives
whole_dropped : (n : ℕ) (cs : List Cell) → AllByRecursion IsWholeCell cs → AllByRecursion IsWholeCell (drop n cs)
whole_dropped zero cs h = h
whole_dropped (suc n) [] h = tt
whole_dropped (suc n) (c ∷ cs) h = whole_dropped n cs h.1

whole_nows : (cs : List Cell) → AllByRecursion IsWholeCell cs → AreWhole (map (λ c. c.now) cs)
whole_nows [] h = tt
whole_nows (c ∷ cs) h = (h.0.now, whole_nows cs h.1)

pub gives_whole : (d : Deed) (old new : List Cell) → DoneBy d old new → AllByRecursion IsWholeCell old → GivesWhole d
gives_whole (shows pairs) old new h w = tt
gives_whole (puts pairs) old new h w = tt
gives_whole (gives lba blocks) old new h w = subst AreWhole h.0 (whole_nows (slice_range old lba (lba + length blocks)) (all_taken IsWholeCell _ (drop lba old) (whole_dropped lba old w)))
gives_whole settles old new h w = tt
gives_whole powers old new h w = tt
