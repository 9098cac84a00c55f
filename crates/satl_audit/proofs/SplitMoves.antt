-- Moves of all sectors are moves of each.
use Rattle.std.proofs.Common.{arith, ◌≡◌, refl, sym, ap, ◌∙◌, subst, ℕ, suc, List, [], ◌∷◌, ◌++◌, length, append_assoc}
use Rattle.satl_base.specs.Cells.{Cell, Pair, IsSound, AreSound, put}
use Rattle.satl_base.specs.Losses.{Lost, Loses}
use Rattle.satl_base.specs.Moves.{Moves}
use Rattle.satl_base.specs.Moves.{stay, lose, write}
use Rattle.satl_base.specs.Lists.{change_at}
use Rattle.satl_base.proofs.CellsLemmas.{put-sound}
use Rattle.satl_base.proofs.LossesLemmas.{loses_none}
use Rattle.satl_base.proofs.MovesLemmas.{moves_on}
use Rattle.satl_base.specs.Lists.{EachAt}
use Rattle.satl_audit.specs.Deeds.{MovesAt}
use Rattle.satl_audit.specs.Deeds.MovesAt.{still, fewer, gets}
use Rattle.satl_audit.proofs.Each.{each_change, each_on, each_same}

-- ---- moves

-- losses of all are losses of each
loses_each : (P : Pair → Type 0) (x : ℕ) (us vs : List Cell) → Loses us vs → EachAt (λ y a b. Lost a b) x us vs
loses_each P x [] [] l = tt
loses_each P x [] (v ∷ vs) l = absurd l
loses_each P x (u ∷ us) [] l = absurd l
loses_each P x (u ∷ us) (v ∷ vs) l = (l.0, loses_each P (suc x) us vs l.1)

-- moves of all are moves of each
pub moves_each : (P : Pair → Type 0) {old new : List Cell} → Moves P old new → EachAt (MovesAt P) 0 old new
moves_each P {old = old} stay = each_same (MovesAt P) (λ x c. still) 0 old
moves_each P {new = new} (lose {old = old} {mid = mid} l m) =
    each_on (λ y a b. Lost a b) (MovesAt P) (MovesAt P) (λ x a b c p q. fewer p q) 0 old mid new (loses_each P 0 old mid l) (moves_each P m)
moves_each P {new = new} (write {old = old} p h m) =
    each_change (MovesAt P) (MovesAt P) (λ c. put c p.block p.cached) p.lba (λ c d r. gets p h refl r) (λ x apart c d r. r) 0 p.lba (omega arith) old new (moves_each P m)

-- a change behind other cells
change_behind : (front back : List Cell) (c : Cell) (f : Cell → Cell) → change_at (front ++ c ∷ back) (length front) f ≡ front ++ f c ∷ back
change_behind [] back c f = refl
change_behind (a ∷ front) back c f = ap (λ l. a ∷ l) (change_behind front back c f)

sound_append : (us vs : List Cell) → AreSound us → AreSound vs → AreSound (us ++ vs)
sound_append [] vs p q = q
sound_append (u ∷ us) vs p q = (p.0, sound_append us vs p.1 q)

loses_behind : (front back : List Cell) (a b : Cell) → AreSound front → AreSound back → Lost a b → Loses (front ++ a ∷ back) (front ++ b ∷ back)
loses_behind [] back a b p q l = (l, loses_none back q)
loses_behind (u ∷ front) back a b p q l = (record { now = refl; read_flaw = refl; write_flaw = refl; fewer = (loses_none (u ∷ []) (p.0, tt)).0.fewer; sound = p.0 }, loses_behind front back a b p.1 q l)

module _ (P : Pair → Type 0) where
  -- moves keep a sector sound
  pub move-sound : {x : ℕ} {a b : Cell} → MovesAt P x a b → IsSound a → IsSound b
  move-sound still s = s
  move-sound (fewer l m) s = move-sound m l.sound
  move-sound (gets {a = a} p h e m) s = move-sound m (put-sound a p.block p.cached)

  -- moves of one sector are moves of all, where the others stay
  move_one : (front back : List Cell) → AreSound front → AreSound back → {x : ℕ} {a b : Cell} → x ≡ length front → MovesAt P x a b → Moves P (front ++ a ∷ back) (front ++ b ∷ back)
  move_one front back p q e still = stay
  move_one front back p q e (fewer {a = a} {b = b} l m) = lose (loses_behind front back a b p q l) (move_one front back p q e m)
  move_one front back p q {b = b} e (gets {a = a} w h here m) =
      write w h
      (subst (λ cells. Moves P cells (front ++ b ∷ back)) (sym (ap (λ at. change_at (front ++ a ∷ back) at (λ c. put c w.block w.cached)) (here ∙ e) ∙ change_behind front back a (λ c. put c w.block w.cached)))
      (move_one front back p q e m))

  length-push : (front : List Cell) (c : Cell) → length (front ++ c ∷ []) ≡ suc (length front)
  length-push [] c = refl
  length-push (a ∷ front) c = ap suc (length-push front c)

  -- moves of each sector by itself, one sector after the other
  moves_behind : (front old new : List Cell) (x : ℕ) → x ≡ length front → AreSound front → AreSound old → EachAt (MovesAt P) x old new → Moves P (front ++ old) (front ++ new)
  moves_behind front [] [] x e p q h = stay
  moves_behind front [] (d ∷ ds) x e p q h = absurd h
  moves_behind front (c ∷ cs) [] x e p q h = absurd h
  moves_behind front (c ∷ cs) (d ∷ ds) x e p q h =
      let first : Moves P (front ++ c ∷ cs) (front ++ d ∷ cs) = move_one front cs p q.1 e h.0 in
      let later = moves_behind (front ++ d ∷ []) cs ds (suc x) (ap suc e ∙ sym (length-push front d)) (sound_append front (d ∷ []) p (move-sound h.0 q.0, tt)) q.1 h.1 in
      moves_on first (subst (λ l. Moves P l (front ++ d ∷ ds)) (append_assoc front (d ∷ []) cs) (subst (λ l. Moves P ((front ++ d ∷ []) ++ cs) l) (append_assoc front (d ∷ []) ds) later))

  -- moves of each are moves of all
  pub moves_all : (old new : List Cell) → AreSound old → EachAt (MovesAt P) 0 old new → Moves P old new
  moves_all old new s h = moves_behind [] old new 0 refl tt s h
