-- Guesses once a pair was put.
use Rattle.std.proofs.Common.{◌≡◌, ◌⊎◌, ⊎_elim, inl, inr, refl, sym, ap, ◌∙◌, subst, ℕ, Bool, true, false, List, [], ◌∷◌, ◌++◌}
use Rattle.std.specs.Prelude.{◌==◌, if◌then◌else◌}
use Rattle.satl_base.specs.declared.block.Block.{Block}
use Rattle.satl_base.specs.Cells.{Cell, Pair, IsSound, put}
use Rattle.satl_base.specs.Lists.{IsIn}
use Rattle.satl_base.proofs.CellsLemmas.{put-sound}
use Rattle.satl_base.proofs.ListsLemmas.{in_either, in_left, in_right}
use Rattle.satl_audit.specs.Deeds.{put_at_one}
use Rattle.satl_audit.specs.Guesses.{Guess, after_put, after_puts, all_may}
use Rattle.satl_audit.proofs.GuessLists.{in_all, of_all}
use Rattle.satl_audit.proofs.Fitting.{Among, Reached, Fits, fits_same, fits_none, After}

module _ (v : Block) (cached : Bool) where
  abbrev left : List Block → List Block
  left may = if cached then may ++ v ∷ [] else v ∷ []

  left_in : (may others : List Block) → ((w : Block) → IsIn w may → IsIn w others) → (w : Block) → IsIn w (left may) → IsIn w (left others)
  left_in may others f w h =
      (elim cached as (λ b. IsIn w (if b then may ++ v ∷ [] else v ∷ []) → IsIn w (if b then others ++ v ∷ [] else v ∷ [])) [
        | true ↦ λ i. ⊎_elim (λ l. in_left w others (v ∷ []) (f w l)) (λ r. in_right w others (v ∷ []) r) (in_either w may (v ∷ []) i)
        | false ↦ λ i. i
      ]) h

  left_own : (may : List Block) → IsIn v (left may)
  left_own may = elim cached as (λ b. IsIn v (if b then may ++ v ∷ [] else v ∷ [])) [ true ↦ in_right v may (v ∷ []) (inl refl) | false ↦ inl refl ]

  -- what is left was left before, or is the block
  left_of : (may : List Block) (w : Block) → IsIn w (left may) → ((cached ≡ true) × IsIn w may) ⊎ (w ≡ v)
  left_of may w h =
      (elim cached as (λ b. cached ≡ b → IsIn w (if b then may ++ v ∷ [] else v ∷ []) → ((cached ≡ true) × IsIn w may) ⊎ (w ≡ v)) [
        | true ↦ λ s i. ⊎_elim (λ l. inl (s, l)) (λ r. inr (⊎_elim (λ e. e) (λ n. absurd n) r)) (in_either w may (v ∷ []) i)
        | false ↦ λ s i. inr (⊎_elim (λ e. e) (λ n. absurd n) i)
      ]) refl h

  pub left_old : (may : List Block) (w : Block) → cached ≡ true → IsIn w may → IsIn w (left may)
  left_old may w s i = subst (λ b. IsIn w (if b then may ++ v ∷ [] else v ∷ [])) (sym s) (in_left w may (v ∷ []) i)

  abbrev pub Put : (Cell → Type 0) → Cell → Type 0
  Put K = After K (λ a b. b ≡ put a v cached)

  pub put_fits : (K : Cell → Type 0) (gs : List Guess) → Fits K gs → Fits (Put K) (after_put v cached gs)
  put_fits K [] h = fits_none K (Put K) (λ c q. (q.0, q.1)) h
  put_fits K (g ∷ gs) h = record {
    sound = λ c q. subst IsSound (sym q.2) (put-sound q.0 v cached);
    only = λ c q. subst (Among (after_put v cached (g ∷ gs))) (sym q.2) (among q.0 q.1);
    each = λ k i w m. ⊎_elim (λ e. subst (λ x. Reached (Put K) x.now w) (sym e) (reach w (subst (λ x. IsIn w x.may) e m))) (λ n. absurd n) i;
    own = λ k i. ⊎_elim (λ e. subst (λ x. IsIn x.now x.may) (sym e) (left_own (all_may (g ∷ gs)))) (λ n. absurd n) i;
  }
    where
      among : (a : Cell) → K a → Among (after_put v cached (g ∷ gs)) (put a v cached)
      among a k =
          let m = h.only a k in
          record { guess = record { now = v; may = left (all_may (g ∷ gs)) }; among = inl refl; now = refl; may = left_in a.may (all_may (g ∷ gs)) (λ w i. in_all (g ∷ gs) m.guess w m.among (m.may w i)) }

      reach : (w : Block) → IsIn w (left (all_may (g ∷ gs))) → Reached (Put K) v w
      reach w i =
          ⊎_elim
          (λ o. let t = of_all (g ∷ gs) w o.1 in let r = h.each t.guess t.among w t.may in
          record { cell = put r.cell v cached; reached = (r.cell, r.reached, refl); now = refl; may = left_old r.cell.may w o.0 r.may })
          (λ e. let r = h.each g (inl refl) g.now (h.own g (inl refl)) in
          record { cell = put r.cell v cached; reached = (r.cell, r.reached, refl); now = refl; may = subst (λ x. IsIn x (left r.cell.may)) (sym e) (left_own r.cell.may) })
          (left_of (all_may (g ∷ gs)) w i)

-- nothing is put
pub stay_fits : (K : Cell → Type 0) (gs : List Guess) → Fits K gs → Fits (After K (λ a b. b ≡ a)) gs
stay_fits K gs h = fits_same K (After K (λ a b. b ≡ a)) gs (λ c k. (c, k, refl)) (λ c q. subst K (sym q.2) q.1) h

module _ (p : Pair) (x : ℕ) where
  -- a sector after one pair
  abbrev pub next : Cell → Cell
  next a = if p.lba == x then put a p.block p.cached else a

  abbrev pub Next : (Cell → Type 0) → Cell → Type 0
  Next K = After K (λ a b. b ≡ next a)

  pub next_fits : (K : Cell → Type 0) (gs : List Guess) → Fits K gs → Fits (Next K) (if p.lba == x then after_put p.block p.cached gs else gs)
  next_fits K gs h = first (p.lba == x)
    where
      first : (t : Bool) → Fits (After K (λ a b. b ≡ (if t then put a p.block p.cached else a))) (if t then after_put p.block p.cached gs else gs)
      first true = put_fits p.block p.cached K gs h
      first false = stay_fits K gs h

pub puts_fit : (x : ℕ) (ps : List Pair) (K : Cell → Type 0) (gs : List Guess) → Fits K gs → Fits (After K (λ a b. b ≡ put_at_one x ps a)) (after_puts x ps gs)
puts_fit x [] K gs h = stay_fits K gs h
puts_fit x (p ∷ ps) K gs h =
    fits_same (After (Next p x K) (λ a b. b ≡ put_at_one x ps a)) (After K (λ a b. b ≡ put_at_one x (p ∷ ps) a)) (after_puts x (p ∷ ps) gs)
    (λ c q. ((q.1).0, (q.1).1, q.2 ∙ ap (put_at_one x ps) (q.1).2)) (λ c q. (next p x q.0, (q.0, q.1, refl), q.2))
    (puts_fit x ps (Next p x K) (if p.lba == x then after_put p.block p.cached gs else gs) (next_fits p x K gs h))
