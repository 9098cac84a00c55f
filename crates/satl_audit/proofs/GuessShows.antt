-- Guesses where pairs may show.
use Rattle.std.proofs.Common.{◌≡◌, ⊎_elim, inl, refl, sym, ◌∙◌, subst, ℕ, true, false, List, [], ◌∷◌, ◌++◌}
use Rattle.std.specs.Prelude.{if◌then◌else◌}
use Rattle.satl_base.specs.declared.block.Block.{Block}
use Rattle.satl_base.specs.Cells.{Cell, Pair, put}
use Rattle.satl_base.specs.Lists.{IsIn}
use Rattle.satl_base.proofs.CellsLemmas.{put-sound}
use Rattle.satl_base.proofs.ListsLemmas.{in_either, in_left, in_right, leaves_in}
use Rattle.satl_audit.specs.Deeds.{MovesAt}
use Rattle.satl_audit.specs.Deeds.MovesAt.{still, fewer, gets}
use Rattle.satl_audit.specs.Guesses.{Guess, after_shows, all_may, blocks_at, shown_of}
use Rattle.satl_audit.proofs.SplitMoves.{move-sound}
use Rattle.satl_audit.proofs.GuessLists.{in_all, of_all}
use Rattle.satl_audit.proofs.Fitting.{Among, Reached, Fits, fits_none, After}
use Rattle.satl_audit.proofs.GuessPuts.{left_old}
use Rattle.satl_audit.proofs.GuessPairs.{blocks_in, in_blocks, guess_of, shown_in, in_shown}

module _ (x : ℕ) where
  module _ (pairs : List Pair) (K : Cell → Type 0) (g : Guess) (gs : List Guess) (h : Fits K (g ∷ gs)) where
    abbrev pub olds : List Guess
    olds = g ∷ gs

    abbrev pub before : List Block
    before = all_may olds ++ blocks_at x pairs

    abbrev pub news : List Guess
    news = olds ++ shown_of x before pairs

    abbrev Shows : Cell → Type 0
    Shows = After K (MovesAt (λ p. IsIn p pairs) x)

    -- whatever might be left at one of the guesses
    pub in_before : (k : Guess) → IsIn k news → (w : Block) → IsIn w k.may → IsIn w before
    in_before k i w m =
        ⊎_elim
        (λ l. in_left w (all_may olds) (blocks_at x pairs) (in_all olds k w l m))
        (λ r. let s = in_shown x before pairs k r in by_pair s.pair s.among s.here (subst (λ q. IsIn w q.may) s.is m))
        (in_either k olds (shown_of x before pairs) i)
      where
        by_pair : (p : Pair) → IsIn p pairs → p.lba ≡ x → IsIn w (guess_of x before p).may → IsIn w before
        by_pair p i e =
            elim p.cached as (λ b. IsIn w (if b then before else p.block ∷ []) → IsIn w before) [
              | true ↦ λ m. m
              | false ↦ λ m. ⊎_elim (λ s. subst (λ y. IsIn y before) (sym s) (in_right p.block (all_may olds) (blocks_at x pairs) (blocks_in x pairs p i e))) (λ n. absurd n) m
            ]

    -- moves stay among the guesses
    moves_among : (a b : Cell) → MovesAt (λ p. IsIn p pairs) x a b → Among news a → Among news b
    moves_among a b still m = m
    moves_among a b (fewer {b = mid} l r) m =
        moves_among mid b r (record { guess = m.guess; among = m.among; now = l.now ∙ m.now; may = λ w i. m.may w (leaves_in w a.may mid.may l.fewer i) })
    moves_among a b (gets p i e r) m =
        moves_among (put a p.block p.cached) b r
        (record { guess = guess_of x before p; among = in_right (guess_of x before p) olds (shown_of x before pairs) (shown_in x before pairs p i e); now = refl; may = within })
      where
        within : (w : Block) → IsIn w (put a p.block p.cached).may → IsIn w (guess_of x before p).may
        within w =
            elim p.cached as (λ b. IsIn w (if b then a.may ++ p.block ∷ [] else p.block ∷ []) → IsIn w (if b then before else p.block ∷ [])) [
              | true ↦ λ t. ⊎_elim (λ l. in_before m.guess m.among w (m.may w l)) (λ n. ⊎_elim (λ s. subst (λ y. IsIn y before) (sym s) (in_right p.block (all_may olds) (blocks_at x pairs) (blocks_in x pairs p i e))) (λ n. absurd n) n) (in_either w a.may (p.block ∷ []) t)
              | false ↦ λ t. t
            ]

    -- some cell
    some : Reached K g.now g.now
    some = h.each g (inl refl) g.now (h.own g (inl refl))

    -- a cell that was there before, or one after a pair
    reach_before : (p : Pair) → IsIn p pairs → p.lba ≡ x → p.cached ≡ true → (w : Block) → IsIn w before → Reached Shows p.block w
    reach_before p i e c w m =
        ⊎_elim
        (λ l. let t = of_all olds w l in let r = h.each t.guess t.among w t.may in
        record { cell = put r.cell p.block p.cached; reached = (r.cell, r.reached, gets p i e still); now = refl; may = left_old p.block p.cached r.cell.may w c r.may })
        (λ n. let t = in_blocks x pairs w n in
        let q = t.pair in
        let mid : Cell = put some.cell q.block q.cached in
        record {
          cell = put mid p.block p.cached;
          reached = (some.cell, some.reached, gets q t.among t.here (gets p i e still));
          now = refl;
          may = left_old p.block p.cached mid.may w c (subst (λ y. IsIn y mid.may) (sym t.is) (put-sound some.cell q.block q.cached));
        })
        (in_either w (all_may olds) (blocks_at x pairs) m)

    reach_shown : (p : Pair) → IsIn p pairs → p.lba ≡ x → (w : Block) → IsIn w (guess_of x before p).may → Reached Shows p.block w
    reach_shown p i e w =
        (elim p.cached as (λ b. p.cached ≡ b → IsIn w (if b then before else p.block ∷ []) → Reached Shows p.block w) [
          | true ↦ λ c m. reach_before p i e c w m
          | false ↦ λ c m. ⊎_elim (λ s. record { cell = put some.cell p.block p.cached; reached = (some.cell, some.reached, gets p i e still); now = refl; may = subst (λ y. IsIn y (put some.cell p.block p.cached).may) (sym s) (put-sound some.cell p.block p.cached) }) (λ n. absurd n) m
        ]) refl

    pub own_shown : (p : Pair) → IsIn p pairs → p.lba ≡ x → IsIn p.block (guess_of x before p).may
    own_shown p i e =
        elim p.cached as (λ b. IsIn p.block (if b then before else p.block ∷ []))
        [ true ↦ in_right p.block (all_may olds) (blocks_at x pairs) (blocks_in x pairs p i e) | false ↦ inl refl ]

    shows_some : Fits Shows news
    shows_some = record {
      sound = λ c q. move-sound (λ p. IsIn p pairs) q.2 (h.sound q.0 q.1);
      only = λ c q. moves_among q.0 c q.2 (let m = h.only q.0 q.1 in record { guess = m.guess; among = in_left m.guess olds (shown_of x before pairs) m.among; now = m.now; may = m.may });
      each = λ k i w m.
          ⊎_elim
          (λ l. let r = h.each k l w m in record { cell = r.cell; reached = (r.cell, r.reached, still); now = r.now; may = r.may })
          (λ n. let s = in_shown x before pairs k n in subst (λ q. Reached Shows q.now w) (sym s.is) (reach_shown s.pair s.among s.here w (subst (λ q. IsIn w q.may) s.is m)))
          (in_either k olds (shown_of x before pairs) i);
      own = λ k i.
          ⊎_elim (λ l. h.own k l) (λ n. let s = in_shown x before pairs k n in subst (λ q. IsIn q.now q.may) (sym s.is) (own_shown s.pair s.among s.here)) (in_either k olds (shown_of x before pairs) i);
    }

  pub shows_fit : (pairs : List Pair) (K : Cell → Type 0) (gs : List Guess) → Fits K gs → Fits (After K (MovesAt (λ p. IsIn p pairs) x)) (after_shows x pairs gs)
  shows_fit pairs K [] h = fits_none K (After K (MovesAt (λ p. IsIn p pairs) x)) (λ c q. (q.0, q.1)) h
  shows_fit pairs K (g ∷ gs) h = shows_some pairs K g gs h
