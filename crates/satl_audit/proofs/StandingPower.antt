-- A sector that is kept, behind a flush and a loss of power.
use Rattle.std.proofs.Common.{◌≡◌, ⊎_elim, inl, refl, sym, subst, ℕ, List, [], ◌∷◌, ◌++◌, map, Option, Some, None}
use Rattle.satl_base.specs.declared.block.Block.{Block}
use Rattle.satl_base.specs.Cells.{Cell, Pair, settle}
use Rattle.satl_base.specs.Lists.{IsIn}
use Rattle.satl_base.proofs.ListsLemmas.{in_either, in_left, in_right}
use Rattle.satl_regs.specs.Sectors.{IsLeftBehind}
use Rattle.satl_audit.specs.Deeds.{MovesAt}
use Rattle.satl_audit.specs.Guesses.{Guess, after_shows, all_may, blocks_at, shown_of, sure}
use Rattle.satl_audit.specs.Sectors.{KnownSector, guesses_of, sector_power, settled_in}
use Rattle.satl_audit.proofs.Fitting.{After, Fits}
use Rattle.satl_audit.proofs.GuessPairs.{guess_of, in_blocks}
use Rattle.satl_audit.proofs.GuessShows.{in_before, own_shown, shows_fit}
use Rattle.satl_audit.proofs.GuessLists.{in_all, of_all}
use Rattle.satl_audit.proofs.GuessGives.{powers_fit, settles_fit}
use Rattle.satl_audit.proofs.GuessPairs as guessing
use Rattle.satl_audit.proofs.Covering.{fits_as, all_in, sure_now, sure_covers, sure_own, Stands}

pub settle_stands : (K : Cell → Type 0) (o : Option Block) (may : List Block) → Stands K (record { now = o; may = may }) → Stands (After K (λ a b. b ≡ settle a)) (settled_in o may)
settle_stands K None may h = record { fits = subst (Fits (After K (λ a b. b ≡ settle a))) (sure_now may) (settles_fit K (map sure may) h.fits); some = h.some }
settle_stands K (Some v) may h = record { fits = settles_fit K (record { now = v; may = may } ∷ []) h.fits; some = (v, inl refl) }

pub power_stands : (x : ℕ) (K : Cell → Type 0) (s : KnownSector) → Stands K s → Stands (After K IsLeftBehind) (sector_power x None s)
power_stands x K s h = record { fits = subst (λ l. Fits (After K IsLeftBehind) (map sure l)) (all_in s.now s.may) (powers_fit K (guesses_of s) h.fits); some = h.some }

module _ (x : ℕ) (pairs : List Pair) (K : Cell → Type 0) where
  abbrev Moved : Cell → Type 0
  Moved = After K (MovesAt (λ p. IsIn p pairs) x)

  -- what may be left where pairs may have shown
  shown_all : (gs : List Guess) → Fits K gs → (w : Block) → IsIn w (all_may (after_shows x pairs gs)) → IsIn w (all_may gs ++ blocks_at x pairs)
  shown_all [] h w i = absurd i
  shown_all (g ∷ gs) h w i = let t = of_all (after_shows x pairs (g ∷ gs)) w i in in_before x pairs K g gs h t.guess t.among w t.may

  all_shown : (g : Guess) (gs : List Guess) → Fits K (g ∷ gs) → (w : Block) → IsIn w (all_may (g ∷ gs) ++ blocks_at x pairs) → IsIn w (all_may (after_shows x pairs (g ∷ gs)))
  all_shown g gs h w i =
      ⊎_elim
      (λ l. let t = of_all (g ∷ gs) w l in in_all (after_shows x pairs (g ∷ gs)) t.guess w (in_left t.guess (g ∷ gs) (shown_of x before pairs) t.among) t.may)
      (λ r. let t = in_blocks x pairs w r in
      subst (λ y. IsIn y (all_may (after_shows x pairs (g ∷ gs)))) (sym t.is)
      (in_all (after_shows x pairs (g ∷ gs)) (guess_of x before t.pair) t.pair.block
      (in_right (guess_of x before t.pair) (g ∷ gs) (shown_of x before pairs) (guessing.shown_in x before pairs t.pair t.among t.here)) (own_shown x pairs K g gs h t.pair t.among t.here)))
      (in_either w (all_may (g ∷ gs)) (blocks_at x pairs) i)
    where
      before : List Block
      before = all_may (g ∷ gs) ++ blocks_at x pairs

  all_shown_any : (gs : List Guess) → (w : Block) × IsIn w (all_may gs) → Fits K gs → (w : Block) → IsIn w (all_may gs ++ blocks_at x pairs) → IsIn w (all_may (after_shows x pairs gs))
  all_shown_any [] some h w i = absurd some.1
  all_shown_any (g ∷ gs) some h w i = all_shown g gs h w i

  pub power_shown : (s : KnownSector) → Stands K s → Stands (After Moved IsLeftBehind) (sector_power x (Some pairs) s)
  power_shown s h =
      let gs = guesses_of s in
      let all : all_may gs ≡ s.may = all_in s.now s.may in
      let few = all_may (after_shows x pairs gs) in
      let f : (w : Block) → IsIn w few → IsIn w (s.may ++ blocks_at x pairs) = λ w i. subst (λ l. IsIn w (l ++ blocks_at x pairs)) all (shown_all gs h.fits w i) in
      let b : (w : Block) → IsIn w (s.may ++ blocks_at x pairs) → IsIn w few =
      λ w i. all_shown_any gs (h.some.0, subst (IsIn h.some.0) (sym all) h.some.1) h.fits w (subst (λ l. IsIn w (l ++ blocks_at x pairs)) (sym all) i) in
      record {
        fits = fits_as (After Moved IsLeftBehind) (map sure few) (map sure (s.may ++ blocks_at x pairs)) (sure_covers few (s.may ++ blocks_at x pairs) f) (sure_covers (s.may ++ blocks_at x pairs) few b) (sure_own (s.may ++ blocks_at x pairs))
            (powers_fit Moved (after_shows x pairs gs) (shows_fit x pairs K gs h.fits));
        some = (h.some.0, in_left h.some.0 s.may (blocks_at x pairs) h.some.1);
      }
