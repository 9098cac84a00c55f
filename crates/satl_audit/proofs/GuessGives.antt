-- Guesses behind a READ, a flush and a loss of power.
use Rattle.std.proofs.Common.{◌≡◌, ⊎_elim, inl, refl, sym, ◌∙◌, subst, ℕ, ◌+◌, true, false, List, [], ◌∷◌, map}
use Rattle.std.specs.Prelude.{◌==◌, if◌then◌else◌, filter}
use Rattle.std.proofs.lemmas.Bool.{eqb-true, eqb-false}
use Rattle.satl_base.specs.declared.block.Block.{Block}
use Rattle.satl_base.specs.Cells.{Cell, IsSound, settle}
use Rattle.satl_base.specs.Lists.{IsIn}
use Rattle.satl_regs.specs.Sectors.{IsLeftBehind}
use Rattle.satl_audit.specs.Deeds.{GivesAt}
use Rattle.satl_audit.specs.Guesses.{Guess, after_gives, all_may, has_now, sure}
use Rattle.satl_audit.proofs.GuessLists.{in_map, map_in, in_filter, filter_in, now_same, same_now, in_all, of_all}
use Rattle.satl_audit.proofs.Fitting.{Among, Reached, Fits, fits_same, After}

abbrev pub Only : (Cell → Type 0) → (Cell → Type 0) → Cell → Type 0
Only K P c = K c × P c

pub filter_fits : (v : Block) (K : Cell → Type 0) (gs : List Guess) → Fits K gs → Fits (Only K (λ c. c.now ≡ v)) (filter (has_now v) gs)
filter_fits v K gs h = record {
  sound = λ c q. h.sound c q.0;
  only = λ c q. let m = h.only c q.0 in record { guess = m.guess; among = filter_in (has_now v) gs m.guess m.among (same_now v m.guess (sym m.now ∙ q.1)); now = m.now; may = m.may };
  each = λ g i w m. let f = in_filter (has_now v) gs g i in let r = h.each g f.0 w m in record { cell = r.cell; reached = (r.reached, r.now ∙ now_same v g f.1); now = r.now; may = r.may };
  own = λ g i. h.own g (in_filter (has_now v) gs g i).0;
}

pub gives_fit : (x lba : ℕ) (vs : List Block) (K : Cell → Type 0) (gs : List Guess) → Fits K gs → Fits (Only K (GivesAt x lba vs)) (after_gives x lba vs gs)
gives_fit x lba [] K gs h = fits_same K (Only K (GivesAt x lba [])) gs (λ c k. (k, tt)) (λ c q. q.0) h
gives_fit x lba (v ∷ vs) K gs h =
    fits_same (Only (Only K (λ c. lba ≡ x → c.now ≡ v)) (GivesAt x (lba + 1) vs)) (Only K (GivesAt x lba (v ∷ vs))) (after_gives x lba (v ∷ vs) gs)
    (λ c q. ((q.0).0, ((q.0).1, q.1))) (λ c q. ((q.0, (q.1).0), (q.1).1))
    (gives_fit x (lba + 1) vs (Only K (λ c. lba ≡ x → c.now ≡ v)) (if lba == x then filter (has_now v) gs else gs) first)
  where
    first : Fits (Only K (λ c. lba ≡ x → c.now ≡ v)) (if lba == x then filter (has_now v) gs else gs)
    first =
        (elim (lba == x) as (λ b. (lba == x) ≡ b → Fits (Only K (λ c. lba ≡ x → c.now ≡ v)) (if b then filter (has_now v) gs else gs)) [
          | true ↦ λ s. fits_same (Only K (λ c. c.now ≡ v)) (Only K (λ c. lba ≡ x → c.now ≡ v)) (filter (has_now v) gs) (λ c q. (q.0, λ e. q.1)) (λ c q. (q.0, q.1 (eqb-true lba x s))) (filter_fits v K gs h)
          | false ↦ λ s. fits_same K (Only K (λ c. lba ≡ x → c.now ≡ v)) gs (λ c k. (k, λ e. absurd (eqb-false lba x s e))) (λ c q. q.0) h
        ]) refl

pub settles_fit : (K : Cell → Type 0) (gs : List Guess) → Fits K gs → Fits (After K (λ a b. b ≡ settle a)) (map (λ g. sure g.now) gs)
settles_fit K gs h = record {
  sound = λ c q. subst IsSound (sym q.2) (inl refl);
  only = λ c q. subst (Among (map (λ g. sure g.now) gs)) (sym q.2) (among q.0 q.1);
  each = λ k i w m. let t = in_map (λ g. sure g.now) gs k i in subst (λ y. Reached (After K (λ a b. b ≡ settle a)) y.now w) (sym t.same) (reach t.of t.among w (subst (λ y. IsIn w y.may) t.same m));
  own = λ k i. let t = in_map (λ g. sure g.now) gs k i in subst (λ y. IsIn y.now y.may) (sym t.same) (inl refl);
}
  where
    among : (a : Cell) → K a → Among (map (λ g. sure g.now) gs) (settle a)
    among a k = let m = h.only a k in record { guess = sure m.guess.now; among = map_in (λ g. sure g.now) gs m.guess m.among; now = m.now; may = λ w i. ⊎_elim (λ e. inl (e ∙ m.now)) (λ n. absurd n) i }

    reach : (g : Guess) → IsIn g gs → (w : Block) → IsIn w (g.now ∷ []) → Reached (After K (λ a b. b ≡ settle a)) g.now w
    reach g i w m =
        let r = h.each g i g.now (h.own g i) in
        record { cell = settle r.cell; reached = (r.cell, r.reached, refl); now = r.now; may = ⊎_elim (λ e. inl (e ∙ sym r.now)) (λ n. absurd n) m }

pub powers_fit : (K : Cell → Type 0) (gs : List Guess) → Fits K gs → Fits (After K IsLeftBehind) (map sure (all_may gs))
powers_fit K gs h = record {
  sound = λ c q. subst (IsIn c.now) (sym q.2.alone) (inl refl);
  only = λ c q.
      let m = h.only q.0 q.1 in
      record { guess = sure c.now; among = map_in sure (all_may gs) c.now (in_all gs m.guess c.now m.among (m.may c.now q.2.one)); now = refl; may = λ w i. subst (IsIn w) q.2.alone i };
  each = λ k i w m. let t = in_map sure (all_may gs) k i in subst (λ y. Reached (After K IsLeftBehind) y.now w) (sym t.same) (reach t.of t.among w (subst (λ y. IsIn w y.may) t.same m));
  own = λ k i. let t = in_map sure (all_may gs) k i in subst (λ y. IsIn y.now y.may) (sym t.same) (inl refl);
}
  where
    reach : (v : Block) → IsIn v (all_may gs) → (w : Block) → IsIn w (v ∷ []) → Reached (After K IsLeftBehind) v w
    reach v i w m =
        let t = of_all gs v i in
        let r = h.each t.guess t.among v t.may in
        record {
          cell = record { now = v; may = v ∷ []; read_flaw = r.cell.read_flaw; write_flaw = r.cell.write_flaw };
          reached = (r.cell, r.reached, record { one = r.may; alone = refl; read_flaw = refl; write_flaw = refl });
          now = refl;
          may = m;
        }
