-- A sector that is kept, behind a READ.
use Rattle.std.proofs.Common.{◌≡◌, ⊎_elim, inl, inr, refl, sym, ap, ◌∙◌, subst, ℕ, ◌+◌, Bool, true, false, List, [], ◌∷◌, map, Option, Some, None}
use Rattle.std.specs.Prelude.{◌==◌, ◌||◌, if◌then◌else◌, filter, nat_eq}
use Rattle.std.specs.List.{list_any}
use Rattle.std.proofs.lemmas.Bool.{eqb-true, both_ways, eqb-false}
use Rattle.std.specs.Cmp.Lexicographic.{pointwise}
use Rattle.satl_base.specs.declared.block.Block.{Block}
use Rattle.satl_base.specs.Cells.{Cell}
use Rattle.satl_base.specs.Lists.{IsIn}
use Rattle.satl_laws.proofs.Meeting.{any_passes}
use Rattle.satl_audit.specs.Deeds.{GivesAt}
use Rattle.satl_audit.specs.Guesses.{Guess, has_now, sure}
use Rattle.satl_audit.specs.Sectors.{KnownSector, sector_gives, sector_show, shown_in}
use Rattle.satl_audit.proofs.Fitting.{Fits}
use Rattle.satl_audit.proofs.GuessGives.{Only, filter_fits}
use Rattle.satl_audit.proofs.GuessLists.{filter_in, in_filter, in_map, map_in, now_same}
use Rattle.satl_audit.proofs.Covering.{Covers, fits_as, Stands}
use Rattle.satl_audit.proofs.StandingPuts.{stands_same}

-- a sector that fits, or no cell
abbrev pub StandsOr : (Cell → Type 0) → Option KnownSector → Type 0
StandsOr K None = (c : Cell) → K c → ⊥
StandsOr K (Some s) = Stands K s

pub record One {X : Type 0} (p : X → Bool) (xs : List X) : Type 0 where
  pub of : X
  pub among : IsIn of xs
  pub passes : p of ≡ true

any_in : {X : Type 0} (p : X → Bool) (xs : List X) → list_any p xs ≡ true → One p xs
any_in p [] h = absurd cc
any_in p (x ∷ xs) h =
    (elim (p x) as (λ b. p x ≡ b → (b || list_any p xs) ≡ true → One p (x ∷ xs)) [
      | true ↦ λ e k. record { of = x; among = inl refl; passes = e }
      | false ↦ λ e k. let r = any_in p xs k in record { of = r.of; among = inr r.among; passes = r.passes }
    ]) refl h

module _ (v : Block) (K : Cell → Type 0) where
  abbrev Now : Cell → Type 0
  Now = Only K (λ c. c.now ≡ v)

  abbrev is_v : Block → Bool
  is_v w = pointwise nat_eq v.bytes w.bytes

  known_stands : (w : Block) (may : List Block) → Stands K (record { now = Some w; may = may }) → StandsOr Now (shown_in (Some w) v may)
  known_stands w may h =
      (elim (is_v w) as (λ b. Fits Now (if b then record { now = w; may = may } ∷ [] else []) → StandsOr Now (if b then Some (record { now = Some w; may = may }) else None)) [
        | true ↦ λ f. record { fits = f; some = h.some }
        | false ↦ λ f c k. (f.only c k).among
      ]) (filter_fits v K (record { now = w; may = may } ∷ []) h.fits)

  one_stands : (may : List Block) → Stands K (record { now = None; may = may }) → StandsOr Now (shown_in None v may)
  one_stands may h =
      (elim (list_any is_v may) as (λ b. list_any is_v may ≡ b → StandsOr Now (if b then Some (record { now = Some v; may = v ∷ [] }) else None)) [
        | true ↦ λ e. record { fits = fits_as Now (filter (has_now v) (map sure may)) (sure v ∷ []) to (from e) own (filter_fits v K (map sure may) h.fits); some = (v, inl refl) }
        | false ↦ λ e c k. no_cell e c k
      ]) refl
    where
      to : Covers (filter (has_now v) (map sure may)) (sure v ∷ [])
      to g i =
          let f = in_filter (has_now v) (map sure may) g i in
          let t = in_map sure may g f.0 in
          let is : g.now ≡ v = now_same v g f.1 in
          record {
            guess = sure v;
            among = inl refl;
            now = sym is;
            may = λ w m. ⊎_elim (λ s. inl (s ∙ sym (ap (λ y. y.now) t.same) ∙ is)) (λ n. absurd n) (subst (λ y. IsIn w y.may) t.same m);
          }

      from : list_any is_v may ≡ true → Covers (sure v ∷ []) (filter (has_now v) (map sure may))
      from e g i =
          let a = any_in is_v may e in
          let is : a.of ≡ v = now_same v (sure a.of) a.passes in
          let same : g ≡ sure v = ⊎_elim (λ s. s) (λ n. absurd n) i in
          record {
            guess = sure a.of;
            among = filter_in (has_now v) (map sure may) (sure a.of) (map_in sure may a.of a.among) a.passes;
            now = is ∙ sym (ap (λ y. y.now) same);
            may = λ w m. ⊎_elim (λ s. inl (s ∙ sym is)) (λ n. absurd n) (subst (λ y. IsIn w y.may) same m);
          }

      own : (g : Guess) → IsIn g (sure v ∷ []) → IsIn g.now g.may
      own g i = ⊎_elim (λ s. subst (λ y. IsIn y.now y.may) (sym s) (inl refl)) (λ n. absurd n) i

      no_cell : list_any is_v may ≡ false → (c : Cell) → Now c → ⊥
      no_cell e c k =
          let m = (filter_fits v K (map sure may) h.fits).only c k in
          let f = in_filter (has_now v) (map sure may) m.guess m.among in
          let t = in_map sure may m.guess f.0 in
          both_ways _ e (any_passes is_v may t.of t.among (subst (λ y. pointwise nat_eq v.bytes y.now.bytes ≡ true) t.same f.1))

  show_stands : (o : Option Block) (may : List Block) → Stands K (record { now = o; may = may }) → StandsOr Now (shown_in o v may)
  show_stands None may h = one_stands may h
  show_stands (Some w) may h = known_stands w may h

pub stands_or_same : (K Q : Cell → Type 0) (o : Option KnownSector) → ((c : Cell) → K c → Q c) → ((c : Cell) → Q c → K c) → StandsOr K o → StandsOr Q o
stands_or_same K Q None f g h = λ c q. h c (g c q)
stands_or_same K Q (Some s) f g h = stands_same K Q s f g h

pub gives_stand : (x lba : ℕ) (vs : List Block) (K : Cell → Type 0) (o : Option KnownSector) → StandsOr K o → StandsOr (Only K (GivesAt x lba vs)) (sector_gives x lba vs o)
gives_stand x lba [] K None h = λ c q. h c q.0
gives_stand x lba (v ∷ vs) K None h = λ c q. h c q.0
gives_stand x lba [] K (Some s) h = stands_same K (Only K (GivesAt x lba [])) s (λ c k. (k, tt)) (λ c q. q.0) h
gives_stand x lba (v ∷ vs) K (Some s) h =
    stands_or_same (Only (Only K (λ c. lba ≡ x → c.now ≡ v)) (GivesAt x (lba + 1) vs)) (Only K (GivesAt x lba (v ∷ vs))) (sector_gives x lba (v ∷ vs) (Some s))
    (λ c q. ((q.0).0, ((q.0).1, q.1))) (λ c q. ((q.0, (q.1).0), (q.1).1))
    (gives_stand x (lba + 1) vs (Only K (λ c. lba ≡ x → c.now ≡ v)) (if lba == x then sector_show v s else Some s) first)
  where
    first : StandsOr (Only K (λ c. lba ≡ x → c.now ≡ v)) (if lba == x then sector_show v s else Some s)
    first =
        (elim (lba == x) as (λ b. (lba == x) ≡ b → StandsOr (Only K (λ c. lba ≡ x → c.now ≡ v)) (if b then sector_show v s else Some s)) [
          | true ↦ λ e. stands_or_same (Now v K) (Only K (λ c. lba ≡ x → c.now ≡ v)) (sector_show v s) (λ c q. (q.0, λ r. q.1)) (λ c q. (q.0, q.1 (eqb-true lba x e))) (show_stands v K s.now s.may h)
          | false ↦ λ e. stands_same K (Only K (λ c. lba ≡ x → c.now ≡ v)) s (λ c k. (k, λ r. absurd (eqb-false lba x e r))) (λ c q. q.0) h
        ]) refl
