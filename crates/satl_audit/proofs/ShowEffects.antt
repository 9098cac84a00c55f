-- One block more that a READ shows.
use Rattle.std.proofs.Common.{arith, ◌≡◌, refl, sym, ap, ◌∙◌, subst, ℕ, ◌+◌, ◌-◌, ◌*◌, ◌<◌, Bool, true, false, List, [], ◌∷◌, length, drop}
use Rattle.std.specs.Prelude.{◌==◌, ◌≤◌, if◌then◌else◌, Option, Some, None}
use Rattle.std.proofs.lemmas.Bool.{eqb-true}
use Rattle.satl_base.specs.declared.block.Block.{Block}
use Rattle.satl_frame.specs.DataPages.{page_count, pages_from, pages_of}
use Rattle.satl_audit.proofs.Each.{is_same}
use Rattle.satl_audit.specs.Kept.{Keeping, ShowsAt, known_sector, known_sector_at}
use Rattle.satl_audit.specs.Sectors.{KnownSector, sector_gives, sector_show}
use Rattle.satl_audit.proofs.Comparing.{next_bytes, unfolded}
use Rattle.satl_audit.proofs.PutEffects.{at_set, from_none}

-- what is left to show
abbrev pub left_gives : List ℕ → ℕ → ℕ → List ℕ → ℕ → ℕ → List Keeping → Option KnownSector
left_gives input x lba given i count ks = sector_gives x (lba + i) (pages_from (count - i) (drop (512 * i) given)) (Some (known_sector_at input ks x))

none_gives : (x lba : ℕ) (vs : List Block) → sector_gives x lba vs None ≡ None
none_gives x lba [] = refl
none_gives x lba (v ∷ vs) = refl

gives_one : (input : List ℕ) (x lba : ℕ) (given : List ℕ) (vs : List Block) (ks ms : List Keeping) → lba < length ks → ShowsAt input lba given ks ms true →
    sector_gives x lba (record { bytes = given } ∷ vs) (Some (known_sector_at input ks x)) ≡ sector_gives x (lba + 1) vs (Some (known_sector_at input ms x))
gives_one input x lba given vs ks ms less h = ap (sector_gives x (lba + 1) vs) (one (lba == x) refl)
  where
    one : (b : Bool) → (lba == x) ≡ b → (if b then sector_show (record { bytes = given }) (known_sector_at input ks x) else Some (known_sector_at input ks x)) ≡ Some (known_sector_at input ms x)
    one true e =
        ap (λ n. sector_show (record { bytes = given }) (known_sector_at input ks n)) (sym (eqb-true lba x e))
        ∙ h.2
        ∙ ap (λ (k : Keeping). Some (known_sector input k)) (sym (at_set true ks lba x h.0 less e))
        ∙ ap (λ (l : List Keeping). Some (known_sector_at input l x)) (sym h.1)
    one false e = ap (λ (k : Keeping). Some (known_sector input k)) (sym (at_set false ks lba x h.0 less e)) ∙ ap (λ (l : List Keeping). Some (known_sector_at input l x)) (sym h.1)

pub gives_turn : (input : List ℕ) (x lba : ℕ) (given block : List ℕ) (i count : ℕ) (ks ms : List Keeping) → length given ≡ 512 * count → i < count → lba + i < length ks → block ≡ next_bytes given i → ShowsAt input (lba + i) block ks ms true →
    left_gives input x lba given i count ks ≡ left_gives input x lba given (i + 1) count ms
gives_turn input x lba given block i count ks ms size less within is h =
    let place : (lba + i) + 1 ≡ lba + (i + 1) = omega arith in
    ap (λ vs. sector_gives x (lba + i) vs (Some (known_sector_at input ks x))) (unfolded given i count size less)
    ∙ gives_one input x (lba + i) (next_bytes given i) _ ks ms within (subst (λ b. ShowsAt input (lba + i) b ks ms true) is h)
    ∙ ap (λ n. sector_gives x n (pages_from (count - (i + 1)) (drop (512 * (i + 1)) given)) (Some (known_sector_at input ms x))) place

pub gives_none : (input : List ℕ) (lba : ℕ) (given block : List ℕ) (i count : ℕ) (ks ms : List Keeping) → length given ≡ 512 * count → i < count → block ≡ next_bytes given i → ShowsAt input (lba + i) block ks ms false →
    left_gives input (lba + i) lba given i count ks ≡ None
gives_none input lba given block i count ks ms size less is h =
    ap (λ vs. sector_gives (lba + i) (lba + i) vs (Some (known_sector_at input ks (lba + i)))) (unfolded given i count size less)
    ∙ ap (λ (b : Bool). sector_gives (lba + i) ((lba + i) + 1) later (if b then sector_show (record { bytes = next_bytes given i }) (known_sector_at input ks (lba + i)) else Some (known_sector_at input ks (lba + i)))) (is_same (lba + i))
    ∙ ap (sector_gives (lba + i) ((lba + i) + 1) later) (subst (λ b. ShowsAt input (lba + i) b ks ms false) is h)
    ∙ none_gives (lba + i) ((lba + i) + 1) later
  where
    later : List Block
    later = pages_from (count - (i + 1)) (drop (512 * (i + 1)) given)

pub gives_end : (input : List ℕ) (x lba : ℕ) (given : List ℕ) (i count : ℕ) (ks : List Keeping) → count ≤ i → left_gives input x lba given i count ks ≡ Some (known_sector_at input ks x)
unfolding pages_from
gives_end input x lba given i count ks le = let none : count - i ≡ 0 = omega (arith, le) in ap (λ n. sector_gives x (lba + i) (pages_from n (drop (512 * i) given)) (Some (known_sector_at input ks x))) none

pub gives_begin : (input : List ℕ) (x lba : ℕ) (given : List ℕ) (count : ℕ) (ks : List Keeping) → length given ≡ 512 * count → sector_gives x lba (pages_of given) (Some (known_sector_at input ks x)) ≡ left_gives input x lba given 0 count ks
unfolding pages_of
gives_begin input x lba given count ks size =
    let pages : page_count (length given) ≡ count = omega (arith, size) in
    ap (λ n. sector_gives x lba (pages_from n given) (Some (known_sector_at input ks x))) pages
    ∙ from_none (λ a b n. sector_gives x a (pages_from n (drop b given)) (Some (known_sector_at input ks x))) lba 0 count
    ∙ ap (λ k. sector_gives x (lba + 0) (pages_from (count - 0) (drop k given)) (Some (known_sector_at input ks x))) nowhere
  where
    nowhere : 0 + 512 * 0 ≡ 512 * 0
    nowhere = omega arith
