-- Pairs of a transfer, and whether one is at an address.
use Rattle.std.proofs.Common.{arith, ◌≡◌, ◌⊎◌, ⊎_elim, inl, inr, refl, sym, ap, ◌∙◌, subst, ℕ, ◌+◌, Bool, true, false, List, [], ◌∷◌, length}
use Rattle.std.specs.Prelude.{◌≤◌, ◌<◌, ◌==◌, if◌then◌else◌}
use Rattle.std.proofs.lemmas.Bool.{eqb-true, ne_eqb}
use Rattle.satl_base.specs.declared.block.Block.{Block}
use Rattle.satl_base.specs.Cells.{Cell, Pair, pairs_from, put}
use Rattle.satl_base.specs.Lists.{IsIn}
use Rattle.satl_audit.specs.Deeds.{put_at_one}
use Rattle.satl_audit.proofs.Each.{is_same}

-- ---- pairs in a row

-- their addresses
pub from_within : (lba : ℕ) (vs : List Block) (cached : Bool) (p : Pair) → IsIn p (pairs_from lba vs cached) → (lba ≤ p.lba) × (p.lba < lba + length vs)
from_within lba [] cached p i = absurd i
from_within lba (v ∷ vs) cached p i =
    ⊎_elim
    (λ e. let same : p.lba ≡ lba = ap (λ q. q.lba) e in (omega (arith, same), omega (arith, same)))
    (λ r. let w = from_within (lba + 1) vs cached p r in (omega (arith, w.0), omega (arith, w.1)))
    i

-- none of two is at the same address
pub from_one : (lba : ℕ) (vs : List Block) (cached : Bool) (p q : Pair) → IsIn p (pairs_from lba vs cached) → IsIn q (pairs_from lba vs cached) → p.lba ≡ q.lba → p ≡ q
from_one lba [] cached p q i j e = absurd i
from_one lba (v ∷ vs) cached p q i j e =
    ⊎_elim
    (λ a. ⊎_elim (λ b. a ∙ sym b) (λ k. let w = from_within (lba + 1) vs cached q k in let same : p.lba ≡ lba = ap (λ r. r.lba) a in absurd (omega (arith, w.0, same, e))) j)
    (λ l. ⊎_elim (λ b. let w = from_within (lba + 1) vs cached p l in let same : q.lba ≡ lba = ap (λ r. r.lba) b in absurd (omega (arith, w.0, same, e))) (λ k. from_one (lba + 1) vs cached p q l k e) j)
    i

-- what they put at an address
pub from_put : (lba : ℕ) (vs : List Block) (cached : Bool) (p : Pair) (c : Cell) → IsIn p (pairs_from lba vs cached) → put_at_one p.lba (pairs_from lba vs cached) c ≡ put c p.block p.cached
from_put lba [] cached p c i = absurd i
from_put lba (v ∷ vs) cached p c i =
    ⊎_elim
    (λ e. let same : p.lba ≡ lba = ap (λ q. q.lba) e in
    ap (λ b. put_at_one p.lba (pairs_from (lba + 1) vs cached) (if b then put c v cached else c)) (subst (λ n. (lba == n) ≡ true) (sym same) (is_same lba))
    ∙ from_past (lba + 1) vs cached p.lba (put c v cached) (λ w. absurd (omega (arith, w.0, same)))
    ∙ ap (λ (q : Pair). put c q.block q.cached) (sym e))
    (λ r. let w = from_within (lba + 1) vs cached p r in
    ap (λ b. put_at_one p.lba (pairs_from (lba + 1) vs cached) (if b then put c v cached else c)) (ne_eqb lba p.lba (λ e. absurd (omega (arith, e, w.0))))
    ∙ from_put (lba + 1) vs cached p c r)
    i
  where
    from_past : (lba : ℕ) (vs : List Block) (cached : Bool) (x : ℕ) (c : Cell) → ((lba ≤ x) × (x < lba + length vs) → ⊥) → put_at_one x (pairs_from lba vs cached) c ≡ c
    from_past lba [] cached x c out = refl
    from_past lba (v ∷ vs) cached x c out =
        ap (λ b. put_at_one x (pairs_from (lba + 1) vs cached) (if b then put c v cached else c)) (ne_eqb lba x (λ e. out (omega (arith, e), omega (arith, e))))
        ∙ from_past (lba + 1) vs cached x c (λ w. out (omega (arith, w.0), omega (arith, w.1)))

-- whether some pair is at an address
pub record At (x : ℕ) (ps : List Pair) : Type 0 where
  pub pair : Pair
  pub among : IsIn pair ps
  pub here : pair.lba ≡ x

pub record NoneAt (x : ℕ) (ps : List Pair) : Type 0 where
  pub apart : (p : Pair) → IsIn p ps → p.lba ≡ x → ⊥
  pub stays : (c : Cell) → put_at_one x ps c ≡ c

pub none_at : (x : ℕ) (ps : List Pair) → At x ps ⊎ NoneAt x ps
none_at x [] = inr (record { apart = λ p i e. i; stays = λ c. refl })
none_at x (p ∷ ps) =
    (elim (p.lba == x) as (λ b. (p.lba == x) ≡ b → At x (p ∷ ps) ⊎ NoneAt x (p ∷ ps)) [
      | true ↦ λ e. inl (record { pair = p; among = inl refl; here = eqb-true p.lba x e })
      | false ↦ λ e.
          ⊎_elim (λ a. inl (record { pair = a.pair; among = inr a.among; here = a.here }))
          (λ n. inr (record {
            apart = λ q i h. ⊎_elim (λ s. not_at p x (subst (λ r. r.lba ≡ x) s h) e) (λ r. n.apart q r h) i;
            stays = λ c. ap (λ b. put_at_one x ps (if b then put c p.block p.cached else c)) e ∙ n.stays c;
          }))
          (none_at x ps)
    ]) refl
  where
    not_at : (p : Pair) (x : ℕ) → p.lba ≡ x → (p.lba == x) ≡ false → ⊥
    not_at p x h e = let t : (p.lba == x) ≡ true = subst (λ n. (p.lba == n) ≡ true) h (is_same p.lba) in cc
