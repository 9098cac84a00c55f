-- Pairs of an address, and what they bring.
use Rattle.std.proofs.Common.{◌≡◌, ⊎_elim, inl, inr, refl, ap, subst, ℕ, true, false, List, [], ◌∷◌}
use Rattle.std.specs.Prelude.{◌==◌, if◌then◌else◌}
use Rattle.std.proofs.lemmas.Bool.{eqb-true, both_ways}
use Rattle.satl_base.specs.declared.block.Block.{Block}
use Rattle.satl_base.specs.Cells.{Pair}
use Rattle.satl_base.specs.Lists.{IsIn}
use Rattle.satl_audit.specs.Guesses.{Guess, blocks_at, shown_of}
use Rattle.satl_audit.proofs.Each.{is_same}

module _ (x : ℕ) where
  -- a pair of the address
  pub record Shown (before : List Block) (pairs : List Pair) (g : Guess) : Type 0 where
    pub pair : Pair
    pub among : IsIn pair pairs
    pub here : pair.lba ≡ x
    pub is : g ≡ record { now = pair.block; may = if pair.cached then before else pair.block ∷ [] }

  -- a block of a pair of the address
  pub record Brought (pairs : List Pair) (w : Block) : Type 0 where
    pub pair : Pair
    pub among : IsIn pair pairs
    pub here : pair.lba ≡ x
    pub is : w ≡ pair.block

  pub blocks_in : (pairs : List Pair) (p : Pair) → IsIn p pairs → p.lba ≡ x → IsIn p.block (blocks_at x pairs)
  blocks_in [] p i e = absurd i
  blocks_in (q ∷ pairs) p i e =
      (elim (q.lba == x) as (λ b. (q.lba == x) ≡ b → IsIn p.block (if b then q.block ∷ blocks_at x pairs else blocks_at x pairs)) [
        | true ↦ λ s. ⊎_elim (λ h. inl (ap (λ k. k.block) h)) (λ r. inr (blocks_in pairs p r e)) i
        | false ↦ λ s. ⊎_elim (λ h. absurd (both_ways _ s (subst (λ k. (k.lba == x) ≡ true) h (subst (λ n. (p.lba == n) ≡ true) e (is_same p.lba))))) (λ r. blocks_in pairs p r e) i
      ]) refl

  pub in_blocks : (pairs : List Pair) (w : Block) → IsIn w (blocks_at x pairs) → Brought pairs w
  in_blocks [] w i = absurd i
  in_blocks (q ∷ pairs) w i =
      (elim (q.lba == x) as (λ b. (q.lba == x) ≡ b → IsIn w (if b then q.block ∷ blocks_at x pairs else blocks_at x pairs) → Brought (q ∷ pairs) w) [
        | true ↦ λ s. ⊎_elim (λ e. record { pair = q; among = inl refl; here = eqb-true q.lba x s; is = e }) (λ r. let t = in_blocks pairs w r in record { pair = t.pair; among = inr t.among; here = t.here; is = t.is })
        | false ↦ λ s r. let t = in_blocks pairs w r in record { pair = t.pair; among = inr t.among; here = t.here; is = t.is }
      ]) refl i

  module _ (before : List Block) where
    abbrev pub guess_of : Pair → Guess
    guess_of p = record { now = p.block; may = if p.cached then before else p.block ∷ [] }

    pub shown_in : (pairs : List Pair) (p : Pair) → IsIn p pairs → p.lba ≡ x → IsIn (guess_of p) (shown_of x before pairs)
    shown_in [] p i e = absurd i
    shown_in (q ∷ pairs) p i e =
        (elim (q.lba == x) as (λ b. (q.lba == x) ≡ b → IsIn (guess_of p) (if b then guess_of q ∷ shown_of x before pairs else shown_of x before pairs)) [
          | true ↦ λ s. ⊎_elim (λ h. inl (ap guess_of h)) (λ r. inr (shown_in pairs p r e)) i
          | false ↦ λ s. ⊎_elim (λ h. absurd (both_ways _ s (subst (λ k. (k.lba == x) ≡ true) h (subst (λ n. (p.lba == n) ≡ true) e (is_same p.lba))))) (λ r. shown_in pairs p r e) i
        ]) refl

    pub in_shown : (pairs : List Pair) (g : Guess) → IsIn g (shown_of x before pairs) → Shown before pairs g
    in_shown [] g i = absurd i
    in_shown (q ∷ pairs) g i =
        (elim (q.lba == x) as (λ b. (q.lba == x) ≡ b → IsIn g (if b then guess_of q ∷ shown_of x before pairs else shown_of x before pairs) → Shown before (q ∷ pairs) g) [
          | true ↦ λ s. ⊎_elim (λ e. record { pair = q; among = inl refl; here = eqb-true q.lba x s; is = e }) (λ r. let t = in_shown pairs g r in record { pair = t.pair; among = inr t.among; here = t.here; is = t.is })
          | false ↦ λ s r. let t = in_shown pairs g r in record { pair = t.pair; among = inr t.among; here = t.here; is = t.is }
        ]) refl i
