-- One block more that a pending WRITE may have left.
use Rattle.std.proofs.Common.{arith, ◌≡◌, refl, sym, ap, ◌∙◌, ℕ, suc, ◌+◌, ◌-◌, ◌*◌, ◌<◌, Bool, true, false, List, [], ◌∷◌, ◌++◌, length, map, drop, append_assoc}
use Rattle.std.specs.Prelude.{◌==◌, ◌≤◌, if◌then◌else◌, slice_set}
use Rattle.std.proofs.lemmas.Bool.{eqb-true}
use Rattle.std.proofs.lemmas.List.{append-nil, map-append}
use Rattle.satl_base.specs.declared.block.Block.{Block}
use Rattle.satl_base.specs.Blocks.{blocks_from}
use Rattle.satl_base.specs.Cells.{pairs_from}
use Rattle.satl_audit.specs.declared.content.Content.TheVariants.{Input}
use Rattle.satl_audit.specs.Following.{input_blocks}
use Rattle.satl_audit.specs.Guesses.{blocks_at}
use Rattle.satl_audit.specs.Kept.{Keeping, block_of, kept_at, kept_pending, known_sector_at}
use Rattle.satl_audit.proofs.PutEffects.{at_set, blocks_behind, further, from_none}

-- what is left to pend
abbrev pub left_pends : List ℕ → Bool → ℕ → ℕ → ℕ → ℕ → ℕ → List Keeping → List Block
left_pends input cached x lba at i count ks = (known_sector_at input ks x).may ++ blocks_at x (pairs_from (lba + i) (input_blocks input (at + 512 * i) (count - i)) cached)

pends_one : (input : List ℕ) (cached : Bool) (x lba at n : ℕ) (ks ms : List Keeping) → lba < length ks → ms ≡ slice_set ks lba (kept_pending (Input at) (kept_at ks lba)) →
    (known_sector_at input ks x).may ++ blocks_at x (pairs_from lba (input_blocks input at (suc n)) cached) ≡ (known_sector_at input ms x).may ++ blocks_at x (pairs_from (lba + 1) (input_blocks input (at + 512) n) cached)
pends_one input cached x lba at n ks ms less e =
    one (lba == x) refl ∙ ap (λ bs. (known_sector_at input ms x).may ++ blocks_at x (pairs_from (lba + 1) bs cached)) (blocks_behind input at n)
  where
    later : List Block
    later = blocks_at x (pairs_from (lba + 1) (blocks_from n (drop 512 (drop at input))) cached)

    may_of : Keeping → List Block
    may_of k = map (block_of input) k.may

    one : (b : Bool) → (lba == x) ≡ b → may_of (kept_at ks x) ++ (if b then block_of input (Input at) ∷ later else later) ≡ may_of (kept_at ms x) ++ later
    one true h =
        sym (append_assoc (may_of (kept_at ks x)) (block_of input (Input at) ∷ []) later)
        ∙ ap (λ l. l ++ later)
        (sym (map-append (block_of input) (kept_at ks x).may (Input at ∷ []))
        ∙ ap (λ n. may_of (kept_pending (Input at) (kept_at ks n))) (sym (eqb-true lba x h))
        ∙ ap may_of (sym (at_set true ks lba x (kept_pending (Input at) (kept_at ks lba)) less h))
        ∙ ap (λ (l : List Keeping). may_of (kept_at l x)) (sym e))
    one false h = ap (λ l. l ++ later) (ap may_of (sym (at_set false ks lba x (kept_pending (Input at) (kept_at ks lba)) less h)) ∙ ap (λ (l : List Keeping). may_of (kept_at l x)) (sym e))

pub pends_turn : (input : List ℕ) (cached : Bool) (x lba at i count : ℕ) (ks ms : List Keeping) → i < count → lba + i < length ks → ms ≡ slice_set ks (lba + i) (kept_pending (Input (at + 512 * i)) (kept_at ks (lba + i))) →
    left_pends input cached x lba at i count ks ≡ left_pends input cached x lba at (i + 1) count ms
pends_turn input cached x lba at i count ks ms less within e =
    let size : count - i ≡ suc (count - (i + 1)) = omega (arith, less) in
    ap (λ n. (known_sector_at input ks x).may ++ blocks_at x (pairs_from (lba + i) (input_blocks input (at + 512 * i) n) cached)) size
    ∙ pends_one input cached x (lba + i) (at + 512 * i) (count - (i + 1)) ks ms within e
    ∙ further (λ a b n. (known_sector_at input ms x).may ++ blocks_at x (pairs_from a (input_blocks input b n) cached)) lba at i count

pub pends_begin : (input : List ℕ) (cached : Bool) (x lba at count : ℕ) (ks : List Keeping) → (known_sector_at input ks x).may ++ blocks_at x (pairs_from lba (input_blocks input at count) cached) ≡ left_pends input cached x lba at 0 count ks
pends_begin input cached x lba at count ks =
    from_none (λ a b n. (known_sector_at input ks x).may ++ blocks_at x (pairs_from a (input_blocks input b n) cached)) lba at count

pub pends_end : (input : List ℕ) (cached : Bool) (x lba at i count : ℕ) (ks : List Keeping) → count ≤ i → left_pends input cached x lba at i count ks ≡ (known_sector_at input ks x).may
pends_end input cached x lba at i count ks le =
    let none : count - i ≡ 0 = omega (arith, le) in
    ap (λ n. (known_sector_at input ks x).may ++ blocks_at x (pairs_from (lba + i) (input_blocks input (at + 512 * i) n) cached)) none ∙ append-nil (known_sector_at input ks x).may
