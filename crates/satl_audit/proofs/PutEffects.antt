-- One block more that a WRITE puts.
use Rattle.std.proofs.Common.{arith, ◌≡◌, refl, sym, ap, ◌∙◌, ℕ, suc, ◌+◌, ◌-◌, ◌*◌, ◌<◌, Bool, true, false, List, [], ◌∷◌, length, drop}
use Rattle.std.specs.Prelude.{◌==◌, ◌≤◌, if◌then◌else◌, Some, slice_set}
use Rattle.std.proofs.lemmas.Bool.{eqb-true, eqb-false}
use Rattle.std.proofs.lemmas.List.{drop-drop, get_or-set_other, get_or-set_same, map-append}
use Rattle.satl_base.specs.declared.block.Block.{Block}
use Rattle.satl_base.specs.Blocks.{blocks_from}
use Rattle.satl_base.specs.Cells.{pairs_from}
use Rattle.satl_audit.specs.declared.content.Content.{Content}
use Rattle.satl_audit.specs.declared.content.Content.TheVariants.{Input}
use Rattle.satl_audit.specs.Following.{input_blocks}
use Rattle.satl_audit.specs.Kept.{Keeping, block_of, blank_keeping, kept_at, kept_put, known_sector_at, known_sector}
use Rattle.satl_audit.specs.Sectors.{KnownSector, sector_put, sector_puts}

-- the sector at an address once one is changed
pub at_set : (b : Bool) (ks : List Keeping) (lba x : ℕ) (k : Keeping) → lba < length ks → (lba == x) ≡ b → kept_at (slice_set ks lba k) x ≡ (if b then k else kept_at ks x)
at_set true ks lba x k less e = ap (λ n. kept_at (slice_set ks lba k) n) (sym (eqb-true lba x e)) ∙ get_or-set_same ks lba k blank_keeping less
at_set false ks lba x k less e = get_or-set_other ks lba x k blank_keeping (λ h. eqb-false lba x e (sym h))

put_sector : (input : List ℕ) (v : Content) (cached : Bool) (k : Keeping) → known_sector input (kept_put v cached k) ≡ sector_put (block_of input v) cached (known_sector input k)
put_sector input v true k = ap (λ (l : List Block). record { now = Some (block_of input v); may = l }) (map-append (block_of input) k.may (v ∷ []))
put_sector input v false k = refl

-- the blocks behind the first one
pub blocks_behind : (input : List ℕ) (at n : ℕ) → blocks_from n (drop 512 (drop at input)) ≡ input_blocks input (at + 512) n
blocks_behind input at n = ap (blocks_from n) (drop-drop 512 at input ∙ ap (λ k. drop k input) (omega arith))

-- what is left to put
abbrev pub left_puts : List ℕ → Bool → ℕ → ℕ → ℕ → ℕ → ℕ → List Keeping → KnownSector
left_puts input cached x lba at i count ks = sector_puts x (pairs_from (lba + i) (input_blocks input (at + 512 * i) (count - i)) cached) (known_sector_at input ks x)

puts_one : (input : List ℕ) (cached : Bool) (x lba at n : ℕ) (ks ms : List Keeping) → lba < length ks → ms ≡ slice_set ks lba (kept_put (Input at) cached (kept_at ks lba)) →
    sector_puts x (pairs_from lba (input_blocks input at (suc n)) cached) (known_sector_at input ks x) ≡ sector_puts x (pairs_from (lba + 1) (input_blocks input (at + 512) n) cached) (known_sector_at input ms x)
puts_one input cached x lba at n ks ms less e =
    ap (sector_puts x (pairs_from (lba + 1) (blocks_from n (drop 512 (drop at input))) cached)) (one (lba == x) refl)
    ∙ ap (λ bs. sector_puts x (pairs_from (lba + 1) bs cached) (known_sector_at input ms x)) (blocks_behind input at n)
  where
    one : (b : Bool) → (lba == x) ≡ b → (if b then sector_put (block_of input (Input at)) cached (known_sector_at input ks x) else known_sector_at input ks x) ≡ known_sector_at input ms x
    one true h =
        ap (λ n. sector_put (block_of input (Input at)) cached (known_sector_at input ks n)) (sym (eqb-true lba x h))
        ∙ sym (put_sector input (Input at) cached (kept_at ks lba))
        ∙ ap (known_sector input) (sym (at_set true ks lba x (kept_put (Input at) cached (kept_at ks lba)) less h))
        ∙ ap (λ (l : List Keeping). known_sector_at input l x) (sym e)
    one false h = ap (known_sector input) (sym (at_set false ks lba x (kept_put (Input at) cached (kept_at ks lba)) less h)) ∙ ap (λ (l : List Keeping). known_sector_at input l x) (sym e)

-- places further on
pub further : {X : Type 0} (f : ℕ → ℕ → ℕ → X) (lba at i count : ℕ) → f ((lba + i) + 1) ((at + 512 * i) + 512) (count - (i + 1)) ≡ f (lba + (i + 1)) (at + 512 * (i + 1)) (count - (i + 1))
further f lba at i count = ap (λ n. f n ((at + 512 * i) + 512) (count - (i + 1))) (omega arith) ∙ ap (λ n. f (lba + (i + 1)) n (count - (i + 1))) (omega arith)

pub from_none : {X : Type 0} (f : ℕ → ℕ → ℕ → X) (lba at count : ℕ) → f lba at count ≡ f (lba + 0) (at + 512 * 0) (count - 0)
from_none f lba at count =
    let first : lba ≡ lba + 0 = omega arith in
    let place : at ≡ at + 512 * 0 = omega arith in
    let size : count ≡ count - 0 = omega arith in
    ap (λ n. f n at count) first ∙ ap (λ n. f (lba + 0) n count) place ∙ ap (λ n. f (lba + 0) (at + 512 * 0) n) size

pub puts_turn : (input : List ℕ) (cached : Bool) (x lba at i count : ℕ) (ks ms : List Keeping) → i < count → lba + i < length ks → ms ≡ slice_set ks (lba + i) (kept_put (Input (at + 512 * i)) cached (kept_at ks (lba + i))) →
    left_puts input cached x lba at i count ks ≡ left_puts input cached x lba at (i + 1) count ms
puts_turn input cached x lba at i count ks ms less within e =
    let size : count - i ≡ suc (count - (i + 1)) = omega (arith, less) in
    ap (λ n. sector_puts x (pairs_from (lba + i) (input_blocks input (at + 512 * i) n) cached) (known_sector_at input ks x)) size
    ∙ puts_one input cached x (lba + i) (at + 512 * i) (count - (i + 1)) ks ms within e
    ∙ further (λ a b n. sector_puts x (pairs_from a (input_blocks input b n) cached) (known_sector_at input ms x)) lba at i count

pub puts_begin : (input : List ℕ) (cached : Bool) (x lba at count : ℕ) (ks : List Keeping) → sector_puts x (pairs_from lba (input_blocks input at count) cached) (known_sector_at input ks x) ≡ left_puts input cached x lba at 0 count ks
puts_begin input cached x lba at count ks =
    from_none (λ a b n. sector_puts x (pairs_from a (input_blocks input b n) cached) (known_sector_at input ks x)) lba at count

pub puts_end : (input : List ℕ) (cached : Bool) (x lba at i count : ℕ) (ks : List Keeping) → count ≤ i → left_puts input cached x lba at i count ks ≡ known_sector_at input ks x
puts_end input cached x lba at i count ks le = let none : count - i ≡ 0 = omega (arith, le) in ap (λ n. sector_puts x (pairs_from (lba + i) (input_blocks input (at + 512 * i) n) cached) (known_sector_at input ks x)) none
