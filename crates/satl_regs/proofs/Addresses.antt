-- The used entries of ranges have the addresses of the ranges.
use Rattle.std.proofs.Common.{◌≡◌, ℕ, zero, suc, ◌+◌, List, [], ◌∷◌, ◌++◌, true, false, cond, refl, sym, ap, ◌∙◌, arith, append_assoc, eqb}
use Rattle.std.specs.Prelude.{not}
use Rattle.std.proofs.lemmas.Bool.{eqb-true}
use Rattle.std.specs.List.{filter, range_with_len}
use Rattle.std.proofs.lemmas.List.{append-nil}
use Rattle.satl_base.specs.declared.block.Range.{Range}
use Rattle.satl_regs.specs.Trim.{split, entries, addresses}
use Rattle.satl_base.specs.Blocks.{is_used}

-- a run of addresses in two parts
range_with_len-add : (m n lba : ℕ) → range_with_len lba (m + n) ≡ range_with_len lba m ++ range_with_len (lba + m) n
range_with_len-add zero n lba = let z : 0 + n ≡ n = omega arith in let a : lba + 0 ≡ lba = omega arith in rw (z, a) refl
range_with_len-add (suc m) n lba =
    let s : suc m + n ≡ suc (m + n) = omega arith in
    let a : lba + 1 + m ≡ lba + suc m = omega arith in
    rw s (ap (λ (xs : List ℕ). lba ∷ xs) (range_with_len-add m n (lba + 1) ∙ ap (λ (k : ℕ). range_with_len (lba + 1) m ++ range_with_len k n) a))

range_with_len-zero : (lba count : ℕ) → count ≡ 0 → range_with_len lba count ≡ []
range_with_len-zero lba count e = rw e refl

pub addresses-append : (xs ys : List Range) → addresses (xs ++ ys) ≡ addresses xs ++ addresses ys
addresses-append [] ys = refl
addresses-append (x ∷ xs) ys =
    ap (λ (xs : List ℕ). range_with_len x.lba x.count ++ xs) (addresses-append xs ys)
    ∙ sym (append_assoc (range_with_len x.lba x.count) (addresses xs) (addresses ys))

-- two entries in a row, of counts that are left open: a long list of addresses is not to be written out
two : (m n : ℕ) (r : Range) → r.count ≡ m + n → range_with_len r.lba m ++ (range_with_len (r.lba + m) n ++ []) ≡ range_with_len r.lba r.count
two m n r is = rw (append-nil, is) (sym (range_with_len-add m n r.lba))

addresses-split : (r : Range) → addresses (split r) ≡ range_with_len r.lba r.count
addresses-split r =
    (elim (eqb r.count 65536) as (λ b. eqb r.count 65536 ≡ b → addresses (cond b (record { lba = r.lba; count = 65535 } ∷ record { lba = r.lba + 65535; count = 1 } ∷ []) (r ∷ [])) ≡ range_with_len r.lba r.count) [
      | true ↦ λ e. two 65535 1 r (eqb-true _ _ e)
      | false ↦ λ e. simp append-nil
    ]) refl

-- entries without blocks have no address
addresses-filter : (rs : List Range) → addresses (filter is_used rs) ≡ addresses rs
addresses-filter [] = refl
addresses-filter (r ∷ rs) =
    (elim (eqb r.count 0) as (λ b. eqb r.count 0 ≡ b → addresses (cond (not b) (r ∷ filter is_used rs) (filter is_used rs)) ≡ addresses (r ∷ rs)) [
      | true ↦ λ e. rw (range_with_len-zero r.lba r.count (eqb-true _ _ e)) (addresses-filter rs)
      | false ↦ λ e. ap (λ (xs : List ℕ). range_with_len r.lba r.count ++ xs) (addresses-filter rs)
    ]) refl

entries_keep : (rs : List Range) → addresses (entries rs) ≡ addresses rs
entries_keep [] = refl
entries_keep (r ∷ rs) =
    addresses-append (split r) (entries rs)
    ∙ ap (λ (xs : List ℕ). xs ++ addresses (entries rs)) (addresses-split r)
    ∙ ap (λ (xs : List ℕ). range_with_len r.lba r.count ++ xs) (entries_keep rs)

pub addresses-entries : (rs : List Range) → addresses (filter is_used (entries rs)) ≡ addresses rs
addresses-entries rs = addresses-filter (entries rs) ∙ entries_keep rs
