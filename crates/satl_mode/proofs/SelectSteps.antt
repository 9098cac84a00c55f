-- Steps along the bytes of a page, and along the pages that are judged.
use Rattle.std.proofs.Common.{◌≡◌, ℕ, zero, suc, ◌+◌, ◌-◌, ◌<◌, ◌≤◌, true, false, List, Option, Some, None, Ok, Err, refl, sym, ◌∙◌, arith}
use Rattle.std.specs.Prelude.{nat_le}
use Rattle.std.proofs.lemmas.Bool.{le-leb, lt-leb}
use Rattle.satl_base.specs.declared.block.Block.{Block}
use Rattle.satl_base.specs.declared.modes.Modes.{Modes}
use Rattle.satl_cdb.specs.declared.command.Illegal.{Illegal}
use Rattle.satl_cdb.specs.Refusals.{invalid_list_field}
use Rattle.satl_identify.specs.declared.identity.Identity.{Identity}
use Rattle.satl_mode.specs.declared.page.ModePage.{ModePage}
use Rattle.satl_mode.specs.ModePages.{row_of, size_of}
use Rattle.satl_mode.specs.Changes.{page_at}
use Rattle.satl_mode.specs.SelectList.{agrees, difference}
use Rattle.satl_mode.proofs.Nested.{pages_fault}

module _ (i : Identity) (m : Modes) (list : List Block) where
  module _ (page : ModePage) (place end at : ℕ) (total : Option ℕ) where
    abbrev NowAt : Type 0
    NowAt = difference i m list page place at (end - at) ≡ total

    pub goes_on : at < end → agrees i m list page place at ≡ true → NowAt → difference i m list page place (at + 1) (end - (at + 1)) ≡ total
    unfolding difference
    goes_on lt is now =
        let k : end - at ≡ suc (end - (at + 1)) = omega arith in
        let one : difference i m list page place at (end - at) ≡ difference i m list page place (at + 1) (end - (at + 1)) = rw (k, is) refl in
        sym one ∙ now

    pub differs : at < end → agrees i m list page place at ≡ false → NowAt → Some (place + at) ≡ total
    unfolding difference
    differs lt is now =
        let k : end - at ≡ suc (end - (at + 1)) = omega arith in
        let one : difference i m list page place at (end - at) ≡ Some (place + at) = rw (k, is) refl in
        sym one ∙ now

    pub is_done : end ≤ at → NowAt → None ≡ total
    unfolding difference
    is_done le now =
        let k : end - at ≡ 0 = omega arith in
        let one : difference i m list page place at (end - at) ≡ None = rw k refl in
        sym one ∙ now

  module _ (length : ℕ) (total : Option Illegal) where
    -- so many pages may follow, and their first fault is that of all
    pub record Judged (place : ℕ) : Type 0 where
      pub pages : ℕ
      pub enough : length ≤ place + pages
      pub says : pages_fault i m list pages length place ≡ total

    next_by : (n place : ℕ) (page : ModePage) → place < length → page_at list length place ≡ Ok page → difference i m list page place 2 (row_of page).length ≡ None → length ≤ place + n → pages_fault i m list n length place ≡ total → Judged (place + size_of page)
    unfolding pages_fault
    next_by zero place page lt is same e s = absurd (omega (arith, lt, e))
    next_by (suc n) place page lt is same e s =
        let past : nat_le length place ≡ false = lt-leb _ _ lt in
        let one : pages_fault i m list (suc n) length place ≡ pages_fault i m list n length (place + size_of page) = rw (past, is, same) refl in
        record { pages = n; enough = omega (arith, e); says = sym one ∙ s }

    pub next_page : (place : ℕ) (page : ModePage) → place < length → page_at list length place ≡ Ok page → difference i m list page place 2 (row_of page).length ≡ None → Judged place → Judged (place + size_of page)
    next_page place page lt is same left = next_by left.pages place page lt is same left.enough left.says

    no_page_by : (n place : ℕ) (refusal : Illegal) → place < length → page_at list length place ≡ Err refusal → length ≤ place + n → pages_fault i m list n length place ≡ total → total ≡ Some refusal
    unfolding pages_fault
    no_page_by zero place refusal lt is e s = absurd (omega (arith, lt, e))
    no_page_by (suc n) place refusal lt is e s =
        let past : nat_le length place ≡ false = lt-leb _ _ lt in
        let one : pages_fault i m list (suc n) length place ≡ Some refusal = rw (past, is) refl in
        sym s ∙ one

    pub no_page : (place : ℕ) (refusal : Illegal) → place < length → page_at list length place ≡ Err refusal → Judged place → total ≡ Some refusal
    no_page place refusal lt is left = no_page_by left.pages place refusal lt is left.enough left.says

    bad_by : (n place : ℕ) (page : ModePage) (at : ℕ) → place < length → page_at list length place ≡ Ok page → difference i m list page place 2 (row_of page).length ≡ Some at → length ≤ place + n → pages_fault i m list n length place ≡ total → total ≡ Some (invalid_list_field at)
    unfolding pages_fault
    bad_by zero place page at lt is other e s = absurd (omega (arith, lt, e))
    bad_by (suc n) place page at lt is other e s =
        let past : nat_le length place ≡ false = lt-leb _ _ lt in
        let one : pages_fault i m list (suc n) length place ≡ Some (invalid_list_field at) = rw (past, is, other) refl in
        sym s ∙ one

    pub bad_page : (place : ℕ) (page : ModePage) (at : ℕ) → place < length → page_at list length place ≡ Ok page → difference i m list page place 2 (row_of page).length ≡ Some at → Judged place → total ≡ Some (invalid_list_field at)
    bad_page place page at lt is other left = bad_by left.pages place page at lt is other left.enough left.says

    end_by : (n place : ℕ) → length ≤ place → pages_fault i m list n length place ≡ total → total ≡ None
    unfolding pages_fault
    end_by zero place le s = sym s
    end_by (suc n) place le s =
        let past : nat_le length place ≡ true = le-leb _ _ le in
        let one : pages_fault i m list (suc n) length place ≡ None = rw past refl in
        sym s ∙ one

    pub at_end : (place : ℕ) → length ≤ place → Judged place → total ≡ None
    at_end place le left = end_by left.pages place le left.says
