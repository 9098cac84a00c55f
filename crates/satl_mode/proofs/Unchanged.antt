-- What a drive can't change, no accepted list changes.
use Rattle.std.proofs.Common.{◌≡◌, ℕ, zero, suc, ◌+◌, ◌-◌, ◌/◌, ◌%◌, ◌^◌, ◌<◌, Bool, true, false, cond, eqb, List, Option, Some, None, Result, Ok, Err, refl, sym, subst, ◌∙◌, arith}
use Rattle.std.specs.Prelude.{◌==◌, nat_le, nat_lt, bit_and, unwrap_or, IfOk, if◌then◌else◌}
use Rattle.std.proofs.lemmas.Bool.{eqb-true, eq-eqb, ne_eqb, leb-true, lt-ltb}
use Rattle.std.proofs.lemmas.Grind.{and_numeral}
use Rattle.satl_base.specs.declared.block.Block.{Block}
use Rattle.satl_base.specs.declared.modes.Modes.{Modes}
use Rattle.satl_base.specs.declared.modes.ModeChange.{ModeChange}
use Rattle.satl_cdb.specs.declared.command.Illegal.{Illegal}
use Rattle.satl_cdb.specs.Refusals.{list_length_error, invalid_list_field}
use Rattle.satl_identify.specs.declared.identity.Identity.{Identity}
use Rattle.satl_mode.specs.declared.page.ModePage.{ModePage}
use Rattle.satl_mode.specs.declared.page.ModePage.TheVariants.{ErrorRecovery, Caching, Control, InformationalExceptions}
use Rattle.satl_mode.specs.ModePages.{row_of, size_of}
use Rattle.satl_mode.specs.Changes.{AreModesOf, IsChangeOf, KeepsFixed, applied, change_from, change_in, first_page, header_size, no_change, page_at, with_page}
use Rattle.satl_mode.specs.SelectList.{agrees, select_fault, select_says, unless_fault, difference}
use Rattle.satl_mode.proofs.Nested.{first_fault, front_fault, pages_fault, nested_fault}
use Rattle.satl_mode.proofs.RuleLemmas.{rules_say}

-- a byte that agrees in every bit has the bit of the current page
wce_bit : (cache wce : Bool) (b : ℕ) → cache ≡ false → (bit_and b (255 - (if cache then 0x04 else 0)) == bit_and (if wce then 0x04 else 0) (255 - (if cache then 0x04 else 0))) ≡ true → (b / 2 ^ 2 % 2 ^ 1 == 1) ≡ wce
wce_bit true wce b none same = absurd cc
wce_bit false true b none same =
    let e : b % 256 ≡ 4 = sym (and_numeral b 254 refl) ∙ eqb-true _ _ same in
    eq-eqb _ _ (omega (arith, e))
wce_bit false false b none same =
    let e : b % 256 ≡ 0 = sym (and_numeral b 254 refl) ∙ eqb-true _ _ same in
    let z : b / 2 ^ 2 % 2 ^ 1 ≡ 0 = omega (arith, e) in
    rw z refl

dra_bit : (look dra : Bool) (b : ℕ) → look ≡ false → (bit_and b (255 - (if look then 0x20 else 0)) == bit_and (if dra then 0x20 else 0) (255 - (if look then 0x20 else 0))) ≡ true → (b / 2 ^ 5 % 2 ^ 1 == 1) ≡ dra
dra_bit true dra b none same = absurd cc
dra_bit false true b none same =
    let e : b % 256 ≡ 32 = sym (and_numeral b 254 refl) ∙ eqb-true _ _ same in
    eq-eqb _ _ (omega (arith, e))
dra_bit false false b none same =
    let e : b % 256 ≡ 0 = sym (and_numeral b 254 refl) ∙ eqb-true _ _ same in
    let z : b / 2 ^ 5 % 2 ^ 1 ≡ 0 = omega (arith, e) in
    rw z refl

-- a change to other values than these: of what the drive can't change
pub record Keeps (i : Identity) (m : Modes) (change : ModeChange) : Type 0 where
  pub cache : i.cache ≡ false → unwrap_or change.wce m.wce ≡ m.wce
  pub look : i.look ≡ false → unwrap_or change.dra m.dra ≡ m.dra

module _ (i : Identity) (m : Modes) (list : List Block) where
  at_k : (page : ModePage) (place at n : ℕ) → agrees i m list page place at ≡ true → ((k : ℕ) → k < n → agrees i m list page place ((at + 1) + k) ≡ true) → (k : ℕ) → k < suc n → agrees i m list page place (at + k) ≡ true
  at_k page place at n is rest zero lt = let e : at ≡ at + 0 = omega arith in subst (λ x. agrees i m list page place x ≡ true) e is
  at_k page place at n is rest (suc k) lt = let e : (at + 1) + k ≡ at + suc k = omega arith in subst (λ x. agrees i m list page place x ≡ true) e (rest k (omega (arith, lt)))

  -- where no byte differs, each agrees
  agreed : (n : ℕ) (page : ModePage) (place at : ℕ) → difference i m list page place at n ≡ None → (k : ℕ) → k < n → agrees i m list page place (at + k) ≡ true
  unfolding difference
  agreed zero page place at none k lt = absurd (omega (arith, lt))
  agreed (suc n) page place at none k lt =
      (elim (agrees i m list page place at) as (λ b. agrees i m list page place at ≡ b → cond b (difference i m list page place (at + 1) n) (Some (place + at)) ≡ None → agrees i m list page place (at + k) ≡ true) [
        | true ↦ λ is rest. at_k page place at n is (agreed n page place (at + 1) rest) k lt
        | false ↦ λ is rest. absurd cc
      ]) refl none

  keeps_page : (page : ModePage) (place : ℕ) (change : ModeChange) → difference i m list page place 2 (row_of page).length ≡ None → Keeps i m change → Keeps i m (with_page page list place change)
  keeps_page ErrorRecovery place change none keeps = keeps
  keeps_page Caching place change none keeps = record {
    cache = λ c. wce_bit i.cache m.wce _ c (agreed 18 Caching place 2 none 0 (omega arith));
    look = λ c. dra_bit i.look m.dra _ c (agreed 18 Caching place 2 none 10 (omega arith));
  }
  keeps_page Control place change none keeps = record { cache = keeps.cache; look = keeps.look }
  keeps_page InformationalExceptions place change none keeps = keeps

  -- the pages from a place on keep what they must where none of them is at fault
  abbrev KeepsFrom : ℕ → ℕ → Type 0
  KeepsFrom n length = (place : ℕ) (change : ModeChange) → pages_fault i m list n length place ≡ None → Keeps i m change → Keeps i m (change_from n list length place change)

  keeps_past : (n length place : ℕ) (change : ModeChange) → nat_le length place ≡ true → Keeps i m change → Keeps i m (change_from (suc n) list length place change)
  unfolding change_from
  keeps_past n length place change past keeps =
      let short : nat_lt length (place + 2) ≡ true = lt-ltb _ _ (omega (arith, leb-true length place past)) in
      let none : page_at list length place ≡ Err list_length_error = rw short refl in
      let one : change_from (suc n) list length place change ≡ change = rw (change_from, none) refl in
      subst (Keeps i m) (sym one) keeps

  keeps_next : (n length place : ℕ) (change : ModeChange) (page : ModePage) (d : Option ℕ) → nat_le length place ≡ false → page_at list length place ≡ Ok page → difference i m list page place 2 (row_of page).length ≡ d → pages_fault i m list (suc n) length place ≡ None → KeepsFrom n length → Keeps i m change → Keeps i m (change_from (suc n) list length place change)
  unfolding change_from pages_fault
  keeps_next n length place change page (Some at) past is same none next keeps =
      let one : pages_fault i m list (suc n) length place ≡ Some (invalid_list_field at) = rw (past, is, same) refl in
      absurd cc
  keeps_next n length place change page None past is same none next keeps =
      let one : pages_fault i m list (suc n) length place ≡ pages_fault i m list n length (place + size_of page) = rw (past, is, same) refl in
      let two : change_from (suc n) list length place change ≡ change_from n list length (place + size_of page) (with_page page list place change) = rw (change_from, is) refl in
      subst (Keeps i m) (sym two) (next (place + size_of page) (with_page page list place change) (sym one ∙ none) (keeps_page page place change same keeps))

  keeps_by : (n length place : ℕ) (change : ModeChange) (r : Result ModePage Illegal) → nat_le length place ≡ false → page_at list length place ≡ r → pages_fault i m list (suc n) length place ≡ None → KeepsFrom n length → Keeps i m change → Keeps i m (change_from (suc n) list length place change)
  unfolding pages_fault
  keeps_by n length place change (Ok page) past is none next keeps = keeps_next n length place change page (difference i m list page place 2 (row_of page).length) past is refl none next keeps
  keeps_by n length place change (Err refusal) past is none next keeps =
      let one : pages_fault i m list (suc n) length place ≡ Some refusal = rw (past, is) refl in
      absurd cc

  keeps_from : (n length : ℕ) → KeepsFrom n length
  unfolding change_from
  keeps_from zero length place change none keeps = keeps
  keeps_from (suc n) length place change none keeps =
      (elim (nat_le length place) as (λ b. nat_le length place ≡ b → Keeps i m (change_from (suc n) list length place change)) [
        | true ↦ λ past. keeps_past n length place change past keeps
        | false ↦ λ past. keeps_by n length place change (page_at list length place) past refl none (keeps_from n length) keeps
      ]) refl

  keeps_none : Keeps i m no_change
  keeps_none = record { cache = λ c. refl; look = λ c. refl }

  -- the second of two faults is none where none of them is
  no_later : (front later : Option Illegal) → first_fault front later ≡ None → later ≡ None
  no_later None later none = none
  no_later (Some fault) later none = absurd cc

  keeps_in : (length : ℕ) (ten : Bool) → nested_fault i m list length ten ≡ None → Keeps i m (change_in list length ten)
  keeps_in zero ten none = elim ten as (λ t. Keeps i m (change_in list zero t)) [ true ↦ keeps_none | false ↦ keeps_none ]
  keeps_in (suc n) ten none =
      let some : eqb (suc n) 0 ≡ false = ne_eqb (suc n) 0 (λ e. absurd (omega (arith, e))) in
      let both : nested_fault i m list (suc n) ten ≡ first_fault (front_fault i.capacity list (suc n) ten) (pages_fault i m list (suc n) (suc n) (first_page ten list)) = rw some refl in
      let pages = no_later (front_fault i.capacity list (suc n) ten) (pages_fault i m list (suc n) (suc n) (first_page ten list)) (sym both ∙ none) in
      elim (nat_lt (suc n) (header_size ten)) as (λ b. Keeps i m (if b then no_change else change_from (suc n) list (suc n) (first_page ten list) no_change)) [
        | true ↦ keeps_none
        | false ↦ keeps_from (suc n) (suc n) (first_page ten list) no_change pages keeps_none
      ]

  -- what an accepted list says
  pub record Accepts (length : ℕ) (ten : Bool) (new : Modes) : Type 0 where
    pub applied : new ≡ applied m (change_in list length ten)
    pub keeps : Keeps i m (change_in list length ten)

  accepts_by : (length : ℕ) (ten : Bool) (new : Modes) (fault : Option Illegal) → select_fault i m list length ten ≡ fault → unless_fault fault (applied m (change_in list length ten)) ≡ Ok new → Accepts length ten new
  accepts_by length ten new None is says = record { applied = let e : applied m (change_in list length ten) ≡ new = cc in sym e; keeps = keeps_in length ten (sym (rules_say i m list length ten) ∙ is) }
  accepts_by length ten new (Some fault) is says = absurd cc

  accepts : (length : ℕ) (ten : Bool) (r : Result Modes Illegal) → r ≡ select_says i m list length ten → IfOk r (λ new. Accepts length ten new)
  unfolding select_says
  accepts length ten (Ok new) says = accepts_by length ten new (select_fault i m list length ten) refl (sym says)
  accepts length ten (Err refusal) says = tt

  in_ok : (P Q : Modes → Type 0) (r : Result Modes Illegal) → ((new : Modes) → P new → Q new) → IfOk r P → IfOk r Q
  in_ok P Q (Ok new) f p = f new p
  in_ok P Q (Err refusal) f p = p

  fixed_by : (new : Modes) (change : ModeChange) → new ≡ applied m change → Keeps i m change → KeepsFixed i m new
  fixed_by new change is keeps = record { cache = λ c. rw is (keeps.cache c); look = λ c. rw is (keeps.look c) }

  change_of : (change : ModeChange) → AreModesOf i m → Keeps i m change → IsChangeOf i change
  change_of change modes keeps = record {
    cache = λ c. subst (λ b. unwrap_or change.wce b ≡ b) (modes.cache c) (keeps.cache c);
    look = λ c. subst (λ b. unwrap_or change.dra b ≡ b) (modes.look c) (keeps.look c);
  }

  module _ (length : ℕ) (ten : Bool) (r : Result Modes Illegal) (says : r ≡ select_says i m list length ten) where
    pub ok_applied : IfOk r (λ new. new ≡ applied m (change_in list length ten))
    ok_applied = in_ok (Accepts length ten) _ r (λ new a. a.applied) (accepts length ten r says)

    pub ok_fixed : IfOk r (λ new. KeepsFixed i m new)
    ok_fixed = in_ok (Accepts length ten) _ r (λ new a. fixed_by new (change_in list length ten) a.applied a.keeps) (accepts length ten r says)

    pub ok_change : AreModesOf i m → IfOk r (λ new. IsChangeOf i (change_in list length ten))
    ok_change modes = in_ok (Accepts length ten) _ r (λ new a. change_of (change_in list length ten) modes a.keeps) (accepts length ten r says)

pub applied_of : (i : Identity) (m : Modes) (change : ModeChange) → AreModesOf i m → IsChangeOf i change → AreModesOf i (applied m change)
applied_of i m change modes is = record {
  cache = λ c. subst (λ b. unwrap_or change.wce b ≡ false) (sym (modes.cache c)) (is.cache c);
  look = λ c. subst (λ b. unwrap_or change.dra b ≡ true) (sym (modes.look c)) (is.look c);
}
