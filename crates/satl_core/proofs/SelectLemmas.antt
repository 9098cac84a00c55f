-- What a MODE SELECT list says depends on its own bytes alone, so not on the pages behind them.
use Rattle.std.proofs.Common.{◌≡◌, refl, ap, sym, subst, ◌∙◌, arith, cond, ℕ, zero, suc, ◌+◌, ◌*◌, ◌/◌, ◌%◌, ◌^◌, ◌<◌, ◌≤◌, Bool, true, false, List, [], ◌∷◌, length, take, Some, None}
use Rattle.std.specs.Prelude.{Option, Result, Ok, Err, not, nat_lt, nat_le, ◌==◌, slice_index}
use Rattle.std.specs.Option.{option_map}
use Rattle.std.specs.Result.{result_err}
use Rattle.std.specs.List.{AllByRecursion}
use Rattle.std.proofs.lemmas.Bool.{ltb-false}
use Rattle.std.proofs.lemmas.List.{get_or-take}
use Rattle.satl_base.specs.declared.block.Block.{Block}
use Rattle.satl_base.specs.declared.modes.Modes.{Modes}
use Rattle.satl_base.specs.declared.modes.ModeChange.{ModeChange}
use Rattle.satl_base.specs.Blocks.{byte_at, no_block}
use Rattle.satl_base.specs.Fields.{bits_of}
use Rattle.satl_base.proofs.PlacesLemmas.{places-below}
use Rattle.satl_cdb.specs.declared.command.Illegal.{Illegal}
use Rattle.satl_cdb.specs.Refusals.{invalid_list_field, list_length_error}
use Rattle.satl_cdb.specs.Unmap.{number_at}
use Rattle.satl_identify.specs.declared.identity.Identity.{Identity}
use Rattle.satl_mode.specs.declared.descriptor.Descriptor.{Descriptor}
use Rattle.satl_mode.specs.declared.descriptor.Descriptor.TheVariants.{Absent, Short, Long}
use Rattle.satl_mode.specs.declared.page.ModePage.{ModePage}
use Rattle.satl_mode.specs.declared.page.ModePage.TheVariants.{ErrorRecovery, Caching, Control, InformationalExceptions}
use Rattle.satl_mode.specs.ModePages.{page_coded, row_of, size_of}
use Rattle.satl_mode.specs.Descriptors.{BlockField, block_fields, descriptor_size}
use Rattle.satl_mode.specs.Changes.{change_from, change_in, descriptor_length, first_page, header_size, no_change, on_page, page_at, whole_page, with_page, applied}
use Rattle.satl_mode.specs.SelectList.{descriptor_sized, has_long_lba, select_fault, select_says, unless_fault, difference}
use Rattle.satl_mode.proofs.Nested.{bits_fault, descriptor_fault, fields_fault, first_fault, pages_fault, nested_fault}
use Rattle.satl_mode.proofs.RuleLemmas.{rules_say}

-- two lists have the same first bytes
abbrev pub Agree : ℕ → List Block → List Block → Type 0
Agree n a b = (p : ℕ) → p < n → byte_at a p ≡ byte_at b p

pub taken_agrees : (n count : ℕ) (blocks : List Block) → n ≤ 512 * count → Agree n (take count blocks) blocks
taken_agrees n count blocks room p below = ap (λ (b : Block). slice_index b.bytes (p % 512)) (get_or-take count blocks (p / 512) no_block (omega (arith, room, below)))

pub number_same : (place n limit : ℕ) (a b : List Block) → Agree limit a b → place + n ≤ limit → number_at place n a ≡ number_at place n b
number_same place n limit a b agree room = rw (places-below n place (byte_at a) (byte_at b) (λ p below. agree p (omega (arith, below, room)))) refl

-- ---- before the pages

fields_same : (fs : List BlockField) (place limit : ℕ) (a b : List Block) → Agree limit a b → AllByRecursion (λ (f : BlockField). place + f.place + f.width ≤ limit) fs → fields_fault fs a place ≡ fields_fault fs b place
fields_same [] place limit a b agree all = refl
fields_same (f ∷ fs) place limit a b agree all = rw (number_same (place + f.place) f.width limit a b agree all.0, fields_same fs place limit a b agree all.1) refl

fields_fit : (d : Descriptor) (capacity place limit : ℕ) → place + descriptor_size d ≤ limit → AllByRecursion (λ (f : BlockField). place + f.place + f.width ≤ limit) (block_fields d capacity)
fields_fit Absent capacity place limit room = tt
fields_fit Short capacity place limit room = (omega (arith, room), (omega (arith, room), tt))
fields_fit Long capacity place limit room = (omega (arith, room), (omega (arith, room), tt))

descriptor_same : (d : Option Descriptor) (capacity length : ℕ) (ten : Bool) (a b : List Block) → Agree length a b → descriptor_fault d capacity a length ten ≡ descriptor_fault d capacity b length ten
descriptor_same None capacity length ten a b agree = refl
descriptor_same (Some d) capacity length ten a b agree =
    (elim (nat_lt length (header_size ten + descriptor_size d)) as (λ t. nat_lt length (header_size ten + descriptor_size d) ≡ t → cond t (Some list_length_error) (fields_fault (block_fields d capacity) a (header_size ten)) ≡ cond t (Some list_length_error) (fields_fault (block_fields d capacity) b (header_size ten))) [
      | true ↦ λ is. refl
      | false ↦ λ is. fields_same (block_fields d capacity) (header_size ten) length a b agree (fields_fit d capacity (header_size ten) length (ltb-false length (header_size ten + descriptor_size d) is))
    ]) refl

length_same : (ten : Bool) (length : ℕ) (a b : List Block) → Agree length a b → header_size ten ≤ length → descriptor_length ten a ≡ descriptor_length ten b
length_same true length a b agree room = number_same 6 2 length a b agree room
length_same false length a b agree room = agree 3 room

long_same : (ten : Bool) (length : ℕ) (a b : List Block) → Agree length a b → header_size ten ≤ length → has_long_lba ten a ≡ has_long_lba ten b
long_same true length a b agree room = ap (λ n. n / 2 ^ 0 % 2 == 1) (agree 4 (omega (arith, room)))
long_same false length a b agree room = refl

-- ---- the pages

whole_same : (o : Option ModePage) (length place : ℕ) (a b : List Block) → byte_at a (place + 1) ≡ byte_at b (place + 1) → whole_page o a length place ≡ whole_page o b length place
whole_same None length place a b same = refl
whole_same (Some page) length place a b same =
    ap (λ n. cond (not (n == (row_of page).length)) (Err (invalid_list_field (place + 1))) (cond (nat_lt length (place + size_of page)) (Err list_length_error) (Ok page))) same

page_same : (length place : ℕ) (a b : List Block) → Agree length a b → page_at a length place ≡ page_at b length place
page_same length place a b agree =
    (elim (nat_lt length (place + 2)) as (λ t. nat_lt length (place + 2) ≡ t → cond t (Err list_length_error) (whole_page (page_coded (bits_of 6 0 (byte_at a place))) a length place) ≡ cond t (Err list_length_error) (whole_page (page_coded (bits_of 6 0 (byte_at b place))) b length place)) [
      | true ↦ λ is. refl
      | false ↦ λ is.
          let room = ltb-false length (place + 2) is in
          ap (λ n. whole_page (page_coded (bits_of 6 0 n)) a length place) (agree place (omega (arith, room))) ∙ whole_same (page_coded (bits_of 6 0 (byte_at b place))) length place a b (agree (place + 1) (omega (arith, room)))
    ]) refl

-- a page stands whole in the list
whole_fits : (o : Option ModePage) (length place : ℕ) (list : List Block) (page : ModePage) → whole_page o list length place ≡ Ok page → place + size_of page ≤ length
whole_fits None length place list page e = absurd cc
whole_fits (Some known) length place list page e =
    (elim (not (byte_at list (place + 1) == (row_of known).length)) as (λ t. cond t (Err (invalid_list_field (place + 1))) (cond (nat_lt length (place + size_of known)) (Err list_length_error) (Ok known)) ≡ Ok page → place + size_of page ≤ length) [
      | true ↦ λ f. absurd cc
      | false ↦ λ f. (elim (nat_lt length (place + size_of known)) as (λ t. nat_lt length (place + size_of known) ≡ t → cond t (Err list_length_error) (Ok known) ≡ Ok page → place + size_of page ≤ length) [
        | true ↦ λ is g. absurd cc
        | false ↦ λ is g. let same : known ≡ page = cc in subst (λ p. place + size_of p ≤ length) same (ltb-false length (place + size_of known) is)
      ]) refl f
    ]) e

page_fits : (length place : ℕ) (list : List Block) (page : ModePage) → page_at list length place ≡ Ok page → place + size_of page ≤ length
page_fits length place list page e =
    (elim (nat_lt length (place + 2)) as (λ t. cond t (Err list_length_error) (whole_page (page_coded (bits_of 6 0 (byte_at list place))) list length place) ≡ Ok page → place + size_of page ≤ length) [
      | true ↦ λ f. absurd cc
      | false ↦ λ f. whole_fits (page_coded (bits_of 6 0 (byte_at list place))) length place list page f
    ]) e

difference_same : (i : Identity) (m : Modes) (a b : List Block) (page : ModePage) (place at n limit : ℕ) → Agree limit a b → place + at + n ≤ limit → difference i m a page place at n ≡ difference i m b page place at n
unfolding difference
difference_same i m a b page place at zero limit agree room = refl
difference_same i m a b page place at (suc n) limit agree room =
    rw (agree (place + at) (omega (arith, room)), difference_same i m a b page place (at + 1) n limit agree (omega (arith, room))) refl

size_is : (page : ModePage) → 2 + (row_of page).length ≡ size_of page
size_is ErrorRecovery = refl
size_is Caching = refl
size_is Control = refl
size_is InformationalExceptions = refl

bits_same : (i : Identity) (m : Modes) (a b : List Block) (page : ModePage) (place limit : ℕ) → Agree limit a b → place + size_of page ≤ limit → bits_fault i m a page place ≡ bits_fault i m b page place
bits_same i m a b page place limit agree room = ap (option_map invalid_list_field) (difference_same i m a b page place 2 (row_of page).length limit agree (omega (arith, room, size_is page)))

pages_same : (i : Identity) (m : Modes) (a b : List Block) (n length place : ℕ) → Agree length a b → pages_fault i m a n length place ≡ pages_fault i m b n length place
unfolding pages_fault
pages_same i m a b zero length place agree = refl
pages_same i m a b (suc n) length place agree =
    ap (λ x. cond (nat_le length place) None x) (on_same (λ p. pages_same i m a b n length p agree) (page_at a length place) refl ∙ ap (λ found. on_page found (λ page. first_fault (bits_fault i m b page place) (pages_fault i m b n length (place + size_of page))) (λ refusal. Some refusal)) (page_same length place a b agree))
  where
    on_same : ((p : ℕ) → pages_fault i m a n length p ≡ pages_fault i m b n length p) → (found : Result ModePage Illegal) → page_at a length place ≡ found
        → on_page found (λ page. first_fault (bits_fault i m a page place) (pages_fault i m a n length (place + size_of page))) (λ refusal. Some refusal) ≡ on_page found (λ page. first_fault (bits_fault i m b page place) (pages_fault i m b n length (place + size_of page))) (λ refusal. Some refusal)
    on_same rest (Ok page) e =
        ap (λ x. first_fault x (pages_fault i m a n length (place + size_of page))) (bits_same i m a b page place length agree (page_fits length place a page e))
        ∙ ap (first_fault (bits_fault i m b page place)) (rest (place + size_of page))
    on_same rest (Err refusal) e = refl

-- ---- the list

nested_same : (i : Identity) (m : Modes) (a b : List Block) (length : ℕ) (ten : Bool) → Agree length a b → nested_fault i m a length ten ≡ nested_fault i m b length ten
nested_same i m a b length ten agree =
    ap (λ x. cond (length == 0) None x)
    ((elim (nat_lt length (header_size ten)) as (λ t. nat_lt length (header_size ten) ≡ t
    → first_fault (cond t (Some list_length_error) (descriptor_fault (descriptor_sized (has_long_lba ten a) (descriptor_length ten a)) i.capacity a length ten)) (pages_fault i m a length length (first_page ten a))
    ≡ first_fault (cond t (Some list_length_error) (descriptor_fault (descriptor_sized (has_long_lba ten b) (descriptor_length ten b)) i.capacity b length ten)) (pages_fault i m b length length (first_page ten b))) [
      | true ↦ λ is. refl
      | false ↦ λ is.
          let room = ltb-false length (header_size ten) is in
          ap (λ h. first_fault (descriptor_fault (descriptor_sized h (descriptor_length ten a)) i.capacity a length ten) (pages_fault i m a length length (first_page ten a))) (long_same ten length a b agree room)
          ∙ (ap (λ n. first_fault (descriptor_fault (descriptor_sized (has_long_lba ten b) n) i.capacity a length ten) (pages_fault i m a length length (header_size ten + n))) (length_same ten length a b agree room)
          ∙ (ap (λ x. first_fault x (pages_fault i m a length length (first_page ten b))) (descriptor_same (descriptor_sized (has_long_lba ten b) (descriptor_length ten b)) i.capacity length ten a b agree)
          ∙ ap (first_fault (descriptor_fault (descriptor_sized (has_long_lba ten b) (descriptor_length ten b)) i.capacity b length ten)) (pages_same i m a b length length (first_page ten b) agree)))
    ]) refl)

pub select_same : (i : Identity) (m : Modes) (a b : List Block) (length : ℕ) (ten : Bool) → Agree length a b → select_fault i m a length ten ≡ select_fault i m b length ten
select_same i m a b length ten agree = rules_say i m a length ten ∙ nested_same i m a b length ten agree ∙ sym (rules_say i m b length ten)

with_same : (page : ModePage) (a b : List Block) (place limit : ℕ) (change : ModeChange) → Agree limit a b → place + size_of page ≤ limit → with_page page a place change ≡ with_page page b place change
with_same ErrorRecovery a b place limit change agree room = refl
with_same Caching a b place limit change agree room = rw (agree (place + 2) (omega (arith, room)), agree (place + 12) (omega (arith, room))) refl
with_same Control a b place limit change agree room = rw (agree (place + 2) (omega (arith, room))) refl
with_same InformationalExceptions a b place limit change agree room = refl

changes_same : (a b : List Block) (n length place : ℕ) (change : ModeChange) → Agree length a b → change_from n a length place change ≡ change_from n b length place change
unfolding change_from
changes_same a b zero length place change agree = refl
changes_same a b (suc n) length place change agree =
    on_same (λ p c. changes_same a b n length p c agree) (page_at a length place) refl ∙ ap (λ found. on_page found (λ page. change_from n b length (place + size_of page) (with_page page b place change)) (λ refusal. change)) (page_same length place a b agree)
  where
    on_same : ((p : ℕ) (c : ModeChange) → change_from n a length p c ≡ change_from n b length p c) → (found : Result ModePage Illegal) → page_at a length place ≡ found
        → on_page found (λ page. change_from n a length (place + size_of page) (with_page page a place change)) (λ refusal. change) ≡ on_page found (λ page. change_from n b length (place + size_of page) (with_page page b place change)) (λ refusal. change)
    on_same rest (Ok page) e =
        ap (change_from n a length (place + size_of page)) (with_same page a b place length change agree (page_fits length place a page e)) ∙ rest (place + size_of page) (with_page page b place change)
    on_same rest (Err refusal) e = refl

pub change_same : (a b : List Block) (length : ℕ) (ten : Bool) → Agree length a b → change_in a length ten ≡ change_in b length ten
change_same a b length ten agree =
    (elim (nat_lt length (header_size ten)) as (λ t. nat_lt length (header_size ten) ≡ t → cond t no_change (change_from length a length (first_page ten a) no_change) ≡ cond t no_change (change_from length b length (first_page ten b) no_change)) [
      | true ↦ λ is. refl
      | false ↦ λ is. ap (λ n. change_from length a length (header_size ten + n) no_change) (length_same ten length a b agree (ltb-false length (header_size ten) is)) ∙ changes_same a b length length (first_page ten b) no_change agree
    ]) refl

-- ---- what reading a list says

pub said : (i : Identity) (m : Modes) (list : List Block) (length : ℕ) (ten : Bool) (found : Result Modes Illegal) → found ≡ select_says i m list length ten → result_err found ≡ select_fault i m list length ten
unfolding select_says
said i m list length ten found e = ap result_err e ∙ by (select_fault i m list length ten) (applied m (change_in list length ten))
  where
    by : (o : Option Illegal) (v : Modes) → result_err (unless_fault o v) ≡ o
    by None v = refl
    by (Some why) v = refl
