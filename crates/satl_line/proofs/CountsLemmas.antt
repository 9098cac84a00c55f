-- How many tasks have the low byte of a tag.
use Rattle.std.proofs.Common.{◌≡◌, refl, sym, ◌∙◌, ap, subst, ℕ, ◌+◌, ◌-◌, ◌%◌, ◌<◌, ◌≤◌, Bool, true, false, cond, List, [], ◌∷◌, ◌++◌, Some, None, length, get_or, arith}
use Rattle.std.specs.Prelude.{◌==◌, if◌then◌else◌}
use Rattle.std.specs.List.{position_from}
use Rattle.std.proofs.Math.ListN.{length-set}
use Rattle.std.proofs.lemmas.Bool.{and_parts, eq-eqb, eqb-true, eqb-false}
use Rattle.std.proofs.lemmas.List.{get_or-set_same, get_or-set_other, map-append}
use Rattle.satl_base.proofs.ListsLemmas.{how_many-push}
use Rattle.satl_base.specs.declared.request.Tag.{Tag}
use Rattle.satl_base.specs.Lists.{how_many}
use Rattle.satl_line.specs.declared.entry.Entry.{Entry}
use Rattle.satl_line.specs.Blank.{no_entry}
use Rattle.satl_line.specs.Tasks.{Held, is_named}
use Rattle.satl_line.specs.Layout.{CountLowBytes, has_low_byte, held_in, low_byte, one_fewer, one_more, tasks_in}

-- ---- counts

abbrev one : Bool → ℕ
one b = if b then 1 else 0

none_behind : (b : Bool) (n : ℕ) → one b + n ≡ 0 → n ≡ 0
none_behind b n h = omega (arith, h)

some_here : (b : Bool) (n : ℕ) → b ≡ true → one b + n ≡ 0 → ⊥
some_here true n is h = omega (arith, h)
some_here false n is h = absurd cc

-- where no element passes a wider test, none is found by a narrower one
pub none_found : {X : Type 0} (narrow wide : X → Bool) → ((x : X) → narrow x ≡ true → wide x ≡ true) → (i : ℕ) (xs : List X) → how_many wide xs ≡ 0 → position_from narrow i xs ≡ None
none_found narrow wide wider i [] none = refl
none_found narrow wide wider i (x ∷ xs) none =
    (elim (narrow x) as (λ b. narrow x ≡ b → cond b (Some i) (position_from narrow (i + 1) xs) ≡ None) [
      | true ↦ λ e. absurd (some_here (wide x) (how_many wide xs) (wider x e) none)
      | false ↦ λ e. none_found narrow wide wider (i + 1) xs (none_behind (wide x) (how_many wide xs) none)
    ]) refl

-- no more are counted than there are
pub count_within : {X : Type 0} (p : X → Bool) (xs : List X) → how_many p xs ≤ length xs
count_within p [] = omega arith
count_within p (x ∷ xs) =
    let rest = count_within p xs in
    (elim (p x) as (λ b. one b + how_many p xs ≤ length (x ∷ xs)) [ true ↦ omega (arith, rest) | false ↦ omega (arith, rest) ])

-- what is counted without one of them, and that one
pub count_without : {X : Type 0} (p : X → Bool) (front : List X) (x : X) (back : List X) → how_many p (front ++ back) + one (p x) ≡ how_many p (front ++ x ∷ back)
count_without p [] x back = omega arith
count_without p (y ∷ front) x back = let rest = count_without p front x back in step (one (p y)) (how_many p (front ++ back)) (one (p x)) (how_many p (front ++ x ∷ back)) rest
  where
    step : (a b c d : ℕ) → b + c ≡ d → (a + b) + c ≡ a + d
    step a b c d h = omega arith

-- ---- tags

-- where no task has the low byte of a tag, none has the tag
pub none_named : (nexus : ℕ) (tag : Tag) (tasks : List Held) → how_many (has_low_byte (low_byte tag)) tasks ≡ 0 → position_from (is_named nexus tag) 0 tasks ≡ None
none_named nexus tag tasks none =
    none_found (is_named nexus tag) (has_low_byte (low_byte tag))
    (λ held named. eq-eqb (low_byte held.entry.tag) (low_byte tag) (ap (λ n. n % 256) (eqb-true held.entry.tag.0 tag.0 (and_parts (held.entry.nexus == nexus) (held.entry.tag.0 == tag.0) named).1)))
    0 tasks none

low_is_small : (tag : Tag) → low_byte tag < 256
low_is_small tag = omega arith

-- the counts as a task comes
pub counted_more : (tasks : List Held) (held : Held) (tag_counts : List ℕ) → CountLowBytes tasks tag_counts → CountLowBytes (tasks ++ held ∷ []) (one_more tag_counts held.entry.tag)
counted_more tasks held tag_counts h = record {
  wide = length-set tag_counts (low_byte held.entry.tag) (get_or tag_counts (low_byte held.entry.tag) 0 + 1) ∙ h.wide;
  each = λ low small. each low small ∙ sym (how_many-push (has_low_byte low) tasks held);
}
  where
    each : (low : ℕ) → low < 256 → get_or (one_more tag_counts held.entry.tag) low 0 ≡ how_many (has_low_byte low) tasks + (one (low_byte held.entry.tag == low) + 0)
    each low small =
        (elim (low_byte held.entry.tag == low) as (λ b. (low_byte held.entry.tag == low) ≡ b → get_or (one_more tag_counts held.entry.tag) low 0 ≡ how_many (has_low_byte low) tasks + (one b + 0)) [
          | true ↦ λ e. let same : low_byte held.entry.tag ≡ low = eqb-true (low_byte held.entry.tag) low e in
              let here : get_or (one_more tag_counts held.entry.tag) (low_byte held.entry.tag) 0 ≡ get_or tag_counts (low_byte held.entry.tag) 0 + 1
              = get_or-set_same tag_counts (low_byte held.entry.tag) (get_or tag_counts (low_byte held.entry.tag) 0 + 1) 0 (omega (arith, low_is_small held.entry.tag, h.wide)) in
              let there : get_or (one_more tag_counts held.entry.tag) low 0 ≡ get_or tag_counts low 0 + 1 = subst (λ l. get_or (one_more tag_counts held.entry.tag) l 0 ≡ get_or tag_counts l 0 + 1) same here in
              omega (arith, there, h.each low small)
          | false ↦ λ e. let other = get_or-set_other tag_counts (low_byte held.entry.tag) low (get_or tag_counts (low_byte held.entry.tag) 0 + 1) 0 (λ same. eqb-false (low_byte held.entry.tag) low e (sym same)) in
              omega (arith, other, h.each low small)
        ]) refl

-- and as one leaves
pub counted_fewer : (front : List Held) (held : Held) (back : List Held) (tag_counts : List ℕ) → CountLowBytes (front ++ held ∷ back) tag_counts → CountLowBytes (front ++ back) (one_fewer tag_counts held.entry.tag)
counted_fewer front held back tag_counts h = record {
  wide = length-set tag_counts (low_byte held.entry.tag) (get_or tag_counts (low_byte held.entry.tag) 0 - 1) ∙ h.wide;
  each = λ low small. each low small (count_without (has_low_byte low) front held back);
}
  where
    each : (low : ℕ) → low < 256 → how_many (has_low_byte low) (front ++ back) + one (low_byte held.entry.tag == low) ≡ how_many (has_low_byte low) (front ++ held ∷ back) → get_or (one_fewer tag_counts held.entry.tag) low 0 ≡ how_many (has_low_byte low) (front ++ back)
    each low small =
        (elim (low_byte held.entry.tag == low) as (λ b. (low_byte held.entry.tag == low) ≡ b → how_many (has_low_byte low) (front ++ back) + one b ≡ how_many (has_low_byte low) (front ++ held ∷ back) → get_or (one_fewer tag_counts held.entry.tag) low 0 ≡ how_many (has_low_byte low) (front ++ back)) [
          | true ↦ λ e is. let same : low_byte held.entry.tag ≡ low = eqb-true (low_byte held.entry.tag) low e in
              let here : get_or (one_fewer tag_counts held.entry.tag) (low_byte held.entry.tag) 0 ≡ get_or tag_counts (low_byte held.entry.tag) 0 - 1
              = get_or-set_same tag_counts (low_byte held.entry.tag) (get_or tag_counts (low_byte held.entry.tag) 0 - 1) 0 (omega (arith, low_is_small held.entry.tag, h.wide)) in
              let there : get_or (one_fewer tag_counts held.entry.tag) low 0 ≡ get_or tag_counts low 0 - 1 = subst (λ l. get_or (one_fewer tag_counts held.entry.tag) l 0 ≡ get_or tag_counts l 0 - 1) same here in
              omega (arith, there, is, h.each low small)
          | false ↦ λ e is. let other = get_or-set_other tag_counts (low_byte held.entry.tag) low (get_or tag_counts (low_byte held.entry.tag) 0 - 1) 0 (λ same. eqb-false (low_byte held.entry.tag) low e (sym same)) in
              omega (arith, other, is, h.each low small)
        ]) refl

-- the count of a task that is there is not 0
pub counted_some : (front : List Held) (held : Held) (back : List Held) (tag_counts : List ℕ) → CountLowBytes (front ++ held ∷ back) tag_counts → 1 ≤ get_or tag_counts (low_byte held.entry.tag) 0
counted_some front held back tag_counts h =
    let here : one (low_byte held.entry.tag == low_byte held.entry.tag) ≡ 1 = ap one (eq-eqb (low_byte held.entry.tag) (low_byte held.entry.tag) refl) in
    omega (arith, here, count_without (has_low_byte (low_byte held.entry.tag)) front held back, h.each (low_byte held.entry.tag) (low_is_small held.entry.tag))

-- no count is greater than the number of tasks
pub counted_few : (tasks : List Held) (tag_counts : List ℕ) (tag : Tag) → CountLowBytes tasks tag_counts → get_or tag_counts (low_byte tag) 0 ≤ length tasks
counted_few tasks tag_counts tag h = omega (arith, h.each (low_byte tag) (low_is_small tag), count_within (has_low_byte (low_byte tag)) tasks)

-- where the count of a tag is 0, no task has the tag
pub not_counted : (tasks : List Held) (tag_counts : List ℕ) (nexus : ℕ) (tag : Tag) (count : ℕ) → CountLowBytes tasks tag_counts → count ≡ get_or tag_counts (low_byte tag) 0 → count ≡ 0 → position_from (is_named nexus tag) 0 tasks ≡ None
not_counted tasks tag_counts nexus tag count h is none = none_named nexus tag tasks (sym (h.each (low_byte tag) (low_is_small tag)) ∙ sym is ∙ none)

-- the same of the tasks in slots, as the task in one of them leaves
pub counted_out : (slots : List Entry) (front : List ℕ) (s : ℕ) (back : List ℕ) (e : Entry) (tasks : List Held) (tag_counts : List ℕ) → CountLowBytes (tasks_in slots (front ++ s ∷ back)) tag_counts → get_or slots s no_entry ≡ e → tasks ≡ tasks_in slots (front ++ back) →
    CountLowBytes tasks (one_fewer tag_counts e.tag) × (1 ≤ get_or tag_counts (low_byte e.tag) 0)
counted_out slots front s back e tasks tag_counts h is tasks_are =
    let parts : CountLowBytes (tasks_in slots front ++ held_in slots s ∷ tasks_in slots back) tag_counts = subst (λ l. CountLowBytes l tag_counts) (map-append (held_in slots) front (s ∷ back)) h in
    let fewer : CountLowBytes (tasks_in slots front ++ tasks_in slots back) (one_fewer tag_counts e.tag)
    = subst (λ (x : Entry). CountLowBytes (tasks_in slots front ++ tasks_in slots back) (one_fewer tag_counts x.tag)) is (counted_fewer (tasks_in slots front) (held_in slots s) (tasks_in slots back) tag_counts parts) in (
      subst (λ l. CountLowBytes l (one_fewer tag_counts e.tag)) (sym (tasks_are ∙ map-append (held_in slots) front back)) fewer,
      subst (λ (x : Entry). 1 ≤ get_or tag_counts (low_byte x.tag) 0) is (counted_some (tasks_in slots front) (held_in slots s) (tasks_in slots back) tag_counts parts),
    )
