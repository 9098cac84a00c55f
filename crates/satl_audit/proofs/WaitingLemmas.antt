-- Tasks that wait, and the places of their data-out.
use Rattle.std.proofs.Common.{◌≡◌, refl, sym, ap, ◌∙◌, subst, ℕ, zero, suc, ◌+◌, List, [], ◌∷◌, ◌++◌, length}
use Rattle.std.specs.Prelude.{◌==◌, ◌||◌, ◌<◌, nat_lt, Some, slice_get, slice_index, slice_set}
use Rattle.std.specs.Option.{option_map}
use Rattle.std.proofs.lemmas.Bool.{eqb-false}
use Rattle.std.proofs.lemmas.List.{get_or-set_other, get_or-set_same, length-map, map-append}
use Rattle.std.proofs.lemmas.Option.{same_Some}
use Rattle.satl_base.specs.Limits.{most_held, most_tasks}
use Rattle.satl_base.proofs.ListsLemmas.{sum_by-map}
use Rattle.satl_line.specs.declared.entry.Entry.{Entry}
use Rattle.satl_line.specs.Tasks.{Adds, Held, count_of, entries_of, is_too_much, slots_of, total_blocks}
use Rattle.satl_line.proofs.SlotsLemmas.{head_out}
use Rattle.satl_direct.specs.Tasks.{held_by}
use Rattle.satl_audit.specs.Waiting.{Placed, entries_in, has_no_room, placed_in}

abbrev pub place_held : List ℕ → Held → Placed
place_held places held = record { entry = held.entry; at = slice_index places held.slot }

pub entries_same : (places : List ℕ) (tasks : List Held) → entries_in (placed_in places tasks) ≡ entries_of tasks
entries_same places [] = refl
entries_same places (h ∷ tasks) = ap (λ (l : List Entry). h.entry ∷ l) (entries_same places tasks)

pub blocks_same : (places : List ℕ) (tasks : List Held) → total_blocks tasks ≡ held_by (entries_in (placed_in places tasks))
blocks_same places tasks =
    sym (sum_by-map (λ (p : Placed). p.entry) (λ (e : Entry). e.blocks) (placed_in places tasks)
    ∙ sum_by-map (place_held places) (λ (p : Placed). p.entry.blocks) tasks)

pub room_same : (places : List ℕ) (tasks : List Held) (entry : Entry) → is_too_much tasks entry ≡ has_no_room (placed_in places tasks) entry.blocks
room_same places tasks entry =
    ap (λ n. (n == most_tasks) || nat_lt most_held (total_blocks tasks + entry.blocks)) (sym (length-map tasks (place_held places)))
    ∙ ap (λ n. (length (placed_in places tasks) == most_tasks) || nat_lt most_held (n + entry.blocks)) (blocks_same places tasks)

pub places_other : (places : List ℕ) (slot at : ℕ) (tasks : List Held) → count_of slot (slots_of tasks) ≡ 0 → placed_in (slice_set places slot at) tasks ≡ placed_in places tasks
places_other places slot at [] h = refl
places_other places slot at (held ∷ tasks) h =
    let out = head_out slot held.slot (count_of slot (slots_of tasks)) h in
    ap (λ n. record { entry = held.entry; at = n } ∷ placed_in (slice_set places slot at) tasks) (get_or-set_other places slot held.slot at 0 (eqb-false held.slot slot out.0))
    ∙ ap (λ (l : List Placed). record { entry = held.entry; at = slice_index places held.slot } ∷ l) (places_other places slot at tasks out.1)

last_slot : (old : List Held) (h : Held) → slice_get (slots_of (old ++ h ∷ [])) (length old) ≡ Some h.slot
last_slot [] h = refl
last_slot (x ∷ old) h = last_slot old h

-- a task comes last
pub placed_last : (places : List ℕ) (old new : List Held) (ps : List Placed) (entry : Entry) (slot at : ℕ) → placed_in places old ≡ ps → Adds old entry new → slice_get (slots_of new) (length old) ≡ Some slot → slot < length places →
    placed_in (slice_set places slot at) new ≡ ps ++ record { entry = entry; at = at } ∷ []
placed_last places old new ps entry slot at is a found small =
    let same : a.slot ≡ slot = same_Some a.slot slot (sym (last_slot old (record { slot = a.slot; entry = entry })) ∙ ap (λ (l : List Held). slice_get (slots_of l) (length old)) (sym a.last) ∙ found) in
    ap (placed_in (slice_set places slot at)) a.last
    ∙ map-append (place_held (slice_set places slot at)) old (record { slot = a.slot; entry = entry } ∷ [])
    ∙ ap (λ (l : List Placed). l ++ record { entry = entry; at = slice_index (slice_set places slot at) a.slot } ∷ []) (places_other places slot at old (subst (λ n. count_of n (slots_of old) ≡ 0) same a.vacant) ∙ is)
    ∙ ap (λ n. ps ++ record { entry = entry; at = n } ∷ []) (ap (λ n. slice_index (slice_set places slot at) n) same ∙ get_or-set_same places slot at 0 small)

-- the place that is kept for a task
pub at_place : (places : List ℕ) (tasks : List Held) (place slot : ℕ) → slice_get (slots_of tasks) place ≡ Some slot → option_map (λ (p : Placed). p.at) (slice_get (placed_in places tasks) place) ≡ Some (slice_index places slot)
at_place places [] place slot h = absurd cc
at_place places (t ∷ tasks) zero slot h = ap (λ n. Some (slice_index places n)) (same_Some t.slot slot h)
at_place places (t ∷ tasks) (suc place) slot h = at_place places tasks place slot h
