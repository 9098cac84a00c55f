-- A link that is lost in a poll leaves each slot its number of pages, and says no more of them.
use Rattle.std.proofs.Common.{◌≡◌, refl, sym, ◌∙◌, ap, ℕ, List, [], ◌∷◌, Option, Some, None, length}
use Rattle.std.proofs.lemmas.List.{length-map}
use Rattle.std.proofs.lemmas.Option.{slice_get-map}
use Rattle.std.specs.Prelude.{map, slice_get, unwrap_or}
use Rattle.std.specs.Option.{option_and_then, option_flatten, option_map}
use Rattle.std.specs.List.{find}
use Rattle.satl_base.specs.declared.block.Block.{Block}
use Rattle.satl_base.proofs.ListsLemmas.{All-weaken}
use Rattle.satl_line.specs.Tasks.{Held}
use Rattle.satl_drive.specs.Queue.{Slots}
use Rattle.satl_pages.specs.Slots.{pages_at}
use Rattle.satl_flight.specs.declared.flight.Flying.{Flying}
use Rattle.satl_flight.specs.Lending.{AreAlike, IsLending, IsLent, lent, whole_tasks}
use Rattle.satl_flight.proofs.LendingLemmas.{lent_on}
use Rattle.satl_flight.specs.Flown.{is_of_slot}

-- each slot has as many pages as before
abbrev pub HaveRoom : Slots → Slots → Type 0
HaveRoom slots taken = map (option_map length) taken ≡ map (option_map length) slots

slot_room : (slots taken : Slots) → HaveRoom slots taken → (tag : ℕ) → option_map (option_map length) (slice_get taken tag) ≡ option_map (option_map length) (slice_get slots tag)
slot_room slots taken room tag = sym (slice_get-map (option_map length) taken tag) ∙ (ap (λ l. slice_get l tag) room ∙ slice_get-map (option_map length) slots tag)

-- what a slot had it has, and what it had not it has not
pages_room : (o p : Option (Option (List Block))) → option_map (option_map length) p ≡ option_map (option_map length) o → option_map length (option_flatten p) ≡ option_map length (option_flatten o)
pages_room (Some (Some x)) (Some (Some y)) e = cc
pages_room (Some None) (Some None) e = refl
pages_room None None e = refl
pages_room _ _ e = absurd cc

tag_room : (slots taken : Slots) → HaveRoom slots taken → (tag : ℕ) → option_map length (pages_at taken tag) ≡ option_map length (pages_at slots tag)
tag_room slots taken room tag = pages_room (slice_get slots tag) (slice_get taken tag) (slot_room slots taken room tag)

still_empty : (o p : Option (Option (List Block))) → option_map (option_map length) p ≡ option_map (option_map length) o → o ≡ Some None → p ≡ Some None
still_empty o (Some None) e is = refl
still_empty o _ e is = let no = e ∙ ap (option_map (option_map length)) is in absurd cc

-- pages, where there are some
some_pages : (o : Option (List Block)) (n : ℕ) → option_map length o ≡ Some n → (pages : List Block) × (o ≡ Some pages)
some_pages (Some pages) n e = (pages, refl)
some_pages None n e = absurd cc

lent_still : (slots taken : Slots) (tasks : List Held) → HaveRoom slots taken → (f : Flying) → IsLent slots tasks f → IsLent taken tasks f
lent_still slots taken tasks room f l =
    let some = some_pages (pages_at taken f.tag) (length l.pages) (tag_room slots taken room f.tag ∙ ap (option_map length) l.filled) in
    lent_on slots taken tasks tasks f l some.0 some.1 l.found

pub alike_lending : (flying : List Flying) (slots taken : Slots) (tasks : List Held) → HaveRoom slots taken → IsLending flying slots tasks → IsLending flying taken tasks
alike_lending flying slots taken tasks room lending = record {
  each = All-weaken (IsLent slots tasks) (IsLent taken tasks) (lent_still slots taken tasks room) flying lending.each;
  apart = lending.apart;
  others = λ tag small none. still_empty (slice_get slots tag) (slice_get taken tag) (slot_room slots taken room tag) (lending.others tag small none);
  room = sym (length-map taken (option_map length)) ∙ (ap length room ∙ (length-map slots (option_map length) ∙ lending.room));
}

-- ---- the tasks with their pages

or_length : (o p : Option (List Block)) (own : List Block) → option_map length p ≡ option_map length o → length (unwrap_or p own) ≡ length (unwrap_or o own)
or_length (Some x) (Some y) own e = cc
or_length None None own e = refl
or_length _ _ own e = absurd cc

then_room : (slots taken : Slots) → HaveRoom slots taken → (found : Option Flying) → option_map length (option_and_then (λ (f : Flying). pages_at taken f.tag) found) ≡ option_map length (option_and_then (λ (f : Flying). pages_at slots f.tag) found)
then_room slots taken room None = refl
then_room slots taken room (Some f) = tag_room slots taken room f.tag

pub alike_tasks : (flying : List Flying) (slots taken : Slots) (tasks : List Held) → HaveRoom slots taken → AreAlike (whole_tasks flying slots tasks) (whole_tasks flying taken tasks)
alike_tasks flying slots taken [] room = tt
alike_tasks flying slots taken (h ∷ hs) room = (
  record { size = or_length (lent flying slots h.slot) (lent flying taken h.slot) h.entry.body (then_room slots taken room (find (is_of_slot h.slot) flying)); stays = refl },
  alike_tasks flying slots taken hs room,
)
