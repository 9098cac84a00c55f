-- Issuing, as the code does it.
use Rattle.std.proofs.Common.{◌≡◌, ◌⊎◌, refl, sym, ◌∙◌, ap, subst, inl, inr, ⊎_elim, ℕ, zero, suc, ◌<◌, ◌≤◌, not, drop, Bool, true, false, List, [], ◌∷◌, ◌++◌, Option, Some, None, arith, length, length-append, eqb-true, eq-eqb, cond}
use Rattle.std.specs.Prelude.{◌==◌, ◌||◌, if◌then◌else◌, IfSome, bit_or, slice_get, slice_set, take, unwrap_or}
use Rattle.std.specs.Int.{bit_at}
use Rattle.std.specs.Option.{option_and_then, option_flatten, option_map}
use Rattle.std.specs.List.{AllByRecursion, AllZip, find, list_any, position_from}
use Rattle.std.proofs.lemmas.Bool.{cases_eq, cases_lt, eqb-false}
use Rattle.std.proofs.lemmas.Nat.Bits.{bit_at_or}
use Rattle.std.proofs.lemmas.List.{append-nil, length-map}
use Rattle.std.proofs.lemmas.Option.{slice_get-map, slice_get_within}
use Rattle.satl_base.specs.declared.block.Block.{Block}
use Rattle.satl_base.specs.Lists.{remove_first, change_at}
use Rattle.satl_base.specs.Identify.{has_queued_trim}
use Rattle.satl_base.proofs.ListsLemmas.{All-both, All-find, All-weaken, get-map, length-remove_first}
use Rattle.satl_regs.specs.declared.values.Registers.{Registers}
use Rattle.satl_regs.specs.declared.values.Queued.{Queued}
use Rattle.satl_regs.specs.QueuedCommands.{QueuedFits, queued_registers}
use Rattle.satl_line.specs.declared.entry.Entry.{Entry}
use Rattle.satl_line.specs.Conflict.{conflicts}
use Rattle.satl_line.specs.Eligible.{IsEligibleBy, eligible_at, eligible_by, is_clear_by}
use Rattle.satl_line.specs.Ranged.{RangedTask, ranged_of}
use Rattle.satl_line.specs.Ranged.RangedTask.{ranged_read}
use Rattle.satl_line.specs.Tasks.{Held, IsBarredMask, count_of, entries_of, entry_at, slots_of, with_body}
use Rattle.satl_line.proofs.EligibleLemmas.{eligible_by-formed, eligible_passes, eligible_stands}
use Rattle.satl_drive.specs.State.{DriveState, Outstanding}
use Rattle.satl_drive.specs.Queue.{CanIssue, IsIssueCutOff, IsIssued, Slots}
use Rattle.satl_pages.specs.Slots.{pages_at}
use Rattle.satl_flight.specs.declared.flight.Flying.{Flying}
use Rattle.satl_flight.specs.Flown.{AreApart, IsFlown, IsInFlight, clash, is_outstanding, is_in_slot, queued_for, is_of_slot}
use Rattle.satl_flight.specs.Lending.{IsLending, Waiting, has_tag, waiting, whole_task, whole_tasks, with_own_pages}
use Rattle.satl_flight.specs.Settled.{IsBefore, IsFilled, IsIssuedIfItMay, IsLaunched, IsLostQuietly, IssuesAtMost, NeedsIssue, OnDrive, on_drive}
use Rattle.satl_flight.specs.Tags.{AreHeld}
use Rattle.satl_flight.proofs.TagsLemmas.{told_by_zero}
use Rattle.satl_flight.proofs.ZipLemmas.{get-mapped, passed_from, passes_from}
use Rattle.satl_flight.proofs.FlownLemmas.{FitsOn}
use Rattle.satl_flight.proofs.LendingLemmas.{at_found, find-none, get-set, lend_lending, lend_same, whole_get, whole-slots}
use Rattle.satl_flight.proofs.LaunchedLemmas.{can_issue, deepens_same, launched_one, lost_issue, queued_fits}

-- the task at a place, from what the set tells
pub held_at : (tasks : List Held) (place slot : ℕ) (entry : Entry) → entry_at tasks place ≡ Some entry → slice_get (slots_of tasks) place ≡ Some slot → slice_get tasks place ≡ Some (record { slot = slot; entry = entry })
held_at [] place slot entry e s = absurd cc
held_at (k ∷ ks) zero slot entry e s = let one : k.entry ≡ entry = cc in let two : k.slot ≡ slot = cc in ap (λ x. Some (record { slot = k.slot; entry = x })) one ∙ ap (λ n. Some (record { slot = n; entry = entry })) two
held_at (k ∷ ks) (suc place) slot entry e s = held_at ks place slot entry e s

-- the same command under a tag
pub retagged : (tag : ℕ) (task : RangedTask) → record (queued_for 0 task) { tag = tag } ≡ queued_for tag task
retagged tag (ranged_read fua range) = refl
retagged tag _ = refl

-- what was told of a task is that of one that is ranged
pub the_task : (o : Option RangedTask) (q : Queued) → option_map (queued_for 0) o ≡ Some q → (task : RangedTask) × ((o ≡ Some task) × (q ≡ queued_for 0 task))
the_task None q h = absurd cc
the_task (Some task) q h = (task, (refl, cc))

pub no_task : (o : Option RangedTask) → option_map (queued_for 0) o ≡ None → o ≡ None
no_task None h = refl
no_task (Some task) h = absurd cc

-- the test at a place, for the tasks with their pages
pub same_test : (flying : List Flying) (slots : Slots) (tasks : List Held) (place : ℕ) → eligible_by clash (whole_tasks flying slots tasks) place ≡ eligible_at (entries_of tasks) place
same_test flying slots tasks place =
    eligible_by-formed clash clash (whole_task flying slots) (λ a b. refl) tasks place
    ∙ sym (eligible_by-formed clash conflicts (λ (h : Held). h.entry) (λ a b. refl) tasks place)

pub length-whole : (flying : List Flying) (slots : Slots) (tasks : List Held) → length (whole_tasks flying slots tasks) ≡ length tasks
length-whole flying slots tasks = length-map tasks (whole_task flying slots)

pub launched_none : (queue : Waiting) (old : DriveState) → IsInFlight queue.flying queue.tasks old → IsLaunched (on_drive queue old) (on_drive queue old)
launched_none queue old tie = record { tie = tie; rest = []; more = sym (append-nil queue.flying); lost = inl refl; stays = refl; deep = deepens_same old }

-- the slot of a task, with its pages or without
whole_slot : (flying : List Flying) (slots : Slots) (tasks : List Held) (place : ℕ) (h : Held) → slice_get (whole_tasks flying slots tasks) place ≡ Some h → slice_get (slots_of tasks) place ≡ Some h.slot
whole_slot flying slots tasks place h at = ap (λ l. slice_get l place) (sym (whole-slots flying slots tasks)) ∙ get-map (λ (x : Held). x.slot) (whole_tasks flying slots tasks) place h at

-- one that needs no issue is covered, and each is where no tag is free
pub covered_kept : (flying : List Flying) (slots : Slots) (tasks : List Held) (place : ℕ) → (NeedsIssue flying tasks place → length flying ≡ 32) → IsIssuedIfItMay flying (whole_tasks flying slots tasks) place
covered_kept flying slots tasks place otherwise = ⊎_elim inl (λ room. inr (λ h task at passes ranged. held room h at passes (is_outstanding flying h.slot) refl)) (cases_eq (length flying) 32)
  where
    held : (length flying ≡ 32 → ⊥) → (h : Held) → slice_get (whole_tasks flying slots tasks) place ≡ Some h → eligible_by clash (whole_tasks flying slots tasks) place ≡ true → (b : Bool) → is_outstanding flying h.slot ≡ b → is_outstanding flying h.slot ≡ true
    held room h at passes true there = there
    held room h at passes false fresh = absurd (room (otherwise (record {
      eligible = sym (same_test flying slots tasks place) ∙ passes;
      fresh = λ slot in_slot. let same : Some slot ≡ Some h.slot = sym in_slot ∙ whole_slot flying slots tasks place h at in let one : slot ≡ h.slot = cc in ap (is_outstanding flying) one ∙ fresh;
    })))

module _ (flying : List Flying) (slots : Slots) (tasks : List Held) (lending : IsLending flying slots tasks) (old : DriveState) (tie : IsInFlight flying (whole_tasks flying slots tasks) old)
    (place slot : ℕ) (entry : Entry) (is : entry_at tasks place ≡ Some entry) (in_slot : slice_get (slots_of tasks) place ≡ Some slot) (alone : count_of slot (slots_of tasks) ≡ 1) where
  stands : slice_get tasks place ≡ Some (record { slot = slot; entry = entry })
  stands = held_at tasks place slot entry is in_slot

  -- a task that has lent nothing is whole
  bare : is_outstanding flying slot ≡ false → whole_task flying slots (record { slot = slot; entry = entry }) ≡ record { slot = slot; entry = entry }
  bare fresh = ap (λ o. with_body (unwrap_or (option_and_then (λ (f : Flying). pages_at slots f.tag) o) entry.body) (record { slot = slot; entry = entry })) (find-none (is_of_slot slot) flying fresh)

  whole_stands : slice_get (whole_tasks flying slots tasks) place ≡ Some (whole_task flying slots (record { slot = slot; entry = entry }))
  whole_stands = whole_get flying slots tasks place (record { slot = slot; entry = entry }) stands

  its_slot : (h : Held) → slice_get (whole_tasks flying slots tasks) place ≡ Some h → h.slot ≡ slot
  its_slot h at = let same : Some h ≡ Some (whole_task flying slots (record { slot = slot; entry = entry })) = sym at ∙ whole_stands in let one : h ≡ whole_task flying slots (record { slot = slot; entry = entry }) = cc in ap (λ (x : Held). x.slot) one

  -- a barrier is not issued
  pub covered_barrier : ranged_of entry ≡ None → IsIssuedIfItMay flying (whole_tasks flying slots tasks) place
  covered_barrier none = inr (λ h task at passes ranged. ap (is_outstanding flying) (its_slot h at) ∙ go (is_outstanding flying slot) refl h task at ranged)
    where
      go : (b : Bool) → is_outstanding flying slot ≡ b → (h : Held) (task : RangedTask) → slice_get (whole_tasks flying slots tasks) place ≡ Some h → ranged_of h.entry ≡ Some task → is_outstanding flying slot ≡ true
      go true held h task at ranged = held
      go false fresh h task at ranged =
          let same : Some h ≡ Some (record { slot = slot; entry = entry }) = sym at ∙ whole_stands ∙ ap Some (bare fresh) in
          let one : h ≡ record { slot = slot; entry = entry } = cc in
          let clash_of : Some task ≡ None = sym ranged ∙ ap (λ (x : Held). ranged_of x.entry) one ∙ none in absurd cc

  -- one is issued
  module _ (fresh : is_outstanding flying slot ≡ false) (passes : eligible_at (entries_of tasks) place ≡ true) (task : RangedTask) (ranged : ranged_of entry ≡ Some task) (tag : ℕ) (small : tag < 32) (free : list_any (has_tag tag) flying ≡ false) where
    found : find (is_in_slot slot) (whole_tasks flying slots tasks) ≡ Some (record { slot = slot; entry = entry })
    found = at_found (whole_tasks flying slots tasks) place (record { slot = slot; entry = entry }) (whole_stands ∙ ap Some (bare fresh)) (ap (count_of slot) (whole-slots flying slots tasks) ∙ alone)

    eligible : IsEligibleBy clash (whole_tasks flying slots tasks) (record { slot = slot; entry = entry })
    eligible = eligible_passes clash (whole_tasks flying slots tasks) place (record { slot = slot; entry = entry }) (whole_stands ∙ ap Some (bare fresh)) (same_test flying slots tasks place ∙ passes)

    fits : FitsOn old (record { slot = slot; entry = entry })
    fits = All-find (FitsOn old) (is_in_slot slot) (whole_tasks flying slots tasks) (record { slot = slot; entry = entry }) tie.fits found

    pub queued_does : QueuedFits (queued_for tag task)
    queued_does = queued_fits tag old.capacity (has_queued_trim old.identify) entry.body task small (fits task ranged)

    module _ (slots' : Slots) (tasks' : List Held) (pages : List Block) (taken : option_map (λ (e : Entry). e.body) (entry_at tasks place) ≡ Some pages) (slots_are : slots' ≡ slice_set slots tag (Some pages)) (tasks_are : tasks' ≡ change_at tasks place (with_body [])) where
      body_is : pages ≡ entry.body
      body_is = let same : Some pages ≡ Some entry.body = sym taken ∙ ap (option_map (λ (e : Entry). e.body)) is in cc

      slots_is : slots' ≡ slice_set slots tag (Some entry.body)
      slots_is = slots_are ∙ ap (λ p. slice_set slots tag (Some p)) body_is

      pub can : (r : Registers) → r ≡ queued_registers (queued_for tag task) → CanIssue old r slots' (queued_for tag task) entry.body
      can r spelled =
          subst (λ x. CanIssue old x slots' (queued_for tag task) entry.body) (sym spelled)
          (subst (λ x. CanIssue old (queued_registers (queued_for tag task)) x (queued_for tag task) entry.body) (sym slots_is)
          (can_issue flying (whole_tasks flying slots tasks) old tie tag (record { slot = slot; entry = entry }) task (slice_set slots tag (Some entry.body)) small free ranged fits
          (ap option_flatten (get-set slots tag None (Some entry.body) (lending.others tag small free)))))

      pub lent_lending : (flown : List Flying) → flown ≡ flying ++ record { tag = tag; slot = slot } ∷ [] → IsLending flown slots' tasks'
      lent_lending flown is_flown =
          subst (λ x. IsLending x slots' tasks') (sym is_flown) (subst (λ x. IsLending (flying ++ record { tag = tag; slot = slot } ∷ []) x tasks') (sym slots_is) (subst (λ x. IsLending (flying ++ record { tag = tag; slot = slot } ∷ []) (slice_set slots tag (Some entry.body)) x) (sym tasks_are)
          (lend_lending flying slots tasks lending place (record { slot = slot; entry = entry }) stands alone tag small fresh free)))

      pub lent_same : (flown : List Flying) → flown ≡ flying ++ record { tag = tag; slot = slot } ∷ [] → whole_tasks flown slots' tasks' ≡ whole_tasks flying slots tasks
      lent_same flown is_flown =
          ap (λ x. whole_tasks x slots' tasks') is_flown ∙ ap (λ x. whole_tasks (flying ++ record { tag = tag; slot = slot } ∷ []) x tasks') slots_is ∙ ap (λ x. whole_tasks (flying ++ record { tag = tag; slot = slot } ∷ []) (slice_set slots tag (Some entry.body)) x) tasks_are
          ∙ lend_same flying slots tasks lending place (record { slot = slot; entry = entry }) stands alone tag small fresh free

    pub launched : (flown : Waiting) (new : DriveState) → length flying < 32 → flown.flying ≡ flying ++ record { tag = tag; slot = slot } ∷ [] → IsIssued old (queued_for tag task) entry.body new
        → IsLaunched (on_drive (with_own_pages (waiting flying slots tasks)) old) (on_drive (with_own_pages flown) new)
    launched flown new room is_flown issued = launched_one flying (whole_tasks flying slots tasks) old tie slots tag slot (record { slot = slot; entry = entry }) task (with_own_pages flown) new is_flown small found eligible ranged fresh free room issued

    pub lost : (new : DriveState) → IsIssueCutOff old (queued_for tag task) entry.body new → IsLostQuietly (whole_tasks flying slots tasks) old new
    lost new cut = lost_issue flying (whole_tasks flying slots tasks) old tie tag slot (record { slot = slot; entry = entry }) task new small found eligible ranged cut

  pub covered_new : (flown : List Flying) (tag : ℕ) → flown ≡ flying ++ record { tag = tag; slot = slot } ∷ [] → IsIssuedIfItMay flown (whole_tasks flying slots tasks) place
  covered_new flown tag is_flown = inr (λ h task at passes ranged. ap (is_outstanding flown) (its_slot h at) ∙ ap (λ fs. is_outstanding fs slot) is_flown ∙ last flying)
    where
      last : (fs : List Flying) → is_outstanding (fs ++ record { tag = tag; slot = slot } ∷ []) slot ≡ true
      last [] = ap (λ b. b || false) (eq-eqb slot slot refl)
      last (f ∷ fs) = elim (f.slot == slot) as (λ b. (b || is_outstanding (fs ++ record { tag = tag; slot = slot } ∷ []) slot) ≡ true) [ true ↦ refl | false ↦ last fs ]

  -- it is issued alone
  pub issued_one : (flown : List Flying) (tag : ℕ) → flown ≡ flying ++ record { tag = tag; slot = slot } ∷ [] → IssuesAtMost (whole_tasks flying slots tasks) place flying flown
  issued_one flown tag is_flown = inr (record { task = whole_task flying slots (record { slot = slot; entry = entry }); stands = whole_stands; tag = tag; pushed = is_flown })

-- ---- place after place

holds_append : (fs more : List Flying) (slot : ℕ) → is_outstanding fs slot ≡ true → is_outstanding (fs ++ more) slot ≡ true
holds_append [] more slot h = absurd cc
holds_append (f ∷ fs) more slot h =
    (elim (f.slot == slot) as (λ b. (b || is_outstanding fs slot) ≡ true → (b || is_outstanding (fs ++ more) slot) ≡ true)
    [ true ↦ λ e. refl | false ↦ λ e. holds_append fs more slot e ]) h

-- a place that is covered stays so
pub covered_still : (tasks : List Held) (old new : OnDrive) (place : ℕ) → IsLaunched old new → IsIssuedIfItMay old.queue.flying tasks place → IsIssuedIfItMay new.queue.flying tasks place
covered_still tasks old new place step covered =
    ⊎_elim
    (λ full. inl (omega (arith, full, step.tie.few, ap length step.more, length-append old.queue.flying step.rest)))
    (λ each. inr (λ h task at passes ranged. ap (λ fs. is_outstanding fs h.slot) step.more ∙ holds_append old.queue.flying step.rest h.slot (each h task at passes ranged)))
    covered

-- tasks that are the same with their own pages are as many
pub as_many : (flying flying' : List Flying) (slots slots' : Slots) (tasks tasks' : List Held) → whole_tasks flying slots tasks ≡ whole_tasks flying' slots' tasks' → length tasks ≡ length tasks'
as_many flying flying' slots slots' tasks tasks' same = sym (length-whole flying slots tasks) ∙ ap length same ∙ length-whole flying' slots' tasks'

-- the next task to issue stands behind, and among the tasks
pub next_within : (tasks : List Held) (from place : ℕ) (next : Option ℕ) → IfSome next (λ found. (from ≤ found) × (found < length tasks)) → next ≡ Some place → (from ≤ place) × (place < length tasks)
next_within tasks from place next within found = subst (λ o. IfSome o (λ found. (from ≤ found) × (found < length tasks))) found within

nothing_there : (tasks : List Held) (place : ℕ) → slice_get tasks place ≡ None → eligible_at (entries_of tasks) place ≡ false
nothing_there tasks place none =
    ap (λ o. unwrap_or (option_map (is_clear_by conflicts (take place (entries_of tasks))) o) false) (slice_get-map (λ (h : Held). h.entry) tasks place ∙ ap (option_map (λ (h : Held). h.entry)) none)

-- between, none needs to be issued
pub needs_none : (held barred : ℕ) (flying : List Flying) (tasks : List Held) (from : ℕ) (next : Option ℕ) → AreHeld held flying → IsBarredMask tasks barred → next ≡ position_from (λ slot. bit_at (bit_or held barred) slot == 0) from (drop from (slots_of tasks))
    → (place : ℕ) → from ≤ place → IsBefore place next → NeedsIssue flying tasks place → ⊥
needs_none held barred flying tasks from next are mask is place behind before needed = go (slice_get tasks place) refl
  where
    go : (o : Option Held) → slice_get tasks place ≡ o → ⊥
    go None none = let no : true ≡ false = sym needed.eligible ∙ nothing_there tasks place none in absurd cc
    go (Some h) at =
        let in_slot = get-map (λ (x : Held). x.slot) tasks place h at in
        let some = passed_from (λ slot. bit_at (bit_or held barred) slot == 0) (slots_of tasks) from next is place h.slot behind in_slot before in
        let one : bit_at held h.slot ≡ 0 = eqb-true (bit_at held h.slot) 0 (told_by_zero held flying h.slot are ∙ ap not (needed.fresh h.slot in_slot)) in
        let other : bit_at barred h.slot ≡ 0 = mask place h at ∙ ap (λ b. if b then 0 else 1) needed.eligible in
        eqb-false (bit_at (bit_or held barred) h.slot) 0 some (omega (arith, one, other, bit_at_or held barred h.slot))

-- the task that is found needs to be issued
pub needs_issue : (held barred : ℕ) (flying : List Flying) (tasks : List Held) (from : ℕ) (next : Option ℕ) → AreHeld held flying → IsBarredMask tasks barred → next ≡ position_from (λ slot. bit_at (bit_or held barred) slot == 0) from (drop from (slots_of tasks))
    → IfSome next (NeedsIssue flying tasks)
needs_issue held barred flying tasks from None are mask is = tt
needs_issue held barred flying tasks from (Some place) are mask is =
    let there = passes_from (λ slot. bit_at (bit_or held barred) slot == 0) (slots_of tasks) from place is in
    let h = get-mapped (λ (x : Held). x.slot) tasks place there.0 there.1 in
    let neither : bit_at (bit_or held barred) there.0 ≡ 0 = eqb-true (bit_at (bit_or held barred) there.0) 0 there.2 in
    record {
      eligible = passes (eligible_at (entries_of tasks) place) refl (omega (arith, sym (mask place h.0 h.1.0), ap (bit_at barred) h.1.1, neither, bit_at_or held barred there.0));
      fresh = λ slot at. let same : Some slot ≡ Some there.0 = sym at ∙ there.1 in let one : slot ≡ there.0 = cc in
          ap (is_outstanding flying) one ∙ free (is_outstanding flying there.0) (told_by_zero held flying there.0 are) (omega (arith, neither, bit_at_or held barred there.0));
    }
  where
    passes : (e : Bool) → eligible_at (entries_of tasks) place ≡ e → ◌≡◌ {A = ℕ} (if eligible_at (entries_of tasks) place then 0 else 1) 0 → eligible_at (entries_of tasks) place ≡ true
    passes true is_so zero_is = is_so
    passes false is_so zero_is = let one : ◌≡◌ {A = ℕ} 1 0 = ap (λ b. if b then 0 else 1) (sym is_so) ∙ zero_is in absurd (omega (arith, one))

    free : {bit : ℕ} (b : Bool) → (bit == 0) ≡ not b → bit ≡ 0 → b ≡ false
    free false told none = refl
    free {bit} true told none = let no : true ≡ false = sym (eq-eqb bit 0 none) ∙ told in absurd cc

-- where each place up to this one is covered, so is each before the next task that is not outstanding
pub covered_before : (flying : List Flying) (slots : Slots) (tasks whole : List Held) → whole_tasks flying slots tasks ≡ whole → (from : ℕ) (next : Option ℕ) → ((place : ℕ) → from ≤ place → IsBefore place next → NeedsIssue flying tasks place → ⊥)
    → ((k : ℕ) → k < from → IsIssuedIfItMay flying whole k) → (k : ℕ) → IsBefore k next → IsIssuedIfItMay flying whole k
covered_before flying slots tasks whole same from next none covered k before =
    ⊎_elim (λ below. covered k below)
    (λ behind. subst (λ ts. IsIssuedIfItMay flying ts k) same (covered_kept flying slots tasks k (λ needed. absurd (none k behind before needed))))
    (cases_lt k from)

-- where each place is covered the queue is used
pub filled : (flying : List Flying) (tasks : List Held) → ((k : ℕ) → k < length tasks → IsIssuedIfItMay flying tasks k) → IsFilled flying tasks
filled flying tasks covered = go (cases_eq (length flying) 32)
  where
    go : (length flying ≡ 32) ⊎ (length flying ≡ 32 → ⊥) → IsFilled flying tasks
    go (inl full) = inl full
    go (inr room) = inr (λ h task e ranged. let r = eligible_stands clash tasks h e in ⊎_elim (λ full. absurd (room full)) (λ each. each h task r.1 r.2 ranged) (covered r.0 (slice_get_within tasks r.0 h r.1)))

-- ---- as many outstanding as there are tasks

-- the task in a slot is still found where that of another slot was taken out
found_still : (slot other : ℕ) (hs : List Held) (h : Held) → (slot == other) ≡ false → find (is_in_slot other) hs ≡ Some h → find (is_in_slot other) (remove_first (is_in_slot slot) hs) ≡ Some h
found_still slot other [] h apart is = is
found_still slot other (k ∷ hs) h apart is =
    (elim (k.slot == slot) as (λ b. (k.slot == slot) ≡ b → find (is_in_slot other) (if b then hs else k ∷ remove_first (is_in_slot slot) hs) ≡ Some h) [
      | true ↦ λ here. not_here (k.slot == other) refl here is
      | false ↦ λ there. (elim (k.slot == other) as (λ b. cond b (Some k) (find (is_in_slot other) hs) ≡ Some h → cond b (Some k) (find (is_in_slot other) (remove_first (is_in_slot slot) hs)) ≡ Some h)
          [ true ↦ λ e. e | false ↦ λ e. found_still slot other hs h apart e ]) is
    ]) refl
  where
    not_here : (b : Bool) → (k.slot == other) ≡ b → (k.slot == slot) ≡ true → cond b (Some k) (find (is_in_slot other) hs) ≡ Some h → find (is_in_slot other) hs ≡ Some h
    not_here true ko ki e = let a = eqb-true k.slot other ko in let b = eqb-true k.slot slot ki in let no : (slot == other) ≡ true = eq-eqb slot other (sym b ∙ a) in absurd cc
    not_here false ko ki e = e

-- with the task in a slot put back, each is outstanding
put_back : (f : Flying) (fs : List Flying) (hs : List Held) → AllByRecursion (λ (h : Held). is_outstanding fs h.slot ≡ true) (remove_first (is_in_slot f.slot) hs) → AllByRecursion (λ (h : Held). is_outstanding (f ∷ fs) h.slot ≡ true) hs
put_back f fs [] all = tt
put_back f fs (h ∷ hs) all =
    (elim (h.slot == f.slot) as (λ b. (h.slot == f.slot) ≡ b → AllByRecursion (λ (k : Held). is_outstanding fs k.slot ≡ true) (if b then hs else h ∷ remove_first (is_in_slot f.slot) hs) → AllByRecursion (λ (k : Held). is_outstanding (f ∷ fs) k.slot ≡ true) (h ∷ hs)) [
      | true ↦ λ e rest. (ap (λ b. b || is_outstanding fs h.slot) (eq-eqb f.slot h.slot (sym (eqb-true h.slot f.slot e))), All-weaken (λ (k : Held). is_outstanding fs k.slot ≡ true) (λ (k : Held). is_outstanding (f ∷ fs) k.slot ≡ true) (λ k. more k.slot) hs rest)
      | false ↦ λ e rest. (more h.slot rest.0, put_back f fs hs rest.1)
    ]) refl all
  where
    more : (slot : ℕ) → is_outstanding fs slot ≡ true → is_outstanding (f ∷ fs) slot ≡ true
    more slot held = elim (f.slot == slot) as (λ b. (b || is_outstanding fs slot) ≡ true) [ true ↦ refl | false ↦ held ]

-- where each that is outstanding is of a task of its own, and they are as many as the tasks, all tasks are outstanding
all_outstanding : (fs : List Flying) (hs : List Held) → AreApart fs → AllByRecursion (λ (f : Flying). (h : Held) × (find (is_in_slot f.slot) hs ≡ Some h)) fs → length fs ≡ length hs → AllByRecursion (λ (h : Held). is_outstanding fs h.slot ≡ true) hs
all_outstanding [] [] apart each many = tt
all_outstanding [] (h ∷ hs) apart each many = absurd cc
all_outstanding (f ∷ fs) hs apart each many =
    put_back f fs hs
    (all_outstanding fs (remove_first (is_in_slot f.slot) hs) apart.1
    (All-weaken (λ (g : Flying). (((f.slot == g.slot) ≡ false) × ((f.tag == g.tag) ≡ false)) × ((h : Held) × (find (is_in_slot g.slot) hs ≡ Some h))) (λ (g : Flying). (h : Held) × (find (is_in_slot g.slot) (remove_first (is_in_slot f.slot) hs) ≡ Some h))
    (λ g both. (both.1.0, found_still f.slot g.slot hs both.1.0 both.0.0 both.1.1)) fs (All-both _ _ fs apart.0 each.1))
    (omega (arith, many, length-remove_first (is_in_slot f.slot) hs each.0.0 each.0.1)))

each_found : (tasks : List Held) (fs : List Flying) (qs : List Outstanding) → AllZip (IsFlown tasks) fs qs → AllByRecursion (λ (f : Flying). (h : Held) × (find (is_in_slot f.slot) tasks ≡ Some h)) fs
each_found tasks [] qs each = tt
each_found tasks (f ∷ fs) [] each = absurd each
each_found tasks (f ∷ fs) (q ∷ qs) each = ((each.0.held, each.0.found), each_found tasks fs qs each.1)

eligible_has : (P : Held → Type 0) (tasks : List Held) (h : Held) → AllByRecursion P tasks → IsEligibleBy clash tasks h → P h
eligible_has P [] h all e = absurd e
eligible_has P (k ∷ tasks) h all e = ⊎_elim (λ same. subst P same all.0) (λ behind. eligible_has P tasks h all.1 behind.1) e

-- where as many are outstanding as there are tasks, the queue is used
pub filled_by_all : (flying : List Flying) (tasks : List Held) (d : DriveState) → IsInFlight flying tasks d → length flying ≡ length tasks → IsFilled flying tasks
filled_by_all flying tasks d tie many =
    let all = all_outstanding flying tasks tie.apart (each_found tasks flying d.outstanding tie.each) many in
    inr (λ h task e ranged. eligible_has (λ (k : Held). is_outstanding flying k.slot ≡ true) tasks h all e)

-- ---- one more task

get-front : (tasks : List Held) (h k : Held) (p : ℕ) → slice_get (tasks ++ h ∷ []) p ≡ Some k → (slice_get tasks p ≡ Some k) ⊎ (p ≡ length tasks)
get-front [] h k zero at = inr refl
get-front [] h k (suc p) at = absurd cc
get-front (t ∷ ts) h k zero at = inl at
get-front (t ∷ ts) h k (suc p) at = ⊎_elim inl (λ e. inr (ap suc e)) (get-front ts h k p at)

take-front : (tasks : List Held) (h k : Held) (p : ℕ) → slice_get tasks p ≡ Some k → take p (tasks ++ h ∷ []) ≡ take p tasks
take-front [] h k p at = absurd cc
take-front (t ∷ ts) h k zero at = refl
take-front (t ∷ ts) h k (suc p) at = ap (λ xs. t ∷ xs) (take-front ts h k p at)

get-come : (tasks : List Held) (h k : Held) (p : ℕ) → slice_get tasks p ≡ Some k → slice_get (tasks ++ h ∷ []) p ≡ Some k
get-come [] h k p at = absurd cc
get-come (t ∷ ts) h k zero at = at
get-come (t ∷ ts) h k (suc p) at = get-come ts h k p at

-- where the queue was used, and the new task is covered, it is used
pub filled_come : (tasks : List Held) (h : Held) (old new : OnDrive) → IsFilled old.queue.flying tasks → IsLaunched old new → IsIssuedIfItMay new.queue.flying (tasks ++ h ∷ []) (length tasks) → IsFilled new.queue.flying (tasks ++ h ∷ [])
filled_come tasks h old new was step covered =
    ⊎_elim
    (λ full. inl (omega (arith, full, step.tie.few, ap length step.more, length-append old.queue.flying step.rest)))
    (λ each. ⊎_elim inl (λ last. inr (λ k task e ranged. all each last k task ranged (eligible_stands clash (tasks ++ h ∷ []) k e))) covered)
    was
  where
    all : ((k : Held) (task : RangedTask) → IsEligibleBy clash tasks k → ranged_of k.entry ≡ Some task → is_outstanding old.queue.flying k.slot ≡ true)
        → ((k : Held) (task : RangedTask) → slice_get (tasks ++ h ∷ []) (length tasks) ≡ Some k → eligible_by clash (tasks ++ h ∷ []) (length tasks) ≡ true → ranged_of k.entry ≡ Some task → is_outstanding new.queue.flying k.slot ≡ true)
        → (k : Held) (task : RangedTask) → ranged_of k.entry ≡ Some task → (p : ℕ) × (slice_get (tasks ++ h ∷ []) p ≡ Some k) × (eligible_by clash (tasks ++ h ∷ []) p ≡ true) → is_outstanding new.queue.flying k.slot ≡ true
    all each last k task ranged r =
        ⊎_elim
        (λ front.
        let same : eligible_by clash (tasks ++ h ∷ []) r.0 ≡ eligible_by clash tasks r.0 =
        ap (λ o. unwrap_or (option_map (is_clear_by clash (take r.0 (tasks ++ h ∷ []))) o) false) (get-come tasks h k r.0 front ∙ sym front)
        ∙ ap (λ ts. unwrap_or (option_map (is_clear_by clash ts) (slice_get tasks r.0)) false) (take-front tasks h k r.0 front) in
        ap (λ fs. is_outstanding fs k.slot) step.more ∙ holds_append old.queue.flying step.rest k.slot (each k task (eligible_passes clash tasks r.0 k front (sym same ∙ r.2)) ranged))
        (λ here. last k task (ap (slice_get (tasks ++ h ∷ [])) (sym here) ∙ r.1) (ap (eligible_by clash (tasks ++ h ∷ [])) (sym here) ∙ r.2) ranged)
        (get-front tasks h k r.0 r.1)
