-- Tasks go without an answer, and the others stay.
use Rattle.std.proofs.Common.{◌≡◌, refl, sym, ap, subst, ◌∙◌, arith, cond, ℕ, zero, suc, ◌+◌, ◌≤◌, ◌<◌, ◌≢◌, Bool, true, false, List, [], ◌∷◌, length, map, take, drop, Some}
use Rattle.std.specs.Option.{option_map}
use Rattle.std.specs.Prelude.{not, ◌||◌, filter, remove, is_some, slice_get}
use Rattle.std.specs.List.{AllByRecursion, list_any, position_from}
use Rattle.std.proofs.lemmas.List.{take_all}
use Rattle.satl_base.specs.declared.request.Tag.{Tag}
use Rattle.satl_line.specs.declared.entry.Entry.{Entry}
use Rattle.satl_line.specs.Tasks.{Held, entries_of, entry_at, is_named, without_pages}
use Rattle.satl_direct.specs.Device.{is_called}
use Rattle.satl_direct.specs.Tasks.{task_of}
use Rattle.satl_core.specs.Layer.{held_pages}
use Rattle.satl_flight.specs.declared.flight.Flying.{Flying}
use Rattle.satl_flight.specs.Flown.{is_outstanding}
use Rattle.satl_core.specs.declared.leaving.Scope.{Scope}
use Rattle.satl_core.specs.declared.leaving.Scope.TheVariants as scopes
use Rattle.satl_core.specs.Leaving.{AreWaiting, is_within, left_by}
use Rattle.satl_core.proofs.HeldLemmas.{held_pages_cons}

-- a task that is to go is taken out
pub left_removed : (goes : Entry → Bool) (tasks : List Held) (place : ℕ) (entry : Entry) → entry_at tasks place ≡ Some entry → goes entry ≡ true → left_by goes (remove tasks place) ≡ left_by goes tasks
left_removed goes [] place entry at is = absurd cc
left_removed goes (h ∷ tasks) zero entry at is =
    let here : h.entry ≡ entry = cc in
    let test : goes h.entry ≡ true = ap goes here ∙ is in
    rw test refl
left_removed goes (h ∷ tasks) (suc place) entry at is =
    ap (λ l. cond (not (goes h.entry)) (h ∷ l) l) (left_removed goes tasks place entry at is)

-- the tasks before a place stay
abbrev pub AreOthers : (Entry → Bool) → ℕ → List Held → Type 0
AreOthers goes place tasks = AllByRecursion (λ h. goes h.entry ≡ false) (take place tasks)

take_removed : (tasks : List Held) (place : ℕ) → take place (remove tasks place) ≡ take place tasks
take_removed tasks zero = refl
take_removed [] (suc place) = refl
take_removed (h ∷ tasks) (suc place) = ap (λ l. h ∷ l) (take_removed tasks place)

pub others_removed : (goes : Entry → Bool) (tasks : List Held) (place : ℕ) → AreOthers goes place tasks → AreOthers goes place (remove tasks place)
others_removed goes tasks place all = subst (λ l. AllByRecursion (λ h. goes h.entry ≡ false) l) (sym (take_removed tasks place)) all

left_all : (goes : Entry → Bool) (tasks : List Held) → AllByRecursion (λ h. goes h.entry ≡ false) tasks → left_by goes tasks ≡ tasks
left_all goes [] all = refl
left_all goes (h ∷ tasks) all = let test : goes h.entry ≡ false = all.0 in rw test (ap (λ l. h ∷ l) (left_all goes tasks all.1))

-- all tasks were looked at
pub all_looked_at : (goes : Entry → Bool) (old new : List Held) (place : ℕ) → length new ≤ place → left_by goes new ≡ left_by goes old → AreOthers goes place new → new ≡ left_by goes old
all_looked_at goes old new place whole same all =
    sym (left_all goes new (subst (λ l. AllByRecursion (λ h. goes h.entry ≡ false) l) (take_all place new whole) all)) ∙ same

pub pages_removed : (tasks : List Held) (place : ℕ) (entry : Entry) → entry_at tasks place ≡ Some entry → held_pages tasks ≡ length entry.body + held_pages (remove tasks place)
pages_removed [] place entry at = absurd cc
pages_removed (h ∷ tasks) zero entry at = let here : h.entry ≡ entry = cc in held_pages_cons h tasks ∙ ap (λ (e : Entry). length e.body + held_pages tasks) here
pages_removed (h ∷ tasks) (suc place) entry at = let rest = pages_removed tasks place entry at in omega (arith, rest, held_pages_cons h tasks, held_pages_cons h (remove tasks place))

pub count_removed : (tasks : List Held) (place : ℕ) (entry : Entry) → entry_at tasks place ≡ Some entry → length tasks ≡ suc (length (remove tasks place))
count_removed [] place entry at = absurd cc
count_removed (h ∷ tasks) zero entry at = refl
count_removed (h ∷ tasks) (suc place) entry at = ap suc (count_removed tasks place entry at)

-- no task stays where all go
pub left_none : (tasks : List Held) → left_by (λ t. true) tasks ≡ []
left_none [] = refl
left_none (h ∷ tasks) = left_none tasks

-- the tasks that stay are those that the device keeps, by a test that says the same of them there
pub left_tasks : (goes is_gone : Entry → Bool) → ((t : Entry) → is_gone (task_of t) ≡ goes t) → (tasks : List Held) → map task_of (entries_of (left_by goes tasks)) ≡ filter (λ t. not (is_gone t)) (map task_of (entries_of tasks))
left_tasks goes is_gone same [] = refl
left_tasks goes is_gone same (h ∷ tasks) = rw (same h.entry) (both (left_tasks goes is_gone same tasks) (goes h.entry))
  where
    both : map task_of (entries_of (left_by goes tasks)) ≡ filter (λ t. not (is_gone t)) (map task_of (entries_of tasks)) → (b : Bool) → map task_of (entries_of (cond (not b) (h ∷ left_by goes tasks) (left_by goes tasks))) ≡ cond (not b) (task_of h.entry ∷ filter (λ t. not (is_gone t)) (map task_of (entries_of tasks))) (filter (λ t. not (is_gone t)) (map task_of (entries_of tasks)))
    both rest true = rest
    both rest false = ap (λ l. task_of h.entry ∷ l) rest

-- ---- whether one is there

-- a test that does not look at pages
abbrev pub IsBare : (Entry → Bool) → Type 0
IsBare p = (t : Entry) → p t ≡ p (without_pages t)

pub within_bare : (scope : Scope) → IsBare (is_within scope)
within_bare (scopes.OneTask nexus tag) t = refl
within_bare (scopes.OfNexus nexus) t = refl
within_bare scopes.All t = refl
within_bare scopes.Nothing t = refl

-- it says the same of tasks that are alike but for their pages
bare_alike : (p : Entry → Bool) → IsBare p → (t u : Entry) → without_pages t ≡ without_pages u → p t ≡ p u
bare_alike p bare t u alike = bare t ∙ (ap p alike ∙ sym (bare u))

-- the task at a place is what was seen there, but for its pages
seen_there : (tasks : List Held) (place : ℕ) (entry : Entry) (h : Held) → option_map without_pages (entry_at tasks place) ≡ Some (without_pages entry) → slice_get tasks place ≡ Some h → without_pages h.entry ≡ without_pages entry
seen_there tasks place entry h at stands =
    let same : Some (without_pages h.entry) ≡ Some (without_pages entry) = sym (ap (λ o. option_map without_pages (option_map (λ (k : Held). k.entry) o)) stands) ∙ at in cc

-- what is seen of a task at a place tells whether it passes
pub seen_passes : (p : Entry → Bool) → IsBare p → (tasks : List Held) (place : ℕ) (entry : Entry) (b : Bool) (h : Held) → option_map without_pages (entry_at tasks place) ≡ Some (without_pages entry) → slice_get tasks place ≡ Some h → p entry ≡ b → p h.entry ≡ b
seen_passes p bare tasks place entry b h at stands is = bare_alike p bare h.entry entry (seen_there tasks place entry h at stands) ∙ is

-- what is taken out at a place passes as what was seen there
pub bare_goes : (p : Entry → Bool) → IsBare p → (tasks : List Held) (place : ℕ) (entry taken : Entry) → option_map without_pages (entry_at tasks place) ≡ Some (without_pages entry) → entry_at tasks place ≡ Some taken → p entry ≡ true → p taken ≡ true
bare_goes p bare tasks place entry taken at is passes =
    let same : Some (without_pages taken) ≡ Some (without_pages entry) = sym (ap (option_map without_pages) is) ∙ at in
    let one : without_pages taken ≡ without_pages entry = cc in
    bare_alike p bare taken entry one ∙ passes

-- the task at a place is one
pub any_here : (p : Entry → Bool) → IsBare p → (tasks : List Held) (place : ℕ) (entry : Entry) → option_map without_pages (entry_at tasks place) ≡ Some (without_pages entry) → p entry ≡ true → list_any p (entries_of (drop place tasks)) ≡ true
any_here p bare [] place entry at is = absurd cc
any_here p bare (h ∷ tasks) zero entry at is = ap (λ b. b || list_any p (entries_of tasks)) (seen_passes p bare (h ∷ tasks) zero entry true h at refl is)
any_here p bare (h ∷ tasks) (suc place) entry at is = any_here p bare tasks place entry at is

-- it is none, and the others are looked at
any_step : (p : Entry → Bool) → IsBare p → (tasks : List Held) (place : ℕ) (entry : Entry) → option_map without_pages (entry_at tasks place) ≡ Some (without_pages entry) → p entry ≡ false → list_any p (entries_of (drop place tasks)) ≡ list_any p (entries_of (drop (suc place) tasks))
any_step p bare [] place entry at is = absurd cc
any_step p bare (h ∷ tasks) zero entry at is = ap (λ b. b || list_any p (entries_of tasks)) (seen_passes p bare (h ∷ tasks) zero entry false h at refl is)
any_step p bare (h ∷ tasks) (suc place) entry at is = any_step p bare tasks place entry at is

pub any_next : (p : Entry → Bool) → IsBare p → (tasks : List Held) (place next : ℕ) (entry : Entry) → next ≡ suc place → option_map without_pages (entry_at tasks place) ≡ Some (without_pages entry) → p entry ≡ false → list_any p (entries_of (drop place tasks)) ≡ list_any p (entries_of (drop next tasks))
any_next p bare tasks place next entry e at is = any_step p bare tasks place entry at is ∙ ap (λ n. list_any p (entries_of (drop n tasks))) (sym e)

-- ---- whether one is outstanding

-- of the tasks before a place none that passes is outstanding
abbrev pub WaitBefore : (Entry → Bool) → List Flying → ℕ → List Held → Type 0
WaitBefore goes flying place tasks = AreWaiting goes flying (take place tasks)

wait_step : (goes : Entry → Bool) (flying : List Flying) (tasks : List Held) (place : ℕ) → ((h : Held) → slice_get tasks place ≡ Some h → goes h.entry ≡ true → is_outstanding flying h.slot ≡ false) → WaitBefore goes flying place tasks → WaitBefore goes flying (suc place) tasks
wait_step goes flying [] place one all = tt
wait_step goes flying (h ∷ tasks) zero one all = (one h refl, tt)
wait_step goes flying (h ∷ tasks) (suc place) one all = (all.0, wait_step goes flying tasks place one all.1)

-- nor is the next
pub wait_next : (goes : Entry → Bool) → IsBare goes → (flying : List Flying) (tasks : List Held) (place next : ℕ) (entry : Entry) (out : Bool) → next ≡ suc place → option_map without_pages (entry_at tasks place) ≡ Some (without_pages entry)
    → (goes entry ≡ true → (h : Held) → slice_get tasks place ≡ Some h → out ≡ is_outstanding flying h.slot) → (goes entry ≡ true → out ≡ false) → WaitBefore goes flying place tasks → WaitBefore goes flying next tasks
wait_next goes bare flying tasks place next entry out e at told none all =
    subst (λ n. WaitBefore goes flying n tasks) (sym e) (wait_step goes flying tasks place
    (λ h stands is. let here = sym (bare_alike goes bare h.entry entry (seen_there tasks place entry h at stands)) ∙ is in sym (told here h stands) ∙ none here) all)

-- a task that passes is not outstanding, where those that pass are none
pub waits_at : (goes : Entry → Bool) (flying : List Flying) (tasks : List Held) (place : ℕ) (h : Held) → AreWaiting goes flying tasks → slice_get tasks place ≡ Some h → goes h.entry ≡ true → is_outstanding flying h.slot ≡ false
waits_at goes flying [] place h all at is = absurd cc
waits_at goes flying (t ∷ tasks) zero h all at is =
    let same : t ≡ h = cc in
    subst (λ (k : Held). goes k.entry ≡ true → is_outstanding flying k.slot ≡ false) same all.0 is
waits_at goes flying (t ∷ tasks) (suc place) h all at is = waits_at goes flying tasks place h all.1 at is

-- where a task is outstanding something is
pub some_held : (flying : List Flying) (slot : ℕ) → is_outstanding flying slot ≡ true → flying ≢ []
some_held [] slot held = absurd cc
some_held (f ∷ flying) slot held = λ none. absurd cc

pub stands : (tasks : List Held) (place : ℕ) → place < length tasks → (h : Held) × (slice_get tasks place ≡ Some h)
stands [] place less = absurd (omega (arith, less))
stands (h ∷ tasks) zero less = (h, refl)
stands (h ∷ tasks) (suc place) less = stands tasks place (omega (arith, less))

-- nothing is outstanding
pub idle_waits : (goes : Entry → Bool) (flying : List Flying) (tasks : List Held) → flying ≡ [] → AreWaiting goes flying tasks
idle_waits goes flying [] idle = tt
idle_waits goes flying (h ∷ tasks) idle = ((λ is. ap (λ fs. is_outstanding fs h.slot) idle), idle_waits goes flying tasks idle)

-- the device has one where the layer has, by a test that says the same of them there
pub any_tasks : (p q : Entry → Bool) → ((t : Entry) → q (task_of t) ≡ p t) → (tasks : List Held) → list_any p (entries_of tasks) ≡ list_any q (map task_of (entries_of tasks))
any_tasks p q same [] = refl
any_tasks p q same (h ∷ tasks) = ap (λ b. b || list_any p (entries_of tasks)) (sym (same h.entry)) ∙ ap (λ b. q (task_of h.entry) || b) (any_tasks p q same tasks)

-- a task of this nexus and tag is found where there is one
pub found_is : (nexus : ℕ) (tag : Tag) (tasks : List Held) (n : ℕ) → is_some (position_from (is_named nexus tag) n tasks) ≡ list_any (is_called nexus tag.0) (map task_of (entries_of tasks))
found_is nexus tag [] n = refl
found_is nexus tag (h ∷ tasks) n =
    elim (is_named nexus tag h) as (λ b. is_some (cond b (Some n) (position_from (is_named nexus tag) (n + 1) tasks)) ≡ (b || list_any (is_called nexus tag.0) (map task_of (entries_of tasks)))) [
      | true ↦ refl
      | false ↦ found_is nexus tag tasks (n + 1)
    ]
