-- The tasks of the layer and their pages.
use Rattle.std.proofs.Common.{◌≡◌, append_assoc, refl, sym, ap, subst, ◌∙◌, arith, ℕ, zero, suc, ◌+◌, ◌≤◌, Bool, false, List, [], ◌∷◌, ◌++◌, length, Some}
use Rattle.std.specs.Prelude.{IfSome, Result, Ok, Err, OnOk, is_err, remove, slice_get}
use Rattle.std.specs.List.{AllByRecursion, filter}
use Rattle.std.proofs.lemmas.List.{length_push}
use Rattle.std.proofs.lemmas.Slice.Zip.{AllZip-long}
use Rattle.std.proofs.lemmas.List.Sums.{count_by-le-length, length-filter, sum_by-append, sum_by-cons}
use Rattle.satl_base.specs.declared.reply.Reply.{Reply}
use Rattle.satl_line.specs.declared.entry.Entry.{Entry}
use Rattle.satl_identify.specs.declared.identity.Identity.{Identity}
use Rattle.satl_line.specs.Kinds.{kind_of}
use Rattle.satl_mode.specs.Changes.{IsChangeOf}
use Rattle.satl_line.specs.Tasks.{Held, entry_at, total_blocks}
use Rattle.satl_core.specs.declared.turning.Ending.TheVariants as endings
use Rattle.satl_direct.specs.Senses.{link_lost}
use Rattle.satl_flight.specs.Lending.{AreAlike}
use Rattle.satl_core.specs.Layer.{CanTrim, IsKept, IsTask, entry_pages, held_pages, reply_pages}
use Rattle.satl_base.specs.Limits.{IsExpectable}
use Rattle.satl_base.specs.Lists.{change_at}
use Rattle.satl_core.specs.Turning.{ended_reply, lost_replies}
use Rattle.satl_core.proofs.Transfers.{entries_few}

-- a filter leaves no more than there was
pub filter_fewer : {X : Type 0} (p : X → Bool) (xs : List X) → length (filter p xs) ≤ length xs
filter_fewer p xs = let count = length-filter p xs in let most = count_by-le-length p xs in omega (arith, count, most)

-- ---- pages of one more

pub held_pages_cons : (h : Held) (hs : List Held) → held_pages (h ∷ hs) ≡ length h.entry.body + held_pages hs
held_pages_cons h hs = sum_by-cons (λ (x : Held). length x.entry.body) h hs

pub reply_pages_cons : (r : Reply) (rs : List Reply) → reply_pages (r ∷ rs) ≡ length r.body + reply_pages rs
reply_pages_cons r rs = sum_by-cons (λ (x : Reply). length x.body) r rs

-- ---- the first task

-- a task is kept, whatever its slot
pub record IsKeptEntry (identity : Identity) (e : Entry) : Type 0 where
  pub pages : length e.body ≡ e.blocks + entry_pages e.command identity.queued_trim
  pub trims : CanTrim identity e.command e.ranges.items
  pub task : IsTask identity.capacity e.command e.blocks
  pub kind : e.kind ≡ kind_of e.command identity.queued_trim
  pub change : IfSome e.change (IsChangeOf identity)
  pub expected : IsExpectable e.expected

-- the first task is this one, and the others are these
pub record IsFirst (tasks : List Held) (entry : Entry) (rest : List Held) : Type 0 where
  pub held : Held
  pub are : tasks ≡ held ∷ rest
  pub entry_is : held.entry ≡ entry

pub first_of : (tasks rest : List Held) (entry : Entry) → entry_at tasks 0 ≡ Some entry → rest ≡ remove tasks 0 → IsFirst tasks entry rest
first_of [] rest entry at left = absurd cc
first_of (held ∷ more) rest entry at left = record { held = held; are = ap (λ x. held ∷ x) (sym left); entry_is = cc }

pub first_pages : (tasks rest : List Held) (entry : Entry) → IsFirst tasks entry rest → held_pages tasks ≡ length entry.body + held_pages rest
first_pages tasks rest entry first = rw first.are (held_pages_cons first.held rest ∙ ap (λ (e : Entry). length e.body + held_pages rest) first.entry_is)

pub first_count : (tasks rest : List Held) (entry : Entry) → IsFirst tasks entry rest → length tasks ≡ suc (length rest)
first_count tasks rest entry first = ap length first.are

pub first_all : (P : Entry → Type 0) (tasks rest : List Held) (entry : Entry) → AllByRecursion (λ h. P h.entry) tasks → IsFirst tasks entry rest → P entry × AllByRecursion (λ h. P h.entry) rest
first_all P tasks rest entry all first =
    let both : P first.held.entry × AllByRecursion (λ h. P h.entry) rest = subst (λ x. AllByRecursion (λ h. P h.entry) x) first.are all in
    (subst P first.entry_is both.0, both.1)

pub first_kept : (identity : Identity) (tasks rest : List Held) (entry : Entry) → AllByRecursion (IsKept identity) tasks → IsFirst tasks entry rest → IsKeptEntry identity entry × AllByRecursion (IsKept identity) rest
first_kept identity tasks rest entry all first =
    let both : IsKept identity first.held × AllByRecursion (IsKept identity) rest = subst (λ x. AllByRecursion (IsKept identity) x) first.are all in
    (subst (IsKeptEntry identity) first.entry_is (record { pages = both.0.pages; trims = both.0.trims; task = both.0.task; kind = both.0.kind; change = both.0.change; expected = both.0.expected }), both.1)

-- answering the first task leaves the answers of all as they are
pub first_lost : (descriptor : Bool) (tasks rest : List Held) (entry : Entry) (replies replies' all : List Reply) → IsFirst tasks entry rest → replies ++ lost_replies descriptor tasks ≡ all
    → replies' ≡ replies ++ ended_reply entry (endings.Check link_lost) descriptor ∷ [] → replies' ++ lost_replies descriptor rest ≡ all
first_lost descriptor tasks rest entry replies replies' all first whole pushed =
    let r = ended_reply entry (endings.Check link_lost) descriptor in
    ap (λ l. l ++ lost_replies descriptor rest) pushed ∙ (append_assoc replies (r ∷ []) (lost_replies descriptor rest) ∙ (ap (λ l. replies ++ l) here ∙ whole))
  where
    here : ended_reply entry (endings.Check link_lost) descriptor ∷ lost_replies descriptor rest ≡ lost_replies descriptor tasks
    here = rw first.are (ap (λ (e : Entry). ended_reply e (endings.Check link_lost) descriptor ∷ lost_replies descriptor rest) (sym first.entry_is))

-- what holds of all tasks holds of the one at a place
pub at_place : (P : Held → Type 0) (tasks : List Held) (place : ℕ) (h : Held) → AllByRecursion P tasks → slice_get tasks place ≡ Some h → P h
at_place P [] place h all at = absurd cc
at_place P (k ∷ tasks) zero h all at = let one : k ≡ h = cc in subst P one all.0
at_place P (k ∷ tasks) (suc place) h all at = at_place P tasks place h all.1 at

-- ---- pages

pub held-append : (xs ys : List Held) → held_pages (xs ++ ys) ≡ held_pages xs + held_pages ys
held-append xs ys = sum_by-append (λ (h : Held). length h.entry.body) xs ys

-- tasks hold as many pages as blocks, and at most one more each
pub held_is : (identity : Identity) (tasks : List Held) → AllByRecursion (IsKept identity) tasks → held_pages tasks ≤ total_blocks tasks + length tasks
held_is identity [] all = omega arith
held_is identity (h ∷ tasks) all =
    let here = all.0.pages in
    let one = entries_few h.entry.command identity.queued_trim in
    let rest = held_is identity tasks all.1 in
    omega (arith, here, one, rest, held_pages_cons h tasks, sum_by-cons (λ (h : Held). h.entry.blocks) h tasks)

pub reply_pages-append : (xs ys : List Reply) → reply_pages (xs ++ ys) ≡ reply_pages xs + reply_pages ys
reply_pages-append xs ys = sum_by-append (λ (r : Reply). length r.body) xs ys

-- ---- the last task

pub last_at : (tasks : List Held) (h : Held) (n : ℕ) → n ≡ length tasks → slice_get (tasks ++ h ∷ []) n ≡ Some h
last_at [] h n e = rw e refl
last_at (t ∷ tasks) h n e = rw e (last_at tasks h (length tasks) refl)

pub last_changed : (change : Held → Held) (tasks : List Held) (h : Held) (n : ℕ) → n ≡ length tasks → change_at (tasks ++ h ∷ []) n change ≡ tasks ++ change h ∷ []
last_changed change [] h n e = rw e refl
last_changed change (t ∷ tasks) h n e = rw e (ap (λ l. t ∷ l) (last_changed change tasks h (length tasks) refl))

-- what an Ok says
pub on_ok : {A E : Type 0} (r : Result A E) (P : Type 0) → is_err r ≡ false → OnOk r P → P
on_ok (Ok a) P e p = p
on_ok (Err x) P e p = absurd cc

-- one reply more
pub pushed : (replies replies' : List Reply) (r : Reply) → replies' ≡ replies ++ r ∷ [] → length replies' ≡ length replies + 1
pushed replies replies' r is = ap length is ∙ length_push replies r

-- ---- the same tasks, whatever their pages hold

pub alike_kept : (identity : Identity) (old new : List Held) → AreAlike old new → AllByRecursion (IsKept identity) old → AllByRecursion (IsKept identity) new
alike_kept identity [] [] alike kept = tt
alike_kept identity [] (h ∷ new) alike kept = absurd alike
alike_kept identity (k ∷ old) [] alike kept = absurd alike
alike_kept identity (k ∷ old) (h ∷ new) alike kept =
    (subst (IsKept identity) (sym alike.0.stays) (record { pages = alike.0.size ∙ kept.0.pages; trims = kept.0.trims; task = kept.0.task; kind = kept.0.kind; change = kept.0.change; expected = kept.0.expected }), alike_kept identity old new alike.1 kept.1)

pub alike_held : (old new : List Held) → AreAlike old new → held_pages new ≡ held_pages old
alike_held [] [] alike = refl
alike_held [] (h ∷ new) alike = absurd alike
alike_held (k ∷ old) [] alike = absurd alike
alike_held (k ∷ old) (h ∷ new) alike = let here = alike.0.size in let rest = alike_held old new alike.1 in omega (arith, here, rest, held_pages_cons k old, held_pages_cons h new)

pub alike_count : (old new : List Held) → AreAlike old new → length new ≡ length old
alike_count old new alike = AllZip-long _ old new alike

-- at a lost link they are answered alike
pub alike_lost : (descriptor : Bool) (old new : List Held) → AreAlike old new → lost_replies descriptor new ≡ lost_replies descriptor old
alike_lost descriptor [] [] alike = refl
alike_lost descriptor [] (h ∷ new) alike = absurd alike
alike_lost descriptor (k ∷ old) [] alike = absurd alike
alike_lost descriptor (k ∷ old) (h ∷ new) alike =
    ap (λ (x : Held). ended_reply x.entry (endings.Check link_lost) descriptor ∷ lost_replies descriptor new) alike.0.stays ∙ ap (λ l. ended_reply k.entry (endings.Check link_lost) descriptor ∷ l) (alike_lost descriptor old new alike.1)
