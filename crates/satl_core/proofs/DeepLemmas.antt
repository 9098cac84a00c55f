-- The drive's queue is as deep as the device allows.
use Rattle.std.proofs.Common.{◌≡◌, refl, sym, ◌∙◌, ap, subst, inl, inr, ⊎_elim, ℕ, ◌≤◌, Bool, true, false, cond, List, [], ◌∷◌, length, arith, Some, eqb-true, eq-eqb}
use Rattle.std.specs.Prelude.{◌==◌, ◌||◌, ◌&&◌, MatchBool, not, map, min, if◌then◌else◌}
use Rattle.std.specs.List.{AllByRecursion, IsDistinct, filter, find}
use Rattle.std.proofs.Math.Nat.{min-le_left, min-le_right}
use Rattle.satl_base.specs.Lists.{remove_first}
use Rattle.satl_base.proofs.ListsLemmas.{length-remove_first, All-weaken, All-both, All-filter}
use Rattle.satl_line.specs.Eligible.{IsEligibleBy}
use Rattle.std.proofs.lemmas.List.{length-map}
use Rattle.std.proofs.lemmas.Slice.Zip.{AllZip-long}
use Rattle.satl_line.specs.declared.entry.Entry.{Entry}
use Rattle.satl_line.specs.Conflict.{conflicts}
use Rattle.satl_line.specs.Kinds.{is_ranged, kind_of}
use Rattle.satl_line.specs.Tasks.{AreOwnSlots, Held, entries_of}
use Rattle.satl_drive.specs.State.{DriveState}
use Rattle.satl_direct.specs.Run.{depth, eligibles}
use Rattle.satl_direct.specs.Tasks.{task_of}
use Rattle.satl_flight.specs.Settled.{IsFilled}
use Rattle.satl_flight.specs.Flown.{IsFlown}
use Rattle.satl_core.specs.Layer.{IsKept, Layer, Tied, view}
use Rattle.satl_core.proofs.GivenLemmas.{ranged_held}
use Rattle.satl_flight.specs.declared.flight.Flying.{Flying}
use Rattle.satl_flight.specs.Flown.{clash, is_outstanding}

-- ---- slots that are all outstanding are no more than what is outstanding

found : (slot : ℕ) (fs : List Flying) → is_outstanding fs slot ≡ true → (f : Flying) × (find (λ (g : Flying). g.slot == slot) fs ≡ Some f)
found slot [] h = absurd cc
found slot (f ∷ fs) h =
    (elim (f.slot == slot) as (λ b. (b || is_outstanding fs slot) ≡ true → (g : Flying) × (cond b (Some f) (find (λ (g : Flying). g.slot == slot) fs) ≡ Some g))
    [ true ↦ λ e. (f, refl) | false ↦ λ e. found slot fs e ]) h

still_held : (slot other : ℕ) (fs : List Flying) → (slot == other) ≡ false → is_outstanding fs other ≡ true → is_outstanding (remove_first (λ (g : Flying). g.slot == slot) fs) other ≡ true
still_held slot other [] apart h = h
still_held slot other (f ∷ fs) apart h =
    (elim (f.slot == slot) as (λ b. (f.slot == slot) ≡ b → is_outstanding (if b then fs else f ∷ remove_first (λ (g : Flying). g.slot == slot) fs) other ≡ true) [
      | true ↦ λ is. not_here (f.slot == other) refl is h
      | false ↦ λ is. (elim (f.slot == other) as (λ b. (b || is_outstanding fs other) ≡ true → (b || is_outstanding (remove_first (λ (g : Flying). g.slot == slot) fs) other) ≡ true)
          [ true ↦ λ e. refl | false ↦ λ e. still_held slot other fs apart e ]) h
    ]) refl
  where
    not_here : (b : Bool) → (f.slot == other) ≡ b → (f.slot == slot) ≡ true → (b || is_outstanding fs other) ≡ true → is_outstanding fs other ≡ true
    not_here true fo fi e = let a = eqb-true f.slot other fo in let b = eqb-true f.slot slot fi in let no : (slot == other) ≡ true = eq-eqb slot other (sym b ∙ a) in absurd cc
    not_here false fo fi e = e

pub pigeon : (hs : List Held) (fs : List Flying) → AreOwnSlots hs → AllByRecursion (λ (h : Held). is_outstanding fs h.slot ≡ true) hs → length hs ≤ length fs
unfolding IsDistinct
pigeon [] fs own held = omega arith
pigeon (h ∷ hs) fs own held =
    let f = found h.slot fs held.0 in
    let fewer = length-remove_first (λ (g : Flying). g.slot == h.slot) fs f.0 f.1 in
    let rest = pigeon hs (remove_first (λ (g : Flying). g.slot == h.slot) fs) own.1
    (All-weaken (λ (k : Held). ((h.slot == k.slot) ≡ false) × (is_outstanding fs k.slot ≡ true)) (λ (k : Held). is_outstanding (remove_first (λ (g : Flying). g.slot == h.slot) fs) k.slot ≡ true) (λ k both. still_held h.slot k.slot fs both.0 both.1) hs (All-both _ _ hs own.0 held.1)) in
    omega (arith, fewer, rest)

-- ---- the eligible tasks

filter-map : {X Y : Type 0} (f : X → Y) (p : Y → Bool) (xs : List X) → filter p (map f xs) ≡ map f (filter (λ x. p (f x)) xs)
filter-map f p [] = refl
filter-map f p (x ∷ xs) = elim (p (f x)) as (λ b. cond b (f x ∷ filter p (map f xs)) (filter p (map f xs)) ≡ map f (cond b (x ∷ filter (λ x. p (f x)) xs) (filter (λ x. p (f x)) xs))) [ true ↦ ap (λ l. f x ∷ l) (filter-map f p xs) | false ↦ filter-map f p xs ]

All-passing : {X : Type 0} (P : X → Type 0) (p : X → Bool) (xs : List X) → AllByRecursion (λ x. p x ≡ true → P x) xs → AllByRecursion P (filter p xs)
All-passing P p [] all = tt
All-passing P p (x ∷ xs) all =
    (elim (p x) as (λ b. p x ≡ b → AllByRecursion P (cond b (x ∷ filter p xs) (filter p xs)))
    [ true ↦ λ e. (all.0 e, All-passing P p xs all.1) | false ↦ λ e. All-passing P p xs all.1 ]) refl

-- the eligible tasks, each in its slot
abbrev pub eligibles_held : List Held → List Held
eligibles_held [] = []
eligibles_held (h ∷ hs) = h ∷ filter (λ u. not (clash h u)) (eligibles_held hs)

abbrev as_seen : Held → Entry
as_seen h = task_of h.entry

eligibles_seen : (hs : List Held) → eligibles (map task_of (entries_of hs)) ≡ map as_seen (eligibles_held hs)
eligibles_seen [] = refl
eligibles_seen (h ∷ hs) = ap (λ ts. as_seen h ∷ filter (λ u. not (conflicts (as_seen h) u)) ts) (eligibles_seen hs) ∙ ap (λ ts. as_seen h ∷ ts) (filter-map as_seen (λ u. not (conflicts (as_seen h) u)) (eligibles_held hs))

All-eligibles : (P : Held → Type 0) (hs : List Held) → AllByRecursion P hs → AllByRecursion P (eligibles_held hs)
All-eligibles P [] all = tt
All-eligibles P (h ∷ hs) all = (all.0, All-filter P (λ u. not (clash h u)) (eligibles_held hs) (All-eligibles P hs all.1))

each_eligible : (hs : List Held) → AllByRecursion (IsEligibleBy clash hs) (eligibles_held hs)
each_eligible [] = tt
each_eligible (h ∷ hs) = (inl refl, kept (eligibles_held hs) (each_eligible hs))
  where
    kept : (us : List Held) → AllByRecursion (IsEligibleBy clash hs) us → AllByRecursion (IsEligibleBy clash (h ∷ hs)) (filter (λ u. not (clash h u)) us)
    kept [] all = tt
    kept (u ∷ us) all =
        (elim (clash h u) as (λ b. clash h u ≡ b → AllByRecursion (IsEligibleBy clash (h ∷ hs)) (cond (not b) (u ∷ filter (λ u. not (clash h u)) us) (filter (λ u. not (clash h u)) us)))
        [ true ↦ λ e. kept us all.1 | false ↦ λ e. (inr (e, all.0), kept us all.1) ]) refl

own_filter : (p : Held → Bool) (hs : List Held) → AreOwnSlots hs → AreOwnSlots (filter p hs)
unfolding IsDistinct
own_filter p [] own = tt
own_filter p (h ∷ hs) own =
    elim (p h) as (λ b. AreOwnSlots (cond b (h ∷ filter p hs) (filter p hs)))
    [ true ↦ (All-filter (λ (k : Held). (h.slot == k.slot) ≡ false) p hs own.0, own_filter p hs own.1) | false ↦ own_filter p hs own.1 ]

own_eligibles : (hs : List Held) → AreOwnSlots hs → AreOwnSlots (eligibles_held hs)
unfolding IsDistinct
own_eligibles [] own = tt
own_eligibles (h ∷ hs) own = (
  All-filter (λ (k : Held). (h.slot == k.slot) ≡ false) (λ u. not (clash h u)) (eligibles_held hs) (All-eligibles (λ (k : Held). (h.slot == k.slot) ≡ false) hs own.0),
  own_filter (λ u. not (clash h u)) (eligibles_held hs) (own_eligibles hs own.1),
)

-- the depth of the device is no more than what is outstanding, where the queue is used
pub deep_enough : (tasks : List Held) (flying : List Flying) (queued_trim : Bool) → AreOwnSlots tasks → AllByRecursion (λ (h : Held). h.entry.kind ≡ kind_of h.entry.command queued_trim) tasks → IsFilled flying tasks
    → min 32 (length (filter is_ranged (eligibles (map task_of (entries_of tasks))))) ≤ length flying
deep_enough tasks flying queued_trim own kinds filled =
    ⊎_elim
    (λ full. omega (arith, full, min-le_left 32 (length (filter is_ranged (eligibles (map task_of (entries_of tasks)))))))
    (λ each.
    let count = ap (λ ts. length (filter is_ranged ts)) (eligibles_seen tasks) ∙ ap length (filter-map as_seen is_ranged (eligibles_held tasks)) ∙ length-map (filter (λ h. is_ranged (as_seen h)) (eligibles_held tasks)) as_seen in
    let few = pigeon (filter (λ h. is_ranged (as_seen h)) (eligibles_held tasks)) flying (own_filter (λ h. is_ranged (as_seen h)) (eligibles_held tasks) (own_eligibles tasks own))
    (All-passing (λ (h : Held). is_outstanding flying h.slot ≡ true) (λ h. is_ranged (as_seen h)) (eligibles_held tasks)
    (All-weaken (λ (h : Held). (h.entry.kind ≡ kind_of h.entry.command queued_trim) × IsEligibleBy clash tasks h) (λ (h : Held). is_ranged (as_seen h) ≡ true → is_outstanding flying h.slot ≡ true)
    (λ h both ranged. let r = ranged_held h.entry queued_trim both.0 ranged in each h r.0 both.1 r.1) (eligibles_held tasks)
    (All-both (λ (h : Held). h.entry.kind ≡ kind_of h.entry.command queued_trim) (IsEligibleBy clash tasks) (eligibles_held tasks) (All-eligibles (λ (h : Held). h.entry.kind ≡ kind_of h.entry.command queued_trim) tasks kinds) (each_eligible tasks)))) in
    omega (arith, count, few, min-le_right 32 (length (filter is_ranged (eligibles (map task_of (entries_of tasks)))))))
    filled

kinds_kept : (identity : Rattle.satl_identify.specs.declared.identity.Identity.Identity) (hs : List Held) → AllByRecursion (IsKept identity) hs → AllByRecursion (λ (h : Held). h.entry.kind ≡ kind_of h.entry.command identity.queued_trim) hs
kinds_kept identity [] kept = tt
kinds_kept identity (h ∷ hs) kept = (kept.0.kind, kinds_kept identity hs kept.1)

-- a drive has as many commands outstanding as the device allows
pub as_deep : (l : Layer) (d : DriveState) → AreOwnSlots l.tasks → AllByRecursion (IsKept l.identity) l.tasks → Tied l d → depth (view l d) ≤ length d.outstanding
as_deep l d own kept tied = by d.down l.started refl refl
  where
    count : length l.flying ≡ length d.outstanding
    count = sym (AllZip-long (IsFlown l.tasks) l.flying d.outstanding tied.agrees.queue.each)

    by : (down started : Bool) → d.down ≡ down → l.started ≡ started → (if down || not started then 0 else min 32 (length (filter is_ranged (eligibles (map task_of (entries_of l.tasks)))))) ≤ length d.outstanding
    by true started is on = omega arith
    by false false is on = omega arith
    by false true is on =
        let filled : IsFilled l.flying l.tasks = subst (λ b. MatchBool b (IsFilled l.flying l.tasks) (l.flying ≡ [])) (ap (λ b. not b && l.started) (tied.agrees.mark ∙ is) ∙ on) tied.used in
        let deep = deep_enough l.tasks l.flying l.identity.queued_trim own (kinds_kept l.identity l.tasks kept) filled in
        omega (arith, deep, count)
