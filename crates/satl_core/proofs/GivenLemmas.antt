-- What is outstanding is what the tie says.
use Rattle.std.proofs.Common.{◌≡◌, refl, sym, ◌∙◌, ap, subst, inl, inr, ⊎_elim, ℕ, Bool, true, false, cond, List, [], ◌∷◌, Some, eqb-true, eq-eqb}
use Rattle.std.specs.Prelude.{◌==◌, ◌&&◌, ◌||◌, not, map, MatchBool, unwrap_or}
use Rattle.std.specs.Option.{option_map}
use Rattle.std.specs.List.{AllByRecursion, AllZip, IsDistinct, find, list_any}
use Rattle.std.proofs.lemmas.List.{length-map}
use Rattle.satl_base.specs.declared.modes.Modes.{Modes}
use Rattle.satl_base.proofs.Booleans.{eqb-sym}
use Rattle.satl_cdb.specs.declared.command.Command.{Command}
use Rattle.satl_cdb.specs.declared.command.Command.TheVariants as commands
use Rattle.satl_identify.specs.declared.identity.Identity.{Identity}
use Rattle.satl_unit.specs.declared.attention.Attention.{Attention}
use Rattle.satl_line.specs.declared.entry.Entry.{Entry}
use Rattle.satl_line.specs.declared.entry.Kind.{Kind}
use Rattle.satl_line.specs.declared.entry.Kind.TheVariants.{Ranged, Barrier}
use Rattle.satl_line.specs.Conflict.{conflicts}
use Rattle.satl_line.specs.Eligible.{IsEligible, IsEligibleBy}
use Rattle.satl_line.specs.Kinds.{is_ranged, kind_of}
use Rattle.satl_line.specs.Blank.{no_entry}
use Rattle.satl_line.specs.Ranged.{RangedTask, ranged_by, ranged_of}
use Rattle.satl_line.specs.Ranged.RangedTask.{ranged_read, ranged_write, ranged_trim}
use Rattle.satl_line.specs.Tasks.{Held, entries_of}
use Rattle.satl_drive.specs.State.{DriveState, Outstanding}
use Rattle.satl_direct.specs.Device.{is_called}
use Rattle.satl_direct.specs.Tasks.{data_out_kept, task_of}
use Rattle.satl_direct.specs.Valid.{AreOwn}
use Rattle.satl_direct.proofs.Naming.{called-sym, called_same, own_first, own_rest}
use Rattle.satl_flight.specs.declared.flight.Flying.{Flying}
use Rattle.satl_flight.specs.Flown as flown
use Rattle.satl_flight.specs.Flown.{IsFlown, IsInFlight, clash, is_in_slot}
use Rattle.satl_flight.specs.Settled.{IsFilled}
use Rattle.satl_flight.specs.Queueing.{IsSlotted}
use Rattle.satl_line.specs.Tasks.{AreOwnSlots}
use Rattle.satl_core.specs.Layer.{IsKept, Layer, Tied}
use Rattle.satl_core.specs.Tie.{AreGivenOnce, Given, IsFilledQueue, IsGiven, IsTiedQueue, TiesQueue, given_of, is_given}
use Rattle.satl_core.proofs.DeviceLemmas.{seen}
use Rattle.satl_core.proofs.QueuedLemmas.{eligible_seen}

-- a task is the same ranged task to the device
seen_by : (command : Command) (e : Entry) (ranged : RangedTask) → ranged_by command e.ranges.items e.body ≡ Some ranged → ranged_by command e.ranges.items (data_out_kept command e.body) ≡ Some ranged
seen_by (commands.Read form lba count fua) e ranged h = h
seen_by (commands.Write form lba count fua) e ranged h = h
seen_by (commands.Unmap a) e ranged h = h
seen_by _ e ranged h = absurd cc

pub seen_ranged : (e : Entry) (ranged : RangedTask) → ranged_of e ≡ Some ranged → ranged_of (task_of e) ≡ Some ranged
seen_ranged e ranged h = go e.kind refl
  where
    go : (k : Kind) → e.kind ≡ k → ranged_of (task_of e) ≡ Some ranged
    go (Ranged write) is =
        let plain = subst (λ k. ranged_of (record e { kind = k }) ≡ Some ranged) is h in
        subst (λ k. ranged_of (record (task_of e) { kind = k }) ≡ Some ranged) (sym is) (seen_by e.command e ranged plain)
    go Barrier is = let none : ranged_of (record e { kind = Barrier }) ≡ Some ranged = subst (λ k. ranged_of (record e { kind = k }) ≡ Some ranged) is h in absurd cc

zip-map : {X Y Z : Type 0} (R : X → Y → Type 0) (S : Z → Y → Type 0) (g : X → Z) (xs : List X) (ys : List Y) → ((x : X) (y : Y) → R x y → S (g x) y) → AllZip R xs ys → AllZip S (map g xs) ys
zip-map R S g [] [] f z = tt
zip-map R S g [] (y ∷ ys) f z = absurd z
zip-map R S g (x ∷ xs) [] f z = absurd z
zip-map R S g (x ∷ xs) (y ∷ ys) f z = (f x y z.0, zip-map R S g xs ys f z.1)

-- the left sides of pairs
zip-left : {X Y : Type 0} (R : X → Y → Type 0) (Q : X → Type 0) (xs : List X) (ys : List Y) → ((x : X) (y : Y) → R x y → Q x) → AllZip R xs ys → AllByRecursion Q xs
zip-left R Q [] [] f z = tt
zip-left R Q [] (y ∷ ys) f z = absurd z
zip-left R Q (x ∷ xs) [] f z = absurd z
zip-left R Q (x ∷ xs) (y ∷ ys) f z = (f x y z.0, zip-left R Q xs ys f z.1)

-- a barrier is not ranged
barred : (e : Entry) → e.kind ≡ Barrier → is_ranged e ≡ true → ⊥
barred e same is = let none : is_ranged (record e { kind = Barrier }) ≡ true = subst (λ k. is_ranged (record e { kind = k }) ≡ true) same is in absurd cc

-- an eligible task of the device is one that is held
eligible_back : (tasks : List Held) (t : Entry) → IsEligible (map task_of (entries_of tasks)) t → (h : Held) × ((task_of h.entry ≡ t) × IsEligibleBy clash tasks h)
eligible_back [] t e = elim e [ ]
eligible_back (k ∷ ks) t e =
    ⊎_elim
    (λ here. (k, (here, inl refl)))
    (λ later. let r = eligible_back ks t later.1 in (r.0, (r.1.0, inr (subst (λ x. conflicts (task_of k.entry) x ≡ false) (sym r.1.0) later.0, r.1.1))))
    e

All-eligible : {X : Type 0} (P : X → Type 0) (conflict : X → X → Bool) (xs : List X) (x : X) → AllByRecursion P xs → IsEligibleBy conflict xs x → P x
All-eligible P conflict [] x all e = elim e [ ]
All-eligible P conflict (y ∷ ys) x all e = ⊎_elim (λ here. subst P here all.0) (λ later. All-eligible P conflict ys x all.1 later.1) e

-- a kept task that is ranged is one of its command
ranged_kept : (command : Command) (queued_trim : Bool) (e : Entry) → e.kind ≡ kind_of command queued_trim → is_ranged e ≡ true → (r : RangedTask) × (ranged_by command e.ranges.items e.body ≡ Some r)
ranged_kept (commands.Read form lba count fua) q e kind is = (ranged_read fua (record { lba = lba; count = count }), refl)
ranged_kept (commands.Write form lba count fua) q e kind is = (ranged_write fua (record { lba = lba; count = count }) e.body, refl)
ranged_kept (commands.Unmap a) q e kind is = (ranged_trim e.ranges.items, refl)
ranged_kept _ q e kind is = absurd (barred e kind is)

pub ranged_held : (e : Entry) (q : Bool) → e.kind ≡ kind_of e.command q → is_ranged e ≡ true → (r : RangedTask) × (ranged_of e ≡ Some r)
ranged_held e q kind is =
    let r = ranged_kept e.command q e kind is in
    go e.kind refl r.0 r.1
  where
    go : (k : Kind) → e.kind ≡ k → (r : RangedTask) → ranged_by e.command e.ranges.items e.body ≡ Some r → (x : RangedTask) × (ranged_of e ≡ Some x)
    go (Ranged write) same r h = (r, subst (λ k. ranged_of (record e { kind = k }) ≡ Some r) (sym same) h)
    go Barrier same r h = absurd (barred e same is)

-- what is held is given
holds_given : (tasks : List Held) (all : List Flying) (h : Held) (t : Entry) → task_of h.entry ≡ t → find (is_in_slot h.slot) tasks ≡ Some h → flown.is_outstanding all h.slot ≡ true → is_given (map (given_of tasks) all) t ≡ true
holds_given tasks [] h t same found held = absurd cc
holds_given tasks (f ∷ fs) h t same found held = go (f.slot == h.slot) refl held (λ later. holds_given tasks fs h t same found later)
  where
    go : (b : Bool) → (f.slot == h.slot) ≡ b → (b || flown.is_outstanding fs h.slot) ≡ true → (flown.is_outstanding fs h.slot ≡ true → is_given (map (given_of tasks) fs) t ≡ true) → is_given (map (given_of tasks) (f ∷ fs)) t ≡ true
    go true is e rest =
        let task : (given_of tasks f).task ≡ t = ap (λ n. unwrap_or (option_map (λ (k : Held). task_of k.entry) (find (is_in_slot n) tasks)) no_entry) (eqb-true f.slot h.slot is) ∙ ap (λ x. unwrap_or (option_map (λ (k : Held). task_of k.entry) x) no_entry) found ∙ same in
        ap (λ b. b || is_given (map (given_of tasks) fs) t) (called_same (given_of tasks f).task t task)
    go false is e rest = either (is_called t.nexus (t.tag).0 (given_of tasks f).task) (rest e)
      where
        either : (b : Bool) → is_given (map (given_of tasks) fs) t ≡ true → (b || is_given (map (given_of tasks) fs) t) ≡ true
        either true h = refl
        either false h = h

module _ (tasks : List Held) (modes : Modes) (started : Bool) (attentions : List (List Attention)) (identity : Identity) (d : DriveState) (flying : List Flying) (tie : IsInFlight flying tasks d) where
  task_given : (f : Flying) (q : Outstanding) (o : IsFlown tasks f q) → (given_of tasks f).task ≡ task_of o.held.entry
  task_given f q o = ap (λ x. unwrap_or (option_map (λ (h : Held). task_of h.entry) x) no_entry) o.found

  one_given : (f : Flying) (q : Outstanding) → IsFlown tasks f q → IsGiven (seen identity modes started attentions (map task_of (entries_of tasks)) d) (given_of tasks f) q
  one_given f q o = record {
    ranged = o.ranged;
    ranged_is = ap ranged_of (task_given f q o) ∙ seen_ranged o.held.entry o.ranged o.ranged_is;
    eligible = subst (IsEligible (map task_of (entries_of tasks))) (sym (task_given f q o)) (eligible_seen tasks o.held o.eligible);
    small = o.small;
    command = ap (λ (x : Outstanding). x.command) o.command;
    blocks = ap (λ (x : Outstanding). x.blocks) o.command;
  }

  pub each_given : AllZip (IsGiven (seen identity modes started attentions (map task_of (entries_of tasks)) d)) (map (given_of tasks) flying) d.outstanding
  each_given = zip-map (IsFlown tasks) (IsGiven (seen identity modes started attentions (map task_of (entries_of tasks)) d)) (given_of tasks) flying d.outstanding one_given tie.each

  -- the queue is used, in the words of the device; no two tasks lie in one slot
  pub used_given : AllByRecursion (λ (h : Held). (h.entry.kind ≡ kind_of h.entry.command identity.queued_trim) × (find (is_in_slot h.slot) tasks ≡ Some h)) tasks → IsFilled flying tasks
      → IsFilledQueue (seen identity modes started attentions (map task_of (entries_of tasks)) d) (map (given_of tasks) flying)
  used_given kept filled =
      ⊎_elim
      (λ full. inl (length-map flying (given_of tasks) ∙ full))
      (λ each. inr (λ t e ranged.
      let b = eligible_back tasks t e in
      let k = All-eligible (λ (h : Held). (h.entry.kind ≡ kind_of h.entry.command identity.queued_trim) × (find (is_in_slot h.slot) tasks ≡ Some h)) clash tasks b.0 kept b.1.1 in
      let r = ranged_held b.0.entry identity.queued_trim k.0 (ap is_ranged b.1.0 ∙ ranged) in
      holds_given tasks flying b.0 t b.1.0 k.1 (each b.0 r.0 b.1.1 r.1)))
      filled

-- ---- what is given is apart

any_found : (p : Entry → Bool) (q : Held → Bool) (hs : List Held) (b : Held) → AllByRecursion (λ t. p t ≡ false) (map task_of (entries_of hs)) → find q hs ≡ Some b → p (task_of b.entry) ≡ false
any_found p q [] b none found = absurd cc
any_found p q (h ∷ hs) b none found = go (q h) found (any_found p q hs b none.1)
  where
    go : (y : Bool) → cond y (Some h) (find q hs) ≡ Some b → (find q hs ≡ Some b → p (task_of b.entry) ≡ false) → p (task_of b.entry) ≡ false
    go true f rest = let one : h ≡ b = cc in ap (λ (k : Held). p (task_of k.entry)) (sym one) ∙ none.0
    go false f rest = rest f

-- two tasks in different slots have different names
other_name : (hs : List Held) (i j : ℕ) (a b : Held) → AreOwn (map task_of (entries_of hs)) → (i == j) ≡ false → find (is_in_slot i) hs ≡ Some a → find (is_in_slot j) hs ≡ Some b → is_called a.entry.nexus (a.entry.tag).0 (task_of b.entry) ≡ false
other_name [] i j a b own apart fa fb = absurd cc
other_name (h ∷ hs) i j a b own apart fa fb = go (h.slot == i) refl fa (h.slot == j) refl fb (λ x y. other_name hs i j a b (own_rest _ _ own) apart x y)
  where
    go : (x : Bool) → (h.slot == i) ≡ x → cond x (Some h) (find (is_in_slot i) hs) ≡ Some a → (y : Bool) → (h.slot == j) ≡ y → cond y (Some h) (find (is_in_slot j) hs) ≡ Some b
        → (find (is_in_slot i) hs ≡ Some a → find (is_in_slot j) hs ≡ Some b → is_called a.entry.nexus (a.entry.tag).0 (task_of b.entry) ≡ false) → is_called a.entry.nexus (a.entry.tag).0 (task_of b.entry) ≡ false
    go true hi fa true hj fb rest = let no : (i == j) ≡ true = eq-eqb i j (sym (eqb-true h.slot i hi) ∙ eqb-true h.slot j hj) in absurd cc
    go true hi fa false hj fb rest = let one : h ≡ a = cc in ap (λ (k : Held). is_called k.entry.nexus (k.entry.tag).0 (task_of b.entry)) (sym one) ∙ any_found (is_called h.entry.nexus (h.entry.tag).0) (is_in_slot j) hs b (own_first _ _ own) fb
    go false hi fa true hj fb rest =
        let one : h ≡ b = cc in
        called-sym (task_of a.entry) (task_of b.entry) ∙ ap (λ (k : Held). is_called k.entry.nexus (k.entry.tag).0 (task_of a.entry)) (sym one) ∙ any_found (is_called h.entry.nexus (h.entry.tag).0) (is_in_slot i) hs a (own_first _ _ own) fa
    go false hi fa false hj fb rest = rest fa fb

abbrev IsFound : List Held → Flying → Type 0
IsFound tasks f = (h : Held) × (find (is_in_slot f.slot) tasks ≡ Some h)

given_apart : (tasks : List Held) (flying : List Flying) → AreOwn (map task_of (entries_of tasks)) → flown.AreApart flying → AllByRecursion (IsFound tasks) flying → AreGivenOnce (map (given_of tasks) flying)
given_apart tasks [] own apart found = tt
given_apart tasks (f ∷ fs) own apart found = (tags fs apart.0, names fs apart.0 found.1, given_apart tasks fs own apart.1 found.1)
  where
    tags : (gs : List Flying) → AllByRecursion (λ (g : Flying). ((f.slot == g.slot) ≡ false) × ((f.tag == g.tag) ≡ false)) gs → list_any (λ (h : Given). h.tag == f.tag) (map (given_of tasks) gs) ≡ false
    tags [] all = refl
    tags (g ∷ gs) all = ap (λ b. b || list_any (λ (h : Given). h.tag == f.tag) (map (given_of tasks) gs)) (eqb-sym g.tag f.tag ∙ all.0.1) ∙ tags gs all.1

    task_is : (g : Flying) (h : Held) → find (is_in_slot g.slot) tasks ≡ Some h → (given_of tasks g).task ≡ task_of h.entry
    task_is g h at = ap (λ x. unwrap_or (option_map (λ (k : Held). task_of k.entry) x) no_entry) at

    names : (gs : List Flying) → AllByRecursion (λ (g : Flying). ((f.slot == g.slot) ≡ false) × ((f.tag == g.tag) ≡ false)) gs → AllByRecursion (IsFound tasks) gs → is_given (map (given_of tasks) gs) (given_of tasks f).task ≡ false
    names [] all at = refl
    names (g ∷ gs) all at =
        ap (λ b. b || is_given (map (given_of tasks) gs) (given_of tasks f).task)
        (ap (λ (t : Entry). is_called t.nexus (t.tag).0 (given_of tasks g).task) (task_is f found.0.0 found.0.1) ∙ ap (is_called found.0.0.entry.nexus (found.0.0.entry.tag).0) (task_is g at.0.0 at.0.1) ∙ other_name tasks f.slot g.slot found.0.0 at.0.0 own all.0.0 found.0.1 at.0.1)
        ∙ names gs all.1 at.1

-- points 2 and 3 of the tie, in its words
pub queue_is : (tasks : List Held) (modes : Modes) (started : Bool) (attentions : List (List Attention)) (identity : Identity) (d : DriveState) (flying : List Flying) → IsInFlight flying tasks d → AreOwn (map task_of (entries_of tasks))
    → AllByRecursion (λ (h : Held). (h.entry.kind ≡ kind_of h.entry.command identity.queued_trim) × (find (is_in_slot h.slot) tasks ≡ Some h)) tasks → MatchBool (not d.down && started) (IsFilled flying tasks) (flying ≡ [])
    → IsTiedQueue (seen identity modes started attentions (map task_of (entries_of tasks)) d) (map (given_of tasks) flying) d.outstanding
queue_is tasks modes started attentions identity d flying tie own kept used = record {
  each = each_given tasks modes started attentions identity d flying tie;
  apart = given_apart tasks flying own tie.apart (zip-left (IsFlown tasks) (IsFound tasks) flying d.outstanding (λ f q o. (o.held, o.found)) tie.each);
  used = (elim (not d.down && started) as (λ b. MatchBool b (IsFilled flying tasks) (flying ≡ []) → MatchBool b (IsFilledQueue (seen identity modes started attentions (map task_of (entries_of tasks)) d) (map (given_of tasks) flying)) (map (given_of tasks) flying ≡ []))
      [ true ↦ λ u. used_given tasks modes started attentions identity d flying tie kept u | false ↦ λ u. ap (map (given_of tasks)) u ]) used;
}

-- ---- a task is found by its slot

find_own : (hs : List Held) → AreOwnSlots hs → AllByRecursion (λ (h : Held). find (is_in_slot h.slot) hs ≡ Some h) hs
unfolding IsDistinct
find_own [] own = tt
find_own (h ∷ hs) own = (ap (λ b. cond b (Some h) (find (is_in_slot h.slot) hs)) (eq-eqb h.slot h.slot refl), behind hs own.0 (find_own hs own.1))
  where
    behind : (ks : List Held) → AllByRecursion (λ (k : Held). (h.slot == k.slot) ≡ false) ks → AllByRecursion (λ (k : Held). find (is_in_slot k.slot) hs ≡ Some k) ks → AllByRecursion (λ (k : Held). find (is_in_slot k.slot) (h ∷ hs) ≡ Some k) ks
    behind [] apart all = tt
    behind (k ∷ ks) apart all = (ap (λ b. cond b (Some h) (find (is_in_slot k.slot) hs)) apart.0 ∙ all.0, behind ks apart.1 all.1)

both_kept : (q : Bool) (identity : Identity) (all hs : List Held) → identity.queued_trim ≡ q → AllByRecursion (IsKept identity) hs → AllByRecursion (λ (h : Held). find (is_in_slot h.slot) all ≡ Some h) hs
    → AllByRecursion (λ (h : Held). (h.entry.kind ≡ kind_of h.entry.command q) × (find (is_in_slot h.slot) all ≡ Some h)) hs
both_kept q identity all [] is kept found = tt
both_kept q identity all (h ∷ hs) is kept found = ((kept.0.kind ∙ ap (kind_of h.entry.command) is, found.0), both_kept q identity all hs is kept.1 found.1)

-- what the tie says of the queue
pub ties_queue : (l : Layer) (d : DriveState) → AreOwnSlots l.tasks → AllByRecursion (IsKept l.identity) l.tasks → IsSlotted d.outstanding l.slots → Tied l d → TiesQueue l d
ties_queue l d own kept slotted tied = record {
  queue = queue_is l.tasks l.modes l.started l.attentions l.identity d l.flying tied.agrees.queue tied.agrees.valid.own
      (both_kept l.identity.queued_trim l.identity l.tasks l.tasks refl kept (find_own l.tasks own))
      (subst (λ b. MatchBool (not b && l.started) (IsFilled l.flying l.tasks) (l.flying ≡ [])) tied.agrees.mark tied.used);
  slotted = slotted;
}
