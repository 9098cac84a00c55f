-- Requests that wait, by the sectors that they are still to write or read, and what stays of their order as one settles.
use Rattle.std.proofs.Common.{◌≡◌, ◌⊎◌, inl, inr, refl, sym, ap, ◌∙◌, ℕ, Bool, true, false, List, [], ◌∷◌, ◌++◌, Option, Some, None}
use Rattle.std.specs.Prelude.{◌||◌}
use Rattle.std.specs.List.{AllByRecursion}
use Rattle.std.proofs.lemmas.Bool.{or_right, and_parts}
use Rattle.satl_base.specs.declared.block.Block.{Block}
use Rattle.satl_line.specs.declared.entry.Entry.{Entry}
use Rattle.satl_line.specs.Conflict.{conflicts}
use Rattle.satl_laws.proofs.Items.{AreSorted, AwaitsIf, IsWell, Item, before_all, covers, held, held-append, is_to_write, left, waiting}
use Rattle.satl_laws.proofs.Seen.{by_test}
use Rattle.satl_laws.proofs.Standing.{NoneCovers}
use Rattle.satl_laws.proofs.Transferring.{Transfers, brings, clash, gives, spans}

-- none of these is still to write a sector
abbrev pub NoneToWrite : ℕ → List Item → Type 0
NoneToWrite x items = AllByRecursion (λ j. is_to_write j.task x ≡ false) items

-- whether one is, or one before them
abbrev pub pending : (ℕ → Bool) → List Item → ℕ → Bool
pending p [] x = p x
pending p (i ∷ is) x = pending (λ y. p y || is_to_write i.task y) is x

pub pending_none : (p : ℕ → Bool) (items : List Item) (x : ℕ) → p x ≡ false → NoneToWrite x items → pending p items x ≡ false
pending_none p [] x h k = h
pending_none p (i ∷ is) x h k = pending_none (λ y. p y || is_to_write i.task y) is x (ap (λ b. b || is_to_write i.task x) h ∙ k.0) k.1

-- ---- tasks before one that conflicts with none of them

module _ (trim : Bool) (n x : ℕ) (t : Entry) (b : Transfers n t) (has : spans t.command x ≡ true) where
  -- what only such tasks have as conflict with it, none of them has
  none_has : (has_it : Option Entry → Bool) → has_it None ≡ false
      → ((u : Entry) → (gives u.command || brings u.command ≡ true → Transfers n u) → has_it (Some u) ≡ true → conflicts u t ≡ true)
      → (items : List Item) → AllByRecursion (λ u. conflicts u t ≡ false) (waiting items) → AllByRecursion (IsWell trim n) items → AllByRecursion (λ j. has_it j.task ≡ false) items
  none_has has_it none clashes [] c w = tt
  none_has has_it none clashes (j ∷ items) c w = one j.task refl c w.0.waits (λ k. none_has has_it none clashes items k w.1)
    where
      one : (o : Option Entry) → j.task ≡ o → AllByRecursion (λ u. conflicts u t ≡ false) (before_all o (waiting items)) → AwaitsIf trim n j o
          → (AllByRecursion (λ u. conflicts u t ≡ false) (waiting items) → AllByRecursion (λ k. has_it k.task ≡ false) items) → AllByRecursion (λ k. has_it k.task ≡ false) (j ∷ items)
      one None is c a next = (ap has_it is ∙ none, next c)
      one (Some u) is c a next = (
        ap has_it is ∙ by_test (λ p. p ≡ false) (has_it (Some u)) (λ yes. sym (clashes u a.fits yes) ∙ c.0) (λ no. refl),
        next c.1,
      )

  -- where it writes the sector, none of them reads or writes it
  pub none_covers : (items : List Item) → brings t.command ≡ true → AllByRecursion (λ u. conflicts u t ≡ false) (waiting items) → AllByRecursion (IsWell trim n) items → NoneCovers x items
  none_covers items writes =
      none_has (λ o. covers o x) refl
      (λ u fits h. let both = and_parts (gives u.command || brings u.command) (spans u.command x) h in clash n u t x (fits both.0) b (inr writes) both.1 has) items

  -- where it reads or writes the sector, none of them writes it
  pub none_to_write : (items : List Item) → AllByRecursion (λ u. conflicts u t ≡ false) (waiting items) → AllByRecursion (IsWell trim n) items → NoneToWrite x items
  none_to_write =
      none_has (λ o. is_to_write o x) refl
      (λ u fits h. let both = and_parts (brings u.command) (spans u.command x) h in clash n u t x (fits (or_right (gives u.command) (brings u.command) both.0)) b (inl both.0) both.1 has)

module _ (trim : Bool) where
  -- ---- the order of those that wait and those that have acted

  -- an item that leaves as another does
  held_alike : (x : ℕ) (v : Block) (front back : List Item) (i j : Item) → ((w : Block) → left trim j x w ≡ left trim i x w) → held trim x v (front ++ j ∷ back) ≡ held trim x v (front ++ i ∷ back)
  held_alike x v front back i j h = held-append trim x v front (j ∷ back) ∙ ap (λ w. held trim x w back) (h (held trim x v front)) ∙ sym (held-append trim x v front (i ∷ back))

  -- one that waited has settled
  pub sorted_leave : (x : ℕ) (front back : List Item) (i j : Item) → j.task ≡ None → ((w : Block) → left trim j x w ≡ left trim i x w) ⊎ NoneCovers x front → AreSorted trim x (front ++ i ∷ back) → AreSorted trim x (front ++ j ∷ back)
  sorted_leave x [] back i j none h s = ((λ c. let no : true ≡ false = sym c ∙ ap (λ o. covers o x) none in absurd cc), s.1)
  sorted_leave x (k ∷ front) back i j none (inl same) s = ((λ c w. held_alike x w front back i j same ∙ s.0 c w), sorted_leave x front back i j none (inl same) s.1)
  sorted_leave x (k ∷ front) back i j none (inr free) s = ((λ c. let no : true ≡ false = sym c ∙ free.0 in absurd cc), sorted_leave x front back i j none (inr free.1) s.1)

  -- one more comes, that has not acted
  pub sorted_push : (x : ℕ) (items : List Item) (j : Item) → ((w : Block) → left trim j x w ≡ w) → AreSorted trim x items → AreSorted trim x (items ++ j ∷ [])
  sorted_push x [] j h s = ((λ c w. refl), tt)
  sorted_push x (k ∷ items) j h s = ((λ c w. held-append trim x w items (j ∷ []) ∙ h (held trim x w items) ∙ s.0 c w), sorted_push x items j h s.1)
