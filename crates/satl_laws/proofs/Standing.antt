-- What a sector holds while tasks wait, and when one of them leaves.
use Rattle.std.proofs.Common.{◌≡◌, ◌⊎◌, ⊎_elim, inl, inr, refl, sym, ap, ◌∙◌, subst, ℕ, Bool, true, false, List, [], ◌∷◌, ◌++◌, Some}
use Rattle.std.specs.Prelude.{if◌then◌else◌, ◌&&◌, ◌||◌}
use Rattle.std.specs.List.{AllByRecursion}
use Rattle.std.proofs.lemmas.Bool.{and_parts}
use Rattle.satl_base.specs.declared.block.Block.{Block}
use Rattle.satl_cdb.specs.Table.{says}
use Rattle.satl_line.specs.declared.entry.Entry.{Entry}
use Rattle.satl_line.specs.Eligible.{IsEligible}
use Rattle.satl_laws.specs.ArrivalOrder.{brought}
use Rattle.satl_laws.proofs.Items.{AreSorted, Awaits, Item, covers, held, held-append, waiting}
use Rattle.satl_laws.proofs.Eligibles.{still_eligible}
use Rattle.satl_laws.proofs.Seen.{by_test}
use Rattle.satl_laws.proofs.Transferring.{after, after_twice, brings, gives, spans, still}

-- whether a task writes a sector
abbrev pub writes_at : Entry → ℕ → Bool
writes_at t x = brings t.command && spans t.command x

-- the block of an eligible task shows early in a sector that holds h
pub record IsEarly (x : ℕ) (v h : Block) (tasks : List Entry) : Type 0 where
  pub task : Entry
  pub eligible : IsEligible tasks task
  pub writes_it : writes_at task x ≡ true
  pub is : v ≡ after task x h

-- what is read of a sector that holds h
abbrev pub Stands : ℕ → Block → Block → List Entry → Type 0
Stands x v h tasks = (v ≡ h) ⊎ IsEarly x v h tasks

-- none of these waits to read or write a sector
abbrev pub NoneCovers : ℕ → List Item → Type 0
NoneCovers x items = AllByRecursion (λ j. covers j.task x ≡ false) items

module _ (trim : Bool) (n x : ℕ) (v now first : Block) (front back : List Item) (i : Item) (t : Entry) (good : Bool) where
  -- what the sector held before the task, and holds now that it waits
  abbrev pub earlier : Block
  earlier = held trim x first front

  abbrev pub sum : Block
  sum = held trim x first (front ++ i ∷ back)

  -- and once it has left, where it has acted or not
  abbrev pub then_holds : Bool → Block
  then_holds acted = held trim x (if acted then brought (says i.request.cdb trim) i.request.body x earlier else earlier) back

  -- a task leaves, and may have acted on the sector; it has where it ends with GOOD
  pub record Leaves (acted : Bool) : Type 0 where
    pub sure : good ≡ true → acted ≡ true
    pub only : acted ≡ true → (good ≡ true) ⊎ (brings t.command ≡ true)
    pub free : acted ≡ true → writes_at t x ≡ true → NoneCovers x front
    pub stands : Stands x now (then_holds acted) (waiting front ++ waiting back)

  module _ (a : Awaits trim n i t) (sorted : AreSorted trim x (front ++ i ∷ back)) (is : i.task ≡ Some t) where
    -- no later request has acted on a sector of the task
    pub later : (items : List Item) → AreSorted trim x (items ++ i ∷ back) → writes_at t x ≡ true → (u : Block) → held trim x u back ≡ u
    later [] s writes = s.0 (ap (λ o. covers o x) is ∙ covered (gives t.command) (brings t.command) (spans t.command x) writes)
      where
        covered : (p q r : Bool) → (q && r) ≡ true → ((p || q) && r) ≡ true
        covered true false r h = absurd cc
        covered _ _ r h = h
    later (j ∷ items) s writes = later items s.1 writes

    -- before it leaves it has not acted
    pub not_yet : sum ≡ then_holds false
    not_yet = held-append trim x first front (i ∷ back) ∙ ap (λ b. held trim x (if b then brought (says i.request.cdb trim) i.request.body x earlier else earlier) back) (a.idle x)

    -- and if it has, the sector holds what it leaves
    has_acted : then_holds true ≡ after t x sum
    has_acted =
        by_test (λ b. then_holds true ≡ after t x sum) (writes_at t x)
        (λ writes. ap (λ w. held trim x w back) (sym (a.leaves x earlier)) ∙ later front sorted writes (after t x earlier) ∙ ap (after t x) (sym (later front sorted writes earlier) ∙ sym not_yet))
        (λ none. ap (λ w. held trim x w back) (sym (a.leaves x earlier) ∙ still t x earlier none) ∙ sym not_yet ∙ sym (still t x sum none))

    -- it has not acted, where it does not end with GOOD
    idles : good ≡ false → Stands x now (then_holds false) (waiting front ++ waiting back) → (acted : Bool) × Leaves acted
    idles bad stands = (
      false,
      record {
        sure = λ h. absurd (let no : true ≡ false = sym h ∙ bad in cc);
        only = λ h. absurd cc;
        free = λ h. absurd cc;
        stands = stands;
      },
    )

    -- it has acted, where it may have
    acts : (good ≡ true) ⊎ (brings t.command ≡ true) → (writes_at t x ≡ true → NoneCovers x front) → Stands x now (then_holds true) (waiting front ++ waiting back) → (acted : Bool) × Leaves acted
    acts why clear stands = (true, record { sure = λ h. refl; only = λ h. why; free = λ h. clear; stands = stands })

    -- it leaves as it waited, where it does not end with GOOD
    pub leaves_still : good ≡ false → now ≡ v → (IsEligible (waiting front ++ t ∷ waiting back) t → writes_at t x ≡ true → NoneCovers x front)
        → Stands x v sum (waiting front ++ t ∷ waiting back) → (acted : Bool) × Leaves acted
    leaves_still bad same clear (inl holds) = idles bad (inl (same ∙ holds ∙ not_yet))
    leaves_still bad same clear (inr early) =
        ⊎_elim
        (λ it. acts
        (inr (and_parts (brings t.command) (spans t.command x) (subst (λ u. writes_at u x ≡ true) it early.writes_it)).0)
        (clear (subst (IsEligible (waiting front ++ t ∷ waiting back)) it early.eligible))
        (inl (same ∙ early.is ∙ ap (λ u. after u x sum) it ∙ sym has_acted)))
        (λ other. idles bad (inr (record { task = early.task; eligible = other; writes_it = early.writes_it; is = same ∙ early.is ∙ ap (after early.task x) not_yet })))
        (still_eligible (waiting front) t (waiting back) early.task early.eligible)

    -- it leaves with its block in the sector
    pub leaves_done : (good ≡ true) ⊎ (brings t.command ≡ true) → now ≡ after t x v → (writes_at t x ≡ true → NoneCovers x front)
        → ((u : Entry) → IsEligible (waiting front ++ t ∷ waiting back) u → writes_at u x ≡ true → writes_at t x ≡ true → u ≡ t)
        → Stands x v sum (waiting front ++ t ∷ waiting back) → (acted : Bool) × Leaves acted
    leaves_done why is_after clear alone (inl holds) = acts why clear (inl (is_after ∙ ap (after t x) holds ∙ sym has_acted))
    leaves_done why is_after clear alone (inr early) =
        acts why clear
        (by_test (λ b. Stands x now (then_holds true) (waiting front ++ waiting back)) (writes_at t x)
        (λ writes. let it = alone early.task early.eligible early.writes_it writes in
        inl (is_after ∙ ap (after t x) (early.is ∙ ap (λ u. after u x sum) it) ∙ after_twice t x sum ∙ sym has_acted))
        (λ none. ⊎_elim
        (λ it. absurd (let no : true ≡ false = sym (subst (λ u. writes_at u x ≡ true) it early.writes_it) ∙ none in cc))
        (λ other. inr (record {
          task = early.task;
          eligible = other;
          writes_it = early.writes_it;
          is = is_after ∙ still t x v none ∙ early.is ∙ ap (after early.task x) (sym (has_acted ∙ still t x sum none));
        }))
        (still_eligible (waiting front) t (waiting back) early.task early.eligible)))
