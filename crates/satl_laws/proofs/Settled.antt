-- A request whose task has left has settled: it has acted on each sector or not.
use Rattle.std.proofs.Common.{◌≡◌, ◌⊎◌, inl, inr, sym, ap, ◌∙◌, ℕ, ◌≤◌, ◌<◌, Bool, true, false, List, None, arith, refl}
use Rattle.std.specs.Prelude.{if◌then◌else◌}
use Rattle.std.proofs.lemmas.Bool.{cases_lt}
use Rattle.satl_base.specs.declared.block.Block.{Block}
use Rattle.satl_cdb.specs.Table.{says}
use Rattle.satl_line.specs.declared.entry.Entry.{Entry}
use Rattle.satl_laws.specs.ArrivalOrder.{brought}
use Rattle.satl_laws.proofs.Items.{Awaits, Item, left}
use Rattle.satl_laws.proofs.Seen.{by_test}
use Rattle.satl_laws.proofs.Standing.{Leaves, NoneCovers, writes_at}
use Rattle.satl_laws.proofs.Transferring.{brings, still}

module _ (trim : Bool) (n : ℕ) (was now at_first : ℕ → Block) (front back : List Item) (i : Item) (t : Entry) (good : Bool) where
  -- what holds of a sector, where the task has acted on it or not
  abbrev pub LeavesAt : ℕ → Bool → Type 0
  LeavesAt x acted = Leaves trim n x (was x) (now x) (at_first x) front back i t good acted

  -- on which sectors it has acted
  pub record HasSettled : Type 0 where
    pub acts : ℕ → Bool
    pub inside : (x : ℕ) → x < n → LeavesAt x (acts x)
    pub sure : (x : ℕ) → good ≡ true → acts x ≡ true
    pub only : (x : ℕ) → acts x ≡ true → (good ≡ true) ⊎ (brings t.command ≡ true)

  module _ (leaves : (x : ℕ) → x < n → (acted : Bool) × LeavesAt x acted) where
    -- past the last sector it has acted where it is done
    by_place : (x : ℕ) → (x < n) ⊎ (n ≤ x) → Bool
    by_place x (inl inside) = (leaves x inside).0
    by_place x (inr past) = good

    -- it has settled
    pub has_settled : HasSettled
    unfolding by_place
    has_settled = record { acts = λ x. by_place x (cases_lt x n); inside = inside; sure = sure; only = only }
      where
        inside : (x : ℕ) → x < n → LeavesAt x (by_place x (cases_lt x n))
        inside x is = of (cases_lt x n)
          where
            of : (s : (x < n) ⊎ (n ≤ x)) → LeavesAt x (by_place x s)
            of (inl k) = (leaves x k).1
            of (inr past) = absurd (omega (arith, is, past))

        sure : (x : ℕ) → good ≡ true → by_place x (cases_lt x n) ≡ true
        sure x h = of (cases_lt x n)
          where
            of : (s : (x < n) ⊎ (n ≤ x)) → by_place x s ≡ true
            of (inl k) = ((leaves x k).1).sure h
            of (inr past) = h

        only : (x : ℕ) → by_place x (cases_lt x n) ≡ true → (good ≡ true) ⊎ (brings t.command ≡ true)
        only x = of (cases_lt x n)
          where
            of : (s : (x < n) ⊎ (n ≤ x)) → by_place x s ≡ true → (good ≡ true) ⊎ (brings t.command ≡ true)
            of (inl k) h = ((leaves x k).1).only h
            of (inr past) h = inl h

  module _ (s : HasSettled) (a : Awaits trim n i t) where
    -- the request, settled
    abbrev pub settled : Item
    settled = record { request = i.request; task = None; acted = s.acts }

    -- where the task writes no sector, it leaves what it did
    pub leaves_alike : (x : ℕ) (w : Block) → writes_at t x ≡ false → left trim settled x w ≡ left trim i x w
    leaves_alike x w none =
        by_test (λ b. (if b then brought (says i.request.cdb trim) i.request.body x w else w) ≡ w) (s.acts x) (λ yes. sym (a.leaves x w) ∙ still t x w none) (λ no. refl)
        ∙ sym (ap (λ b. if b then brought (says i.request.cdb trim) i.request.body x w else w) (a.idle x))

    -- it leaves what it did, or no task before it reads or writes the sector
    abbrev pub IsFree : ℕ → Type 0
    IsFree x = ((w : Block) → left trim settled x w ≡ left trim i x w) ⊎ NoneCovers x front

    pub alike_or_clear : (x : ℕ) → x < n → IsFree x
    alike_or_clear x is =
        by_test (λ b. IsFree x) (writes_at t x)
        (λ writes. by_test (λ b. IsFree x) (s.acts x)
        (λ yes. inr ((s.inside x is).free yes writes))
        (λ no. inl (λ w. ap (λ b. if b then brought (says i.request.cdb trim) i.request.body x w else w) (no ∙ sym (a.idle x)))))
        (λ none. inl (λ w. leaves_alike x w none))
