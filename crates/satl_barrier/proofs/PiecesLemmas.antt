-- One piece of a range after the other.
use Rattle.std.proofs.Common.{◌≡◌, ⊎_elim, inl, inr, refl, sym, ap, subst, arith, ◌∙◌, ℕ, zero, suc, ◌+◌, ◌≤◌, Bool, true, false, List, [], ◌++◌, map, Some, None}
use Rattle.std.specs.Prelude.{Option, slice_index_or, if◌then◌else◌, ◌⊎◌, ◌-◌}
use Rattle.satl_base.specs.declared.block.Range.{Range}
use Rattle.satl_base.specs.declared.bench.Which.{Which}
use Rattle.satl_base.specs.declared.bench.Which.TheVariants as flaws
use Rattle.satl_base.specs.Lists.{IsIn}
use Rattle.satl_base.specs.Cells.{Cell, Pair, Part, first_flaw, first_set, has_flaw, whole}
use Rattle.satl_base.specs.Losses.{Loses}
use Rattle.satl_base.specs.Moves.{Moves}
use Rattle.satl_base.proofs.CellsLemmas.{part-write_flaws, part_append, part_none, part_whole, whole-append}
use Rattle.satl_base.proofs.ListsLemmas.{All-in, in_left, in_right}
use Rattle.satl_base.proofs.LossesLemmas.{PartLossy, loses-flaws, loses-nows, loses_on, part_after, whole_loses}
use Rattle.satl_base.proofs.MovesLemmas.{lose_once, moves_of_whole, moves_on}
use Rattle.satl_regs.specs.Effects.{Transfer}
use Rattle.satl_drive.specs.State.{DriveState}
use Rattle.satl_barrier.specs.Commands.{IsCutShort}
use Rattle.satl_barrier.specs.Finishing.{IsDone, StopsAtFlaw, StopsAtCrc, IsTorn}
use Rattle.satl_barrier.specs.Leaving.{IsLostIn, Stays}
use Rattle.satl_barrier.proofs.CommandsLemmas.{lost_after, stays_on}
use Rattle.satl_barrier.proofs.FinishingLemmas.{over}

-- ---- the lowest place of a range in two parts

first_set-rest : (flags : List Bool) (a b lba : ℕ) → first_set flags lba a ≡ None → first_set flags lba (a + b) ≡ first_set flags (lba + a) b
first_set-rest flags zero b lba none =
    let count : zero + b ≡ b = omega arith in
    let place : lba + zero ≡ lba = omega arith in
    rw (count, place) refl
first_set-rest flags (suc a) b lba none =
    let count : suc a + b ≡ suc (a + b) = omega arith in
    let place : lba + 1 + a ≡ lba + suc a = omega arith in
    rw count (subst (λ k. (if slice_index_or flags lba false then Some lba else first_set flags (lba + 1) (a + b)) ≡ first_set flags k b) place
    ((elim (slice_index_or flags lba false) as (λ f. (if f then Some lba else first_set flags (lba + 1) a) ≡ None → (if f then Some lba else first_set flags (lba + 1) (a + b)) ≡ first_set flags (lba + 1 + a) b)
    [ true ↦ λ e. absurd cc | false ↦ λ e. first_set-rest flags a b (lba + 1) e ]) none))

first_set-some : (flags : List Bool) (a b lba at : ℕ) → first_set flags lba a ≡ Some at → first_set flags lba (a + b) ≡ Some at
first_set-some flags zero b lba at some = absurd cc
first_set-some flags (suc a) b lba at some =
    let count : suc a + b ≡ suc (a + b) = omega arith in
    rw count ((elim (slice_index_or flags lba false) as (λ f. (if f then Some lba else first_set flags (lba + 1) a) ≡ Some at → (if f then Some lba else first_set flags (lba + 1) (a + b)) ≡ Some at)
    [ true ↦ λ e. e | false ↦ λ e. first_set-some flags a b (lba + 1) at e ]) some)

first_set-less : (flags : List Bool) (a b lba : ℕ) → first_set flags lba (a + b) ≡ None → first_set flags lba a ≡ None
first_set-less flags a b lba none = by (first_set flags lba a) refl
  where
    by : (o : Option ℕ) → first_set flags lba a ≡ o → first_set flags lba a ≡ None
    by None is = is
    by (Some at) is = let all : first_set flags lba (a + b) ≡ Some at = first_set-some flags a b lba at is in absurd cc

pub first_flaw-less : (which : Which) (cells : List Cell) (lba a count : ℕ) → a ≤ count → first_flaw which cells lba count ≡ None → first_flaw which cells lba a ≡ None
first_flaw-less which cells lba a count within none =
    let split : count ≡ a + (count - a) = omega arith in
    first_set-less (map (has_flaw which) cells) a (count - a) lba (sym (ap (first_set (map (has_flaw which) cells) lba) split) ∙ none)

-- ---- what is done so far

-- the first blocks of a range
abbrev pub head : Range → ℕ → Range
head range done = record { lba = range.lba; count = done }

-- these cells, or fewer of their entries
abbrev pub Follows : List Cell → List Cell → Type 0
Follows cells new = (new ≡ cells) ⊎ Loses cells new

-- the first blocks of a range are done, or none of them
pub record IsBegun (t : Transfer) (old mid : DriveState) : Type 0 where
  pub no_flaw : first_flaw t.stopped_by old.cells t.lba t.sectors ≡ None
  pub cells : Follows (whole old.cells t.writes) mid.cells
  pub stays : mid ≡ record old { cells = mid.cells; active = mid.active }
  pub active : (mid.active ≡ old.active) ⊎ (mid.active ≡ true)

-- nothing was done yet
pub record IsUntouched (t : Transfer) (old mid : DriveState) : Type 0 where
  pub none : t.sectors ≡ 0
  pub no_pair : t.writes ≡ []
  pub same : mid ≡ old

-- the first blocks of a range were done, and what that leaves
pub record IsPartDone (t : Transfer) (old mid : DriveState) : Type 0 where
  pub is_done : IsDone t old mid
  pub stays : Stays old mid

abbrev pub IsSoFar : Transfer → DriveState → DriveState → Type 0
IsSoFar t old mid = IsUntouched t old mid ⊎ IsPartDone t old mid

pub begun : (t : Transfer) (old mid : DriveState) → IsSoFar t old mid → IsBegun t old mid
begun t old mid (inl x) = record {
  no_flaw = ap (first_flaw t.stopped_by old.cells t.lba) x.none;
  cells = inl (ap (λ (d : DriveState). d.cells) x.same ∙ sym (ap (whole old.cells) x.no_pair));
  stays = x.same ∙ (ap (λ cells. record old { cells = cells }) (sym (ap (λ (d : DriveState). d.cells) x.same)) ∙ ap (λ b. record old { cells = mid.cells; active = b }) (sym (ap (λ (d : DriveState). d.active) x.same)));
  active = inl (ap (λ (d : DriveState). d.active) x.same);
}
begun t old mid (inr x) = record {
  no_flaw = x.is_done.no_flaw;
  cells = inr x.is_done.lost;
  stays = x.is_done.stays ∙ ap (λ b. record old { cells = mid.cells; active = b }) (sym (ap (λ (d : DriveState). d.active) x.is_done.stays));
  active = inr (ap (λ (d : DriveState). d.active) x.is_done.stays);
}

pub begun-write_flaws : (t : Transfer) (old mid : DriveState) → IsBegun t old mid → map (has_flaw flaws.Write) mid.cells ≡ map (has_flaw flaws.Write) old.cells
begun-write_flaws t old mid b =
    ⊎_elim (λ e. ap (map (has_flaw flaws.Write)) e) (λ l. loses-flaws flaws.Write (whole old.cells t.writes) mid.cells l) b.cells
    ∙ part-write_flaws old.cells (whole old.cells t.writes) t.writes (part_whole old.cells t.writes)

-- what is left so far, and after the next piece
pub stays_so_far : (t : Transfer) (old mid new : DriveState) → IsSoFar t old mid → Stays mid new → Stays old new
stays_so_far t old mid new (inl x) stays = subst (λ d. Stays d new) x.same stays
stays_so_far t old mid new (inr x) stays = stays_on old mid new x.stays stays

-- all is done where some blocks are
pub all_done : (t : Transfer) (old new : DriveState) → 1 ≤ t.sectors → IsSoFar t old new → IsDone t old new
all_done t old new some (inl x) = absurd (omega (arith, x.none))
all_done t old new some (inr x) = x.is_done

pub begun-follows : (t : Transfer) (old mid : DriveState) → t.writes ≡ [] → IsBegun t old mid → Follows old.cells mid.cells
begun-follows t old mid none b = subst (λ ps. Follows (whole old.cells ps) mid.cells) none b.cells

pub begun-read_flaws : (t : Transfer) (old mid : DriveState) → t.writes ≡ [] → IsBegun t old mid → map (has_flaw flaws.Read) mid.cells ≡ map (has_flaw flaws.Read) old.cells
begun-read_flaws t old mid none b = ⊎_elim (λ e. ap (map (has_flaw flaws.Read)) e) (λ l. loses-flaws flaws.Read old.cells mid.cells l) (begun-follows t old mid none b)

pub begun-nows : (t : Transfer) (old mid : DriveState) → t.writes ≡ [] → IsBegun t old mid → map (λ c. c.now) mid.cells ≡ map (λ c. c.now) old.cells
begun-nows t old mid none b = ⊎_elim (λ e. ap (map (λ c. c.now)) e) (λ l. loses-nows old.cells mid.cells l) (begun-follows t old mid none b)

-- ---- the next piece

module _ (which : Which) (lba a b : ℕ) (us vs : List Pair) (old mid new : DriveState) (first : IsBegun (over true which lba a us []) old mid) (flags : map (has_flaw which) mid.cells ≡ map (has_flaw which) old.cells) where
  was_up : mid.down ≡ false → old.down ≡ false
  was_up up = sym (ap (λ (d : DriveState). d.down) first.stays) ∙ up

  rest_flaw : first_flaw which old.cells lba (a + b) ≡ first_flaw which mid.cells (lba + a) b
  rest_flaw = first_set-rest (map (has_flaw which) old.cells) a b lba first.no_flaw ∙ ap (λ fs. first_set fs (lba + a) b) (sym flags)

  both_lost : Loses (whole mid.cells vs) new.cells → Loses (whole old.cells (us ++ vs)) new.cells
  both_lost lost = subst (λ cells. Loses cells new.cells) (sym (whole-append old.cells us vs))
      (⊎_elim
      (λ e. subst (λ cells. Loses (whole cells vs) new.cells) e lost)
      (λ l. loses_on (whole (whole old.cells us) vs) (whole mid.cells vs) new.cells (whole_loses vs (whole old.cells us) mid.cells l) lost)
      first.cells)

  both_torn : (ws : List Pair) (torn : List Cell) → Part mid.cells vs torn → Loses torn new.cells → PartLossy (us ++ (vs ++ ws)) old.cells new.cells
  both_torn ws torn part lost =
      let r = ⊎_elim
      (λ e. let x : PartLossy vs (whole old.cells us) new.cells = record { mid = torn; part = subst (λ cells. Part cells vs torn) e part; lost = lost } in x)
      (λ l. let y = part_after vs (whole old.cells us) mid.cells torn l part in let x : PartLossy vs (whole old.cells us) new.cells = record { mid = y.mid; part = y.part; lost = loses_on y.mid torn new.cells y.lost lost } in x)
      first.cells in
      record {
        mid = r.mid;
        part = part_append old.cells (whole old.cells us) r.mid us (vs ++ ws) (part_whole old.cells us) (part_append (whole old.cells us) r.mid r.mid vs ws r.part (part_none r.mid ws));
        lost = r.lost;
      }

  pub next_done : IsDone (over true which (lba + a) b vs []) mid new → IsDone (over true which lba (a + b) (us ++ vs) []) old new
  next_done x = record {
    was_up = was_up x.was_up;
    no_flaw = rest_flaw ∙ x.no_flaw;
    lost = both_lost x.lost;
    stays = x.stays ∙ ap (λ (d : DriveState). record d { cells = new.cells; active = true }) first.stays;
  }

  next_torn : (c : ℕ) (ws : List Pair) → IsTorn (over true which (lba + a) b vs []) mid new → IsTorn (over true which lba (a + (b + c)) (us ++ (vs ++ ws)) []) old new
  next_torn c ws x =
      let r = both_torn ws x.torn x.part x.lost in
      record {
        was_up = was_up x.was_up;
        torn = r.mid;
        part = r.part;
        lost = r.lost;
        active = ⊎_elim (λ e. ⊎_elim (λ o. inl (e ∙ o)) (λ o. inr (e ∙ o)) first.active) (λ e. inr e) x.active;
      }

  pub next_flawed : (c : ℕ) (ws : List Pair) (at : ℕ) → StopsAtFlaw (over true which (lba + a) b vs []) at mid new → StopsAtFlaw (over true which lba (a + (b + c)) (us ++ (vs ++ ws)) []) at old new
  next_flawed c ws at x = record {
    flaw =
        let count : a + (b + c) ≡ a + b + c = omega arith in
        ap (first_flaw which old.cells lba) count ∙ first_set-some (map (has_flaw which) old.cells) (a + b) c lba at (rest_flaw ∙ x.flaw);
    torn = next_torn c ws x.torn;
    stays = x.stays ∙ ap (λ (d : DriveState). record d { cells = new.cells; active = new.active }) first.stays;
  }

  pub next_garbled : (c : ℕ) (ws : List Pair) (most : ℕ) → most ≤ a + b → StopsAtCrc (over true which (lba + a) b vs []) b mid new → StopsAtCrc (over true which lba (a + (b + c)) (us ++ (vs ++ ws)) []) most old new
  next_garbled c ws most within x = record {
    no_flaw = first_flaw-less which old.cells lba most (a + b) within (rest_flaw ∙ x.no_flaw);
    torn = next_torn c ws x.torn;
    one = x.one ∙ ap (λ (d : DriveState). d.glitches) first.stays;
    stays = x.stays ∙ ap (λ (d : DriveState). record d { cells = new.cells; active = new.active; glitches = new.glitches }) first.stays;
  }

  -- the link was lost in it
  pub next_lost : (ws : List Pair) → IsCutShort vs mid new → IsLostIn (us ++ (vs ++ ws)) old new
  next_lost ws cut =
      let whole_moves : Moves (λ p. IsIn p (us ++ (vs ++ ws))) old.cells (whole old.cells us) =
      moves_of_whole (λ p. IsIn p (us ++ (vs ++ ws))) us old.cells (All-in (λ p. IsIn p (us ++ (vs ++ ws))) us (λ p i. in_left p us (vs ++ ws) i)) in
      lost_after (us ++ (vs ++ ws)) vs old mid new
      (⊎_elim (λ e. subst (λ cells. Moves (λ p. IsIn p (us ++ (vs ++ ws))) old.cells cells) (sym e) whole_moves) (λ l. moves_on whole_moves (lose_once l)) first.cells)
      (inl (ap (λ (d : DriveState). d.glitches) first.stays))
      (ap (λ (d : DriveState). d.faults) first.stays)
      (All-in (λ p. IsIn p (us ++ (vs ++ ws))) vs (λ p i. in_right p us (vs ++ ws) (in_left p vs ws i)))
      cut
