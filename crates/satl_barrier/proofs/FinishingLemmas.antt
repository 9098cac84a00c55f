-- How commands end that go over a range.
use Rattle.std.proofs.Common.{◌≡◌, ⊎_elim, inl, inr, refl, sym, ap, subst, arith, ◌∙◌, ℕ, ◌+◌, ◌≤◌, Bool, true, false, List, [], ◌++◌, length, take, drop, Some, None}
use Rattle.std.specs.Prelude.{if◌then◌else◌, Result, Ok, Err, IfOk, OnErr, MatchBool, MatchOption, Option, nat_lt, ◌⊎◌, ◌<◌, ◌-◌}
use Rattle.std.proofs.lemmas.Bool.{le-ltb}
use Rattle.satl_base.specs.declared.block.Block.{Block}
use Rattle.satl_base.specs.declared.bench.Which.{Which}
use Rattle.satl_base.specs.declared.bench.Which.TheVariants as flaws
use Rattle.satl_base.specs.Cells.{Pair, first_flaw, nows}
use Rattle.satl_base.specs.Losses.{Loses}
use Rattle.satl_base.specs.declared.block.Range.{Range}
use Rattle.satl_regs.specs.declared.values.How.TheVariants.{DmaExt}
use Rattle.satl_regs.specs.declared.values.AtaCommand.TheVariants as commands
use Rattle.satl_barrier.specs.Commands.{HasRun}
use Rattle.satl_regs.specs.Effects.{Carries, pairs_of, EndsInFull, IsFlawed as IsStopped, IsGarbled as IsSpoilt, Medium, Traffic, Transfer, idnf, EndsBad}
use Rattle.satl_drive.specs.State.{DriveState, medium_of, with_medium}
use Rattle.satl_barrier.specs.declared.finishing.Finish.{Finish}
use Rattle.satl_barrier.specs.declared.finishing.Finish.TheVariants as finishes
use Rattle.satl_barrier.specs.Finishing.{FinishesAs, IsDone, StopsAtFlaw, StopsAtCrc, IsReached, finish_of, verifying_range, writing_range}

-- what follows from a good end and from a lost link
pub either_way : {T E : Type 0} {Q : T → Type 0} {P R : Type 0} (r : Result T E) → ((x : T) → Q x → P) → (R → P) → IfOk r Q → OnErr r R → P
either_way (Ok x) f h ok err = f x ok
either_way (Err e) f h ok err = h err

-- ---- one command

-- what goes over a range, with a 48-bit address
abbrev pub over : Bool → Which → ℕ → ℕ → List Pair → List Block → Transfer
over dma which lba count writes reads = record { ext = true; dma = dma; stopped_by = which; lba = lba; sectors = count; writes = writes; reads = reads }

-- a command that went over a range within the capacity
pub record HasGone (t : Transfer) (x : Traffic) (old new : DriveState) : Type 0 where
  pub was_up : old.down ≡ false
  pub within : t.lba + t.sectors ≤ length old.cells
  pub after : Medium
  pub carries : Carries t x (medium_of old) after
  pub lost : Loses after.cells new.cells
  pub stays : new ≡ record (with_medium old after) { cells = new.cells }

-- how it ended, without the case of a range that is refused
pub record Ways (t : Transfer) (x : Traffic) (old after : Medium) : Type 0 where
  pub way : (first_flaw t.stopped_by old.cells t.lba t.sectors ≡ None) × (EndsInFull t x old after ⊎ IsSpoilt t x old after)
      ⊎ (at : ℕ) × (first_flaw t.stopped_by old.cells t.lba t.sectors ≡ Some at) × IsStopped t at x old after

pub ways : (t : Transfer) (x : Traffic) (old after : Medium) → t.lba + t.sectors ≤ length old.cells → Carries t x old after → Ways t x old after
ways t x old after within carries =
    let inside : nat_lt (length old.cells) (t.lba + t.sectors) ≡ false = le-ltb (length old.cells) (t.lba + t.sectors) within in
    by (first_flaw t.stopped_by old.cells t.lba t.sectors) refl (subst (λ b. MatchBool b (EndsBad idnf x.registers.lba x old after) (judged (first_flaw t.stopped_by old.cells t.lba t.sectors))) inside carries)
  where
    judged : Option ℕ → Type 0
    judged o = MatchOption o (EndsInFull t x old after ⊎ IsSpoilt t x old after) (λ at. IsStopped t at x old after)

    by : (o : Option ℕ) → first_flaw t.stopped_by old.cells t.lba t.sectors ≡ o → judged o → Ways t x old after
    by None is way = record { way = inl (is, way) }
    by (Some at) is way = record { way = inr (at, is, way) }

-- how it ended, by its taskfile; the clauses leave out what moves
module _ (dma : Bool) (which : Which) (lba count : ℕ) (writes : List Pair) (reads : List Block) (x : Traffic) (old new : DriveState) (gone : HasGone (over dma which lba count writes reads) x old new) where
  done_so : first_flaw which old.cells lba count ≡ None → EndsInFull (over dma which lba count writes reads) x (medium_of old) gone.after → IsDone (over true which lba count writes []) old new
  done_so none does = record {
    was_up = gone.was_up;
    no_flaw = none;
    lost = subst (λ (m : Medium). Loses m.cells new.cells) does.medium gone.lost;
    stays = gone.stays ∙ ap (λ (m : Medium). record (with_medium old m) { cells = new.cells }) does.medium;
  }

  flawed_so : (at : ℕ) → first_flaw which old.cells lba count ≡ Some at → IsStopped (over dma which lba count writes reads) at x (medium_of old) gone.after → StopsAtFlaw (over true which lba count writes []) at old new
  flawed_so at is does =
      let same : new ≡ record old { cells = new.cells } = gone.stays ∙ ap (λ (m : Medium). record (with_medium old m) { cells = new.cells }) does.medium in
      let active : new.active ≡ old.active = ap (λ (d : DriveState). d.active) same in
      record {
        flaw = is;
        torn = record { was_up = gone.was_up; torn = gone.after.cells; part = does.part; lost = gone.lost; active = inl active };
        stays = same ∙ ap (λ b. record old { cells = new.cells; active = b }) (sym active);
      }

  garbled_so : first_flaw which old.cells lba count ≡ None → IsSpoilt (over dma which lba count writes reads) x (medium_of old) gone.after → StopsAtCrc (over true which lba count writes []) count old new
  garbled_so none does =
      let same : new ≡ record old { cells = new.cells; glitches = old.glitches - 1 } = gone.stays ∙ ap (λ (m : Medium). record (with_medium old m) { cells = new.cells }) does.medium in
      let active : new.active ≡ old.active = ap (λ (d : DriveState). d.active) same in
      let left : new.glitches ≡ old.glitches - 1 = ap (λ (d : DriveState). d.glitches) same in
      let some : 0 < old.glitches = does.some in
      record {
        no_flaw = none;
        torn = record { was_up = gone.was_up; torn = gone.after.cells; part = does.part; lost = gone.lost; active = inl active };
        one = omega (arith, left, some);
        stays = same ∙ (ap (λ b. record old { cells = new.cells; active = b; glitches = old.glitches - 1 }) (sym active) ∙ ap (λ n. record old { cells = new.cells; active = new.active; glitches = n }) (sym left));
      }

  pub finishes_as : FinishesAs (over true which lba count writes []) count (finish_of x.ended) old new
  finishes_as = ⊎_elim
      (λ n. ⊎_elim
      (λ does. subst (λ e. FinishesAs (over true which lba count writes []) count (finish_of e) old new) (sym does.ends) (done_so n.0 does))
      (λ does. subst (λ e. FinishesAs (over true which lba count writes []) count (finish_of e) old new) (sym does.ends) (garbled_so n.0 does))
      n.1)
      (λ s. subst (λ e. FinishesAs (over true which lba count writes []) count (finish_of e) old new) (sym s.2.ends) (flawed_so s.0 s.1 s.2))
      (ways (over dma which lba count writes reads) x (medium_of old) gone.after gone.within gone.carries).way

pub done_by : (t : Transfer) (count : ℕ) (it : Finish) (old new : DriveState) → it ≡ finishes.Done → FinishesAs t count it old new → IsDone t old new
done_by t count it old new is x = subst (λ f. FinishesAs t count f old new) is x

pub flawed_by : (t : Transfer) (count : ℕ) (it : Finish) (at : ℕ) (old new : DriveState) → it ≡ finishes.Flawed at → FinishesAs t count it old new → StopsAtFlaw t at old new
flawed_by t count it at old new is x = subst (λ f. FinishesAs t count f old new) is x

pub garbled_by : (t : Transfer) (count : ℕ) (it : Finish) (old new : DriveState) → it ≡ finishes.Garbled → FinishesAs t count it old new → StopsAtCrc t count old new
garbled_by t count it old new is x = subst (λ f. FinishesAs t count f old new) is x

-- ---- each command

-- the pages stay where nothing is read
pub pages_kept : (dma : Bool) (which : Which) (lba count : ℕ) (writes : List Pair) (x : Traffic) (old new : DriveState) → HasGone (over dma which lba count writes []) x old new → x.taken ≡ x.given
pages_kept dma which lba count writes x old new gone =
    ⊎_elim (λ n. ⊎_elim (λ does. does.data_in) (λ does. does.data_in) n.1) (λ s. s.2.data_in)
    (ways (over dma which lba count writes []) x (medium_of old) gone.after gone.within gone.carries).way

-- the pairs of a write
abbrev pub pairs_in : Range → List Block → DriveState → List Pair
pairs_in range given old = (writing_range range (take range.count given) old).writes

pub write_pairs : (range : Range) (old : DriveState) (given : List Block) → IsReached range old → pairs_of (commands.Write DmaExt range.lba range.count) (medium_of old) given ≡ pairs_in range given old
write_pairs range old given reached = ap (λ b. if b then [] else pairs_in range given old) (le-ltb (length old.cells) (range.lba + range.count) reached.within)

module _ (range : Range) (x : Traffic) (old new : DriveState) (reached : IsReached range old) (run : HasRun (commands.Write DmaExt range.lba range.count) x old new) where
  write_gone : HasGone (over true flaws.Write range.lba range.count (pairs_in range x.given old) []) x old new
  write_gone = record { was_up = run.was_up; within = reached.within; after = run.after; carries = run.does; lost = run.lost; stays = run.stays }

  pub written : FinishesAs (writing_range range (take range.count x.given) old) range.count (finish_of x.ended) old new
  written = finishes_as true flaws.Write range.lba range.count (pairs_in range x.given old) [] x old new write_gone

  pub write_keeps : x.taken ≡ x.given
  write_keeps = pages_kept true flaws.Write range.lba range.count (pairs_in range x.given old) x old new write_gone

module _ (range : Range) (x : Traffic) (old new : DriveState) (reached : IsReached range old) (run : HasRun (commands.Read DmaExt range.lba range.count) x old new) where
  abbrev read : List Block
  read = nows old.cells range.lba range.count

  read_gone : HasGone (over true flaws.Read range.lba range.count [] read) x old new
  read_gone = record { was_up = run.was_up; within = reached.within; after = run.after; carries = run.does; lost = run.lost; stays = run.stays }

  pub read_in : FinishesAs (verifying_range range) range.count (finish_of x.ended) old new
  read_in = finishes_as true flaws.Read range.lba range.count [] read x old new read_gone

  -- where all was carried out, the blocks stand in front
  pub blocks_read : finish_of x.ended ≡ finishes.Done → x.taken ≡ read ++ drop (length read) x.given
  blocks_read is = ⊎_elim
      (λ n. ⊎_elim (λ does. does.data_in) (λ does. absurd (let bad : finishes.Garbled ≡ finishes.Done = sym (ap finish_of does.ends) ∙ is in cc)) n.1)
      (λ s. absurd (let bad : finishes.Flawed s.0 ≡ finishes.Done = sym (ap finish_of s.2.ends) ∙ is in cc))
      (ways (over true flaws.Read range.lba range.count [] read) x (medium_of old) read_gone.after read_gone.within read_gone.carries).way
