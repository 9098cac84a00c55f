-- What a loop over the pieces of a VERIFY with comparison keeps.
use Rattle.std.proofs.Common.{◌≡◌, ◌⊎◌, inr, sym, refl, ap, subst, arith, ◌∙◌, ℕ, ◌+◌, ◌≤◌, true, List, [], length, take, drop, None}
use Rattle.std.specs.Prelude.{◌-◌, ◌<◌, Option, min}
use Rattle.satl_base.specs.declared.block.Block.{Block}
use Rattle.satl_base.specs.declared.block.Range.{Range}
use Rattle.satl_base.specs.declared.bench.Which.TheVariants as flaws
use Rattle.satl_base.specs.Cells.{first_flaw, first_set, nows}
use Rattle.satl_base.proofs.LossesLemmas.{loses-flaws}
use Rattle.satl_base.proofs.MovesLemmas.{lose_once, moves_on}
use Rattle.satl_base.proofs.CellsLemmas.{nows-length}
use Rattle.satl_io.specs.Causes.{Rose}
use Rattle.satl_drive.specs.State.{DriveState}
use Rattle.satl_barrier.specs.declared.comparing.Comparison.{Comparison}
use Rattle.satl_barrier.specs.declared.comparing.Comparison.TheVariants as comparisons
use Rattle.satl_barrier.specs.Commands.{IsCutShort}
use Rattle.satl_barrier.specs.Finishing.{ComparesAs, IsDone, StopsAtFlaw, StopsAtCrc, IsVerified, piece_behind, verifying_range}
use Rattle.satl_barrier.specs.Leaving.{IsLostIn, Stays}
use Rattle.satl_barrier.proofs.FinishingLemmas.{over}
use Rattle.satl_barrier.proofs.ComparingLemmas.{loses-nows_at, nows_part, same_all}
use Rattle.satl_barrier.proofs.PiecesLemmas.{IsBegun, IsSoFar, all_done, begun, begun-nows, begun-read_flaws, head, next_done, next_flawed, next_garbled, next_lost, stays_so_far}

-- without flaws, a garbled piece garbles all
pub all_garbled : (range : Range) (most : ℕ) (old new : DriveState) → first_flaw flaws.Read old.cells range.lba range.count ≡ None → StopsAtCrc (verifying_range range) most old new → StopsAtCrc (verifying_range range) range.count old new
all_garbled range most old new clean x = record { no_flaw = clean; torn = x.torn; one = x.one; stays = x.stays }

-- a part of a range behind its first blocks
pub record IsBehind (range : Range) (done : ℕ) (next : Range) : Type 0 where
  pub lba : next.lba ≡ range.lba + done
  pub within : done + next.count ≤ range.count

pub behind : (range next : Range) (done : ℕ) → done < range.count → next ≡ piece_behind range done → IsBehind range done next
behind range next done more is =
    let count : next.count ≡ min 64 (range.count - done) = ap (λ (r : Range). r.count) is in
    record { lba = ap (λ (r : Range). r.lba) is; within = omega arith }

module _ (range next : Range) (done : ℕ) (old mid new : DriveState) (next_is : IsBehind range done next) (so_far : IsSoFar (verifying_range (head range done)) old mid) where
  first : IsBegun (verifying_range (head range done)) old mid
  first = begun (verifying_range (head range done)) old mid so_far

  piece_is : verifying_range next ≡ over true flaws.Read (range.lba + done) next.count [] []
  piece_is = ap (λ k. over true flaws.Read k next.count [] []) next_is.lba

  whole_is : verifying_range range ≡ over true flaws.Read range.lba (done + (next.count + (range.count - (done + next.count)))) [] []
  whole_is = let count : range.count ≡ done + (next.count + (range.count - (done + next.count))) = omega (arith, next_is.within) in ap (λ k. over true flaws.Read range.lba k [] []) count

  pub read_done : IsDone (verifying_range next) mid new → Stays mid new → IsSoFar (verifying_range (head range (done + next.count))) old new
  read_done x stays = inr (record {
    is_done = next_done flaws.Read range.lba done next.count [] [] old mid new first (begun-read_flaws (verifying_range (head range done)) old mid refl first) (subst (λ t. IsDone t mid new) piece_is x);
    stays = stays_so_far (verifying_range (head range done)) old mid new so_far stays;
  })

  pub read_stays : Stays mid new → Stays old new
  read_stays stays = stays_so_far (verifying_range (head range done)) old mid new so_far stays

  pub read_flawed : (at : ℕ) → StopsAtFlaw (verifying_range next) at mid new → StopsAtFlaw (verifying_range range) at old new
  read_flawed at x = subst (λ t. StopsAtFlaw t at old new) (sym whole_is)
      (next_flawed flaws.Read range.lba done next.count [] [] old mid new first (begun-read_flaws (verifying_range (head range done)) old mid refl first) (range.count - (done + next.count)) [] at (subst (λ t. StopsAtFlaw t at mid new) piece_is x))

  pub read_garbled : first_flaw flaws.Read old.cells range.lba range.count ≡ None → StopsAtCrc (verifying_range next) next.count mid new → StopsAtCrc (verifying_range range) range.count old new
  read_garbled clean x = all_garbled range 0 old new clean (subst (λ t. StopsAtCrc t 0 old new) (sym whole_is)
      (next_garbled flaws.Read range.lba done next.count [] [] old mid new first (begun-read_flaws (verifying_range (head range done)) old mid refl first) (range.count - (done + next.count)) [] 0 (omega arith) (subst (λ t. StopsAtCrc t next.count mid new) piece_is x)))

  pub read_lost : IsCutShort [] mid new → IsLostIn [] old new
  read_lost cut = next_lost flaws.Read range.lba done next.count [] [] old mid new first (begun-read_flaws (verifying_range (head range done)) old mid refl first) [] cut

  -- reads of the piece give a part of the blocks of the range
  pub read_part : nows mid.cells next.lba next.count ≡ take next.count (drop done (nows old.cells range.lba range.count))
  read_part = nows_part old.cells mid.cells range.lba next.lba done next.count range.count (begun-nows (verifying_range (head range done)) old mid refl first) next_is.lba next_is.within

  -- the first blocks of a range without flaws are done, and no more is done of it
  pub read_all : first_flaw flaws.Read old.cells range.lba range.count ≡ None → IsDone (verifying_range next) mid new → IsDone (verifying_range range) old new
  read_all clean x =
      let d = next_done flaws.Read range.lba done next.count [] [] old mid new first (begun-read_flaws (verifying_range (head range done)) old mid refl first) (subst (λ t. IsDone t mid new) piece_is x) in
      record { was_up = d.was_up; no_flaw = clean; lost = d.lost; stays = d.stays }

pub all_same : (range : Range) (blocks : List Block) (done : ℕ) (old new : DriveState) → 1 ≤ range.count → range.lba + range.count ≤ length old.cells → length blocks ≡ range.count → done ≡ range.count → IsSoFar (verifying_range (head range done)) old new → take done (nows old.cells range.lba range.count) ≡ take done blocks → ComparesAs range blocks comparisons.Same old new
all_same range blocks done old new some within all is so_far same = (
  same_all range.count done (nows old.cells range.lba range.count) blocks is (nows-length old.cells range.lba range.count within) all same,
  subst (λ n. IsDone (over true flaws.Read range.lba n [] []) old new) is (all_done (verifying_range (head range done)) old new (omega (arith, is, some)) so_far),
)

-- a piece that differs from the blocks that are wanted there
pub all_differ : (blocks : List Block) (done k : ℕ) (read wanted seen pages : List Block) → take k pages ≡ seen → seen ≡ take k (drop done read) → wanted ≡ drop done blocks → (take k pages ≡ take k wanted → ⊥) → read ≡ blocks → ⊥
all_differ blocks done k read wanted seen pages taken seen_is wanted_is differ same =
    differ (taken ∙ (seen_is ∙ (ap (λ bs. take k (drop done bs)) same ∙ ap (take k) (sym wanted_is))))

-- ---- after a range was verified

pub all_of : (range : Range) → IsBehind range 0 range
all_of range = record { lba = omega arith; within = omega arith }

module _ (range : Range) (old mid new : DriveState) (verified : IsDone (verifying_range range) old mid) (stays : Stays old mid) where
  resumed : IsSoFar (verifying_range (head range 0)) old mid
  resumed = inr (record { is_done = record { was_up = verified.was_up; no_flaw = refl; lost = verified.lost; stays = verified.stays }; stays = stays })

  pub compares_on : (blocks : List Block) (it : Comparison) → ComparesAs range blocks it mid new → ComparesAs range blocks it old new
  compares_on blocks comparisons.Same x = (sym (loses-nows_at old.cells mid.cells range.lba range.count verified.lost) ∙ x.0, read_all range range 0 old mid new (all_of range) resumed verified.no_flaw x.1)
  compares_on blocks comparisons.Differs x = (λ same. x.0 (loses-nows_at old.cells mid.cells range.lba range.count verified.lost ∙ same), read_all range range 0 old mid new (all_of range) resumed verified.no_flaw x.1)
  compares_on blocks (comparisons.Flawed at) x = read_flawed range range 0 old mid new (all_of range) resumed at x
  compares_on blocks comparisons.Garbled x = read_garbled range range 0 old mid new (all_of range) resumed verified.no_flaw x

  pub lost_on : IsLostIn [] mid new → IsLostIn [] old new
  lost_on x = record {
    cells = moves_on (lose_once verified.lost) x.cells;
    glitches = subst (λ n. (new.glitches ≡ n) ⊎ (new.glitches + 1 ≡ n)) (ap (λ (d : DriveState). d.glitches) verified.stays) x.glitches;
    rose = subst (λ n. Rose n new.faults) (ap (λ (d : DriveState). d.faults) verified.stays) x.rose;
    down = x.down;
  }

pub still_clean : (range : Range) (old mid : DriveState) → IsDone (verifying_range range) old mid → first_flaw flaws.Read mid.cells range.lba range.count ≡ None
still_clean range old mid verified = ap (λ fs. first_set fs range.lba range.count) (loses-flaws flaws.Read old.cells mid.cells verified.lost) ∙ verified.no_flaw

pub verified_done : (range : Range) (flaw : Option ℕ) (old mid : DriveState) → flaw ≡ None → IsVerified range flaw old mid → IsDone (verifying_range range) old mid
verified_done range flaw old mid none x = subst (λ o. IsVerified range o old mid) none x
