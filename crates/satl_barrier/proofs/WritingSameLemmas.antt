-- What a loop over the pieces of a WRITE SAME keeps.
use Rattle.std.proofs.Common.{◌≡◌, inr, sym, refl, ap, subst, arith, ◌∙◌, ℕ, zero, suc, ◌+◌, ◌≤◌, true, Bool, List, [], ◌∷◌, ◌++◌, replicate, take}
use Rattle.std.specs.Prelude.{◌<◌, ◌-◌, min}
use Rattle.std.proofs.lemmas.List.{take-replicate}
use Rattle.satl_base.specs.Limits.{piece}
use Rattle.satl_base.specs.declared.block.Block.{Block}
use Rattle.satl_base.specs.declared.block.Range.{Range}
use Rattle.satl_base.specs.declared.bench.Which.TheVariants as flaws
use Rattle.satl_base.specs.Cells.{Pair, pairs_from}
use Rattle.satl_regs.specs.Effects.{Transfer}
use Rattle.satl_drive.specs.State.{DriveState}
use Rattle.satl_barrier.specs.declared.finishing.Finish.{Finish}
use Rattle.satl_barrier.specs.declared.finishing.Finish.TheVariants as finishes
use Rattle.satl_barrier.specs.Commands.{IsCutShort}
use Rattle.satl_barrier.specs.Finishing.{FinishesAs, IsDone, piece_behind, writing_range, writing_same}
use Rattle.satl_barrier.specs.Leaving.{IsLostIn, Stays}
use Rattle.satl_barrier.proofs.FinishingLemmas.{over}
use Rattle.satl_barrier.proofs.PiecesLemmas.{IsBegun, IsSoFar, begun, begun-write_flaws, head, next_done, next_flawed, next_garbled, next_lost, stays_so_far}

pub same_pairs : (a b lba : ℕ) (block : Block) (cached : Bool) → pairs_from lba (replicate (a + b) block) cached ≡ pairs_from lba (replicate a block) cached ++ pairs_from (lba + a) (replicate b block) cached
same_pairs zero b lba block cached =
    let count : zero + b ≡ b = omega arith in
    let place : lba + zero ≡ lba = omega arith in
    rw (count, place) refl
same_pairs (suc a) b lba block cached =
    let count : suc a + b ≡ suc (a + b) = omega arith in
    let place : lba + 1 + a ≡ lba + suc a = omega arith in
    rw count (ap (λ ps. record { lba = lba; block = block; cached = cached } ∷ ps)
    (same_pairs a b (lba + 1) block cached ∙ ap (λ k. pairs_from (lba + 1) (replicate a block) cached ++ pairs_from k (replicate b block) cached) place))

-- the same block from a place of a range on
abbrev pub same_from : Range → Block → DriveState → ℕ → ℕ → List Pair
same_from range block d done count = pairs_from (range.lba + done) (replicate count block) d.cache

module _ (range : Range) (block : Block) (next : Range) (pages : List Block) (n done : ℕ) (old mid new : DriveState)
    (is : next ≡ piece_behind range done) (more : done < range.count) (filled : pages ≡ replicate n block) (room : 64 ≤ n)
    (so_far : IsSoFar (writing_same (head range done) block old) old mid) where
  first : IsBegun (writing_same (head range done) block old) old mid
  first = begun (writing_same (head range done) block old) old mid so_far

  lba_is : next.lba ≡ range.lba + done
  lba_is = ap (λ (r : Range). r.lba) is

  count_is : next.count ≡ min 64 (range.count - done)
  count_is = ap (λ (r : Range). r.count) is

  rest : ℕ
  rest = range.count - (done + next.count)

  piece_is : writing_range next (take next.count pages) mid ≡ over true flaws.Write (range.lba + done) next.count (same_from range block old done next.count) []
  piece_is =
      ap (λ k. over true flaws.Write k next.count (pairs_from k (take next.count pages) mid.cache) []) lba_is
      ∙ (ap (λ vs. over true flaws.Write (range.lba + done) next.count (pairs_from (range.lba + done) vs mid.cache) []) (ap (take next.count) filled ∙ take-replicate next.count n block (omega (arith, count_is, room)))
      ∙ ap (λ c. over true flaws.Write (range.lba + done) next.count (pairs_from (range.lba + done) (replicate next.count block) c) []) (ap (λ (d : DriveState). d.cache) first.stays))

  whole_is : writing_same range block old ≡ over true flaws.Write range.lba (done + (next.count + rest)) (pairs_from range.lba (replicate done block) old.cache ++ (same_from range block old done next.count ++ pairs_from (range.lba + done + next.count) (replicate rest block) old.cache)) []
  unfolding rest
  whole_is =
      let count : range.count ≡ done + (next.count + rest) = omega (arith, count_is, more) in
      ap (λ k. over true flaws.Write range.lba k (pairs_from range.lba (replicate k block) old.cache) []) count
      ∙ ap (λ ps. over true flaws.Write range.lba (done + (next.count + rest)) ps [])
      (same_pairs done (next.count + rest) range.lba block old.cache ∙ ap (λ ps. pairs_from range.lba (replicate done block) old.cache ++ ps) (same_pairs next.count rest (range.lba + done) block old.cache))

  pub piece_done : IsDone (writing_range next (take next.count pages) mid) mid new → Stays mid new → IsSoFar (writing_same (head range (done + next.count)) block old) old new
  piece_done x stays = inr (record {
    is_done = subst (λ ps. IsDone (over true flaws.Write range.lba (done + next.count) ps []) old new) (sym (same_pairs done next.count range.lba block old.cache))
        (next_done flaws.Write range.lba done next.count (pairs_from range.lba (replicate done block) old.cache) (same_from range block old done next.count) old mid new first
        (begun-write_flaws (writing_same (head range done) block old) old mid first) (subst (λ t. IsDone t mid new) piece_is x));
    stays = stays_so_far (writing_same (head range done) block old) old mid new so_far stays;
  })

  pub piece_stays : Stays mid new → Stays old new
  piece_stays stays = stays_so_far (writing_same (head range done) block old) old mid new so_far stays

  stopped_at : (it : Finish) → (it ≡ finishes.Done → ⊥) → FinishesAs (over true flaws.Write (range.lba + done) next.count (same_from range block old done next.count) []) next.count it mid new →
      FinishesAs (over true flaws.Write range.lba (done + (next.count + rest)) (pairs_from range.lba (replicate done block) old.cache ++ (same_from range block old done next.count ++ pairs_from (range.lba + done + next.count) (replicate rest block) old.cache)) []) (min piece range.count) it old new
  stopped_at finishes.Done not_done x = absurd (not_done refl)
  stopped_at (finishes.Flawed at) not_done x =
      next_flawed flaws.Write range.lba done next.count (pairs_from range.lba (replicate done block) old.cache) (same_from range block old done next.count) old mid new first
      (begun-write_flaws (writing_same (head range done) block old) old mid first) rest (pairs_from (range.lba + done + next.count) (replicate rest block) old.cache) at x
  stopped_at finishes.Garbled not_done x =
      next_garbled flaws.Write range.lba done next.count (pairs_from range.lba (replicate done block) old.cache) (same_from range block old done next.count) old mid new first
      (begun-write_flaws (writing_same (head range done) block old) old mid first) rest (pairs_from (range.lba + done + next.count) (replicate rest block) old.cache) (min piece range.count) (omega (arith, count_is, more)) x

  -- a bad end stopped it there
  pub piece_stopped : (it : Finish) → (it ≡ finishes.Done → ⊥) → FinishesAs (writing_range next (take next.count pages) mid) next.count it mid new → FinishesAs (writing_same range block old) (min piece range.count) it old new
  piece_stopped it not_done x = subst (λ t. FinishesAs t (min piece range.count) it old new) (sym whole_is) (stopped_at it not_done (subst (λ t. FinishesAs t next.count it mid new) piece_is x))

  -- the link was lost there
  pub piece_lost : IsCutShort (writing_range next (take next.count pages) mid).writes mid new → IsLostIn (writing_same range block old).writes old new
  piece_lost cut = subst (λ (t : Transfer). IsLostIn t.writes old new) (sym whole_is)
      (next_lost flaws.Write range.lba done next.count (pairs_from range.lba (replicate done block) old.cache) (same_from range block old done next.count) old mid new first
      (begun-write_flaws (writing_same (head range done) block old) old mid first) (pairs_from (range.lba + done + next.count) (replicate rest block) old.cache) (subst (λ (t : Transfer). IsCutShort t.writes mid new) piece_is cut))
