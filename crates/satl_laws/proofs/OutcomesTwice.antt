-- No neighbour is answered twice.
use Rattle.std.proofs.Common.{◌≡◌, ◌≤◌, refl, ap, ℕ, ◌+◌, Bool, true, false, List, [], ◌∷◌, arith}
use Rattle.std.specs.Prelude.{if◌then◌else◌}
use Rattle.satl_base.specs.declared.request.Request.{Request}
use Rattle.satl_base.specs.Cells.{Cell}
use Rattle.satl_base.specs.Lists.{how_many}
use Rattle.satl_frame.specs.declared.frames.Frame.{Frame}
use Rattle.satl_frame.specs.declared.frames.Frame.TheVariants as frames
use Rattle.satl_frame.specs.Output.{Answer}
use Rattle.satl_direct.specs.Device.{Device, is_called}
use Rattle.satl_laws.specs.OnceEach.{answers_to, asks_by}
use Rattle.satl_direct.specs.Run.{Run}
use Rattle.satl_laws.specs.Scenes.{AreTurns, DifferInNexusOrTag, at_work, reads_sector_0}
use Rattle.satl_laws.proofs.Counts.{run_counts}
use Rattle.satl_laws.proofs.Names.{swapped}

-- two requests are apart both ways
apart_back : (a b : Request) → DifferInNexusOrTag a b → DifferInNexusOrTag b a
apart_back a b h = swapped a.nexus b.nexus (a.tag).0 (b.tag).0 h

-- turns ask for nothing
no_asks : (nexus tag : ℕ) (turns : Frame) → AreTurns turns → how_many (asks_by nexus tag) (turns ∷ []) ≡ 0
no_asks nexus tag (frames.Turn count) h = refl
no_asks nexus tag frames.End h = refl
no_asks nexus tag _ h = absurd h

-- how many of two pass
abbrev count_of : Bool → Bool → ℕ
count_of p q = (if p then 1 else 0) + ((if q then 1 else 0) + 0)

-- at most one does where the other does not
few_first : (p q : Bool) → q ≡ false → count_of p q ≤ 1
few_first true q h = let n = ap (count_of true) h in omega (arith, n)
few_first false q h = let n = ap (count_of false) h in omega (arith, n)

few_second : (p q : Bool) → p ≡ false → count_of p q ≤ 1
few_second p true h = let n = ap (λ b. count_of b true) h in omega (arith, n)
few_second p false h = let n = ap (λ b. count_of b false) h in omega (arith, n)

-- turns answer a nexus and tag as often as its tasks wait, and no oftener
answers_few : (nexus tag : ℕ) (first last : Device) (turns : Frame) (losses : ℕ) (answers : List Answer) → AreTurns turns → how_many (is_called nexus tag) first.tasks ≤ 1 → Run first (turns ∷ []) losses answers last → how_many (answers_to nexus tag) answers ≤ 1
answers_few nexus tag first last turns losses answers are few run =
    omega (arith, run_counts nexus tag run.run, no_asks nexus tag turns are, few, ap (how_many (answers_to nexus tag)) run.answer)

module _ (p q : Request) (a b : Cell) (s last : Device) (turns : Frame) (losses : ℕ) (answers : List Answer) where
  -- each of the two is answered once at most
  pub first_once : DifferInNexusOrTag p q → AreTurns turns → Run (at_work a b (reads_sector_0 p ∷ reads_sector_0 q ∷ []) s) (turns ∷ []) losses answers last → how_many (answers_to p.nexus (p.tag).0) answers ≤ 1
  first_once apart are =
      answers_few p.nexus (p.tag).0 (at_work a b (reads_sector_0 p ∷ reads_sector_0 q ∷ []) s) last turns losses answers are
      (few_first (is_called p.nexus (p.tag).0 (reads_sector_0 p)) (is_called p.nexus (p.tag).0 (reads_sector_0 q)) (apart_back p q apart))

  pub second_once : DifferInNexusOrTag p q → AreTurns turns → Run (at_work a b (reads_sector_0 p ∷ reads_sector_0 q ∷ []) s) (turns ∷ []) losses answers last → how_many (answers_to q.nexus (q.tag).0) answers ≤ 1
  second_once apart are =
      answers_few q.nexus (q.tag).0 (at_work a b (reads_sector_0 p ∷ reads_sector_0 q ∷ []) s) last turns losses answers are
      (few_second (is_called q.nexus (q.tag).0 (reads_sector_0 p)) (is_called q.nexus (q.tag).0 (reads_sector_0 q)) apart)
