-- No sector changes that no task writes.
use Rattle.std.proofs.Common.{◌≢◌, refl, ℕ, Bool, true, List, [], ◌∷◌, Some}
use Rattle.std.specs.Prelude.{take}
use Rattle.satl_base.specs.declared.block.Block.{Block}
use Rattle.satl_base.specs.declared.request.Request.{Request}
use Rattle.satl_base.specs.Cells.{Cell, pairs_from}
use Rattle.satl_frame.specs.declared.frames.Frame.{Frame}
use Rattle.satl_frame.specs.declared.frames.Frame.TheVariants as frames
use Rattle.satl_frame.specs.Output.{Answer}
use Rattle.satl_direct.specs.Device.{Device}
use Rattle.satl_laws.specs.Untouched.{Spares, now_at}
use Rattle.satl_direct.specs.Run.{Does, Run}
use Rattle.satl_laws.specs.Scenes.{AreTurns, at_work, writes_sector_0}
use Rattle.satl_laws.proofs.Kept.{at_now}
use Rattle.satl_laws.proofs.Runs.{once}
use Rattle.satl_laws.proofs.Sparing.{Keeps, NoneWrites, keeps_on, quiet_keeps}
use Rattle.satl_laws.proofs.SparingEvents.{does_keep}

-- turns in which no task writes a sector keep it
turns_spare : (x : ℕ) (turns : Frame) (s new : Device) (now : List Answer) (d : ℕ) → AreTurns turns → Does turns s now new d → NoneWrites x s → Keeps x s new
turns_spare x (frames.Turn count) s new now d are h = does_keep x (frames.Turn count) s new now d refl (λ before q. tt) h
turns_spare x frames.End s new now d are h = does_keep x frames.End s new now d refl (λ before q. tt) h
turns_spare x _ s new now d are h = absurd are

-- a WRITE of sector 0 spares sector 1
spares_sector_1 : (body : List Block) (past : Bool) → Spares 1 (pairs_from 0 (take 1 body) past)
spares_sector_1 [] past = refl
spares_sector_1 (v ∷ vs) past = refl

-- so sector 1 stays
pub others_stay : (write : Request) (a b : Cell) (s last : Device) (turns : Frame) (losses : ℕ) (answers : List Answer) → AreTurns turns →
    Run (at_work a b (writes_sector_0 write ∷ []) s) (turns ∷ []) losses answers last → now_at last.cells 1 ≢ Some b.now → ⊥
others_stay write a b s last turns losses answers are run changed =
    let o = once turns run.run in
    let first : Device = at_work a b (writes_sector_0 write ∷ []) s in
    let spared : NoneWrites 1 first = record { each = (record { spares = spares_sector_1 write.body true; own = tt }, tt) } in
    let kept = keeps_on 1 first o.begin last (quiet_keeps 1 first o.begin o.quiet spared) (turns_spare 1 turns o.begin last o.now o.depth are o.does) in
    changed (at_now 1 (a ∷ b ∷ []) last.cells kept.cells)
