-- Settings that are made, or are so already.
use Rattle.std.proofs.Common.{◌≡◌, inl, refl, sym, ap, subst, ◌∙◌, Bool, true, false, List, [], map}
use mathlib.Core.Bool.{beq}
use Rattle.std.specs.Prelude.{not, ◌&&◌}
use Rattle.satl_base.specs.Cells.{AreSound, Cell, settle}
use Rattle.satl_base.specs.Losses.{Loses}
use Rattle.satl_base.proofs.LossesLemmas.{loses_none, loses_on}
use Rattle.satl_base.proofs.MovesLemmas.{lose_once}
use Rattle.satl_regs.specs.declared.setting.Setting.TheVariants.{WriteCache, LookAhead}
use Rattle.satl_drive.specs.State.{DriveState}
use Rattle.satl_barrier.specs.Commands.{IsCutShort}
use Rattle.satl_barrier.specs.Leaving.{IsLostIn}
use Rattle.satl_barrier.specs.Settings.{IsSetOn, IsTuned}
use Rattle.satl_barrier.specs.Flushing.{settled_if}
use Rattle.satl_barrier.proofs.CommandsLemmas.{lost_after, settled_loses}
use Rattle.satl_barrier.proofs.FlushingLemmas.{settled_if_loses}

pub both_so : (a b : Bool) → beq a b ≡ true → a ≡ b
both_so true true e = refl
both_so true false e = absurd cc
both_so false true e = absurd cc
both_so false false e = refl

-- nothing is written back where the cache stays as it is
stays_cached : (b : Bool) → (b && not b) ≡ false
stays_cached true = refl
stays_cached false = refl

tuned_by : (old new : DriveState) (cache look : Bool) → old.down ≡ false → new ≡ record old { cells = new.cells; cache = cache; look = look; identify = new.identify } → Loses (settled_if (old.cache && not cache) old.cells) new.cells → IsTuned cache look old new
tuned_by old new cache look up is lost =
    let cache_is : new.cache ≡ cache = ap (λ (d : DriveState). d.cache) is in
    let look_is : new.look ≡ look = ap (λ (d : DriveState). d.look) is in
    record {
      was_up = up;
      cache_is = cache_is;
      look_is = look_is;
      lost = lost;
      stays = is ∙ (ap (λ b. record old { cells = new.cells; cache = b; look = look; identify = new.identify }) (sym cache_is) ∙ ap (λ b. record old { cells = new.cells; cache = new.cache; look = b; identify = new.identify }) (sym look_is));
    }

-- a drive whose cache and look-ahead are so already
pub tuned_already : (old : DriveState) (cache look : Bool) → old.down ≡ false → AreSound old.cells → old.cache ≡ cache → old.look ≡ look → IsTuned cache look old old
tuned_already old cache look up sound is seen = record {
  was_up = up;
  cache_is = is;
  look_is = seen;
  lost = subst (λ b. Loses (settled_if b old.cells) old.cells) (sym (ap (λ b. old.cache && not b) (sym is) ∙ stays_cached old.cache)) (loses_none old.cells sound);
  stays = refl;
}

off_loses : (cache : Bool) (cells new : List Cell) → AreSound cells → Loses (map settle cells) new → Loses (settled_if (cache && true) cells) new
off_loses true cells new sound lost = lost
off_loses false cells new sound lost = loses_on cells (map settle cells) new (settled_loses cells sound) lost

on_loses : (cache : Bool) (cells new : List Cell) → Loses cells new → Loses (settled_if (cache && false) cells) new
on_loses true cells new lost = lost
on_loses false cells new lost = lost

pub cache_tuned : (old new : DriveState) (on : Bool) → AreSound old.cells → IsSetOn (WriteCache on) old new → IsTuned on old.look old new
cache_tuned old new true sound set = tuned_by old new true old.look set.was_up set.stays (on_loses old.cache old.cells new.cells set.lost)
cache_tuned old new false sound set = tuned_by old new false old.look set.was_up set.stays (off_loses old.cache old.cells new.cells sound set.lost)

pub look_tuned : (old new : DriveState) (on : Bool) → IsSetOn (LookAhead on) old new → IsTuned old.cache on old new
look_tuned old new on set = tuned_by old new old.cache on set.was_up set.stays (subst (λ b. Loses (settled_if b old.cells) new.cells) (sym (stays_cached old.cache)) set.lost)

-- one after the other
pub tuned_on : (old mid new : DriveState) (cache look : Bool) → IsTuned cache old.look old mid → IsTuned mid.cache look mid new → IsTuned cache look old new
tuned_on old mid new cache look p q = record {
  was_up = p.was_up;
  cache_is = q.cache_is ∙ p.cache_is;
  look_is = q.look_is;
  lost = loses_on (settled_if (old.cache && not cache) old.cells) mid.cells new.cells p.lost (subst (λ b. Loses (settled_if b mid.cells) new.cells) (stays_cached mid.cache) q.lost);
  stays = q.stays ∙ ap (λ (d : DriveState). record d { cells = new.cells; cache = new.cache; look = new.look; identify = new.identify }) p.stays;
}

-- the link was lost after the first
pub tuned_lost : (old mid new : DriveState) (cache look : Bool) → AreSound old.cells → IsTuned cache look old mid → IsCutShort [] mid new → IsLostIn [] old new
tuned_lost old mid new cache look sound p cut =
    lost_after [] [] old mid new (lose_once (loses_on old.cells (settled_if (old.cache && not cache) old.cells) mid.cells (settled_if_loses (old.cache && not cache) old.cells sound) p.lost))
    (inl (ap (λ (d : DriveState). d.glitches) p.stays)) (ap (λ (d : DriveState). d.faults) p.stays) tt cut

pub tuned_up : (old new : DriveState) (cache look : Bool) → IsTuned cache look old new → new.down ≡ false
tuned_up old new cache look x = ap (λ (d : DriveState). d.down) x.stays ∙ x.was_up
