-- What commands that move no data do to a drive.
use Rattle.std.proofs.Common.{◌≡◌, ⊎_elim, inl, refl, ap, subst, ◌∙◌, ℕ, ◌+◌, Bool, true, false, List, [], length, map, Some, None}
use Rattle.std.specs.Prelude.{MatchBool, MatchOption, nat_lt, not, ◌⊎◌}
use Rattle.satl_base.specs.Cells.{AreSound, Cell, first_flaw, settle}
use Rattle.satl_base.specs.Losses.{Loses}
use Rattle.satl_base.proofs.LossesLemmas.{loses_none, loses_on}
use Rattle.satl_base.proofs.MovesLemmas.{lose_once}
use Rattle.satl_regs.specs.declared.values.AtaCommand.{AtaCommand}
use Rattle.satl_regs.specs.declared.values.AtaCommand.TheVariants as commands
use Rattle.satl_regs.specs.Effects.{Carries, EndsBad, EndsInFull, IsFlawed, IsGarbled, Medium, Traffic, Transfer, idnf, verifying}
use Rattle.satl_drive.specs.State.{DriveState, medium_of, with_medium}
use Rattle.satl_barrier.specs.Commands.{HasRunBare, IsCutShort, traffic}
use Rattle.satl_barrier.specs.Leaving.{IsLostIn}
use Rattle.satl_barrier.specs.Flushing.{IsLeftWith, settled_if}
use Rattle.satl_barrier.proofs.CommandsLemmas.{lost_after, settled_loses}

left_with : (c : AtaCommand) (old new : DriveState) (cells : List Cell) (active : Bool) (run : HasRunBare c old new) → run.run.after ≡ record (medium_of old) { cells = cells; active = active } → IsLeftWith cells active old new
left_with c old new cells active bare is = record {
  was_up = bare.run.was_up;
  lost = subst (λ (m : Medium). Loses m.cells new.cells) is bare.run.lost;
  stays = bare.run.stays ∙ ap (λ (m : Medium). record (with_medium old m) { cells = new.cells }) is;
}

pub flushed : (old new : DriveState) → HasRunBare (commands.Flush true) old new → IsLeftWith (map settle old.cells) old.active old new
flushed old new bare = left_with (commands.Flush true) old new (map settle old.cells) old.active bare bare.run.does.medium

pub in_standby : (old new : DriveState) → HasRunBare commands.Standby old new → IsLeftWith old.cells false old new
in_standby old new bare = left_with commands.Standby old new old.cells false bare bare.run.does.medium

pub idled : (old new : DriveState) → HasRunBare commands.Idle old new → IsLeftWith old.cells true old new
idled old new bare = left_with commands.Idle old new old.cells true bare bare.run.does.medium

-- a verify changes no sector
record HasLooked (old new : Medium) : Type 0 where
  active : Bool
  is : new ≡ record old { active = active }

module _ (lba count : ℕ) (x : Traffic) (old new : Medium) where
  abbrev verify : Transfer
  verify = verifying true lba count

  looked : Carries verify x old new → HasLooked old new
  looked =
      elim (nat_lt (length old.cells) (lba + count)) as (λ b. MatchBool b (EndsBad idnf x.registers.lba x old new) (MatchOption (first_flaw verify.stopped_by old.cells lba count) (EndsInFull verify x old new ⊎ IsGarbled verify x old new) (λ at. IsFlawed verify at x old new)) → HasLooked old new) [
        | true ↦ λ does. record { active = old.active; is = does.medium }
        | false ↦
            elim (first_flaw verify.stopped_by old.cells lba count) as (λ o. MatchOption o (EndsInFull verify x old new ⊎ IsGarbled verify x old new) (λ at. IsFlawed verify at x old new) → HasLooked old new) [
              | None ↦ λ h. ⊎_elim (λ does. record { active = true; is = does.medium }) (λ does. let dma : false ≡ true = does.by_dma in absurd cc) h
              | Some at ↦ λ does. record { active = old.active; is = does.medium ∙ ap (λ cells. record old { cells = cells }) does.part }
            ]
      ]

-- a drive that was read is left as it was, active or not
pub record IsWoken (old new : DriveState) : Type 0 where
  pub active : Bool
  pub left : IsLeftWith old.cells active old new

pub woken : (old new : DriveState) → HasRunBare (commands.Verify true 0 1) old new → IsWoken old new
woken old new bare =
    let seen = looked 0 1 (traffic (commands.Verify true 0 1) [] bare.ended bare.taken) (medium_of old) bare.run.after bare.run.does in
    record { active = seen.active; left = left_with (commands.Verify true 0 1) old new old.cells seen.active bare seen.is }

-- nothing was to be written back, or all was
pub not_flushed : (no_flush : Bool) (old : DriveState) → no_flush ≡ true → old.down ≡ false → AreSound old.cells → IsLeftWith (settled_if (not no_flush) old.cells) old.active old old
not_flushed true old set up sound = record { was_up = up; lost = loses_none old.cells sound; stays = refl }
not_flushed false old set up sound = absurd cc

pub flushed_if : (no_flush : Bool) (old new : DriveState) → no_flush ≡ false → IsLeftWith (map settle old.cells) old.active old new → IsLeftWith (settled_if (not no_flush) old.cells) old.active old new
flushed_if true old new clear x = absurd cc
flushed_if false old new clear x = x

pub settled_if_loses : (settles : Bool) (cells : List Cell) → AreSound cells → Loses cells (settled_if settles cells)
settled_if_loses true cells sound = settled_loses cells sound
settled_if_loses false cells sound = loses_none cells sound

-- one after the other
pub left_on : (cells : List Cell) (a b : Bool) (old mid new : DriveState) → IsLeftWith cells a old mid → IsLeftWith mid.cells b mid new → IsLeftWith cells b old new
left_on cells a b old mid new p q = record {
  was_up = p.was_up;
  lost = loses_on cells mid.cells new.cells p.lost q.lost;
  stays = q.stays ∙ ap (λ (d : DriveState). record d { cells = new.cells; active = b }) p.stays;
}

-- the link was lost after the first
pub left_lost : (cells : List Cell) (a : Bool) (old mid new : DriveState) → Loses old.cells mid.cells → IsLeftWith cells a old mid → IsCutShort [] mid new → IsLostIn [] old new
left_lost cells a old mid new back p cut = lost_after [] [] old mid new (lose_once back) (inl (ap (λ (d : DriveState). d.glitches) p.stays)) (ap (λ (d : DriveState). d.faults) p.stays) tt cut
