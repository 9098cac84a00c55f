-- What an ATA command does to the medium.
use Rattle.std.proofs.Common.{◌≡◌, ⊎_elim, refl, ap, subst, ℕ, ◌+◌, Bool, true, false, List, [], length}
use Rattle.std.specs.Prelude.{MatchBool, nat_lt, if◌then◌else◌}
use Rattle.satl_base.specs.declared.block.Block.{Block}
use Rattle.satl_base.specs.Cells.{Pair, first_flaw}
use Rattle.satl_regs.specs.declared.values.AtaCommand.{AtaCommand}
use Rattle.satl_regs.specs.declared.values.AtaCommand.TheVariants as ata
use Rattle.satl_regs.specs.declared.setting.Setting.{Setting}
use Rattle.satl_regs.specs.Effects.{Carries, HasEffect, IsSet, Medium, Traffic, Transfer, is_error_log, is_no_trim, pairs_of, reading, setting_of, settable, trimming, verifying, writing}
use Rattle.satl_regs.specs.declared.setting.Setting.TheVariants.{WriteCache, LookAhead}
use Rattle.satl_laws.specs.Untouched.{Spares}
use Rattle.satl_laws.proofs.Cases.{by_bool, by_option}
use Rattle.satl_laws.proofs.Steps.{Steps, all_of, stays}
use Rattle.satl_laws.proofs.Steps.Steps.{parts, settles}

-- from each of the two cases of a test, the second with the test itself
by_bool_is : {A B C : Type 0} (b : Bool) → (A → C) → (b ≡ false → B → C) → MatchBool b A B → C
by_bool_is true f g h = f h
by_bool_is false f g h = g refl h

-- a command puts pairs that spare a sector where all that it may write does
pub record Carried (a : AtaCommand) (given : List Block) (old new : Medium) : Type 0 where
  pub pairs : List Pair
  pub spared : (x : ℕ) → Spares x (pairs_of a old given) → Spares x pairs
  pub cells : Steps pairs old.cells new.cells

module _ (x : Traffic) (old new : Medium) where
  -- a command that leaves the sectors
  as_before : (a : AtaCommand) → new.cells ≡ old.cells → Carried a x.given old new
  as_before a same = record { pairs = []; spared = λ y h. refl; cells = stays old.cells new.cells same }

  -- a command that goes over a range
  transfer : (a : AtaCommand) (t : Transfer) → (nat_lt (length old.cells) (t.lba + t.sectors) ≡ false → pairs_of a old x.given ≡ t.writes) → Carries t x old new → Carried a x.given old new
  transfer a t is =
      by_bool_is (nat_lt (length old.cells) (t.lba + t.sectors)) (λ h. as_before a (ap (λ m. m.cells) h.medium))
      (λ fits. by_option (first_flaw t.stopped_by old.cells t.lba t.sectors)
      (⊎_elim
      (λ h. carried (is fits) (all_of t.writes old.cells new.cells (ap (λ m. m.cells) h.medium)))
      (λ h. carried (is fits) (parts h.part)))
      (λ at h. carried (is fits) (parts h.part)))
    where
      carried : pairs_of a old x.given ≡ t.writes → Steps t.writes old.cells new.cells → Carried a x.given old new
      carried same steps = record { pairs = t.writes; spared = λ y h. subst (Spares y) same h; cells = steps }

  -- a setting
  set_carried : (a : AtaCommand) (setting : Setting) → IsSet setting x old new → Carried a x.given old new
  set_carried a (WriteCache true) h = as_before a (ap (λ m. m.cells) h.medium)
  set_carried a (WriteCache false) h = record { pairs = []; spared = λ y k. refl; cells = settles (ap (λ m. m.cells) h.medium) }
  set_carried a (LookAhead on) h = as_before a (ap (λ m. m.cells) h.medium)

  -- each command
  pub carried_out : (a : AtaCommand) → HasEffect a x old new → Carried a x.given old new
  carried_out (ata.Read how lba sectors) h = transfer (ata.Read how lba sectors) (reading how lba sectors old) (λ fits. refl) h
  carried_out (ata.Write how lba sectors) h =
      transfer (ata.Write how lba sectors) (writing how lba sectors x.given old)
      (λ fits. ap (λ b. if b then [] else (writing how lba sectors x.given old).writes) fits) h
  carried_out (ata.Verify ext lba sectors) h = transfer (ata.Verify ext lba sectors) (verifying ext lba sectors) (λ fits. refl) h
  carried_out (ata.Flush ext) h = record { pairs = []; spared = λ y k. refl; cells = settles (ap (λ m. m.cells) h.medium) }
  carried_out (ata.SetFeatures what) h =
      by_option (settable old.identify (setting_of what)) (λ k. as_before (ata.SetFeatures what) (ap (λ m. m.cells) k.medium)) (λ setting k. set_carried (ata.SetFeatures what) setting k) h
  carried_out (ata.ReadLog log page blocks) h =
      by_bool (is_error_log log page blocks) (λ k. as_before (ata.ReadLog log page blocks) (ap (λ m. m.cells) k.medium)) (λ k. as_before (ata.ReadLog log page blocks) (ap (λ m. m.cells) k.medium)) h
  carried_out (ata.Trim blocks) h =
      by_bool_is (is_no_trim blocks x.given old) (λ k. as_before (ata.Trim blocks) (ap (λ m. m.cells) k.medium))
      (λ trims k. transfer (ata.Trim blocks) (trimming blocks x.given old) (λ fits. ap (λ b. if b then [] else (trimming blocks x.given old).writes) trims) k) h
  carried_out other h = as_before other (ap (λ m. m.cells) h.medium)
