-- What a command does to a drive, and what it leaves.
use Rattle.std.proofs.Common.{◌≡◌, ⊎_elim, inl, inr, refl, sym, ap, subst, arith, ◌∙◌, ℕ, ◌+◌, ◌*◌, ◌≤◌, Bool, true, false, List, [], ◌∷◌, length, map, Some, None}
use Rattle.std.specs.Prelude.{MatchBool, MatchOption, Option, if◌then◌else◌, nat_lt, slice_index, ◌⊎◌, ◌/◌, ◌%◌, ◌^◌, ◌==◌}
use Rattle.std.specs.List.{AllByRecursion}
use Rattle.satl_base.specs.declared.block.Block.{Block}
use Rattle.satl_base.specs.Cells.{AreSound, Cell, Pair, first_flaw, settle}
use Rattle.satl_base.specs.Identify.{has_cache, has_look, word}
use Rattle.satl_base.specs.Lists.{IsIn, is_in}
use Rattle.satl_base.specs.Losses.{Loses}
use Rattle.satl_base.specs.Moves.{Moves}
use Rattle.satl_base.specs.Moves.{stay}
use Rattle.satl_base.proofs.ListsLemmas.{All-in, leaves_only}
use Rattle.satl_base.proofs.LossesLemmas.{loses-nows, loses-sound}
use Rattle.satl_base.proofs.MovesLemmas.{lose_once, moves_of_part, moves_on}
use Rattle.satl_io.specs.Causes.{Rose}
use Rattle.satl_regs.specs.declared.values.Registers.{Registers}
use Rattle.satl_regs.specs.declared.values.How.TheVariants.{Pio, PioExt, Dma, DmaExt}
use Rattle.satl_regs.specs.declared.values.AtaCommand.{AtaCommand}
use Rattle.satl_regs.specs.declared.values.AtaCommand.TheVariants as commands
use Rattle.satl_regs.specs.Commands.{command_in}
use Rattle.satl_regs.specs.Spelling.{command_registers}
use Rattle.satl_regs.specs.QueuedCommands.{queued_codes}
use Rattle.satl_regs.specs.declared.setting.Setting.{Setting}
use Rattle.satl_regs.specs.Effects.{Carries, HasEffect, EndsInFull, IsFlawed, IsGarbled, IsLogged, EndsBad, IsSet, IsTelling, Medium, Traffic, Transfer, abrt, has_setting, idnf, is_error_log, is_no_trim, no_error_log, own_blocks, pairs_of, reading, setting_of, settable, trimming, verifying, with_setting, writing}
use Rattle.satl_identify.specs.Data.{identity_data}
use Rattle.satl_drive.specs.State.{DriveState, IsFit, medium_of, with_medium}
use Rattle.satl_drive.specs.Rules.{CanRun, IsCarriedOut as IsRunOut, IsCutOff, IsRun, IsRunBy, IsRunCutOff, MayRun}
use Rattle.satl_barrier.specs.Commands.{GivesIdentifyData}
use Rattle.satl_barrier.specs.Commands.{HasRun, IsCutShort, IsNamed, traffic}
use Rattle.satl_barrier.specs.Leaving.{IsFree, IsLostIn, OneGlitchAtMost, SaysSo, Stays, TellsOf}
use Rattle.satl_barrier.proofs.ToldLemmas.{all_bytes, retold}
use Rattle.satl_barrier.specs.Settings.{IsSetOn}

-- ---- a command may be run

plain : (c : AtaCommand) → IsNamed c → is_in (command_registers c).command queued_codes ≡ false
unfolding command_registers
plain (commands.Read Pio lba sectors) named = refl
plain (commands.Read PioExt lba sectors) named = refl
plain (commands.Read Dma lba sectors) named = refl
plain (commands.Read DmaExt lba sectors) named = refl
plain (commands.Write Pio lba sectors) named = refl
plain (commands.Write PioExt lba sectors) named = refl
plain (commands.Write Dma lba sectors) named = refl
plain (commands.Write DmaExt lba sectors) named = refl
plain (commands.Verify true lba sectors) named = refl
plain (commands.Verify false lba sectors) named = refl
plain (commands.Flush true) named = refl
plain (commands.Flush false) named = refl
plain commands.Identify named = refl
plain (commands.SetFeatures what) named = refl
plain commands.Standby named = refl
plain commands.Idle named = refl
plain commands.CheckPower named = refl
plain (commands.ReadLog log page blocks) named = refl
plain (commands.Trim blocks) named = refl
plain commands.SmartStatus named = refl
plain (commands.Other code) named = absurd named

pub can_run : (d : DriveState) (command : AtaCommand) (r : Registers) (pages : List Block) → d.outstanding ≡ [] → d.error ≡ None → IsNamed command → own_blocks command ≤ length pages → r ≡ command_registers command → command_in r ≡ command → CanRun d r pages
can_run d command r pages idle no_error named room is again = record {
  idle = idle;
  not_queued = ap (λ x. is_in x.command queued_codes) is ∙ plain command named;
  error = subst (λ e. MayRun e (command_in r)) (sym no_error) tt;
  room = subst (λ x. own_blocks x ≤ length pages) (sym again) room;
}

-- ---- what it did

pub has_run : (command : AtaCommand) (x : Traffic) (old new : DriveState) → old.error ≡ None → x.registers ≡ command_registers command → command_in x.registers ≡ command → IsRun x old new → HasRun command (traffic command x.given x.ended x.taken) old new
has_run command x old new no_error is again run =
    let out : IsRunOut x old new = subst (λ e. IsRunBy e x old new) no_error run in
    record {
      was_up = out.was_up;
      after = out.after;
      does = subst (λ r. HasEffect command (record x { registers = r }) (medium_of old) out.after) is (subst (λ c. HasEffect c x (medium_of old) out.after) again out.does);
      lost = out.lost;
      stays = out.stays;
    }

pub cut_short : (old : DriveState) (command : AtaCommand) (r : Registers) (given : List Block) (new : DriveState) → command_in r ≡ command → IsRunCutOff old r given new → IsCutShort (pairs_of command (medium_of old) given) old new
cut_short old command r given new again run = record {
  settings = run.settings;
  cut = subst (λ c. IsCutOff old (pairs_of c (medium_of old) given) (record new { cache = old.cache; look = old.look; identify = old.identify })) again run.cut;
}

pub passed_cut : (old : DriveState) (r : Registers) (given : List Block) (new : DriveState) → IsRunCutOff old r given new → IsCutShort (pairs_of (command_in r) (medium_of old) given) old new
passed_cut old r given new run = record { settings = run.settings; cut = run.cut }

-- ---- what it leaves

pub says_told : (cache look : Bool) (old new : List ℕ) → IsTelling cache look old new → SaysSo old new
says_told cache look old new tells = record { cache = ap (λ w. w / 2 ^ 5 % 2 == 1) word_82; look = ap (λ w. w / 2 ^ 6 % 2 == 1) word_82 }
  where
    low : slice_index new 164 ≡ slice_index old 164
    low = tells.others 164 (λ e. absurd (omega (arith, e))) (λ e. absurd (omega (arith, e)))

    high : slice_index new 165 ≡ slice_index old 165
    high = tells.others 165 (λ e. absurd (omega (arith, e))) (λ e. absurd (omega (arith, e)))

    word_82 : word 82 new ≡ word 82 old
    word_82 = ap (λ n. n + 256 * slice_index new 165) low ∙ ap (λ n. slice_index old 164 + 256 * n) high

-- what a transfer leaves of a medium
pub record IsAsSet (old new : Medium) : Type 0 where
  pub cache : new.cache ≡ old.cache
  pub look : new.look ≡ old.look
  pub identify : new.identify ≡ old.identify

-- what a command leaves of the settings and of the data that tell them: all as it was, or the data tell other settings
abbrev pub IsRetold : Medium → Medium → Type 0
IsRetold old new = IsAsSet old new ⊎ IsTelling new.cache new.look old.identify new.identify

as_set : (old new : Medium) (cells : List Cell) (active : Bool) (glitches : ℕ) → new ≡ record old { cells = cells; active = active; glitches = glitches } → IsAsSet old new
as_set old new cells active glitches is = record { cache = ap (λ (m : Medium). m.cache) is; look = ap (λ (m : Medium). m.look) is; identify = ap (λ (m : Medium). m.identify) is }

pub carries_set : (t : Transfer) (x : Traffic) (old new : Medium) → Carries t x old new → IsAsSet old new
carries_set t x old new =
    elim (nat_lt (length old.cells) (t.lba + t.sectors)) as (λ b. MatchBool b (EndsBad idnf x.registers.lba x old new) (MatchOption (first_flaw t.stopped_by old.cells t.lba t.sectors) (EndsInFull t x old new ⊎ IsGarbled t x old new) (λ at. IsFlawed t at x old new)) → IsAsSet old new) [
      | true ↦ λ does. as_set old new _ _ _ does.medium
      | false ↦
          elim (first_flaw t.stopped_by old.cells t.lba t.sectors) as (λ o. MatchOption o (EndsInFull t x old new ⊎ IsGarbled t x old new) (λ at. IsFlawed t at x old new) → IsAsSet old new) [
            | None ↦ λ h. ⊎_elim (λ does. as_set old new _ _ _ does.medium) (λ does. as_set old new _ _ _ does.medium) h
            | Some at ↦ λ does. as_set old new _ _ _ does.medium
          ]
    ]

says_retold : (old new : Medium) → IsRetold old new → SaysSo old.identify new.identify
says_retold old new (inl set) = record { cache = ap has_cache set.identify; look = ap has_look set.identify }
says_retold old new (inr tells) = says_told new.cache new.look old.identify new.identify tells

-- so the data are those of the same identity as before
tells_retold : (bytes : List ℕ) (old new : DriveState) → length bytes ≡ 512 → IsFit new → IsRetold (medium_of old) (medium_of new) → TellsOf bytes old → TellsOf bytes new
tells_retold bytes old new long fit (inl set) was = set.identify ∙ (was ∙ (ap (λ b. identity_data bytes b old.look) (sym set.cache) ∙ ap (λ b. identity_data bytes new.cache b) (sym set.look)))
tells_retold bytes old new long fit (inr tells) was = retold bytes old.identify new.identify old.cache old.look new.cache new.look long (all_bytes new.identify fit.bytes) was tells

set_retold : (found : Option Setting) (x : Traffic) (old new : Medium) → MatchOption found (EndsBad abrt 0 x old new) (λ s. IsSet s x old new) → IsRetold old new
set_retold None x old new does = inl (as_set old new _ _ _ does.medium)
set_retold (Some s) x old new does = inr does.tells

log_set : (found : Bool) (x : Traffic) (old new : Medium) → MatchBool found (IsLogged no_error_log x old new) (EndsBad abrt 0 x old new) → IsAsSet old new
log_set true x old new does = as_set old new _ _ _ does.medium
log_set false x old new does = as_set old new _ _ _ does.medium

trim_set : (none : Bool) (blocks : ℕ) (x : Traffic) (old new : Medium) → MatchBool none (EndsBad abrt 0 x old new) (Carries (trimming blocks x.given old) x old new) → IsAsSet old new
trim_set true blocks x old new does = as_set old new _ _ _ does.medium
trim_set false blocks x old new does = carries_set (trimming blocks x.given old) x old new does

does_retell : (c : AtaCommand) (x : Traffic) (old new : Medium) → HasEffect c x old new → IsRetold old new
does_retell (commands.Read how lba sectors) x old new does = inl (carries_set (reading how lba sectors old) x old new does)
does_retell (commands.Write how lba sectors) x old new does = inl (carries_set (writing how lba sectors x.given old) x old new does)
does_retell (commands.Verify ext lba sectors) x old new does = inl (carries_set (verifying ext lba sectors) x old new does)
does_retell (commands.Flush ext) x old new does = inl (as_set old new _ _ _ does.medium)
does_retell commands.Identify x old new does = inl (as_set old new _ _ _ does.medium)
does_retell (commands.SetFeatures what) x old new does = set_retold (settable old.identify (setting_of what)) x old new does
does_retell commands.Standby x old new does = inl (as_set old new _ _ _ does.medium)
does_retell commands.Idle x old new does = inl (as_set old new _ _ _ does.medium)
does_retell commands.CheckPower x old new does = inl (as_set old new _ _ _ does.medium)
does_retell (commands.ReadLog log page blocks) x old new does = inl (log_set (is_error_log log page blocks) x old new does)
does_retell (commands.Trim blocks) x old new does = inl (trim_set (is_no_trim blocks x.given old) blocks x old new does)
does_retell commands.SmartStatus x old new does = inl (as_set old new _ _ _ does.medium)
does_retell (commands.Other code) x old new does = inl (as_set old new _ _ _ does.medium)

stays_after : (old new : DriveState) (after : Medium) → IsFree old → IsFit new → Loses after.cells new.cells → new ≡ record (with_medium old after) { cells = new.cells } → IsRetold (medium_of old) after → Stays old new
stays_after old new after free fit lost stays retells = record {
  free = record { idle = ap (λ (d : DriveState). d.outstanding) stays ∙ free.idle; no_error = ap (λ (d : DriveState). d.error) stays ∙ free.no_error; fit = fit };
  capacity = ap (λ (d : DriveState). d.capacity) stays;
  sound = loses-sound after.cells new.cells lost;
  says = says_retold (medium_of old) (medium_of new) told;
  tells = λ bytes long. tells_retold bytes old new long fit told;
  unplugs = ap (λ (d : DriveState). d.unplugs) stays;
  orders = ap (λ (d : DriveState). d.orders) stays;
  deepest = ap (λ (d : DriveState). d.deepest) stays;
}
  where
    told : IsRetold (medium_of old) (medium_of new)
    told = subst (IsRetold (medium_of old)) (sym (ap medium_of stays)) (by retells)
      where
        by : IsRetold (medium_of old) after → IsRetold (medium_of old) (record after { cells = new.cells })
        by (inl x) = inl (record { cache = x.cache; look = x.look; identify = x.identify })
        by (inr x) = inr x

pub run_stays : (c : AtaCommand) (x : Traffic) (old new : DriveState) → IsFree old → IsFit new → HasRun c x old new → Stays old new
run_stays c x old new free fit run = stays_after old new run.after free fit run.lost run.stays (does_retell c x (medium_of old) run.after run.does)

pub passed_stays : (x : Traffic) (old new : DriveState) → IsFree old → IsFit new → IsRun x old new → Stays old new
passed_stays x old new free fit run =
    let out : IsRunOut x old new = subst (λ e. IsRunBy e x old new) free.no_error run in
    stays_after old new out.after free fit out.lost out.stays (does_retell (command_in x.registers) x (medium_of old) out.after out.does)

pub cut_stays : (old new : DriveState) (pairs : List Pair) → IsFit new → IsCutShort pairs old new → Stays old new
cut_stays old new pairs fit run = record {
  free = record { idle = ap (λ (d : DriveState). d.outstanding) run.cut.stays; no_error = ap (λ (d : DriveState). d.error) run.cut.stays; fit = fit };
  capacity = ap (λ (d : DriveState). d.capacity) run.cut.stays;
  sound = loses-sound run.cut.mid new.cells run.cut.lost;
  says = says_told new.cache new.look old.identify new.identify run.settings.tells;
  tells = λ bytes long was. retold bytes old.identify new.identify old.cache old.look new.cache new.look long (all_bytes new.identify fit.bytes) was run.settings.tells;
  unplugs = ap (λ (d : DriveState). d.unplugs) run.cut.stays;
  orders = ap (λ (d : DriveState). d.orders) run.cut.stays;
  deepest = ap (λ (d : DriveState). d.deepest) run.cut.stays;
}

-- one command after the other
pub stays_on : (old mid new : DriveState) → Stays old mid → Stays mid new → Stays old new
stays_on old mid new first rest = record {
  free = rest.free;
  capacity = rest.capacity ∙ first.capacity;
  sound = rest.sound;
  says = record { cache = rest.says.cache ∙ first.says.cache; look = rest.says.look ∙ first.says.look };
  tells = λ bytes long was. rest.tells bytes long (first.tells bytes long was);
  unplugs = rest.unplugs ∙ first.unplugs;
  orders = rest.orders ∙ first.orders;
  deepest = rest.deepest ∙ first.deepest;
}

-- ---- IDENTIFY DEVICE

pub told : (x : Traffic) (old new : DriveState) → HasRun commands.Identify x old new → GivesIdentifyData old x.given x.taken new
told x old new run = record {
  was_up = run.was_up;
  pages = run.does.data_in;
  lost = subst (λ (m : Medium). Loses m.cells new.cells) run.does.medium run.lost;
  stays = run.stays ∙ ap (λ (m : Medium). record old { cells = new.cells; cache = m.cache; look = m.look; active = m.active; glitches = m.glitches; identify = m.identify }) run.does.medium;
}

-- a link that is lost with nothing under way leaves what reads give
pub cut_nows : (old new : DriveState) → IsCutShort [] old new → map (λ c. c.now) new.cells ≡ map (λ c. c.now) old.cells
cut_nows old new lost = loses-nows old.cells new.cells (subst (λ cells. Loses cells new.cells) lost.cut.part lost.cut.lost)

-- ---- a lost link

-- after what was done before of the task, the link was lost while some of its pairs were under way
pub lost_after : (pairs under_way : List Pair) (old mid new : DriveState) → Moves (λ p. IsIn p pairs) old.cells mid.cells → OneGlitchAtMost old mid → mid.faults ≡ old.faults → AllByRecursion (λ p. IsIn p pairs) under_way → IsCutShort under_way mid new → IsLostIn pairs old new
lost_after pairs under_way old mid new before glitch faults among run =
    let same : new.glitches ≡ mid.glitches = ap (λ (d : DriveState). d.glitches) run.cut.stays in
    record {
      cells = moves_on before (moves_on (moves_of_part (λ p. IsIn p pairs) under_way mid.cells run.cut.mid among run.cut.part) (lose_once run.cut.lost));
      glitches = subst (λ n. (n ≡ old.glitches) ⊎ (n + 1 ≡ old.glitches)) (sym same) glitch;
      rose = subst (λ n. Rose n new.faults) faults run.cut.rose;
      down = ap (λ (d : DriveState). d.down) run.cut.stays;
    }

-- the link was lost in the first command
pub lost_first : (pairs under_way : List Pair) (old new : DriveState) → AllByRecursion (λ p. IsIn p pairs) under_way → IsCutShort under_way old new → IsLostIn pairs old new
lost_first pairs under_way old new among run = lost_after pairs under_way old old new stay (inl refl) refl among run

-- the same pairs are among them
pub among : (pairs under_way : List Pair) → under_way ≡ pairs → AllByRecursion (λ p. IsIn p pairs) under_way
among pairs under_way same = All-in (λ p. IsIn p pairs) under_way (λ p i. subst (IsIn p) same i)

-- ---- settings

-- a setting that the drive has is made
pub set_on : (what : ℕ) (s : Setting) (x : Traffic) (old new : DriveState) → setting_of what ≡ Some s → has_setting old.identify s ≡ true → HasRun (commands.SetFeatures what) x old new → IsSetOn s old new
set_on what s x old new is has run =
    let set : IsSet s x (medium_of old) run.after =
    subst (λ o. MatchOption o (EndsBad abrt 0 x (medium_of old) run.after) (λ s. IsSet s x (medium_of old) run.after)) settable_is run.does in
    let told : new.identify ≡ run.after.identify = ap (λ (d : DriveState). d.identify) run.stays in
    let cache : new.cache ≡ run.after.cache = ap (λ (d : DriveState). d.cache) run.stays in
    let look : new.look ≡ run.after.look = ap (λ (d : DriveState). d.look) run.stays in
    record {
      was_up = run.was_up;
      lost = subst (λ (cells : List Cell). Loses cells new.cells) (ap (λ (m : Medium). m.cells) set.medium) run.lost;
      tells = subst (λ b. IsTelling b new.look old.identify new.identify) (sym cache) (subst (λ b. IsTelling run.after.cache b old.identify new.identify) (sym look) (subst (λ d. IsTelling run.after.cache run.after.look old.identify d) (sym told) set.tells));
      stays = run.stays ∙ (ap (λ (m : Medium). record old { cells = new.cells; cache = m.cache; look = m.look; active = m.active; glitches = m.glitches; identify = m.identify }) set.medium
          ∙ ap (λ d. record old { cells = new.cells; cache = (with_setting s (medium_of old)).cache; look = (with_setting s (medium_of old)).look; active = (with_setting s (medium_of old)).active; glitches = (with_setting s (medium_of old)).glitches; identify = d }) (sym told));
    }
  where
    settable_is : settable old.identify (setting_of what) ≡ Some s
    settable_is = ap (settable old.identify) is ∙ ap (λ b. if b then Some s else None) has

-- the sectors may lose all but what reads give
pub settled_loses : (cells : List Cell) → AreSound cells → Loses cells (map settle cells)
settled_loses [] sound = tt
settled_loses (c ∷ cells) sound = (record { now = refl; read_flaw = refl; write_flaw = refl; fewer = leaves_only c.now c.may sound.0; sound = inl refl }, settled_loses cells sound.1)
