-- What the end of a task puts on the medium is what the task may write.
use Rattle.std.proofs.Common.{◌≡◌, ⊎_elim, refl, sym, ap, subst, ℕ, ◌+◌, Bool, true, false, List, [], length, map}
use Rattle.std.specs.Prelude.{MatchBool, nat_lt, not, ◌&&◌, if◌then◌else◌}
use Rattle.satl_base.specs.declared.bench.Which.TheVariants as flaws
use Rattle.satl_base.specs.declared.block.Block.{Block}
use Rattle.satl_base.specs.declared.block.Range.{Range}
use Rattle.satl_base.specs.declared.reply.Reply.{Reply}
use Rattle.satl_base.specs.Blocks.{over}
use Rattle.satl_base.specs.Cells.{Pair, first_flaw, settle}
use Rattle.satl_base.specs.Lists.{IsIn}
use Rattle.satl_cdb.specs.declared.command.Command.{Command}
use Rattle.satl_cdb.specs.declared.command.Command.TheVariants as commands
use Rattle.satl_cdb.specs.declared.command.Form.{Form}
use Rattle.satl_sense.specs.declared.sense.Sense.{Sense}
use Rattle.satl_regs.specs.declared.setting.Setting.{Setting}
use Rattle.satl_regs.specs.declared.setting.Setting.TheVariants.{WriteCache, LookAhead}
use Rattle.satl_regs.specs.declared.values.AtaCommand.{AtaCommand}
use Rattle.satl_regs.specs.declared.values.AtaCommand.TheVariants as ata
use Rattle.satl_regs.specs.Commands.{command_in}
use Rattle.satl_regs.specs.Effects.{Carries, HasEffect, IsSet, Medium, Traffic, Transfer, is_error_log, is_no_trim, pairs_of, reading, setting_of, settable, trimming, verifying, writing}
use Rattle.satl_line.specs.declared.entry.Entry.{Entry}
use Rattle.satl_line.specs.Ending.{EndsAs, Outcome}
use Rattle.satl_line.specs.Ending.Outcome.{ends_done}
use Rattle.satl_line.specs.Ranged.{RangedTask, written_pairs}
use Rattle.satl_direct.specs.Device.{Device}
use Rattle.satl_direct.specs.Ending.{Ends, EndsBy, EndsCompared, EndsInPieces, EndsOnSurface, EndsPassed, EndsVerified, IsChecked, IsTaskDone, after_select, after_start_stop, device_medium, device_settled_if, selected, settled, surface_of}
use Rattle.satl_direct.specs.Quiet.{writes, written_by}
use Rattle.satl_direct.specs.Tasks.{asks, pass_of}
use Rattle.satl_laws.proofs.Cases.{by_bool, by_option}
use Rattle.satl_laws.proofs.Coming.{WritesItsOwn}
use Rattle.satl_origins.proofs.Held.{AllSo, PairsSo, so_part, so_same, so_settled, so_whole}

-- from each of the two cases of a test, the second with the test itself
by_bool_is : {A C D : Type 0} (b : Bool) → (A → D) → (b ≡ false → C → D) → MatchBool b A C → D
by_bool_is true f g h = f h
by_bool_is false f g h = g refl h

module _ (B : ℕ → Block → Type 0) where
  -- ---- an ATA command

  module _ (x : Traffic) (old new : Medium) (so : AllSo B old.cells) where
    -- a command that leaves the sectors
    as_before : new.cells ≡ old.cells → AllSo B new.cells
    as_before same = so_same B old.cells new.cells same so

    -- all is written back
    all_back : new.cells ≡ map settle old.cells → AllSo B new.cells
    all_back same = so_same B (map settle old.cells) new.cells same (so_settled B old.cells so)

    -- a command that goes over a range
    transfer : (t : Transfer) → (nat_lt (length old.cells) (t.lba + t.sectors) ≡ false → PairsSo B t.writes) → Carries t x old new → AllSo B new.cells
    transfer t its =
        by_bool_is (nat_lt (length old.cells) (t.lba + t.sectors)) (λ h. as_before (ap (λ m. m.cells) h.medium))
        (λ fits. by_option (first_flaw t.stopped_by old.cells t.lba t.sectors)
        (⊎_elim
        (λ h. so_whole B t.writes old.cells new.cells (its fits) (ap (λ m. m.cells) h.medium) so)
        (λ h. so_part B t.writes old.cells new.cells (its fits) h.part so))
        (λ at h. so_part B t.writes old.cells new.cells (its fits) h.part so))

    setting_made : (setting : Setting) → IsSet setting x old new → AllSo B new.cells
    setting_made (WriteCache true) h = as_before (ap (λ m. m.cells) h.medium)
    setting_made (WriteCache false) h = all_back (ap (λ m. m.cells) h.medium)
    setting_made (LookAhead on) h = as_before (ap (λ m. m.cells) h.medium)

    -- each command
    effect_so : (a : AtaCommand) → PairsSo B (pairs_of a old x.given) → HasEffect a x old new → AllSo B new.cells
    effect_so (ata.Read how lba sectors) its h = transfer (reading how lba sectors old) (λ fits p i. absurd i) h
    effect_so (ata.Write how lba sectors) its h =
        transfer (writing how lba sectors x.given old)
        (λ fits. subst (λ b. PairsSo B (if b then [] else (writing how lba sectors x.given old).writes)) fits its) h
    effect_so (ata.Verify ext lba sectors) its h = transfer (verifying ext lba sectors) (λ fits p i. absurd i) h
    effect_so (ata.Flush ext) its h = all_back (ap (λ m. m.cells) h.medium)
    effect_so (ata.SetFeatures what) its h =
        by_option (settable old.identify (setting_of what)) (λ k. as_before (ap (λ m. m.cells) k.medium)) (λ setting k. setting_made setting k) h
    effect_so (ata.ReadLog log page blocks) its h =
        by_bool (is_error_log log page blocks) (λ k. as_before (ap (λ m. m.cells) k.medium)) (λ k. as_before (ap (λ m. m.cells) k.medium)) h
    effect_so (ata.Trim blocks) its h =
        by_bool_is (is_no_trim blocks x.given old) (λ k. as_before (ap (λ m. m.cells) k.medium))
        (λ trims k. transfer (trimming blocks x.given old) (λ fits. subst (λ b. PairsSo B (if b then [] else (trimming blocks x.given old).writes)) trims its) k) h
    effect_so other its h = as_before (ap (λ m. m.cells) h.medium)

  -- ---- a task

  module _ (s new : Device) (t : Entry) (reply : Reply) (so : AllSo B s.cells) where
    -- each way in which a command ends
    checked : (sense : Sense) → IsChecked sense s t reply new → AllSo B new.cells
    checked sense e = so_same B s.cells new.cells (ap (λ d. d.cells) e.stays) so

    done : (after : Device) → AllSo B after.cells → IsTaskDone after t reply new → AllSo B new.cells
    done after its e = so_same B after.cells new.cells (ap (λ d. d.cells) e.stays) its

    same_done : (active : Bool) → IsTaskDone (record s { active = active }) t reply new → AllSo B new.cells
    same_done active = done (record s { active = active }) so

    -- what was written back where a flag is set
    flushed : (b : Bool) → AllSo B (device_settled_if b s).cells
    flushed true = so_settled B s.cells so
    flushed false = so

    started_or_stopped : (start no_flush : Bool) → AllSo B (after_start_stop start no_flush s).cells
    started_or_stopped true no_flush = so
    started_or_stopped false no_flush = flushed (not no_flush)

    on_surface : (ranged : RangedTask) → PairsSo B (written_pairs s.modes.wce ranged) → EndsOnSurface ranged s t reply new → AllSo B new.cells
    on_surface ranged its e = go e.outcome e.ends
      where
        go : (o : Outcome) → EndsAs s.modes.wce ranged o (surface_of s) (surface_of new) → AllSo B new.cells
        go (ends_done blocks) h = so_whole B (written_pairs s.modes.wce ranged) s.cells new.cells its h.written so
        go _ h = so_part B (written_pairs s.modes.wce ranged) s.cells new.cells its h.written so

    in_pieces : (form : Form) (lba count : ℕ) → PairsSo B (written_by (commands.WriteSame form lba count false) s t) → EndsInPieces (over lba count) s t reply new → AllSo B new.cells
    in_pieces form lba count its =
        ⊎_elim
        (λ e. so_part B pairs s.cells new.cells its (e.1).part so)
        (by_option (first_flaw flaws.Write s.cells lba count)
        (λ e. so_whole B pairs s.cells new.cells its (ap (λ d. d.cells) e.stays) so)
        (λ at e. so_part B pairs s.cells new.cells its (e.1).part so))
      where
        pairs : List Pair
        pairs = written_by (commands.WriteSame form lba count false) s t

    verified : (range : Range) → EndsVerified range s t reply new → AllSo B new.cells
    verified range = by_option (first_flaw flaws.Read s.cells range.lba range.count) (same_done true) (λ at e. checked _ e)

    compared : (range : Range) → EndsCompared range s t reply new → AllSo B new.cells
    compared range =
        by_option (first_flaw flaws.Read s.cells range.lba range.count)
        (⊎_elim (λ e. so_part B [] s.cells new.cells (λ p i. absurd i) e.part so) (⊎_elim (λ e. same_done true e.1) (λ e. checked _ e.1)))
        (λ at e. checked _ e)

    passed : (cdb : List ℕ) → WritesItsOwn (commands.Pass cdb) → PairsSo B (written_by (commands.Pass cdb) s t) → EndsPassed (pass_of cdb) s t reply new → AllSo B new.cells
    passed cdb own its e =
        so_same B (e.after).cells new.cells (ap (λ d. d.cells) e.stays)
        (effect_so (record { registers = (pass_of cdb).regs; given = e.given; ended = e.ended; taken = e.taken }) (device_medium s) e.after so (command_in (pass_of cdb).regs) (handed_in (pass_of cdb).out refl) e.does)
      where
        handed_in : (b : Bool) → (pass_of cdb).out ≡ b → PairsSo B (pairs_of (command_in (pass_of cdb).regs) (device_medium s) e.given)
        handed_in true out = subst (λ g. PairsSo B (pairs_of (command_in (pass_of cdb).regs) (device_medium s) g)) (sym (e.data_out out)) its
        handed_in false out = λ p i. absurd (subst (IsIn p) (own out (device_medium s) e.given) i)

    -- by the command
    by_command : (c : Command) → WritesItsOwn c → PairsSo B (written_by c s t) → EndsBy c s t reply new → AllSo B new.cells
    by_command (commands.ModeSelect ten size) own its e = done (after_select s t) (flushed (s.modes.wce && not (selected s t).wce)) e
    by_command (commands.StartStop start no_flush) own its e = done (after_start_stop start no_flush s) (started_or_stopped start no_flush) e
    by_command (commands.Read form lba count fua) own its e = on_surface _ its e
    by_command (commands.Write form lba count fua) own its e = on_surface _ its e
    by_command (commands.Verify form lba count false) own its e = verified (over lba count) e
    by_command (commands.Verify form lba count true) own its e = compared (over lba count) e
    by_command (commands.Flush form lba count) own its e = done (settled s) (so_settled B s.cells so) e
    by_command (commands.WriteSame form lba count false) own its e = in_pieces form lba count its e
    by_command (commands.WriteSame form lba count true) own its e = on_surface _ its e
    by_command (commands.Unmap size) own its e = on_surface _ its e
    by_command (commands.Pass cdb) own its e = passed cdb own its e
    by_command _ own its e = absurd e

    -- however a task ends
    pub ends_so : WritesItsOwn t.command → PairsSo B (writes s t) → Ends s t reply new → AllSo B new.cells
    ends_so own its =
        by_bool s.down (λ e. checked _ e)
        (by_bool (not s.started && (asks t.command).needs_started) (λ e. checked _ e) (λ e. by_command t.command own its e))
