-- A device that is started, without glitches and flaws: there each WRITE ends with GOOD.
use Rattle.std.proofs.Common.{◌≡◌, ⊎_elim, sym, ap, ◌∙◌, subst, Bool, true, false, List, [], ◌∷◌, Some, None, arith, map}
use Rattle.std.specs.Prelude.{◌&&◌, not, Ok}
use Rattle.std.specs.List.{AllByRecursion}
use Rattle.std.proofs.lemmas.Bool.{MatchBool-at_false}
use Rattle.satl_base.specs.declared.bench.Which.TheVariants as flaws
use Rattle.satl_base.specs.declared.block.Range.{Range}
use Rattle.satl_base.specs.declared.reply.Reply.{Reply}
use Rattle.satl_base.specs.Cells.{Cell, Pair, first_flaw, settle}
use Rattle.satl_base.specs.Moves.{Moves, stay, lose, write}
use Rattle.satl_base.specs.Blocks.{over}
use Rattle.satl_cdb.specs.declared.command.Command.{Command}
use Rattle.satl_cdb.specs.declared.command.Command.TheVariants as commands
use Rattle.satl_sense.specs.declared.sense.Sense.{Sense}
use Rattle.satl_line.specs.declared.entry.Entry.{Entry}
use Rattle.satl_line.specs.Ranged.{RangedTask, written_pairs}
use Rattle.satl_line.specs.Ranged.RangedTask.{ranged_read, ranged_write}
use Rattle.satl_line.specs.Ending.{EndsAs, Outcome, flaw_met}
use Rattle.satl_line.specs.Ending.Outcome.{ends_done, ends_flawed, ends_glitched}
use Rattle.satl_direct.specs.Device.{Device}
use Rattle.satl_direct.specs.Ending.{Ends, EndsBy, EndsCompared, EndsOnSurface, EndsVerified, IsChecked, IsTaskDone, device_settled_if, outcome_reply, selected, settled, surface_of}
use Rattle.satl_laws.specs.ArrivalOrder.{is_good, stops_or_starts, writes_plainly}
use Rattle.satl_direct.specs.Quiet.{Quiet}
use Rattle.satl_direct.specs.Senses.{link_lost, not_ready}
use Rattle.satl_direct.specs.Tasks.{asks}
use Rattle.satl_laws.proofs.Cases.{by_option}
use Rattle.satl_laws.proofs.Flawless.{IsClean}
use Rattle.satl_laws.proofs.Flawless.{loses_clean, no_flaw, pair_clean, whole_clean}
use Rattle.satl_laws.proofs.Transferring.{brings}

pub record IsCalm (s : Device) : Type 0 where
  pub started : s.started ≡ true
  pub no_glitches : s.glitches ≡ 0
  pub clean : AllByRecursion IsClean s.cells

-- quiet moves leave it calm
moves_clean : {P : Pair → Type 0} {a b : List Cell} → Moves P a b → AllByRecursion IsClean a → AllByRecursion IsClean b
moves_clean stay all = all
moves_clean (lose {old = a} {mid = m} l rest) all = moves_clean rest (loses_clean a m l all)
moves_clean (write {old = a} p h rest) all = moves_clean rest (pair_clean a p all)

pub quiet_calm : (old new : Device) → Quiet old new → IsCalm old → IsCalm new
quiet_calm old new q c = record { started = ap (λ d. d.started) q.stays ∙ c.started; no_glitches = ap (λ d. d.glitches) q.stays ∙ c.no_glitches; clean = moves_clean q.cells c.clean }

-- so does writing back
settle_clean : (cells : List Cell) → AllByRecursion IsClean cells → AllByRecursion IsClean (map settle cells)
settle_clean [] all = tt
settle_clean (c ∷ cs) all = (all.0, settle_clean cs all.1)

settled_calm : (b : Bool) (s : Device) → IsCalm s → IsCalm (device_settled_if b s)
settled_calm true s c = record { started = c.started; no_glitches = c.no_glitches; clean = settle_clean s.cells c.clean }
settled_calm false s c = c

module _ (s new : Device) (t : Entry) (reply : Reply) (calm : IsCalm s) where
  -- it is calm still, and a WRITE has ended with GOOD
  pub record EndsCalm (c : Command) : Type 0 where
    pub calm_still : IsCalm new
    pub whole_write : brings c ≡ true → is_good reply.status ≡ true

  -- the same device but for its tasks and what is not asked of it
  same_calm : (d : Device) → IsCalm d → new.started ≡ d.started → new.glitches ≡ d.glitches → new.cells ≡ d.cells → IsCalm new
  same_calm d c started glitches cells = record { started = started ∙ c.started; no_glitches = glitches ∙ c.no_glitches; clean = subst (AllByRecursion IsClean) (sym cells) c.clean }

  checked_calm : {sense : Sense} → IsChecked sense s t reply new → IsCalm new
  checked_calm e = same_calm s calm (ap (λ d. d.started) e.stays) (ap (λ d. d.glitches) e.stays) (ap (λ d. d.cells) e.stays)

  done_calm : (after : Device) → IsCalm after → IsTaskDone after t reply new → IsCalm new
  done_calm after c e = same_calm after c (ap (λ d. d.started) e.stays) (ap (λ d. d.glitches) e.stays) (ap (λ d. d.cells) e.stays)

  active_done : (active : Bool) → IsTaskDone (record s { active = active }) t reply new → IsCalm new
  active_done active e = same_calm s calm (ap (λ d. d.started) e.stays) (ap (λ d. d.glitches) e.stays) (ap (λ d. d.cells) e.stays)

  -- on the medium it is done
  record OnMedium : Type 0 where
    pub good : is_good reply.status ≡ true
    pub after : IsCalm new

  on_medium : (ranged : RangedTask) → flaw_met s.cells ranged ≡ None → EndsOnSurface ranged s t reply new → OnMedium
  on_medium ranged none e = go e.outcome e.ends e.answer
    where
      go : (o : Outcome) → EndsAs s.modes.wce ranged o (surface_of s) (surface_of new) → reply ≡ outcome_reply s t ranged o → OnMedium
      go (ends_done blocks) d is = record {
        good = ap (λ r. is_good r.status) is;
        after = record {
          started = ap (λ k. k.started) e.stays ∙ calm.started;
          no_glitches = d.glitches_stay ∙ calm.no_glitches;
          clean = subst (AllByRecursion IsClean) (sym d.written) (whole_clean (written_pairs s.modes.wce ranged) s.cells calm.clean);
        };
      }
      go (ends_flawed lba) f is = absurd (let no : Some lba ≡ None = sym f.flaw ∙ none in cc)
      go ends_glitched g is = absurd (omega (arith, g.one_glitch, calm.no_glitches))

  verified : (range : Range) → EndsVerified range s t reply new → IsCalm new
  verified range = by_option (first_flaw flaws.Read s.cells range.lba range.count) (active_done true) (λ at e. checked_calm e)

  compared : (range : Range) → EndsCompared range s t reply new → IsCalm new
  compared range =
      by_option (first_flaw flaws.Read s.cells range.lba range.count)
      (⊎_elim (λ e. absurd (omega (arith, e.one_glitch, calm.no_glitches))) (⊎_elim (λ e. active_done true e.1) (λ e. checked_calm e.1)))
      (λ at e. checked_calm e)

  -- by the command
  command_calm : (c : Command) → writes_plainly (Ok c) ≡ true → stops_or_starts (Ok c) ≡ false → EndsBy c s t reply new → EndsCalm c
  command_calm (commands.ModeSelect ten size) plain steady e =
      let k = settled_calm (s.modes.wce && not (selected s t).wce) s calm in
      record {
        calm_still = same_calm (device_settled_if (s.modes.wce && not (selected s t).wce) s) k (ap (λ d. d.started) e.stays) (ap (λ d. d.glitches) e.stays) (ap (λ d. d.cells) e.stays);
        whole_write = λ b. absurd cc;
      }
  command_calm (commands.StartStop start no_flush) plain steady e = absurd cc
  command_calm (commands.Read form lba count fua) plain steady e =
      record { calm_still = (on_medium (ranged_read fua (over lba count)) (no_flaw flaws.Read s.cells lba count calm.clean) e).after; whole_write = λ b. absurd cc }
  command_calm (commands.Write form lba count fua) plain steady e =
      let m = on_medium (ranged_write fua (over lba count) t.body) (no_flaw flaws.Write s.cells lba count calm.clean) e in
      record { calm_still = m.after; whole_write = λ b. m.good }
  command_calm (commands.Verify form lba count false) plain steady e = record { calm_still = verified (over lba count) e; whole_write = λ b. absurd cc }
  command_calm (commands.Verify form lba count true) plain steady e = record { calm_still = compared (over lba count) e; whole_write = λ b. absurd cc }
  command_calm (commands.Flush form lba count) plain steady e = record { calm_still = done_calm (settled s) (settled_calm true s calm) e; whole_write = λ b. absurd cc }
  command_calm (commands.WriteSame form lba count unmap) plain steady e = absurd cc
  command_calm (commands.Unmap size) plain steady e = absurd cc
  command_calm (commands.Pass cdb) plain steady e = absurd cc
  command_calm _ plain steady e = absurd e

  -- where the link is up
  pub ends_calm : s.down ≡ false → writes_plainly (Ok t.command) ≡ true → stops_or_starts (Ok t.command) ≡ false → Ends s t reply new → EndsCalm t.command
  ends_calm up plain steady e =
      command_calm t.command plain steady
      (MatchBool-at_false (IsChecked not_ready s t reply new) (EndsBy t.command s t reply new) (ap (λ b. not b && (asks t.command).needs_started) calm.started)
      (MatchBool-at_false (IsChecked link_lost s t reply new) _ up e))
