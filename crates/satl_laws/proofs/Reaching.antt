-- What the end of a task does to the medium: it puts pairs of its own alone.
use Rattle.std.proofs.Common.{◌≡◌, ⊎_elim, refl, sym, ap, ◌∙◌, subst, ℕ, Bool, true, false, List, []}
use Rattle.std.specs.Prelude.{not, ◌==◌, ◌&&◌}
use Rattle.std.specs.List.{list_any}
use Rattle.satl_base.specs.declared.bench.Which.TheVariants as flaws
use Rattle.satl_base.specs.declared.block.Range.{Range}
use Rattle.satl_base.specs.declared.reply.Reply.{Reply}
use Rattle.satl_base.specs.Cells.{Pair, first_flaw}
use Rattle.satl_base.specs.Blocks.{over}
use Rattle.satl_cdb.specs.declared.command.Command.{Command}
use Rattle.satl_cdb.specs.declared.command.Command.TheVariants as commands
use Rattle.satl_cdb.specs.declared.command.Form.{Form}
use Rattle.satl_sense.specs.declared.sense.Sense.{Sense}
use Rattle.satl_regs.specs.Commands.{command_in}
use Rattle.satl_regs.specs.Effects.{pairs_of}
use Rattle.satl_line.specs.declared.entry.Entry.{Entry}
use Rattle.satl_line.specs.Ranged.{RangedTask, written_pairs}
use Rattle.satl_line.specs.Ending.{EndsAs, Outcome}
use Rattle.satl_line.specs.Ending.Outcome.{ends_done}
use Rattle.satl_direct.specs.Device.{Device}
use Rattle.satl_direct.specs.Tasks.{asks, pass_of}
use Rattle.satl_direct.specs.Ending.{Ends, EndsBy, EndsCompared, EndsInPieces, EndsOnSurface, EndsPassed, EndsVerified, IsChecked, IsTaskDone, after_select, after_start_stop, device_medium, device_settled_if, selected, settled, surface_of}
use Rattle.satl_direct.specs.Quiet.{written_by}
use Rattle.satl_laws.specs.Untouched.{Spares}
use Rattle.satl_laws.proofs.Cases.{by_bool, by_option}
use Rattle.satl_laws.proofs.Steps.{Steps, all_of, stays}
use Rattle.satl_laws.proofs.Steps.Steps.{parts, settles}
use Rattle.satl_laws.proofs.Carrying.{Carried, carried_out}
use Rattle.satl_laws.proofs.Coming.{WritesItsOwn}

-- the pairs put spare a sector where all that the task writes does, and what the drive says of itself stays
pub record Reaches (c : Command) (s : Device) (t : Entry) (new : Device) : Type 0 where
  pub pairs : List Pair
  pub spared : (x : ℕ) → WritesItsOwn c → Spares x (written_by c s t) → Spares x pairs
  pub cells : Steps pairs s.cells new.cells
  pub identity : new.identity ≡ s.identity

module _ (s new : Device) (t : Entry) (reply : Reply) where
  -- a task that puts nothing
  nothing_put : (c : Command) → Steps [] s.cells new.cells → new.identity ≡ s.identity → Reaches c s t new
  nothing_put c steps same = record { pairs = []; spared = λ x own h. refl; cells = steps; identity = same }

  -- each way in which a command ends
  checked : (c : Command) (sense : Sense) → IsChecked sense s t reply new → Reaches c s t new
  checked c sense e = nothing_put c (stays s.cells new.cells (ap (λ d. d.cells) e.stays)) (ap (λ d. d.identity) e.stays)

  done : (c : Command) (after : Device) → Steps [] s.cells after.cells → after.identity ≡ s.identity → IsTaskDone after t reply new → Reaches c s t new
  done c after steps same e = nothing_put c (subst (Steps [] s.cells) (sym (ap (λ d. d.cells) e.stays)) steps) (ap (λ d. d.identity) e.stays ∙ same)

  -- what was written back where a flag is set
  flushed : (b : Bool) → Steps [] s.cells (device_settled_if b s).cells
  flushed true = settles refl
  flushed false = stays s.cells s.cells refl

  -- the drive says the same of itself
  flushed_identity : (b : Bool) → (device_settled_if b s).identity ≡ s.identity
  flushed_identity true = refl
  flushed_identity false = refl

  select_done : (c : Command) → IsTaskDone (after_select s t) t reply new → Reaches c s t new
  select_done c = done c (after_select s t) (flushed (s.modes.wce && not (selected s t).wce)) (flushed_identity (s.modes.wce && not (selected s t).wce))

  start_stop_done : (c : Command) (start no_flush : Bool) → IsTaskDone (after_start_stop start no_flush s) t reply new → Reaches c s t new
  start_stop_done c true no_flush = done c (after_start_stop true no_flush s) (stays s.cells s.cells refl) refl
  start_stop_done c false no_flush = done c (after_start_stop false no_flush s) (flushed (not no_flush)) (flushed_identity (not no_flush))

  ranged_steps : (ranged : RangedTask) (o : Outcome) → EndsAs s.modes.wce ranged o (surface_of s) (surface_of new) → Steps (written_pairs s.modes.wce ranged) s.cells new.cells
  ranged_steps ranged (ends_done blocks) e = all_of (written_pairs s.modes.wce ranged) s.cells new.cells e.written
  ranged_steps ranged _ e = parts e.written

  on_medium : (c : Command) (ranged : RangedTask) → written_by c s t ≡ written_pairs s.modes.wce ranged → EndsOnSurface ranged s t reply new → Reaches c s t new
  on_medium c ranged same e = record {
    pairs = written_pairs s.modes.wce ranged;
    spared = λ x own h. subst (Spares x) same h;
    cells = ranged_steps ranged e.outcome e.ends;
    identity = ap (λ d. d.identity) e.stays;
  }

  in_pieces : (form : Form) (lba count : ℕ) → EndsInPieces (over lba count) s t reply new → Reaches (commands.WriteSame form lba count false) s t new
  in_pieces form lba count =
      ⊎_elim
      (λ e. reached (parts (e.1).part) (ap (λ d. d.identity) (e.1).stays))
      (by_option (first_flaw flaws.Write s.cells lba count)
      (λ e. reached (all_of writes s.cells new.cells (ap (λ d. d.cells) e.stays)) (ap (λ d. d.identity) e.stays))
      (λ at e. reached (parts (e.1).part) (ap (λ d. d.identity) (e.1).stays)))
    where
      writes : List Pair
      writes = written_by (commands.WriteSame form lba count false) s t

      reached : Steps writes s.cells new.cells → new.identity ≡ s.identity → Reaches (commands.WriteSame form lba count false) s t new
      reached steps same = record { pairs = writes; spared = λ x own h. h; cells = steps; identity = same }

  same_done : (c : Command) (active : Bool) → IsTaskDone (record s { active = active }) t reply new → Reaches c s t new
  same_done c active = done c (record s { active = active }) (stays s.cells s.cells refl) refl

  verified : (c : Command) (range : Range) → EndsVerified range s t reply new → Reaches c s t new
  verified c range = by_option (first_flaw flaws.Read s.cells range.lba range.count) (same_done c true) (λ at e. checked c _ e)

  compared : (c : Command) (range : Range) → EndsCompared range s t reply new → Reaches c s t new
  compared c range =
      by_option (first_flaw flaws.Read s.cells range.lba range.count)
      (⊎_elim (λ e. nothing_put c (parts e.part) (ap (λ d. d.identity) e.stays)) (⊎_elim (λ e. same_done c true e.1) (λ e. checked c _ e.1)))
      (λ at e. checked c _ e)

  passed : (cdb : List ℕ) → EndsPassed (pass_of cdb) s t reply new → Reaches (commands.Pass cdb) s t new
  passed cdb e = record {
    pairs = effect.pairs;
    spared = λ x own h. effect.spared x (handed_in x own h (pass_of cdb).out refl);
    cells = subst (Steps effect.pairs s.cells) (sym (ap (λ d. d.cells) e.stays)) effect.cells;
    identity = ap (λ d. d.identity) e.stays;
  }
    where
      effect : Carried (command_in (pass_of cdb).regs) e.given (device_medium s) e.after
      effect = carried_out (record { registers = (pass_of cdb).regs; given = e.given; ended = e.ended; taken = e.taken }) (device_medium s) e.after (command_in (pass_of cdb).regs) e.does

      handed_in : (x : ℕ) → WritesItsOwn (commands.Pass cdb) → Spares x (pairs_of (command_in (pass_of cdb).regs) (device_medium s) t.body) → (b : Bool) → (pass_of cdb).out ≡ b
          → Spares x (pairs_of (command_in (pass_of cdb).regs) (device_medium s) e.given)
      handed_in x own h true out = subst (λ g. Spares x (pairs_of (command_in (pass_of cdb).regs) (device_medium s) g)) (sym (e.data_out out)) h
      handed_in x own h false out = ap (list_any (λ p. p.lba == x)) (own out (device_medium s) e.given)

  -- by the command
  by_command : (c : Command) → EndsBy c s t reply new → Reaches c s t new
  by_command (commands.ModeSelect ten size) e = select_done (commands.ModeSelect ten size) e
  by_command (commands.StartStop start no_flush) e = start_stop_done (commands.StartStop start no_flush) start no_flush e
  by_command (commands.Read form lba count fua) e = on_medium (commands.Read form lba count fua) _ refl e
  by_command (commands.Write form lba count fua) e = on_medium (commands.Write form lba count fua) _ refl e
  by_command (commands.Verify form lba count false) e = verified (commands.Verify form lba count false) (over lba count) e
  by_command (commands.Verify form lba count true) e = compared (commands.Verify form lba count true) (over lba count) e
  by_command (commands.Flush form lba count) e = done (commands.Flush form lba count) (settled s) (settles refl) refl e
  by_command (commands.WriteSame form lba count false) e = in_pieces form lba count e
  by_command (commands.WriteSame form lba count true) e = on_medium (commands.WriteSame form lba count true) _ refl e
  by_command (commands.Unmap size) e = on_medium (commands.Unmap size) _ refl e
  by_command (commands.Pass cdb) e = passed cdb e
  by_command _ e = absurd e

  -- however a task ends, it puts its own pairs alone
  pub ends_reach : Ends s t reply new → Reaches t.command s t new
  ends_reach =
      by_bool s.down (λ e. checked t.command _ e)
      (by_bool (not s.started && (asks t.command).needs_started) (λ e. checked t.command _ e) (λ e. by_command t.command e))
