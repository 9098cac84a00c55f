-- What the end of a task does besides the medium: the task goes, and the answer is to it.
use Rattle.std.proofs.Common.{◌≡◌, ⊎_elim, inl, inr, refl, sym, ap, ◌∙◌, ℕ, Bool, true, false, List, [], ◌∷◌}
use Rattle.std.specs.Prelude.{not, ◌&&◌, ◌||◌}
use Rattle.satl_base.specs.declared.reply.Reply.{Reply}
use Rattle.satl_base.specs.declared.bench.Which.TheVariants as flaws
use Rattle.satl_base.specs.declared.block.Range.{Range}
use Rattle.satl_base.specs.Cells.{Pair, first_flaw}
use Rattle.satl_base.specs.Lists.{IsIn}
use Rattle.satl_base.specs.Blocks.{over}
use Rattle.satl_cdb.specs.declared.command.Command.{Command}
use Rattle.satl_cdb.specs.declared.command.Command.TheVariants as commands
use Rattle.satl_sense.specs.declared.sense.Sense.{Sense}
use Rattle.satl_pass.specs.declared.pass.Pass.{Pass}
use Rattle.satl_line.specs.declared.entry.Entry.{Entry}
use Rattle.satl_line.specs.Eligible.{IsEligible}
use Rattle.satl_line.specs.Ranged.{RangedTask}
use Rattle.satl_line.specs.Ending.{Outcome}
use Rattle.satl_line.specs.Ending.Outcome.{ends_done}
use Rattle.satl_direct.specs.Device.{Device, without}
use Rattle.satl_direct.specs.Tasks.{asks}
use Rattle.satl_direct.specs.Ending.{Ends, EndsBy, EndsCompared, EndsWithCrcError, EndsInPieces, EndsOnSurface, EndsPassed, EndsVerified, IsChecked, IsTaskDone, IsPartlyWritten, after_select, after_start_stop, outcome_reply, settled, device_settled_if, selected, task_check}
use Rattle.satl_direct.specs.Senses.{write_error}
use Rattle.satl_direct.specs.Turn.{IsFirst, MayEnd}
use Rattle.satl_laws.proofs.Cases.{by_bool, by_option}

-- a task has gone, and the answer is to it
pub record Leaves (s : Device) (t : Entry) (reply : Reply) (new : Device) : Type 0 where
  pub tasks : new.tasks ≡ without t s.tasks
  pub nexus : reply.nexus ≡ t.nexus
  pub tag : reply.tag ≡ t.tag

-- writing back leaves the tasks
settled_tasks : (b : Bool) (s : Device) → (device_settled_if b s).tasks ≡ s.tasks
settled_tasks true s = refl
settled_tasks false s = refl

-- so does START STOP UNIT
after_start_stop-tasks : (start no_flush : Bool) (s : Device) → (after_start_stop start no_flush s).tasks ≡ s.tasks
after_start_stop-tasks true no_flush s = refl
after_start_stop-tasks false no_flush s = settled_tasks (not no_flush) s

module _ (s new : Device) (t : Entry) (reply : Reply) where
  -- each way in which a command ends
  checked_leaves : (sense : Sense) → IsChecked sense s t reply new → Leaves s t reply new
  checked_leaves sense e = record { tasks = ap (λ d. d.tasks) e.stays; nexus = ap (λ r. r.nexus) e.answer; tag = ap (λ r. r.tag) e.answer }

  done_leaves : (after : Device) → after.tasks ≡ s.tasks → IsTaskDone after t reply new → Leaves s t reply new
  done_leaves after same e = record {
    tasks = ap (λ d. d.tasks) e.stays ∙ ap (without t) same;
    nexus = ap (λ r. r.nexus) e.answer;
    tag = ap (λ r. r.tag) e.answer;
  }

  outcome_nexus : (ranged : RangedTask) (o : Outcome) → (outcome_reply s t ranged o).nexus ≡ t.nexus
  outcome_nexus ranged (ends_done blocks) = refl
  outcome_nexus ranged _ = refl

  outcome_tag : (ranged : RangedTask) (o : Outcome) → (outcome_reply s t ranged o).tag ≡ t.tag
  outcome_tag ranged (ends_done blocks) = refl
  outcome_tag ranged _ = refl

  medium_leaves : (ranged : RangedTask) → EndsOnSurface ranged s t reply new → Leaves s t reply new
  medium_leaves ranged e = record {
    tasks = ap (λ d. d.tasks) e.stays;
    nexus = ap (λ r. r.nexus) e.answer ∙ outcome_nexus ranged e.outcome;
    tag = ap (λ r. r.tag) e.answer ∙ outcome_tag ranged e.outcome;
  }

  garbled_leaves : (writes : List Pair) → EndsWithCrcError writes s t reply new → Leaves s t reply new
  garbled_leaves writes e = record { tasks = ap (λ d. d.tasks) e.stays; nexus = ap (λ r. r.nexus) e.answer; tag = ap (λ r. r.tag) e.answer }

  torn_leaves : (writes : List Pair) (lba : ℕ) → reply ≡ task_check s t (write_error lba) → IsPartlyWritten writes s t new → Leaves s t reply new
  torn_leaves writes lba answer e = record { tasks = ap (λ d. d.tasks) e.stays; nexus = ap (λ r. r.nexus) answer; tag = ap (λ r. r.tag) answer }

  pieces_leave : (range : Range) → EndsInPieces range s t reply new → Leaves s t reply new
  pieces_leave range =
      ⊎_elim
      (λ g. garbled_leaves _ g.1)
      (by_option (first_flaw flaws.Write s.cells range.lba range.count) (done_leaves _ refl) (λ at e. torn_leaves _ at e.0 e.1))

  verified_leaves : (range : Range) → EndsVerified range s t reply new → Leaves s t reply new
  verified_leaves range = by_option (first_flaw flaws.Read s.cells range.lba range.count) (done_leaves _ refl) (λ at e. checked_leaves _ e)

  compared_leaves : (range : Range) → EndsCompared range s t reply new → Leaves s t reply new
  compared_leaves range =
      by_option (first_flaw flaws.Read s.cells range.lba range.count)
      (⊎_elim (garbled_leaves []) (⊎_elim (λ e. done_leaves _ refl e.1) (λ e. checked_leaves _ e.1)))
      (λ at e. checked_leaves _ e)

  passed_leaves : (pass : Pass) → EndsPassed pass s t reply new → Leaves s t reply new
  passed_leaves pass e = record { tasks = ap (λ d. d.tasks) e.stays; nexus = ap (λ r. r.nexus) e.answer; tag = ap (λ r. r.tag) e.answer }

  -- by the command
  command_leaves : (c : Command) → EndsBy c s t reply new → Leaves s t reply new
  command_leaves (commands.ModeSelect ten size) e = done_leaves (after_select s t) (settled_tasks (s.modes.wce && not (selected s t).wce) s) e
  command_leaves (commands.StartStop start no_flush) e = done_leaves (after_start_stop start no_flush s) (after_start_stop-tasks start no_flush s) e
  command_leaves (commands.Read form lba count fua) e = medium_leaves _ e
  command_leaves (commands.Write form lba count fua) e = medium_leaves _ e
  command_leaves (commands.Verify form lba count false) e = verified_leaves (over lba count) e
  command_leaves (commands.Verify form lba count true) e = compared_leaves (over lba count) e
  command_leaves (commands.Flush form lba count) e = done_leaves (settled s) refl e
  command_leaves (commands.WriteSame form lba count false) e = pieces_leave (over lba count) e
  command_leaves (commands.WriteSame form lba count true) e = medium_leaves _ e
  command_leaves (commands.Unmap size) e = medium_leaves _ e
  command_leaves (commands.Pass cdb) e = passed_leaves _ e
  command_leaves _ e = absurd e

  -- however a task ends, it goes and is answered
  pub ends_leaves : Ends s t reply new → Leaves s t reply new
  ends_leaves =
      by_bool s.down (λ e. checked_leaves _ e)
      (by_bool (not s.started && (asks t.command).needs_started) (λ e. checked_leaves _ e) (λ e. command_leaves t.command e))

-- a task that may end was there
pub eligible_in : (tasks : List Entry) (t : Entry) → IsEligible tasks t → IsIn t tasks
eligible_in [] t e = elim e [ ]
eligible_in (u ∷ us) t e = ⊎_elim (λ same. inl (sym same)) (λ later. inr (eligible_in us t later.1)) e

-- the first task is one of them
first_in : (tasks : List Entry) (t : Entry) → IsFirst tasks t → IsIn t tasks
first_in [] t e = elim e [ ]
first_in (u ∷ us) t e = inl (sym e)

-- and so is each that may end
pub may_end_in : (s : Device) (t : Entry) → MayEnd s t → IsIn t s.tasks
may_end_in s t = by_bool (s.down || not s.started) (first_in s.tasks t) (eligible_in s.tasks t)
