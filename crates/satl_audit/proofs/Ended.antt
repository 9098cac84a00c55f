-- What a task does ends it.
use Rattle.std.proofs.Common.{◌≡◌, refl, sym, ap, ◌∙◌, subst, true, List, [], map}
use Rattle.std.specs.Prelude.{◌||◌, ◌&&◌, not}
use Rattle.satl_base.specs.declared.block.Block.{Block}
use Rattle.satl_base.specs.declared.bench.Which.TheVariants as flaws
use Rattle.satl_base.specs.declared.reply.Reply.{Reply}
use Rattle.satl_base.specs.declared.reply.Scsi.TheVariants.{Good}
use Rattle.satl_base.specs.Cells.{Cell, nows, settle, whole}
use Rattle.satl_base.specs.Blocks.{over}
use Rattle.satl_base.proofs.Booleans.{second_case}
use Rattle.satl_cdb.specs.declared.command.Command.{Command}
use Rattle.satl_cdb.specs.declared.command.Command.TheVariants as commands
use Rattle.satl_line.specs.declared.entry.Entry.{Entry}
use Rattle.satl_line.specs.Eligible.{IsEligible}
use Rattle.satl_line.specs.Ending.Outcome.{ends_done}
use Rattle.satl_line.specs.Ranged.RangedTask.{ranged_write}
use Rattle.satl_line.specs.Ranged.{written_pairs}
use Rattle.satl_direct.specs.Device.{Device, without}
use Rattle.satl_direct.specs.Tasks.{asks}
use Rattle.satl_direct.specs.Ending.{EndsBy, IsChecked, task_reply}
use Rattle.satl_direct.specs.Quiet.{written_by}
use Rattle.satl_direct.specs.Senses.{link_lost, not_ready}
use Rattle.satl_direct.specs.Turn.{OneEnds, IsFirst}
use Rattle.satl_audit.specs.Deeds.{Deed, DoneBy}
use Rattle.satl_audit.specs.Deeds.Deed.{puts, gives, settles}
use Rattle.satl_audit.specs.Skeleton.{DoneAs, TaskDone, bare}
use Rattle.satl_audit.proofs.Keeping.{IsSane, no_flaw}
use Rattle.satl_audit.proofs.Ending.{Started, neither, off, sane_ended}

-- a device that is left
pub record Ended (c : Command) (s : Device) (t : Entry) (reply : Reply) (cells : List Cell) : Type 0 where
  pub new : Device
  pub ends : EndsBy c s t reply new
  pub stays : bare new ≡ record (bare s) { tasks = without t s.tasks }
  pub cells_are : new.cells ≡ cells

module _ (s : Device) (t : Entry) (reply : Reply) (blocks : List Block) (deed : Deed) (cells : List Cell) (h : IsSane s) (answer : reply ≡ task_reply t Good [] blocks) where
  by_ends : (c : Command) → DoneAs c (bare s) t blocks deed → DoneBy deed s.cells cells → Ended c s t reply cells
  by_ends (commands.Read form lba count fua) k e =
      let d : DoneBy (gives lba blocks) s.cells cells = subst (λ x. DoneBy x s.cells cells) k.1 e in
      record {
        new = record s { tasks = without t s.tasks; active = true };
        ends = record {
          outcome = ends_done blocks;
          ends = record { no_flaw = no_flaw flaws.Read s.cells h.flawless lba count; read = sym (ap (nows s.cells lba) (sym k.0) ∙ d.0); written = refl; glitches_stay = refl };
          answer = answer;
          stays = refl;
        };
        stays = refl;
        cells_are = sym d.1;
      }
  by_ends (commands.Write form lba count fua) k e =
      let d : DoneBy (puts (written_by (commands.Write form lba count fua) (bare s) t)) s.cells cells = subst (λ x. DoneBy x s.cells cells) k.1 e in
      record {
        new = record s { cells = whole s.cells (written_pairs s.modes.wce (ranged_write fua (over lba count) t.body)); tasks = without t s.tasks; active = true };
        ends = record {
          outcome = ends_done [];
          ends = record { no_flaw = no_flaw flaws.Write s.cells h.flawless lba count; read = refl; written = refl; glitches_stay = refl };
          answer = answer ∙ ap (task_reply t Good []) k.0;
          stays = refl;
        };
        stays = refl;
        cells_are = sym d;
      }
  by_ends (commands.Flush form lba count) k e =
      let d : DoneBy settles s.cells cells = subst (λ x. DoneBy x s.cells cells) k.1 e in
      record {
        new = record s { cells = map settle s.cells; tasks = without t s.tasks };
        ends = record { answer = answer ∙ ap (task_reply t Good []) k.0; stays = refl };
        stays = refl;
        cells_are = sym d;
      }
  by_ends _ k e = absurd k

pub record TurnMade (s : Device) (reply : Reply) (cells : List Cell) (bared : Device) : Type 0 where
  pub new : Device
  pub ends : OneEnds s reply new
  pub bared_is : bare new ≡ bared
  pub cells_are : new.cells ≡ cells
  pub sane : IsSane new

pub turn_made : (s : Device) (reply : Reply) (deed : Deed) (bared : Device) (cells : List Cell) → IsSane s → TaskDone (bare s) reply deed bared → DoneBy deed s.cells cells → TurnMade s reply cells bared
turn_made s reply deed bared cells h d does =
    let t = d.task in
    let r = by_ends s t reply d.blocks deed cells h d.answer t.command d.done does in
    record {
      new = r.new;
      ends = record {
        task = t;
        may = second_case (IsFirst s.tasks t) (IsEligible s.tasks t) (s.down || not s.started) (neither s.down s.started h.up h.started) d.eligible;
        ends =
            second_case (IsChecked link_lost s t reply r.new) (Started s t reply r.new) s.down h.up
            (second_case (IsChecked not_ready s t reply r.new) (EndsBy t.command s t reply r.new) (not s.started && (asks t.command).needs_started) (off s.started (asks t.command).needs_started h.started) r.ends);
      };
      bared_is = r.stays ∙ sym d.stays;
      cells_are = r.cells_are;
      sane = sane_ended deed s r.new t (subst (DoneBy deed s.cells) (sym r.cells_are) does) r.stays h;
    }
