use Rattle.std.proofs.Common.{ℕ, refl, subst, sym}
use Rattle.satl_drive.specs.Rules.{CanRun}
use Rattle.satl_regs.specs.Commands.{command_in, command_row}
use Rattle.satl_disk.specs.Disk.{state_of}
use Rattle.satl_disk.proofs.RunLemmas.{quiet_can_run}
use Rattle.satl_trials.proofs.disk.give.Goals as goal
use Rattle.satl_trials.proofs.disk.give.Goals.{in-Identify, in-Write, in-Read}

pub run-requires : goal.run-requires
unfolding command_in command_row
run-requires c =
    let can = λ (x : ℕ × ℕ × ℕ). CanRun (state_of c.args.drive.now) (record { features = 0; count = x.1; lba = x.2; device = 0x40; command = x.0 }) c.args.pages.now in
    record {
      can =
          elim c.match-command.branch [
            | in-Identify w ↦ subst can (sym w.code-is) (quiet_can_run c.args.drive.now _ c.args.pages.now c.requires.quiet refl c.requires.page)
            | in-Write w ↦ subst can (sym w.code-is) (quiet_can_run c.args.drive.now _ c.args.pages.now c.requires.quiet refl c.requires.page)
            | in-Read w ↦ subst can (sym w.code-is) (quiet_can_run c.args.drive.now _ c.args.pages.now c.requires.quiet refl c.requires.page)
          ];
    }
