use Rattle.std.proofs.Common.{◌≡◌, length}
use Rattle.satl_audit.specs.Finishing.{AreTasks, TurnsOn}
use Rattle.satl_audit.specs.Progress.{recorded, progress}
use Rattle.satl_audit.proofs.finishing.turn.Given as goal

abbrev pub invariant-loop-done : goal.invariant-loop-done
invariant-loop-done l = record {
  tasks : AreTasks l.identity l.input l.followed.waiting;
  size : length l.sectors ≡ length l.fn.sectors;
  turns : TurnsOn (recorded l.identity l.input) l._done (progress l.fn.followed l.fn.sectors) (progress l.followed l.sectors);
}
