use Rattle.std.proofs.Common.{◌≡◌, ◌++◌, length}
use Rattle.satl_frame.specs.Output.{out_magic}
use Rattle.satl_audit.proofs.FollowGoes.{Goes}
use Rattle.satl_audit.proofs.auditing.follow.Given as goal

abbrev pub invariant-loop-frame : goal.invariant-loop-frame
invariant-loop-frame l = record {
  size : length l.sectors ≡ l.identity.capacity;
  goes : Goes l.identity l.input (out_magic ++ l.output) l.reader l.source l.followed l.sectors;
}

abbrev pub decreases-loop-frame : goal.decreases-loop-frame
decreases-loop-frame l = length l.source
