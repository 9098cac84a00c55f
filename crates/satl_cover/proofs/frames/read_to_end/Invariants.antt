use Rattle.std.proofs.Common.{◌≡◌, length}
use Rattle.satl_cover.proofs.Going.{Going}
use Rattle.satl_cover.proofs.frames.read_to_end.Given as goal

abbrev pub invariant-loop-frame : goal.invariant-loop-frame
invariant-loop-frame l = record {
  len : l.len ≡ length l.fn.source;
  trim : l.noted.trim ≡ l.fn.trim;
  going : Going l.fn.trim l.reader l.fn.source l.source l.noted.names l.noted.uncovered;
}

abbrev pub decreases-loop-frame : goal.decreases-loop-frame
decreases-loop-frame l = length l.source
