use Rattle.std.proofs.Common.{◌≡◌, ◌≤◌, ◌+◌, ◌*◌, length}
use Rattle.std.specs.Prelude.{sum}
use Rattle.satl_base.specs.Blocks.{first_bytes}
use Rattle.satl_text.proofs.summary.data_sum.Given as goal

abbrev pub invariant-loop-piece : goal.invariant-loop-piece
invariant-loop-piece l = record {
  value : l.total + sum l.piece-iterator ≡ sum (first_bytes l.len l.pages);
  small : l.total + 255 * length l.piece-iterator ≤ 255 * l.len;
}
