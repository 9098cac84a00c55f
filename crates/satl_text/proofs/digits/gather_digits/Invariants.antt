use Rattle.std.proofs.Common.{◌≡◌, ◌≤◌, ◌++◌, List, ℕ}
use Rattle.hex.specs.Hex.{encode_lower}
use Rattle.satl_base.specs.Blocks.{first_bytes}
use Rattle.satl_frame.specs.Gathering.{Gathers}
use Rattle.satl_text.proofs.digits.gather_digits.Given as goal

abbrev pub invariant-loop-piece : goal.invariant-loop-piece
invariant-loop-piece g l = record {
  front : List ℕ;
  gathers : Gathers (g.K.Sink.written l.fn.sink) (g.K.Sink.written l.sink) l.fn.gathered l.gathered (encode_lower front);
  rest : front ++ l.piece-iterator ≡ first_bytes l.len l.pages;
  later : g.K.Sink.faults l.fn.sink ≤ g.K.Sink.faults l.sink;
}
