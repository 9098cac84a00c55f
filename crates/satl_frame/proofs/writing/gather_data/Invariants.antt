use Rattle.std.proofs.Common.{◌≡◌, ◌≤◌, ◌++◌, List, ℕ}
use Rattle.satl_base.specs.Blocks.{first_bytes}
use Rattle.satl_frame.specs.Gathering.{Gathers}
use Rattle.satl_frame.proofs.writing.gather_data.Given as goal

abbrev pub invariant-loop-block : goal.invariant-loop-block
invariant-loop-block g l = record {
  front : List ℕ;
  gathers : Gathers (g.K.Sink.written l.fn.sink) (g.K.Sink.written l.sink) l.fn.buffer l.buffer front;
  rest : front ++ first_bytes l.left l.block-iterator ≡ first_bytes l.len l.pages;
  later : g.K.Sink.faults l.fn.sink ≤ g.K.Sink.faults l.sink;
}
