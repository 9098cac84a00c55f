use Rattle.std.proofs.Common.{◌≡◌, ◌≤◌, ◌+◌, length}
use Rattle.std.specs.List.{AllByRecursion}
use Rattle.satl_frame.specs.Output.{IsWritable}
use Rattle.satl_core.specs.Layer.{reply_pages}
use Rattle.satl_step.proofs.TellingLemmas.{IsToldBut}
use Rattle.satl_step.proofs.replies.tell_replies.Given as goal

abbrev pub invariant-loop : goal.invariant-loop
invariant-loop g l = record {
  count : length l.replies + l.counter ≡ length l.initial.replies;
  writable : AllByRecursion IsWritable l.replies;
  pages : l.satl.out ≡ reply_pages l.replies;
  stays : l.satl ≡ record l.initial.satl { free = l.satl.free; out = l.satl.out };
  told : IsToldBut g.T.Teller.told g.T.Teller.behind (record { teller = l.initial.teller; written = g.K.Sink.written l.initial.sink }) (record { teller = l.teller; written = g.K.Sink.written l.sink }) l.replies l.initial.replies;
  later : g.K.Sink.faults l.initial.sink ≤ g.K.Sink.faults l.sink;
}
