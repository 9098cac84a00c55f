use Rattle.std.proofs.Common.{arith}
use Rattle.std.proofs.lemmas.List.{take-replicate}
use Rattle.satl_base.proofs.OutcomeLemmas.{any_err}
use Rattle.satl_usb.proofs.WireLemmas.{zeros_failed, zeros_gathered}
use Rattle.satl_usb.proofs.wire.gather_zeros.Goals as goal

pub returns-in_err-gather-clause-part : goal.returns-in_err-gather-clause-part
returns-in_err-gather-clause-part g c =
    any_err c.from_residual.result _ (zeros_failed c.args.count c.loop-left.left c.min-some.result c.loop-left.invariant.few (omega (arith, c.min-some.ensures)) (g.K.Sink.written c.args.sink.now) (g.K.Sink.written c.loop-left.sink) (g.K.Sink.written c.gather.new.sink) c.args.gathered.now c.loop-left.gathered _
    (take-replicate c.min-some.result 512 0 (omega (arith, c.min-some.ensures))) c.loop-left.invariant.gathers c.in_err-gather.ensures.part)

pub loop-left-preserved : goal.loop-left-preserved
loop-left-preserved g c = record {
  few = omega (arith, c.loop-left.invariant.few);
  gathers = zeros_gathered c.args.count c.loop-left.left c.min-some.result c.loop-left.invariant.few (omega (arith, c.min-some.ensures)) (g.K.Sink.written c.args.sink.now) (g.K.Sink.written c.loop-left.sink) (g.K.Sink.written c.gather.new.sink) c.args.gathered.now c.loop-left.gathered c.gather.new.buffer _
      (take-replicate c.min-some.result 512 0 (omega (arith, c.min-some.ensures))) c.loop-left.invariant.gathers c.in_ok-gather.ensures.all;
  later = omega (arith, c.loop-left.invariant.later, c.in_ok-gather.ensures.cause.later);
}
