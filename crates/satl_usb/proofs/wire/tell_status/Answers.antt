use Rattle.std.proofs.Common.{arith, subst}
use Rattle.std.proofs.lemmas.Result.{on_ok_weaker, on_err_weaker}
use Rattle.satl_io.specs.Known.{Wrote, WrotePart}
use Rattle.satl_base.proofs.OutcomeLemmas.{any_err}
use Rattle.satl_usb.proofs.WireLemmas.{all_in_part, all_written, wrapper_in_part, zeros_in_part}
use Rattle.satl_usb.proofs.wire.tell_status.Goals as goal

pub returns-in_err-gather_zeros-clause-part : goal.returns-in_err-gather_zeros-clause-part
returns-in_err-gather_zeros-clause-part g c =
    any_err c.from_residual.result _ (zeros_in_part c.args.command.now c.args.status c.args.size c.saturating_sub-missing.result c.csw_status.result c.csw_bytes-wrapper.result (omega (arith, c.saturating_sub-missing.ensures, c.taken_length.ensures)) c.csw_status.ensures c.csw_bytes-wrapper.ensures
    (g.K.Sink.written c.args.sink.now) (g.K.Sink.written c.gather_zeros.new.sink) c.args.gathered.now c.in_err-gather_zeros.ensures.part)

pub returns-in_err-gather-clause-part : goal.returns-in_err-gather-clause-part
returns-in_err-gather-clause-part g c =
    any_err c.from_residual-in_err-gather.result _ (wrapper_in_part c.args.command.now c.args.status c.args.size c.saturating_sub-missing.result c.csw_status.result c.csw_bytes-wrapper.result (omega (arith, c.saturating_sub-missing.ensures, c.taken_length.ensures)) c.csw_status.ensures c.csw_bytes-wrapper.ensures
    (g.K.Sink.written c.args.sink.now) (g.K.Sink.written c.gather_zeros.new.sink) (g.K.Sink.written c.gather.new.sink) c.args.gathered.now c.gather_zeros.new.gathered c.in_ok-gather_zeros.ensures.all c.in_err-gather.ensures.part)

pub returns-clause-all : goal.returns-clause-all
returns-clause-all g c =
    on_ok_weaker c.push.result (λ wrote. all_written c.args.command.now c.args.status c.args.size c.saturating_sub-missing.result c.csw_status.result c.csw_bytes-wrapper.result (omega (arith, c.saturating_sub-missing.ensures, c.taken_length.ensures)) c.csw_status.ensures c.csw_bytes-wrapper.ensures
    (g.K.Sink.written c.args.sink.now) (g.K.Sink.written c.gather_zeros.new.sink) (g.K.Sink.written c.gather.new.sink) (g.K.Sink.written c.push.new.sink) c.args.gathered.now c.gather_zeros.new.gathered c.gather.new.buffer c.in_ok-gather_zeros.ensures.all c.in_ok-gather.ensures.all (subst (λ l. Wrote (g.K.Sink.written c.gather.new.sink) (g.K.Sink.written c.push.new.sink) l) c.as_slice.ensures wrote)) c.push.ensures.all

pub returns-clause-part : goal.returns-clause-part
returns-clause-part g c =
    on_err_weaker c.push.result (λ part. all_in_part c.args.command.now c.args.status c.args.size c.saturating_sub-missing.result c.csw_status.result c.csw_bytes-wrapper.result (omega (arith, c.saturating_sub-missing.ensures, c.taken_length.ensures)) c.csw_status.ensures c.csw_bytes-wrapper.ensures
    (g.K.Sink.written c.args.sink.now) (g.K.Sink.written c.gather_zeros.new.sink) (g.K.Sink.written c.gather.new.sink) (g.K.Sink.written c.push.new.sink) c.args.gathered.now c.gather_zeros.new.gathered c.gather.new.buffer c.in_ok-gather_zeros.ensures.all c.in_ok-gather.ensures.all (subst (λ l. WrotePart (g.K.Sink.written c.gather.new.sink) (g.K.Sink.written c.push.new.sink) l) c.as_slice.ensures part)) c.push.ensures.part
