use Rattle.std.proofs.Common.{◌++◌, ◌∙◌, ap, min, subst}
use Rattle.std.proofs.lemmas.Result.{on_ok_weaker, on_err_weaker}
use Rattle.satl_base.specs.Blocks.{bytes_of, first_bytes}
use Rattle.satl_io.specs.Known.{WrotePart}
use Rattle.satl_base.proofs.OutcomeLemmas.{any_err}
use Rattle.satl_usb.proofs.WireLemmas.{answer_in_part, answer_written, data_in_part, take_twice}
use Rattle.satl_usb.specs.Wire.{taken_length}
use Rattle.satl_usb.proofs.wire.tell_reply.Goals as goal

pub returns-in_err-gather_data-clause-part : goal.returns-in_err-gather_data-clause-part
returns-in_err-gather_data-clause-part g c =
    let r = c.args.reply.now in
    let same = ap (λ n. first_bytes n r.body) (c.min-count.ensures ∙ ap (λ n. min n r.data_len) c.taken_length.ensures) ∙ take_twice (taken_length c.args.command.now) r.data_len (bytes_of r.body) in
    any_err c.from_residual.result _ (data_in_part c.args.command.now r.status r.data_len (first_bytes r.data_len r.body) (first_bytes c.min-count.result r.body) same (g.K.Sink.written c.args.sink.now) (g.K.Sink.written c.gather_data.new.sink)
    (subst (λ l. WrotePart (g.K.Sink.written c.args.sink.now) (g.K.Sink.written c.gather_data.new.sink) (l ++ first_bytes c.min-count.result r.body)) c.new-gathered.ensures c.in_err-gather_data.ensures.part))

pub returns-clause-all : goal.returns-clause-all
returns-clause-all g c =
    let r = c.args.reply.now in
    let same = ap (λ n. first_bytes n r.body) (c.min-count.ensures ∙ ap (λ n. min n r.data_len) c.taken_length.ensures) ∙ take_twice (taken_length c.args.command.now) r.data_len (bytes_of r.body) in
    on_ok_weaker c.tell_status.result (answer_written c.args.command.now r.status r.data_len (first_bytes r.data_len r.body) (first_bytes c.min-count.result r.body) same (g.K.Sink.written c.args.sink.now) (g.K.Sink.written c.gather_data.new.sink) (g.K.Sink.written c.tell_status.new.sink) c.new-gathered.result c.gather_data.new.buffer c.new-gathered.ensures c.in_ok-gather_data.ensures.all) c.tell_status.ensures.all

pub returns-clause-part : goal.returns-clause-part
returns-clause-part g c =
    let r = c.args.reply.now in
    let same = ap (λ n. first_bytes n r.body) (c.min-count.ensures ∙ ap (λ n. min n r.data_len) c.taken_length.ensures) ∙ take_twice (taken_length c.args.command.now) r.data_len (bytes_of r.body) in
    on_err_weaker c.tell_status.result (answer_in_part c.args.command.now r.status r.data_len (first_bytes r.data_len r.body) (first_bytes c.min-count.result r.body) same (g.K.Sink.written c.args.sink.now) (g.K.Sink.written c.gather_data.new.sink) (g.K.Sink.written c.tell_status.new.sink) c.new-gathered.result c.gather_data.new.buffer c.new-gathered.ensures c.in_ok-gather_data.ensures.all) c.tell_status.ensures.part
