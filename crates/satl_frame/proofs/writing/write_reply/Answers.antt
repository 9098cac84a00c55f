use Rattle.std.proofs.Common.{◌≡◌, ◌++◌, ◌∙◌, ap, subst, arith, List, ℕ}
use Rattle.std.specs.Prelude.{OnErr, OnOk}
use Rattle.satl_io.specs.Known.{Wrote, WrotePart}
use Rattle.satl_frame.specs.Output.{reply_kind, reply_len, reply_fields}
use Rattle.satl_frame.specs.Frames.{framed}
use Rattle.satl_frame.proofs.GatheringLemmas.{bare_reply}
use Rattle.satl_frame.proofs.writing.write_reply.Goals as goal

pub returns-clause-all : goal.returns-clause-all
returns-clause-all g c =
    let r = c.args.reply.now in
    let head = framed (reply_kind r.expected) (reply_len r) (reply_fields r) in
    let items : c.append.new.bytes.items ≡ head ++ r.sense.items =
    c.append.ensures.items ∙ ap (λ (xs : List ℕ). xs ++ c.as_slice.result.now) c.extend_by_fields.ensures.bytes ∙ ap (λ (xs : List ℕ). head ++ xs) c.as_slice.ensures.value in
    let none : c.sent_len-len.result ≡ 0 = omega (arith, c.if-len-gt0.false) in
    subst (λ (xs : List ℕ). OnOk c.push.result (Wrote (g.K.Sink.written c.args.sink.now) (g.K.Sink.written c.push.new.sink) xs)) (bare_reply r c.append.new.bytes.items c.sent_len-len.result items c.sent_len-len.ensures none)
    (rw c.as_slice-2.ensures.value at c.push.ensures.all)

pub returns-clause-part : goal.returns-clause-part
returns-clause-part g c =
    let r = c.args.reply.now in
    let head = framed (reply_kind r.expected) (reply_len r) (reply_fields r) in
    let items : c.append.new.bytes.items ≡ head ++ r.sense.items =
    c.append.ensures.items ∙ ap (λ (xs : List ℕ). xs ++ c.as_slice.result.now) c.extend_by_fields.ensures.bytes ∙ ap (λ (xs : List ℕ). head ++ xs) c.as_slice.ensures.value in
    let none : c.sent_len-len.result ≡ 0 = omega (arith, c.if-len-gt0.false) in
    subst (λ (xs : List ℕ). OnErr c.push.result (WrotePart (g.K.Sink.written c.args.sink.now) (g.K.Sink.written c.push.new.sink) xs)) (bare_reply r c.append.new.bytes.items c.sent_len-len.result items c.sent_len-len.ensures none)
    (rw c.as_slice-2.ensures.value at c.push.ensures.part)
