use Rattle.std.proofs.Common.{◌≡◌, ◌+◌, refl, sym, ap, ◌∙◌, drop, arith}
use Rattle.byteorder.specs.Endian.{big_bytes}
use Rattle.satl_frame.specs.Faults.{told_length}
use Rattle.satl_frame.proofs.Refusals.{head_awaits, head_stopped, head_refused, payload_refused, frame_stood, head_read}
use Rattle.satl_frame.proofs.reader.read_frame.Goals as goal

pub read_payload-requires-clause-allowed : goal.read_payload-requires-clause-allowed
read_payload-requires-clause-allowed g c =
    let known = c.in-Ok.ensures in
    (head_read c.args.place.version c.args.limit c.args.place.offset c.fill.new.buf c.in-Ok.count c.fill.auto.buf known.bound.0 c.in-None.ensures).0.allowed

pub returns-in-Some-clause-fault : goal.returns-in-Some-clause-fault
returns-in-Some-clause-fault g c =
    let known = c.in-Ok.ensures in
    (refl, head_refused _ _ _ _ _ c.fill.new.buf c.in-Ok.count _ c.fill.auto.buf known.bound.0 known.bytes known.short c.in-Some.ensures)

pub returns-in-Ok-read_payload-clause-frame : goal.returns-in-Ok-read_payload-clause-frame
returns-in-Ok-read_payload-clause-frame g c =
    let known = c.in-Ok.ensures in
    let next : c.args.place.offset + 5 + c.from.result ≡ c.args.place.offset + 5 + told_length c.fill.new.buf = omega (arith, c.from.ensures, c.told_length.ensures.value) in
    let four : big_bytes 4 (told_length c.fill.new.buf) ≡ drop 1 c.fill.new.buf = ap (big_bytes 4) (sym c.told_length.ensures.value) ∙ c.told_length.ensures.bytes in
    frame_stood c.args.limit c.args.place _ _ _ c.fill.new.buf c.in-Ok.count _ _ _ c.fill.auto.buf known.bound.0 known.bytes c.in-None.ensures four c.in-Ok-read_payload.ensures.frame next

pub returns-in-Err-read_payload-clause-fault : goal.returns-in-Err-read_payload-clause-fault
returns-in-Err-read_payload-clause-fault g c =
    let known = c.in-Ok.ensures in
    payload_refused c.args.limit c.args.place _ _ _ c.fill.new.buf c.in-Ok.count c.in-Err-read_payload.fault c.fill.auto.buf known.bound.0 known.bytes c.in-None.ensures
    c.in-Err-read_payload.ensures.fault

pub returns-in-Err-clause-fault : goal.returns-in-Err-clause-fault
returns-in-Err-clause-fault g c = head_stopped c.args.limit c.args.place _ _ c.in-Err.ensures.stopped

pub returns-in-Some-clause-awaits : goal.returns-in-Some-clause-awaits
returns-in-Some-clause-awaits g c =
    let known = c.in-Ok.ensures in
    head_awaits c.args.place.version c.args.limit c.args.place.offset _ _ c.fill.new.buf c.in-Ok.count _ c.fill.auto.buf known.bound.0 (λ some all. known.unwaited some (omega (arith, all, c.fill.auto.buf))) known.short c.in-Some.ensures
