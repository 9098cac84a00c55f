use Rattle.std.proofs.Common.{arith, refl}
use Rattle.satl_frame.proofs.Refusals.{magic_awaits, magic_refused}
use Rattle.satl_frame.proofs.reader.read_magic.Goals as goal

pub returns-in-Some-clause-fault : goal.returns-in-Some-clause-fault
returns-in-Some-clause-fault g c =
    let known = c.in-Ok.ensures in
    (refl, magic_refused c.args.newest _ _ c.fill.new.buf c.in-Ok.count _ c.fill.auto.buf known.bound.0 known.bytes known.short c.in-Some.ensures)

pub returns-in-Some-clause-awaits : goal.returns-in-Some-clause-awaits
returns-in-Some-clause-awaits g c =
    let known = c.in-Ok.ensures in
    magic_awaits c.args.newest 0 _ _ c.fill.new.buf c.in-Ok.count _ c.fill.auto.buf known.bound.0 (λ some all. known.unwaited some (omega (arith, all, c.fill.auto.buf))) known.short c.in-Some.ensures
