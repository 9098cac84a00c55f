use Rattle.std.proofs.Common.{rules, ◌≡◌, ◌∙◌, inl, sym, subst, arith, length, take}
use Rattle.std.proofs.lemmas.List.{take_all}
use Rattle.satl_io.specs.Known.{Took}
use Rattle.satl_usb.proofs.ItemsLemmas.{bad_head}
use Rattle.satl_usb.proofs.items.read_head.Goals as goal

pub returns-in-None-clause-missed : goal.returns-in-None-clause-missed
returns-in-None-clause-missed g c =
    let size : length c.fill.new.buf ≡ 31 = search rules in
    let all : take c.in_ok-fill.field-0 c.fill.new.buf ≡ c.fill.new.buf = take_all c.in_ok-fill.field-0 c.fill.new.buf (omega (arith, size, c.in-31.is)) in
    bad_head (g.S.Source.left c.args.source.now) (g.S.Source.left c.fill.new.source) c.fill.new.buf size (subst (λ l. Took (g.S.Source.left c.args.source.now) (g.S.Source.left c.fill.new.source) l) all c.in_ok-fill.ensures.bytes) (sym c.read_cbw.ensures ∙ c.in-None.is)

pub returns-in-None-clause-awaits : goal.returns-in-None-clause-awaits
returns-in-None-clause-awaits g c =
    let size : length c.fill.new.buf ≡ 31 = search rules in
    λ limit offset. inl (c.in_ok-fill.ensures.unwaited (omega (arith, c.in-31.is)) (omega (arith, size, c.fill.auto.buf, c.in-31.is)))
