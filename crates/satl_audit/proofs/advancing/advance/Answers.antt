use Rattle.std.proofs.Common.{sym, ◌∙◌, subst, length}
use Rattle.std.proofs.lemmas.Result.{IfOk-weaker}
use Rattle.satl_audit.specs.Advancing.{IsGoodFrame}
use Rattle.satl_audit.specs.Waiting.{AllFit}
use Rattle.satl_audit.proofs.AdvanceLemmas.{bench_advances, request_advances}
use Rattle.satl_audit.proofs.advancing.advance.Goals as goal

pub bench-requires-clause-fit : goal.bench-requires-clause-fit
bench-requires-clause-fit c = (length c.args.input.now, c.requires.small, subst (λ n. AllFit n (length c.args.input.now) c.args.followed.now.waiting) (sym c.requires.sectors) c.requires.tasks.fit)

pub returns-in-Request-clause-fit : goal.returns-in-Request-clause-fit
returns-in-Request-clause-fit c =
    let good = subst (IsGoodFrame (length c.args.input.now) c.args.at) c.in-Request.is c.requires.good in
    c.arrive.ensures.fits (length c.args.input.now) good.within c.requires.tasks.fit

pub returns-in-Request-clause-advances : goal.returns-in-Request-clause-advances
returns-in-Request-clause-advances c = λ whole cut may.
    request_advances c.args.identity.now c.args.input.now c.args.followed.now c.arrive.new.followed c.args.sectors.now c.args.sectors.now c.args.at c.in-Request.request c.arrive.result c.arrive.ensures.goes c.arrive.ensures.sticks whole (sym c.in-Request.is ∙ cut) may

pub returns-in-Bench-clause-fit : goal.returns-in-Bench-clause-fit
returns-in-Bench-clause-fit c = c.bench.ensures.fit c.args.identity.now.capacity (length c.args.input.now) c.requires.tasks.fit

pub returns-in-Bench-clause-advances : goal.returns-in-Bench-clause-advances
returns-in-Bench-clause-advances c = λ whole cut may.
    IfOk-weaker c.bench.result _ _
    (λ result advances. bench_advances c.args.identity.now c.args.input.now c.args.followed.now c.bench.new.followed c.args.sectors.now c.bench.new.sectors c.in-Bench.event result advances whole (sym c.in-Bench.is ∙ cut))
    (c.bench.ensures.advances c.args.identity.now c.args.input.now)
