use Rattle.std.proofs.Common.{◌<◌, ◌≤◌, arith, sym, ◌∙◌}
use Rattle.satl_mode.specs.ModePages.{size_of}
use Rattle.satl_mode.proofs.SelectSteps.{goes_on, differs, is_done}
use Rattle.satl_mode.proofs.select.difference.Goals as goal

pub loop-at-preserved : goal.loop-at-preserved
loop-at-preserved c =
    let lt : c.loop-at.at < size_of c.args.page = let h = c.loop-at-test.true in let e = c.size-at-end.ensures.value in omega arith in
    goes_on _ _ _ c.args.page c.args.place (size_of c.args.page) c.loop-at.at _ lt (sym c.agrees.ensures ∙ c.if-not-agrees.false) c.loop-at.invariant

pub returns-then-not-agrees : goal.returns-then-not-agrees
returns-then-not-agrees c =
    let lt : c.loop-at.at < size_of c.args.page = let h = c.loop-at-test.true in let e = c.size-at-end.ensures.value in omega arith in
    differs _ _ _ c.args.page c.args.place (size_of c.args.page) c.loop-at.at _ lt (sym c.agrees.ensures ∙ c.if-not-agrees.true) c.loop-at.invariant

pub returns : goal.returns
returns c =
    let le : size_of c.args.page ≤ c.loop-at.at = let h = c.loop-at-test.false in let e = c.size-at-end.ensures.value in omega arith in
    is_done _ _ _ c.args.page c.args.place (size_of c.args.page) c.loop-at.at _ le c.loop-at.invariant
