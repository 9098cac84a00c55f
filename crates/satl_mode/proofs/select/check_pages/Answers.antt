use Rattle.std.proofs.Common.{rules, ◌+◌, ◌<◌, ◌≤◌, arith, refl, sym}
use Rattle.satl_mode.proofs.RuleLemmas.{pages_are}
use Rattle.satl_mode.proofs.SelectSteps.{next_page, no_page, bad_page, at_end}
use Rattle.satl_mode.proofs.select.check_pages.Goals as goal

pub returns-in_err-page : goal.returns-in_err-page
returns-in_err-page c =
    let lt : c.loop-place.place < c.args.list_length = let h = c.loop-place-test.true in let e = c.from.ensures in omega arith in
    rw (pages_are c.args.identity.now c.args.modes.now c.args.list.now c.args.list_length c.args.list_length c.args.first, no_page _ _ _ _ _ c.loop-place.place c.in_err-page.field-0.0 lt (sym c.in_err-page.ensures.says) c.loop-place.invariant.left) (search rules)

pub returns-in-Some : goal.returns-in-Some
returns-in-Some c =
    let lt : c.loop-place.place < c.args.list_length = let h = c.loop-place-test.true in let e = c.from.ensures in omega arith in
    rw (pages_are c.args.identity.now c.args.modes.now c.args.list.now c.args.list_length c.args.list_length c.args.first, bad_page _ _ _ _ _ c.loop-place.place c.in_ok-page.page c.in-Some.byte lt (sym c.in_ok-page.ensures.says) (sym c.in-Some.ensures) c.loop-place.invariant.left, c.invalid_list_field.ensures) refl

pub loop-place-preserved : goal.loop-place-preserved
loop-place-preserved c =
    let lt : c.loop-place.place < c.args.list_length = let h = c.loop-place-test.true in let e = c.from.ensures in omega arith in
    let fits : c.loop-place.place + c.size-place.result ≤ c.args.list_length = let h = c.in_ok-page.ensures.fits in let k = c.size-place.ensures.value in omega arith in
    let next = next_page _ _ _ _ _ c.loop-place.place c.in_ok-page.page lt (sym c.in_ok-page.ensures.says) (sym c.in_default.ensures) c.loop-place.invariant.left in
    record {
      left = rw c.size-place.ensures.value next;
      near = let l = c.ranges.list_length.fits in omega (arith, fits);
    }

pub returns : goal.returns
returns c =
    let le : c.args.list_length ≤ c.loop-place.place = let h = c.loop-place-test.false in let e = c.from.ensures in omega arith in
    rw (pages_are c.args.identity.now c.args.modes.now c.args.list.now c.args.list_length c.args.list_length c.args.first, at_end _ _ _ _ _ c.loop-place.place le c.loop-place.invariant.left) refl
