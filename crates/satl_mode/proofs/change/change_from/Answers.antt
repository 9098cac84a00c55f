use Rattle.std.proofs.Common.{◌+◌, ◌≤◌, refl, sym, arith}
use Rattle.satl_mode.proofs.ChangeSteps.{next_page, no_page}
use Rattle.satl_mode.proofs.change.change_from.Goals as goal

pub loop-page-init : goal.loop-page-init
loop-page-init c = record {
  left = record { pages = c.args.list_length; enough = omega arith; says = rw c.no_change-change.ensures refl };
  near = c.requires.place;
}

pub loop-page-preserved : goal.loop-page-preserved
loop-page-preserved c =
    let fits : c.loop-page.place + c.size-place.result ≤ c.args.list_length = let h = c.in-Ok.ensures.fits in let k = c.size-place.ensures.value in omega arith in
    let next = next_page _ _ c.loop-page.place c.in-Ok.page c.loop-page.change _ c.in-Ok.ensures.fits (sym c.in-Ok.ensures.says) c.loop-page.invariant.left in
    record {
      left = rw (c.size-place.ensures.value, c.with_page-change.ensures) next;
      near = let l = c.ranges.list_length.fits in omega (arith, fits);
    }

pub returns : goal.returns
returns c = no_page _ _ c.loop-page.place c.in_default.field-0 c.loop-page.change _ (sym c.in_default.ensures.says) c.loop-page.invariant.left
