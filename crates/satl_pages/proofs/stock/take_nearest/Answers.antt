use Rattle.std.proofs.Common.{arith, ◌≡◌, Some, ap, sym, ◌∙◌, refl, length}
use Rattle.std.specs.Prelude.{slice_get}
use Rattle.std.proofs.lemmas.List.Sums.{sum_by-swap_remove}
use Rattle.std.proofs.lemmas.Option.{get_or_from_slice_get}
use Rattle.satl_pages.specs.Counts.{pages_in}
use Rattle.satl_pages.proofs.stock.take_nearest.Goals as goal

pub returns-in-Some : goal.returns-in-Some
returns-in-Some c =
    let pieces = c.args.pieces.now.items in
    let place = c.nearest.result in
    let piece = c.in-Some.piece in
    let there : slice_get pieces place ≡ Some piece = sym c.swap_pop.ensures.value ∙ c.in-Some.is in
    omega (
      arith,
      ap pages_in c.in-Some.ensures.items,
      sum_by-swap_remove length pieces place piece (c.in-Some.ensures.variant.0 refl),
      ap length (get_or_from_slice_get pieces place piece piece there),
    )
