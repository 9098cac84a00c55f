use Rattle.std.proofs.Common.{◌≤◌, ◌*◌, ◌++◌, ◌∙◌, ap, length, take, reverse, arith}
use Rattle.std.proofs.lemmas.List.{length-reverse, length-append, length-drop, length-take-le}
use Rattle.satl_base.specs.Blocks.{blocks_from}
use Rattle.satl_base.proofs.BlocksLemmas.{length-blocks_from}
use Rattle.satl_io.proofs.Joined.{Took-kept}
use Rattle.satl_frame.proofs.Paging.{pages_placed, pages_ahead}
use Rattle.satl_frame.proofs.refill.take_ahead.Goals as goal

pub returns-clause-placed : goal.returns-clause-placed
returns-clause-placed g c =
    let ahead = c.ahead-ahead.result.now in
    let pages = c.min-pages.result in
    let within : 512 * pages ≤ length ahead = omega (arith, c.min-pages.ensures, c.min-whole.ensures) in
    let few : pages ≤ length c.args.todo.now = omega (arith, c.min-pages.ensures, c.blocks-2.ensures.count) in
    record {
      taken = take (512 * pages) ahead;
      took = Took-kept c.read_ahead.ensures.bytes (rw c.ahead-ahead.ensures.value c.consume.ensures.bytes);
      size = length-take-le (512 * pages) ahead within;
      placed = pages_placed pages ahead c.args.done.now c.move_filled.new.others within c.move_filled.ensures.moved
          ∙ ap (λ bs. reverse c.args.done.now ++ bs) (pages_ahead pages (length c.args.todo.now) ahead within few);
    }

pub returns-clause-same : goal.returns-clause-same
returns-clause-same g c =
    let filled = blocks_from c.min-pages.result c.ahead-ahead.result.now in
    omega (
      arith,
      ap length c.move_filled.ensures.moved,
      length-append (reverse filled) c.args.done.now,
      length-reverse filled,
      length-blocks_from c.min-pages.result c.ahead-ahead.result.now,
      ap length c.move_filled.ensures.rest,
      length-drop c.min-pages.result c.args.todo.now,
      c.min-pages.ensures,
      c.blocks-2.ensures.count,
    )
