use Rattle.std.proofs.Common.{◌≡◌, ◌≤◌, ◌∙◌, ap, min, length, take, arith}
use Rattle.satl_frame.specs.DataPages.{page_count, pages_of}
use Rattle.satl_frame.proofs.Paging.{pages_free, all_filled}
use Rattle.satl_frame.proofs.refill.pull_some.Goals as goal

pub returns-in-Ok-clause-filled : goal.returns-in-Ok-clause-filled
returns-in-Ok-clause-filled g c =
    let known = c.in-Ok.ensures in
    let lent : length c.lend-todo.result ≡ min (page_count c.args.len) (g.P.Lender.stock c.args.lender.now).free = omega (arith, c.lend-todo.ensures.pages, c.min.ensures, c.div_ceil.ensures, c.room.ensures) in
    record {
      taken = known.filled.taken;
      took = known.filled.took;
      size = known.filled.size;
      pages_are = pages_free (g.P.Lender.stock c.args.lender.now).free c.args.len known.filled.taken c.reverse.new.self known.filled.size
          (c.reverse.ensures ∙ known.filled.pages_are ∙ ap (λ k. take k (pages_of known.filled.taken)) lent);
    }

pub returns-in-Ok-clause-lent : goal.returns-in-Ok-clause-lent
returns-in-Ok-clause-lent g c =
    let known = c.in-Ok.ensures in
    let lent = c.lend-todo.ensures.lent in
    let few : length c.lend-todo.result ≤ page_count c.args.len = omega (arith, c.lend-todo.ensures.pages, c.min.ensures, c.div_ceil.ensures) in
    let filled = all_filled (length c.lend-todo.result) c.args.len known.filled.taken c.reverse.new.self known.filled.size few (c.reverse.ensures ∙ known.filled.pages_are) in
    record {
      free = omega (arith, lent.free, c.lend-todo.ensures.pages, filled);
      out = omega (arith, lent.out, c.lend-todo.ensures.pages, filled);
      rest = lent.rest;
    }
