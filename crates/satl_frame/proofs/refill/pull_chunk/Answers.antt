use Rattle.std.proofs.Common.{◌≡◌, ◌≤◌, ◌-◌, ◌*◌, ◌++◌, ◌∙◌, ap, min, length, drop, reverse, arith}
use Rattle.std.proofs.lemmas.List.{length-reverse, length-append, length-drop, length-take-le, take_at}
use Rattle.satl_frame.specs.DataPages.{page_count, pages_from}
use Rattle.satl_base.specs.Blocks.{blocks_from, zero_bytes}
use Rattle.satl_base.proofs.BlocksLemmas.{length-blocks_from}
use Rattle.satl_frame.proofs.Paging.{chunk_placed, pages_placed}
use Rattle.satl_frame.proofs.refill.pull_chunk.Goals as goal

pub returns-clause-placed : goal.returns-clause-placed
returns-clause-placed g c =
    let old = c.args.buffer.now in
    let count = c.args.count in
    let taken = c.pull.new.buf in
    let size : length taken ≡ count = c.pull.auto.buf ∙ length-take-le count old (omega (arith, c.told-buffer)) in
    let pages : c.min.result ≡ min (page_count count) (length c.args.todo.now) = omega (arith, c.min.ensures, c.div_ceil-pages.ensures, c.blocks-2.ensures.count) in
    let enough : 512 * c.min.result ≤ length c.blank_rest.new.buffer = omega (arith, pages, c.requires.short, c.blank_rest.auto.buffer, c.told-buffer) in
    let behind = drop (512 * page_count count) (taken ++ drop count old) in
    record {
      taken = taken;
      took = c.in_ok-pull.ensures.bytes;
      size = size;
      placed = pages_placed c.min.result c.blank_rest.new.buffer c.args.done.now c.move_filled.new.others enough c.move_filled.ensures.moved ∙ ap (λ bs. reverse c.args.done.now ++ bs) (ap (λ n. pages_from n c.blank_rest.new.buffer) pages
          ∙ chunk_placed count (length c.args.todo.now) taken behind c.blank_rest.new.buffer size
          (c.blank_rest.ensures ∙ ap (λ bs. (bs ++ zero_bytes (512 * page_count count - count)) ++ behind) (take_at taken (drop count old) count size)));
    }

pub returns-clause-same : goal.returns-clause-same
returns-clause-same g c =
    let filled = blocks_from c.min.result c.blank_rest.new.buffer in
    omega (
      arith,
      ap length c.move_filled.ensures.moved,
      length-append (reverse filled) c.args.done.now,
      length-reverse filled,
      length-blocks_from c.min.result c.blank_rest.new.buffer,
      ap length c.move_filled.ensures.rest,
      length-drop c.min.result c.args.todo.now,
      c.min.ensures,
      c.blocks-2.ensures.count,
    )
