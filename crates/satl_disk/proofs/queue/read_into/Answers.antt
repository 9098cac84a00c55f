use Rattle.std.proofs.Common.{◌≡◌, ◌++◌, ◌∙◌, Some, None, ap, arith, length, sym, append-nil}
use Rattle.std.proofs.lemmas.List.{drop_all, set-set}
use Rattle.std.specs.Option.{option_map_or}
use Rattle.std.specs.Prelude.{slice_set}
use Rattle.satl_base.specs.Cells.{nows}
use Rattle.satl_disk.specs.Sectors.{cells_of}
use Rattle.satl_disk.proofs.queue.read_into.Goals as goal

-- what goes into the slot has as many pages as what came out of it, so all of them are filled
pub returns : goal.returns
returns c =
    let tag = c.args.tag in
    let read = nows (cells_of c.args.sectors.now) c.args.lba c.args.count in
    let taken = sym c.requires.held.1 ∙ c.take-pages.ensures.pages in
    let long : length c.exchange-pages.result ≡ c.args.count =
    c.exchange-pages.ensures.as_many ∙ ap (λ slot. option_map_or length slot 0) (sym taken) ∙ c.requires.held.2 in
    let filled : c.fill.new.pages ≡ read =
    c.fill.ensures ∙ ap (λ rest. read ++ rest) (drop_all c.args.count c.exchange-pages.result (omega (arith, long)))
    ∙ append-nil read in
    c.put.ensures
    ∙ ap (λ pages. slice_set c.exchange-pages.new.self tag (Some pages)) filled
    ∙ ap (λ slots. slice_set slots tag (Some read)) (c.exchange-pages.ensures.same ∙ c.take-pages.ensures.emptied)
    ∙ set-set c.args.dma.now tag None (Some read)
