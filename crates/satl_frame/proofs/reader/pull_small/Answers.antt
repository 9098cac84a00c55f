use Rattle.std.proofs.Common.{◌≡◌, ◌∙◌, length, arith}
use Rattle.std.proofs.lemmas.List.{length-take-le}
use Rattle.satl_frame.proofs.Requested.{at_most_257, small_bad, small_pages, small_taken}
use Rattle.satl_frame.proofs.reader.pull_small.Goals as goal

-- the whole payload was pulled
whole_payload : (g : _) (c : goal.After-small_frame g) → length c.pull.new.buf ≡ c.args.len
whole_payload g c =
    let short = at_most_257 c.args.version c.args.code c.args.len c.requires.allowed c.requires.other in
    c.pull.auto.buf ∙ length-take-le _ _ (omega (arith, short, c.told-room))

pub returns-clause-none : goal.returns-clause-none
returns-clause-none g c = small_bad c.args.version c.args.code c.small_frame.result c.in_ok-pull.ensures.bytes (whole_payload g c) c.small_frame.ensures.none

pub returns-clause-frame : goal.returns-clause-frame
returns-clause-frame g c = small_taken c.args.version c.args.code c.small_frame.result c.in_ok-pull.ensures.bytes (whole_payload g c) c.small_frame.ensures.found

pub returns-clause-pages : goal.returns-clause-pages
returns-clause-pages g c = small_pages c.args.version c.args.code _ c.small_frame.result c.small_frame.ensures.found
