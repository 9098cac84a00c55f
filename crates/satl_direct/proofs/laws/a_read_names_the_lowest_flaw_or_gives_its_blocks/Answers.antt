use Rattle.std.proofs.Common.{sym, ap, ◌∙◌}
use Rattle.satl_direct.proofs.Steps.{gives_blocks, names_flaw}
use Rattle.satl_direct.specs.Ending.{surface_of}
use Rattle.satl_direct.proofs.laws.a_read_names_the_lowest_flaw_or_gives_its_blocks.Goals as goal

pub returns-clause-flawed : goal.returns-clause-flawed
returns-clause-flawed c = λ s new t reply form lba count at fua e flaw.
    e.answer ∙ names_flaw s t lba count at fua e.outcome (surface_of new) e.ends flaw

pub returns-clause-good : goal.returns-clause-good
returns-clause-good c = λ s new t reply form lba count fua e good.
    ap (λ a. a.body) e.answer ∙ gives_blocks s t lba count fua e.outcome (surface_of new) e.ends (sym (ap (λ a. a.status) e.answer) ∙ good)
