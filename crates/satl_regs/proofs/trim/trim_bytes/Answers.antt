use Rattle.std.proofs.Common.{ap, ◌∙◌, List}
use Rattle.satl_base.specs.declared.block.Range.{Range}
use Rattle.satl_regs.specs.Trim.{entries, addresses}
use Rattle.satl_regs.proofs.Trims.{block_back, entries_fit}
use Rattle.satl_regs.proofs.Addresses.{addresses-entries}
use Rattle.satl_regs.proofs.trim.trim_bytes.Goals as goal

pub filled-requires-clause-fits : goal.filled-requires-clause-fits
filled-requires-clause-fits c = rw (c.deref.ensures.0, c.entries_of-split.ensures) (entries_fit c.args.ranges.now c.requires.each)

pub returns-clause-again : goal.returns-clause-again
returns-clause-again c = rw (c.filled.ensures, c.deref.ensures.0, c.entries_of-split.ensures) (block_back (entries c.args.ranges.now) (entries_fit c.args.ranges.now c.requires.each) c.requires.room)

pub returns-clause-same : goal.returns-clause-same
returns-clause-same c = ap (λ (rs : List Range). addresses rs) (returns-clause-again c) ∙ addresses-entries c.args.ranges.now
