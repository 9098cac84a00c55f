use Rattle.std.proofs.Common.{ap, ◌∙◌, false}
use Rattle.satl_core.specs.declared.turning.Ending.TheVariants as endings
use Rattle.satl_core.proofs.MediumLemmas.{flaw_sense}
use Rattle.satl_core.proofs.medium.read_flaw.Goals as goal

pub returns : goal.returns
returns c = ap endings.Check (c.error_sense_at.ensures ∙ flaw_sense false c.args.lba)
