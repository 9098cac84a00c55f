use Rattle.std.proofs.Common.{refl, ◌∙◌}
use Rattle.satl_sense.proofs.reading.told_by.Goals as goal

pub returns : goal.returns
returns c = c.sense_of.ensures ∙ rw c.padded.ensures refl
