use Rattle.std.proofs.Common.{ap, sym, ◌∙◌}
use Rattle.satl_sense.specs.Fields.{sense_in}
use Rattle.satl_sense.proofs.Nearest.{told}
use Rattle.satl_sense.proofs.laws.forms_differ.Goals as goal

pub returns : goal.returns
returns c = λ s t f g e. sym (told s f) ∙ ap sense_in e ∙ told t g
