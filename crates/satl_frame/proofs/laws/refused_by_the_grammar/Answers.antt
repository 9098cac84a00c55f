use Rattle.satl_frame.proofs.WholeInputs.{refused_in_input}
use Rattle.satl_frame.proofs.laws.refused_by_the_grammar.Goals as goal

pub returns : goal.returns
returns c = refused_in_input
