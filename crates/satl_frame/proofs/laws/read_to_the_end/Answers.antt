use Rattle.satl_frame.proofs.WholeInputs.{next_given, none_refused, one_end}
use Rattle.satl_frame.proofs.laws.read_to_the_end.Goals as goal

pub returns-clause-none_refused : goal.returns-clause-none_refused
returns-clause-none_refused c = none_refused

pub returns-clause-next_given : goal.returns-clause-next_given
returns-clause-next_given c = next_given

pub returns-clause-one_end : goal.returns-clause-one_end
returns-clause-one_end c = one_end
