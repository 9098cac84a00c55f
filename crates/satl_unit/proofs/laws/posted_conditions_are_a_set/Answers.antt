use Rattle.satl_unit.proofs.ConditionsLemmas.{posted-members, posted-order, posted-either, posted-again}
use Rattle.satl_unit.proofs.laws.posted_conditions_are_a_set.Goals as goal

pub returns-clause-members : goal.returns-clause-members
returns-clause-members c = posted-members

pub returns-clause-order : goal.returns-clause-order
returns-clause-order c = posted-order

pub returns-clause-either : goal.returns-clause-either
returns-clause-either c = posted-either

pub returns-clause-again : goal.returns-clause-again
returns-clause-again c = posted-again
