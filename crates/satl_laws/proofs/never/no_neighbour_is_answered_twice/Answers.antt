use Rattle.satl_laws.proofs.OutcomesTwice.{first_once, second_once}
use Rattle.satl_laws.proofs.never.no_neighbour_is_answered_twice.Goals as goal

pub returns-clause-first : goal.returns-clause-first
returns-clause-first c = first_once

pub returns-clause-second : goal.returns-clause-second
returns-clause-second c = second_once
