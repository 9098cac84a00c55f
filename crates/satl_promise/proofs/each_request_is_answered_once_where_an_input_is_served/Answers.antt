use Rattle.satl_promise.proofs.ServedLaws.{served_at_most_once, served_once, served_once_before, served_one_each}
use Rattle.satl_promise.proofs.each_request_is_answered_once_where_an_input_is_served.Goals as goal

pub returns-clause-whole : goal.returns-clause-whole
returns-clause-whole c = served_once

pub returns-clause-before : goal.returns-clause-before
returns-clause-before c = served_once_before

pub returns-clause-each : goal.returns-clause-each
returns-clause-each c = served_one_each

pub returns-clause-into : goal.returns-clause-into
returns-clause-into c = served_at_most_once
