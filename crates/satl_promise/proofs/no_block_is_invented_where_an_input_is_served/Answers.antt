use Rattle.satl_promise.proofs.ServedLaws.{served_nothing_invented, served_nothing_invented_before, served_nothing_invented_into, served_nothing_invented_is_read}
use Rattle.satl_promise.proofs.no_block_is_invented_where_an_input_is_served.Goals as goal

pub returns-clause-whole : goal.returns-clause-whole
returns-clause-whole c = served_nothing_invented

pub returns-clause-before : goal.returns-clause-before
returns-clause-before c = served_nothing_invented_before

pub returns-clause-read : goal.returns-clause-read
returns-clause-read c = served_nothing_invented_is_read

pub returns-clause-into : goal.returns-clause-into
returns-clause-into c = served_nothing_invented_into
