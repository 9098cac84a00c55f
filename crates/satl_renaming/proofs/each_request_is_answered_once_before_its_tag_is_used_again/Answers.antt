use Rattle.satl_renaming.proofs.OneReplyBack.{first_reply_tells, no_second_reply, one_reply_used_again}
use Rattle.satl_renaming.proofs.each_request_is_answered_once_before_its_tag_is_used_again.Goals as goal

pub returns-clause-at_most : goal.returns-clause-at_most
returns-clause-at_most c = no_second_reply

pub returns-clause-one : goal.returns-clause-one
returns-clause-one c = one_reply_used_again

pub returns-clause-first : goal.returns-clause-first
returns-clause-first c = first_reply_tells
