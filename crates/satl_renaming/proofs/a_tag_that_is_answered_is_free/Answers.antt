use Rattle.satl_renaming.proofs.OneReplyBack.{answered_is_free, once_is_free}
use Rattle.satl_renaming.proofs.a_tag_that_is_answered_is_free.Goals as goal

pub returns-clause-answered : goal.returns-clause-answered
returns-clause-answered c = answered_is_free

pub returns-clause-once : goal.returns-clause-once
returns-clause-once c = once_is_free
